use Rattle.std.proofs.Common.{arith}
use Rattle.rational_theory.proofs.Compare.{ne_true, ne_false}
use Rattle.loop_rows.proofs.families.ArteryFamilyFamily.has.Goals as goal

pub returns-then-index-eq0-2 : goal.returns-then-index-eq0-2
returns-then-index-eq0-2 c = grind (arith, ne_true, ne_false)

pub returns-then-index-eq0 : goal.returns-then-index-eq0
returns-then-index-eq0 c = grind (arith, ne_true, ne_false)
