use Rattle.std.proofs.Common.{arith}
use Rattle.rational_theory.proofs.Multiples.{lcm_above}
use Rattle.whole_offsets.proofs.scale.common.Goals as goal

pub returns-clause-some : goal.returns-clause-some
returns-clause-some c = let p = lcm_above c.args.left c.args.right c.requires.some_left c.requires.some_right in grind arith
