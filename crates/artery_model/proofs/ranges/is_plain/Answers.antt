use Rattle.std.proofs.Common.{refl}
use Rattle.std.proofs.lemmas.Bool.{le-leb, lt-leb}
use Rattle.artery_model.proofs.Chains.{and_then, and_else}
use Rattle.artery_model.proofs.ranges.is_plain.Goals as goal

pub returns-then-byte-ge32 : goal.returns-then-byte-ge32
returns-then-byte-ge32 c = and_then _ _ _ (le-leb 32 c.args.byte c.if-byte-ge32.true) refl

pub returns-else-byte-ge32 : goal.returns-else-byte-ge32
returns-else-byte-ge32 c = and_else _ _ _ (lt-leb 32 c.args.byte c.if-byte-ge32.false) refl
