use Rattle.std.proofs.Common.{arith}
use Rattle.narrow_fraction.proofs.Halves.{trailing, odd_factor}
use Rattle.narrow_fraction.proofs.divisor.odd_part.Goals as goal

pub returns-clause-odd : goal.returns-clause-odd
returns-clause-odd c = let h = trailing 64 c.args.n c.requires (omega arith) in rw (odd_factor 64 c.args.n _ h) h.is_odd

pub returns-clause-power : goal.returns-clause-power
returns-clause-power c = let h = trailing 64 c.args.n c.requires (omega arith) in rw (odd_factor 64 c.args.n _ h) h.is

pub returns-clause-few : goal.returns-clause-few
returns-clause-few c = (trailing 64 c.args.n c.requires (omega arith)).below
