use Rattle.std.proofs.Common.{◌≡◌, ◌%◌, ◌+◌}
use Rattle.rational_theory.specs.Gcd.{gcd}
use Rattle.narrow_fraction.proofs.divisor.odd_divisor.Given as goal

abbrev pub invariant-differences : goal.invariant-differences
invariant-differences l = (gcd l.x l.y ≡ gcd l.fn.a l.fn.b) × (l.x % 2 ≡ 1) × (l.y % 2 ≡ 1)

abbrev pub decreases-differences : goal.decreases-differences
decreases-differences l = l.x + l.y
