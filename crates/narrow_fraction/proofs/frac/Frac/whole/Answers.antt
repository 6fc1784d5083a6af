use Rattle.std.proofs.Common.{arith, refl}
use Rattle.std.proofs.lemmas.Int.{ints}
use Rattle.rational_theory.specs.Rational.{whole}
use Rattle.narrow_fraction.proofs.Views.{lowest_own, view_own}
use Rattle.narrow_fraction.proofs.frac.Frac.whole.Goals as goal

pub invariant_of-result : goal.invariant_of-result
unfolding whole
invariant_of-result c = lowest_own _ _ (whole c.args.n) (omega (arith, ints)) refl (omega (arith, ints))

pub returns : goal.returns
unfolding whole
returns c = view_own _ _ (whole c.args.n) (omega (arith, ints)) refl
