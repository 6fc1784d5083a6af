use Rattle.std.proofs.Common.{arith, to_z, of_z}
use Rattle.std.specs.Int.{w128}
use Rattle.std.proofs.lemmas.Int.{ints}
use Rattle.rational_theory.specs.Rational.{neg_ℚ}
use Rattle.narrow_fraction.proofs.Views.{fields_are, view_own}
use Rattle.std.proofs.lemmas.Grind.{common_steps}
use Rattle.narrow_fraction.proofs.frac.Frac.neg.Goals as goal

pub returns : goal.returns
unfolding neg_ℚ
returns c =
    let f = fields_are c.self.inside c.args.self c.self.view_is c.self.invariant in
    let k = c.self.invariant.num_fits in
    view_own _ (to_z w128 (of_z w128 c.self.inside.den)) (neg_ℚ c.args.self) (omega (arith, ints)) (omega (arith, ints))

pub invariant_of-result : goal.invariant_of-result
invariant_of-result c = grind (arith, common_steps)
