use Rattle.std.proofs.Common.{arith, SFits, to_z, of_z, pos, ◌-ℤ◌}
use Rattle.std.specs.Int.{w128}
use Rattle.std.proofs.lemmas.Int.{ints, to_z-of_z}
use Rattle.rational_theory.specs.Rational.{inverse_ℚ}
use Rattle.narrow_fraction.proofs.Views.{fields_are, view_own, lowest_own}
use Rattle.narrow_fraction.proofs.Reciprocals.{inverse_below, inverse_above}
use Rattle.narrow_fraction.proofs.frac.Frac.reciprocal.Goals as goal

pub invariant_of-t-3 : goal.invariant_of-t-3
invariant_of-t-3 c =
    let x = fields_are c.self.inside c.args.self c.self.view_is c.self.invariant in
    let n : SFits w128 c.args.self.num = omega (arith, ints) in
    let d : SFits w128 (pos c.args.self.den) = omega (arith, ints) in
    let s = simp (x.0, to_z-of_z) at c.if-self-lt0.true in
    let p = inverse_below c.args.self s in
    lowest_own (to_z w128 (of_z w128 (pos 0 -ℤ to_z w128 (of_z w128 c.self.inside.den)))) (to_z w128 (of_z w128 (pos 0 -ℤ to_z w128 (of_z w128 c.self.inside.num))))
    (inverse_ℚ c.args.self) (omega (arith, ints, p.0)) (omega (arith, ints, p.1)) (omega (arith, ints, p.0))

pub invariant_of-result : goal.invariant_of-result
invariant_of-result c =
    let x = fields_are c.self.inside c.args.self c.self.view_is c.self.invariant in
    let n : SFits w128 c.args.self.num = omega (arith, ints) in
    let d : SFits w128 (pos c.args.self.den) = omega (arith, ints) in
    let s = simp (x.0, to_z-of_z) at c.if-self-lt0.false in
    let p = inverse_above c.args.self s c.requires in
    lowest_own (to_z w128 (of_z w128 c.self.inside.den)) (to_z w128 (of_z w128 c.self.inside.num)) (inverse_ℚ c.args.self) (omega (arith, ints, p.0))
    (omega (arith, ints, p.1)) (omega (arith, ints, p.0))

pub returns-then-self-lt0 : goal.returns-then-self-lt0
returns-then-self-lt0 c =
    let x = fields_are c.self.inside c.args.self c.self.view_is c.self.invariant in
    let n : SFits w128 c.args.self.num = omega (arith, ints) in
    let d : SFits w128 (pos c.args.self.den) = omega (arith, ints) in
    let s = simp (x.0, to_z-of_z) at c.if-self-lt0.true in
    let p = inverse_below c.args.self s in
    view_own (to_z w128 (of_z w128 (pos 0 -ℤ to_z w128 (of_z w128 c.self.inside.den)))) (to_z w128 (of_z w128 (pos 0 -ℤ to_z w128 (of_z w128 c.self.inside.num))))
    (inverse_ℚ c.args.self) (omega (arith, ints, p.0)) (omega (arith, ints, p.1))

pub returns-else-self-lt0 : goal.returns-else-self-lt0
returns-else-self-lt0 c =
    let x = fields_are c.self.inside c.args.self c.self.view_is c.self.invariant in
    let n : SFits w128 c.args.self.num = omega (arith, ints) in
    let d : SFits w128 (pos c.args.self.den) = omega (arith, ints) in
    let s = simp (x.0, to_z-of_z) at c.if-self-lt0.false in
    let p = inverse_above c.args.self s c.requires in
    view_own (to_z w128 (of_z w128 c.self.inside.den)) (to_z w128 (of_z w128 c.self.inside.num)) (inverse_ℚ c.args.self) (omega (arith, ints, p.0)) (omega (arith, ints, p.1))
