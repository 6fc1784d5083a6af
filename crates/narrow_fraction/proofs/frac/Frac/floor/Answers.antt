use Rattle.std.proofs.Common.{◌≡◌, arith, pos, SFits, ◌∙◌, to_z, of_z}
use Rattle.std.specs.Int.{w128}
use Rattle.std.proofs.lemmas.Int.{ints, to_z-of_z}
use Rattle.rational_theory.specs.Floor.{floor_ℚ}
use Rattle.narrow_fraction.proofs.Views.{fields_are}
use Rattle.narrow_fraction.proofs.frac.Frac.floor.Goals as goal

pub returns : goal.returns
unfolding floor_ℚ
returns c =
    let x = fields_are c.self.inside c.args.self.now c.self.view_is c.self.invariant in
    let p : SFits w128 c.args.self.now.num = omega (arith, ints) in
    let q : SFits w128 (pos c.args.self.now.den) = omega (arith, ints) in
    let e : to_z w128 (of_z w128 c.div_euclid.result) ≡ c.div_euclid.result = omega (arith, ints) in
    let k = c.div_euclid.ensures in
    e ∙ k ∙ simp (x.0, x.1, to_z-of_z)
