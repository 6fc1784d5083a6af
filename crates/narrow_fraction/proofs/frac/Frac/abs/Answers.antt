use Rattle.std.proofs.Common.{arith, SFits, ◌∙◌}
use Rattle.std.specs.Int.{w128}
use Rattle.std.proofs.lemmas.Int.{ints, to_z-of_z}
use Rattle.rational_theory.specs.Rational.{abs_ℚ}
use Rattle.narrow_fraction.proofs.Views.{fields_are}
use Rattle.narrow_fraction.proofs.frac.Frac.abs.Goals as goal

pub returns-then-self-lt0 : goal.returns-then-self-lt0
unfolding abs_ℚ
returns-then-self-lt0 c =
    let x = fields_are c.self.inside c.args.self c.self.view_is c.self.invariant in
    let p : SFits w128 c.args.self.num = omega (arith, ints) in
    let t = simp (x.0, to_z-of_z) at c.if-self-lt0.true in
    c.neg.ensures ∙ rw (t)

pub returns-else-self-lt0 : goal.returns-else-self-lt0
unfolding abs_ℚ
returns-else-self-lt0 c =
    let x = fields_are c.self.inside c.args.self c.self.view_is c.self.invariant in
    let p : SFits w128 c.args.self.num = omega (arith, ints) in
    let t = simp (x.0, to_z-of_z) at c.if-self-lt0.false in
    rw (t)
