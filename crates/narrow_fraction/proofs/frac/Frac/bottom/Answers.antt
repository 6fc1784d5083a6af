use Rattle.std.proofs.Common.{arith, pos, ◌∙◌, SFits}
use Rattle.std.specs.Int.{w128}
use Rattle.std.proofs.lemmas.Int.{ints, to_z-of_z}
use Rattle.narrow_fraction.proofs.Views.{fields_are}
use Rattle.narrow_fraction.proofs.frac.Frac.bottom.Goals as goal

pub returns-clause-value : goal.returns-clause-value
returns-clause-value c =
    let x = fields_are c.self.inside c.args.self c.self.view_is c.self.invariant in
    let r : SFits w128 (pos c.args.self.den) = omega (arith, ints) in
    c.unsigned_abs.ensures.value ∙ simp (x.1, to_z-of_z)
