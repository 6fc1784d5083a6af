use Rattle.std.proofs.Common.{arith, SFits, pos}
use Rattle.std.specs.Int.{w128}
use Rattle.std.proofs.lemmas.Int.{ints, to_z-of_z}
use Rattle.narrow_fraction.proofs.Views.{fields_are}
use Rattle.narrow_fraction.proofs.frac.Frac.den.Goals as goal

pub returns-clause-value : goal.returns-clause-value
returns-clause-value c =
    let x = fields_are c.self.inside c.args.self.now c.self.view_is c.self.invariant in
    let p : SFits w128 c.args.self.now.num = omega (arith, ints) in
    let q : SFits w128 (pos c.args.self.now.den) = omega (arith, ints) in
    simp (x.1, to_z-of_z)
