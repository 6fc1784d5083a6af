use Rattle.std.proofs.Common.{arith, pos, SFits, ◌∙◌}
use Rattle.std.specs.Int.{w128}
use Rattle.std.proofs.lemmas.Int.{ints, to_z-of_z}
use Rattle.narrow_fraction.proofs.Views.{fields_are}
use Rattle.narrow_fraction.proofs.frac.Frac.parts.Goals as goal

pub returns : goal.returns
returns c =
    let x = fields_are c.self.inside c.args.self c.self.view_is c.self.invariant in
    let p : SFits w128 c.args.self.num = omega (arith, ints) in
    let r : SFits w128 (pos c.args.self.den) = omega (arith, ints) in
    record {
      sign = simp (x.0, to_z-of_z);
      top = c.unsigned_abs.ensures.value ∙ simp (x.0, to_z-of_z);
      bottom = c.unsigned_abs-2.ensures.value ∙ simp (x.1, to_z-of_z);
      fits = record { num_fits = omega (arith, ints); den_fits = omega (arith, ints) };
    }
