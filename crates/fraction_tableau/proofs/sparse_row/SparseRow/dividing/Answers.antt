use Rattle.std.proofs.Common.{Option, ◌≡◌, ◌∙◌, sym, ap, subst, arith, to_z, of_z}
use Rattle.std.specs.Int.{w64}
use Rattle.std.proofs.lemmas.Int.{to_z-of_z}
use Rattle.rational_theory.specs.Rational.{over}
use Rattle.narrow_fraction.proofs.Parts.{zero_over}
use Rattle.fraction_tableau.specs.KeptCells.{number_in}
use Rattle.fraction_tableau.specs.Scales.{numerator, HasScale, IsScaled, IsDividing}
use Rattle.fraction_tableau.specs.declared.scale.Scale.{Scale}
use Rattle.narrow_fraction.proofs.Fitting.{fits_i64}
use Rattle.fraction_tableau.proofs.sparse_row.SparseRow.dividing.Goals as goal

pub returns-clause-dividing : goal.returns-clause-dividing
returns-clause-dividing c =
    let s = c.in-Some.row in
    let x = number_in c.args.self.now c.args.place in
    let g : HasScale c.self.inside.scale c.args.self.now = subst (HasScale c.self.inside.scale) c.self.view_is c.self.invariant.1.0 in
    let h : IsScaled s c.args.self.now = subst (λ (t : Option Scale). HasScale t c.args.self.now) c.in-Some.is g in
    let o = h.numbers c.args.place in
    let n = numerator s.denominator x in
    let e : c.numerator_of-pivot.result ≡ n = c.numerator_of-pivot.ensures ∙ ap (numerator s.denominator) c.held.ensures in
    let f = fits_i64 n (omega (arith, o.size, h.short)) in
    let r : IsDividing (record { place = c.args.place; row = s; pivot = n }) = record {
      above = h.above;
      least = h.denominator;
      short = h.short;
      size = o.size;
      some = λ z. c.requires.pivot (sym o.same ∙ ap (λ a. over a s.denominator) z ∙ zero_over s.denominator h.above);
    } in
    let q : to_z w64 (of_z w64 c.numerator_of-pivot.result) ≡ n = ap (λ z. to_z w64 (of_z w64 z)) e ∙ to_z-of_z w64 n f in
    subst (λ z. IsDividing (record { place = c.args.place; row = s; pivot = z })) (sym q) r
