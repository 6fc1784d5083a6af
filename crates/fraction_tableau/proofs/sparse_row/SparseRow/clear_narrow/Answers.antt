use Rattle.std.proofs.Common.{◌≡◌, ℕ, List, length, take, ◌+◌, ◌<◌, ◌≤◌, refl, sym, ◌∙◌, ap, subst, arith}
use Rattle.std.proofs.lemmas.List.{with_items_is}
use Rattle.std.proofs.lemmas.Int.{to_z-of_z}
use Rattle.rational_theory.specs.Rational.{neg_ℚ, ◌+ℚ◌, ◌*ℚ◌}
use Rattle.simplex_theory.specs.Lines.{cleared}
use Rattle.simplex_theory.proofs.Lines.{length-cleared}
use Rattle.fraction_tableau.specs.Narrow.{IsNarrow}
use Rattle.fraction_tableau.specs.KeptCells.{number_in, kept_below, dense_row, IsSparse}
use Rattle.fraction_tableau.specs.Scales.{numerator, IsOver, HasScale, factor_of}
use Rattle.fraction_tableau.specs.Marks.{AreMarked}
use Rattle.fraction_tableau.specs.declared.kept.Kept.{Kept}
use Rattle.narrow_fraction.proofs.Fitting.{fits_i64}
use Rattle.fraction_tableau.proofs.KeptCells.{open_row, length-dense, sparse_new}
use Rattle.fraction_tableau.proofs.Making.{scale_joined, over_fits}
use Rattle.fraction_tableau.proofs.Merges.{cleared_last}
use Rattle.fraction_tableau.proofs.Scales.{cleared_scaled, to_above, to_least}
use Rattle.fraction_tableau.proofs.Small.{scaled_small, clear_free_own}
use Rattle.fraction_tableau.proofs.sparse_row.SparseRow.clear_narrow.Goals as goal
use Rattle.fraction_tableau.proofs.sparse_row.SparseRow.clear_narrow.Goals.{After-deref_mut, After-row, After-join-made, After-joined-self-inside}

-- the other rows are as wide as this one, the pivot's place is one of its places, and the factor is the row's number there
wide : (c : After-deref_mut) → (length c.args.row.now ≡ length c.self.inside.cells.items + 1) × ((c.in-Some.joining.place < length c.self.inside.cells.items)
    × (factor_of c.in-Some.joining ≡ number_in c.args.row.now c.in-Some.joining.place))
wide c =
    let opened = open_row _ _ _ _ _ c.self.invariant.0 c.self.view_is in
    let same = opened.wide in (
      omega (arith, c.requires.width),
      (
        omega (arith, same, c.requires.width, c.requires.place, c.in-Some.ensures.place),
        c.in-Some.ensures.factor
            ∙ c.requires.factor ∙ ap (number_in c.args.row.now) (sym c.in-Some.ensures.place),
      ),
    )

-- the cells that were written
written : (c : After-join-made) → length c.join-made.new.cells ≡ length c.self.inside.cells.items
written c =
    c.join-made.auto.cells ∙ ap length c.deref_mut.ensures.value

pub join-made-requires-clause-width : goal.join-made-requires-clause-width
join-made-requires-clause-width c =
    (wide (goal.at.join-made-requires-clause-width c).After-deref_mut).0 ∙ ap (λ m. m + 1) (sym (ap length c.deref_mut.ensures.value))

pub join-made-requires-clause-place : goal.join-made-requires-clause-place
join-made-requires-clause-place c =
    let place = (wide (goal.at.join-made-requires-clause-place c).After-deref_mut).1.0 in
    omega (arith, place, ap length c.deref_mut.ensures.value)

-- the row's bound stands over its denominator
own_over : (c : After-row) → IsOver c.in-Some.joining.row.denominator c.in-Some.joining.row.most c.row.inside.bound
own_over c =
    let p = open_row _ _ _ _ _ c.row.invariant.0 c.row.view_is in
    let j = c.in-Some.joining in
    subst (IsOver j.row.denominator j.row.most) (sym p.bound) (c.in-Some.ensures.row.numbers (length c.row.inside.cells.items))

pub numerator_of-own-requires-clause-same : goal.numerator_of-own-requires-clause-same
numerator_of-own-requires-clause-same c = (own_over (goal.at.numerator_of-own-requires-clause-same c).After-row).same

pub numerator_of-own-requires-clause-size : goal.numerator_of-own-requires-clause-size
numerator_of-own-requires-clause-size c =
    let o = own_over (goal.at.numerator_of-own-requires-clause-size c).After-row in
    omega (arith, o.size, c.in-Some.ensures.row.short)

pub joined-self-inside-requires-clause-own : goal.joined-self-inside-requires-clause-own
joined-self-inside-requires-clause-own c =
    let o = own_over (goal.at.joined-self-inside-requires-clause-own c).After-row in
    let f = fits_i64 (numerator c.in-Some.joining.row.denominator c.row.inside.bound) (omega (arith, o.size, c.in-Some.ensures.row.short)) in
    simp (c.numerator_of-own.ensures, f, to_z-of_z) o.size

pub joined-self-inside-requires-clause-divided : goal.joined-self-inside-requires-clause-divided
joined-self-inside-requires-clause-divided c =
    let q = open_row _ _ _ _ _ c.divided.invariant.0 c.divided.view_is in
    let j = c.in-Some.joining in
    subst (IsOver j.divided.denominator j.divided.most) (sym q.bound) (c.in-Some.ensures.divided.numbers (length c.divided.inside.cells.items))

-- the row that is made
made : (c : After-joined-self-inside) (items : List Kept) → (length c.args.row.now ≡ length c.self.inside.cells.items + 1)
    × ((c.in-Some.joining.place < length c.self.inside.cells.items) × (factor_of c.in-Some.joining ≡ number_in c.args.row.now c.in-Some.joining.place))
    → length c.join-made.new.cells ≡ length c.self.inside.cells.items → items ≡ c.join-made.new.cells
    → IsSparse (length items) c.join-made.result.made (take c.join-made.result.made items)
    × (dense_row (length items) (take c.join-made.result.made items) c.joined-self-inside.result ≡ cleared c.in-Some.joining.place c.args.divided.now c.args.row.now)
made c items g len same =
    let j = c.in-Some.joining in
    let d = c.args.row.now in
    let e = c.args.divided.now in
    let w = length c.self.inside.cells.items in
    let p = open_row _ _ _ _ _ c.row.invariant.0 c.row.view_is in
    let q = open_row _ _ _ _ _ c.divided.invariant.0 c.divided.view_is in
    let x : c.row.inside.bound ≡ number_in d w = p.bound ∙ ap (number_in d) (let a = p.wide in omega (arith, g.0)) in
    let y : c.divided.inside.bound ≡ number_in e w = q.bound ∙ ap (number_in e) (let a = q.wide in omega (arith, g.0, c.requires.widths)) in
    let high : c.join-made.result.made ≤ w = omega (arith, c.join-made.ensures.count, ap length c.deref_mut.ensures.value) in
    let k = c.join-made.ensures.cells ∙ ap (λ (u : List Kept). kept_below (number_in (cleared j.place e d)) (length u)) c.deref_mut.ensures.value in
    let o : IsOver j.row.denominator j.row.most c.row.inside.bound = subst (IsOver j.row.denominator j.row.most) (sym p.bound) (c.in-Some.ensures.row.numbers (length c.row.inside.cells.items)) in
    let f = fits_i64 (numerator j.row.denominator c.row.inside.bound) (omega (arith, o.size, c.in-Some.ensures.row.short)) in
    let v = (simp (c.numerator_of-own.ensures, f, to_z-of_z) at c.joined-self-inside.ensures) ∙ ap (λ u. u +ℚ neg_ℚ (factor_of j *ℚ c.divided.inside.bound)) o.same in
    let b = cleared_last j.place w e d c.joined-self-inside.result (factor_of j) c.row.inside.bound c.divided.inside.bound g.1.0 g.1.1 x y v in
    sparse_new (cleared j.place e d) items c.join-made.new.cells w c.join-made.result.made (number_in (cleared j.place e d)) c.joined-self-inside.result
    same len (length-cleared j.place e d (sym c.requires.widths) ∙ g.0) high k (λ _ _. refl) b

-- its numbers stand over the new denominator
scaled : (c : After-deref_mut) → (k : ℕ) → IsOver c.in-Some.joining.rescaling.to c.in-Some.joining.most (number_in (cleared c.in-Some.joining.place c.args.divided.now c.args.row.now) k)
scaled c =
    let f = c.in-Some.ensures in
    let g = wide c in
    cleared_scaled c.in-Some.joining c.args.divided.now c.args.row.now f.joining f.row f.divided g.1.1 (omega (arith, g.1.0, g.0))

pub invariant_of-self : goal.invariant_of-self
invariant_of-self c =
    let at = goal.at.invariant_of-self c in
    let j = c.in-Some.joining in
    let len = written at.After-join-made in
    let same = with_items_is c.self.inside.cells c.join-made.new.cells (len ∙ sym c.self.inside.cells.ok.0) in
    let m = made at.After-joined-self-inside _ (wide at.After-deref_mut) len same in (
      m.0,
      (
        subst (HasScale c.scale-self-inside.result) (sym m.1) (scale_joined c.scale-self-inside.result j _ c.scale-self-inside.ensures
            c.in-Some.ensures.joining (scaled at.After-deref_mut)),
        subst (λ (t : List Kept). AreMarked c.join-made.result.marks (take c.join-made.result.made t)) (sym same) c.join-made.ensures.marked,
      ),
    )

pub returns-clause-passed : goal.returns-clause-passed
returns-clause-passed c =
    λ _ k pivot z o.
    let j = c.in-Some.joining in
    let f = c.in-Some.ensures in
    clear_free_own k c.args.place c.args.divided.now c.args.row.now pivot (scaled_small j.divided c.args.divided.now f.divided) (scaled_small j.row c.args.row.now f.row) z o

pub returns-clause-cleared : goal.returns-clause-cleared
returns-clause-cleared c =
    let at = goal.at.returns-clause-cleared c in
    let len = written at.After-join-made in
    let m = made at.After-joined-self-inside _ (wide at.After-deref_mut) len (with_items_is c.self.inside.cells c.join-made.new.cells (len ∙ sym c.self.inside.cells.ok.0)) in
    λ _. m.1 ∙ ap (λ a. cleared a c.args.divided.now c.args.row.now) c.in-Some.ensures.place

pub returns-clause-width : goal.returns-clause-width
returns-clause-width c =
    let len = written (goal.at.returns-clause-width c).After-join-made in
    let same = with_items_is c.self.inside.cells c.join-made.new.cells (len ∙ sym c.self.inside.cells.ok.0) in
    length-dense _ _ _ ∙ ap (λ n. n + 1) (ap length same ∙ len) ∙ sym (open_row _ _ _ _ _ c.self.invariant.0 c.self.view_is).wide

pub returns-clause-narrow : goal.returns-clause-narrow
returns-clause-narrow c =
    let at = goal.at.returns-clause-narrow c in
    let j = c.in-Some.joining in
    let f = c.in-Some.ensures in
    let len = written at.After-join-made in
    let m = made at.After-joined-self-inside _ (wide at.After-deref_mut) len (with_items_is c.self.inside.cells c.join-made.new.cells (len ∙ sym c.self.inside.cells.ok.0)) in
    λ _. subst IsNarrow (sym m.1) (over_fits j.rescaling.to j.most _ (to_above j f.joining) (to_least j f.joining) f.joining.short (scaled at.After-deref_mut))
