use Rattle.std.proofs.Common.{◌≡◌, ℕ, List, length, take, ◌+◌, ◌<◌, ◌≤◌, refl, sym, ◌∙◌, ap, subst, arith, unsigned_abs}
use Rattle.std.proofs.lemmas.List.{with_items_is}
use Rattle.simplex_theory.specs.Lines.{divided}
use Rattle.simplex_theory.proofs.Lines.{length-divided}
use Rattle.fraction_tableau.specs.Narrow.{IsNarrow}
use Rattle.fraction_tableau.specs.KeptCells.{number_in, kept_below, dense_row, IsSparse}
use Rattle.fraction_tableau.specs.Scales.{IsOver, IsScaled, pivot_of}
use Rattle.fraction_tableau.specs.declared.kept.Kept.{Kept}
use Rattle.fraction_tableau.proofs.KeptCells.{open_row, length-dense, sparse_new}
use Rattle.fraction_tableau.proofs.Making.{over_fits}
use Rattle.fraction_tableau.proofs.Merges.{divided_last}
use Rattle.fraction_tableau.proofs.Divisions.{divided_scaled, scale_divided, size_above}
use Rattle.fraction_tableau.proofs.Small.{scaled_small, divide_free}
use Rattle.fraction_tableau.proofs.Marking.{all_marked}
use Rattle.fraction_tableau.proofs.sparse_row.SparseRow.divide_narrow.Goals as goal
use Rattle.fraction_tableau.proofs.sparse_row.SparseRow.divide_narrow.Goals.{After-deref_mut, After-divide_whole-self-inside, After-divided-self-inside}

-- the pivot's row is as wide as this one, the pivot's place is one of its places, and the pivot is its number there
wide : (c : After-deref_mut) → (length c.args.row.now ≡ length c.self.inside.cells.items + 1) × ((c.in-Some.dividing.place < length c.self.inside.cells.items)
    × (pivot_of c.in-Some.dividing ≡ number_in c.args.row.now c.in-Some.dividing.place))
wide c =
    let opened = open_row _ _ _ _ _ c.self.invariant.0 c.self.view_is in
    let same = opened.wide in (
      omega (arith, c.requires.width),
      (
        omega (arith, same, c.requires.width, c.requires.place, c.in-Some.ensures.place),
        c.in-Some.ensures.pivot
            ∙ ap (number_in c.args.row.now) (sym c.in-Some.ensures.place),
      ),
    )

-- the cells that were written
written : (c : After-divide_whole-self-inside) → length c.divide_whole-self-inside.new.cells ≡ length c.self.inside.cells.items
written c =
    c.divide_whole-self-inside.auto.cells ∙ ap length c.deref_mut.ensures.value

pub divide_whole-self-inside-requires-clause-width : goal.divide_whole-self-inside-requires-clause-width
divide_whole-self-inside-requires-clause-width c =
    (wide (goal.at.divide_whole-self-inside-requires-clause-width c).After-deref_mut).0 ∙ ap (λ m. m + 1) (sym (ap length c.deref_mut.ensures.value))

pub divide_whole-self-inside-requires-clause-place : goal.divide_whole-self-inside-requires-clause-place
divide_whole-self-inside-requires-clause-place c =
    let place = (wide (goal.at.divide_whole-self-inside-requires-clause-place c).After-deref_mut).1.0 in
    omega (arith, place, ap length c.deref_mut.ensures.value)

pub divided-self-inside-requires-clause-over : goal.divided-self-inside-requires-clause-over
divided-self-inside-requires-clause-over c =
    let p = open_row _ _ _ _ _ c.row.invariant.0 c.row.view_is in
    let j = c.in-Some.dividing in
    subst (IsOver j.row.denominator j.row.most) (sym p.bound) (c.in-Some.ensures.row.numbers (length c.row.inside.cells.items))

-- the row that is made
made : (c : After-divided-self-inside) (items : List Kept) → (length c.args.row.now ≡ length c.self.inside.cells.items + 1)
    × ((c.in-Some.dividing.place < length c.self.inside.cells.items) × (pivot_of c.in-Some.dividing ≡ number_in c.args.row.now c.in-Some.dividing.place))
    → length c.divide_whole-self-inside.new.cells ≡ length c.self.inside.cells.items
    → items ≡ c.divide_whole-self-inside.new.cells
    → IsSparse (length items) c.divide_whole-self-inside.result (take c.divide_whole-self-inside.result items)
    × (dense_row (length items) (take c.divide_whole-self-inside.result items) c.divided-self-inside.result ≡ divided c.in-Some.dividing.place c.args.row.now)
made c items g len same =
    let j = c.in-Some.dividing in
    let d = c.args.row.now in
    let w = length c.self.inside.cells.items in
    let p = open_row _ _ _ _ _ c.row.invariant.0 c.row.view_is in
    let x : c.row.inside.bound ≡ number_in d w = p.bound ∙ ap (number_in d) (let a = p.wide in omega (arith, g.0)) in
    let high : c.divide_whole-self-inside.result ≤ w = omega (arith, c.divide_whole-self-inside.ensures.count, ap length c.deref_mut.ensures.value) in
    let k = c.divide_whole-self-inside.ensures.cells ∙ ap (λ (u : List Kept). kept_below (number_in (divided j.place d)) (length u)) c.deref_mut.ensures.value in
    let b = divided_last j.place w d c.divided-self-inside.result c.row.inside.bound (pivot_of j) g.1.0 g.1.1 x c.divided-self-inside.ensures in
    sparse_new (divided j.place d) items c.divide_whole-self-inside.new.cells w c.divide_whole-self-inside.result (number_in (divided j.place d))
    c.divided-self-inside.result same len (length-divided j.place d ∙ g.0) high k (λ _ _. refl) b

-- its numbers stand over the pivot's numerator
scaled : (c : After-deref_mut) → (k : ℕ) → IsOver (unsigned_abs c.in-Some.dividing.pivot) c.in-Some.dividing.row.most (number_in (divided c.in-Some.dividing.place c.args.row.now) k)
scaled c =
    let f = c.in-Some.ensures in
    let g = wide c in
    divided_scaled c.in-Some.dividing c.args.row.now f.dividing f.row g.1.1 (omega (arith, g.1.0, g.0))

pub invariant_of-self : goal.invariant_of-self
invariant_of-self c =
    let at = goal.at.invariant_of-self c in
    let len = written at.After-divide_whole-self-inside in
    let m = made at.After-divided-self-inside _ (wide at.After-deref_mut) len (with_items_is c.self.inside.cells c.divide_whole-self-inside.new.cells (len ∙ sym c.self.inside.cells.ok.0)) in (
      m.0,
      (
        subst (IsScaled c.scale.result) (sym m.1) (scale_divided c.in-Some.dividing c.scale.result _ c.in-Some.ensures.dividing c.scale.ensures.denominator
            c.scale.ensures.most (scaled at.After-deref_mut)),
        all_marked _,
      ),
    )

pub returns-clause-passed : goal.returns-clause-passed
returns-clause-passed c =
    λ _ k. let f = c.in-Some.ensures in divide_free k c.args.place c.args.row.now (scaled_small c.in-Some.dividing.row c.args.row.now f.row) c.requires.pivot

pub returns-clause-divided : goal.returns-clause-divided
returns-clause-divided c =
    let at = goal.at.returns-clause-divided c in
    let len = written at.After-divide_whole-self-inside in
    let m = made at.After-divided-self-inside _ (wide at.After-deref_mut) len (with_items_is c.self.inside.cells c.divide_whole-self-inside.new.cells (len ∙ sym c.self.inside.cells.ok.0)) in
    λ _. m.1 ∙ ap (λ a. divided a c.args.row.now) c.in-Some.ensures.place

pub returns-clause-width : goal.returns-clause-width
returns-clause-width c =
    let len = written (goal.at.returns-clause-width c).After-divide_whole-self-inside in
    let same = with_items_is c.self.inside.cells c.divide_whole-self-inside.new.cells (len ∙ sym c.self.inside.cells.ok.0) in
    length-dense _ _ _ ∙ ap (λ n. n + 1) (ap length same ∙ len) ∙ sym (open_row _ _ _ _ _ c.self.invariant.0 c.self.view_is).wide

pub returns-clause-narrow : goal.returns-clause-narrow
returns-clause-narrow c =
    let at = goal.at.returns-clause-narrow c in
    let j = c.in-Some.dividing in
    let f = c.in-Some.ensures.dividing in
    let len = written at.After-divide_whole-self-inside in
    let m = made at.After-divided-self-inside _ (wide at.After-deref_mut) len (with_items_is c.self.inside.cells c.divide_whole-self-inside.new.cells (len ∙ sym c.self.inside.cells.ok.0)) in
    λ _. subst IsNarrow (sym m.1) (let a = f.short in over_fits (unsigned_abs j.pivot) j.row.most _ (size_above j.pivot f.some) f.size (omega arith) (scaled at.After-deref_mut))
