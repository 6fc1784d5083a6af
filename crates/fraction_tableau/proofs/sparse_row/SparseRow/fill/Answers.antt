use Rattle.std.proofs.Common.{◌≡◌, List, length, ◌≤◌, refl, sym, ◌∙◌, ap, subst, arith}
use Rattle.std.proofs.lemmas.List.{with_items_is}
use Rattle.narrow_fraction.specs.Fraction.{FitsFrac}
use Rattle.named_row.specs.Sheets.{at_place}
use Rattle.fraction_tableau.specs.Narrow.{IsNarrow}
use Rattle.fraction_tableau.specs.NamedTableaus.{row_cells}
use Rattle.fraction_tableau.specs.KeptCells.{number_in, kept_below}
use Rattle.fraction_tableau.specs.declared.kept.Kept.{Kept}
use Rattle.fraction_tableau.proofs.KeptCells.{open_row, IsFilled, filled}
use Rattle.fraction_tableau.proofs.Marking.{all_marked}
use Rattle.fraction_tableau.proofs.sparse_row.SparseRow.fill.Goals as goal
use Rattle.fraction_tableau.proofs.sparse_row.SparseRow.fill.Goals.{After-of_fraction-self-inside}

pub fill_row-self-inside-requires-clause-width : goal.fill_row-self-inside-requires-clause-width
fill_row-self-inside-requires-clause-width c =
    let wide = (open_row _ _ _ _ _ c.self.invariant.0 c.self.view_is).wide in
    omega (arith, c.requires.width, ap length c.deref_mut.ensures.value)

pub fill_row-self-inside-requires-clause-short : goal.fill_row-self-inside-requires-clause-short
fill_row-self-inside-requires-clause-short c =
    let wide = (open_row _ _ _ _ _ c.self.invariant.0 c.self.view_is).wide in
    omega (arith, c.requires.short, ap length c.deref_mut.ensures.value)

written : (c : After-of_fraction-self-inside) → length c.fill_row-self-inside.new.cells ≡ length c.self.inside.cells.items
written c =
    c.fill_row-self-inside.auto.cells ∙ ap length c.deref_mut.ensures.value

-- the row that is made
made : (c : After-of_fraction-self-inside) (items : List Kept) → items ≡ c.fill_row-self-inside.new.cells → IsFilled items c.fill_row-self-inside.result
    c.of_fraction-self-inside.result (row_cells c.args.from.now)
unfolding at_place
made c items same =
    let w = length c.self.inside.cells.items in
    let wide = (open_row _ _ _ _ _ c.self.invariant.0 c.self.view_is).wide in
    let e : w ≡ length c.args.from.now.coefs = omega (arith, c.requires.width) in
    let k = c.fill_row-self-inside.ensures.cells ∙ ap (λ t. kept_below (number_in c.args.from.now.coefs) (length t)) c.deref_mut.ensures.value in
    let high : c.fill_row-self-inside.result ≤ w = omega (arith, c.fill_row-self-inside.ensures.count, ap length c.deref_mut.ensures.value) in
    let len = c.fill_row-self-inside.auto.cells ∙ ap length c.deref_mut.ensures.value in
    filled c.args.from.now.coefs items c.fill_row-self-inside.new.cells w c.fill_row-self-inside.result (number_in c.args.from.now.coefs) _
    c.of_fraction-self-inside.result e same len high k (λ m h. refl) (c.of_fraction-self-inside.ensures ∙ c.fitting.ensures.same ∙ c.get.ensures)
    (λ m h. c.fill_row-self-inside.ensures.fits m (omega (arith, ap length c.deref_mut.ensures.value))) (subst FitsFrac (sym c.of_fraction-self-inside.ensures) c.fitting.ensures.fits)

pub invariant_of-self : goal.invariant_of-self
invariant_of-self c = (
  (made (goal.at.invariant_of-self c).After-of_fraction-self-inside _
      (with_items_is c.self.inside.cells _ (written (goal.at.invariant_of-self c).After-of_fraction-self-inside ∙ sym c.self.inside.cells.ok.0))).line,
  (tt, all_marked _),
)

pub returns-clause-cells : goal.returns-clause-cells
returns-clause-cells c =
    (made (goal.at.returns-clause-cells c).After-of_fraction-self-inside _
    (with_items_is c.self.inside.cells _ (written (goal.at.returns-clause-cells c).After-of_fraction-self-inside ∙ sym c.self.inside.cells.ok.0))).row

pub returns-clause-narrow : goal.returns-clause-narrow
returns-clause-narrow c =
    let m = made (goal.at.returns-clause-narrow c).After-of_fraction-self-inside _
    (with_items_is c.self.inside.cells _ (written (goal.at.returns-clause-narrow c).After-of_fraction-self-inside ∙ sym c.self.inside.cells.ok.0)) in
    subst IsNarrow (sym m.row) m.narrow
