use Rattle.std.proofs.Common.{List, length, take, ◌∙◌, sym, ap, subst}
use Rattle.std.proofs.lemmas.List.{with_items_is}
use Rattle.fraction_tableau.specs.KeptCells.{IsSparse}
use Rattle.fraction_tableau.specs.Marks.{AreMarked}
use Rattle.fraction_tableau.specs.declared.kept.Kept.{Kept}
use Rattle.fraction_tableau.proofs.sparse_row.SparseRow.hold.Goals as goal

pub invariant_of-self : goal.invariant_of-self
invariant_of-self c =
    let i = c.self.inside in
    let e = c.hold_where.ensures ∙ c.deref_mut.ensures.value in
    let same = with_items_is i.cells c.hold_where.new.cells (ap length e ∙ sym i.cells.ok.0) ∙ e in (
      subst (λ (t : List Kept). IsSparse (length t) i.count (take i.count t)) (sym same) c.self.invariant.0,
      (tt, subst (λ (t : List Kept). AreMarked i.marks (take i.count t)) (sym same) c.self.invariant.1.1),
    )
