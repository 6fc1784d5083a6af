use Rattle.std.proofs.Common.{rules, List, length, take, ◌+◌, sym, ◌∙◌, ap, subst, arith}
use Rattle.std.proofs.lemmas.List.{with_items_is}
use Rattle.fraction_tableau.specs.KeptCells.{IsSparse}
use Rattle.fraction_tableau.specs.declared.kept.Kept.{Kept}
use Rattle.fraction_tableau.proofs.KeptCells.{open_row, length-dense}
use Rattle.fraction_tableau.proofs.Marking.{all_marked}
use Rattle.fraction_tableau.proofs.sparse_row.SparseRow.divide_fractions.Goals as goal

pub divide_row-made-requires : goal.divide_row-made-requires
divide_row-made-requires c =
    let wide = (open_row _ _ _ _ _ c.self.invariant.0 c.self.view_is).wide in
    record {
      width = omega (arith, wide, c.requires.width, ap length c.deref_mut.ensures.value);
      place = c.requires.place;
      pivot = c.requires.pivot;
      short = c.requires.short;
      narrow = c.requires.narrow;
    }

pub returns : goal.returns
returns c =
    let i = c.self.inside in
    let r = open_row _ _ _ _ _ c.self.invariant.0 c.self.view_is in
    let len = c.divide_row-made.auto.cells ∙ ap length c.deref_mut.ensures.value in
    let same = with_items_is i.cells c.divide_row-made.new.cells (len ∙ sym i.cells.ok.0) in
    record {
      outcome = c.divide_row-made.ensures.outcome;
      divided = search rules;
      width = length-dense _ _ _ ∙ ap (λ n. n + 1) (ap length same ∙ len) ∙ sym r.wide;
      narrow = search rules;
    }

pub invariant_of-self : goal.invariant_of-self
invariant_of-self c =
    let i = c.self.inside in
    let made = c.divide_row-made in
    let len = made.auto.cells ∙ ap length c.deref_mut.ensures.value in
    let same = with_items_is i.cells made.new.cells (len ∙ sym i.cells.ok.0) in
    let line = subst (λ n. IsSparse n made.result.count (take made.result.count made.new.cells)) (ap length c.deref_mut.ensures.value ∙ sym len) made.ensures.line in
    (subst (λ (t : List Kept). IsSparse (length t) made.result.count (take made.result.count t)) (sym same) line, (tt, all_marked _))
