use Rattle.std.proofs.Common.{◌≡◌, List, Vec, Global, pos, length, get_or, cond, eqb, ◌+◌, sym, ◌∙◌, ap, ap₂, arith}
use Rattle.std.specs.Vec.{with_items}
use Rattle.std.proofs.lemmas.List.{with_items_is, length-replicate}
use Rattle.rational_theory.specs.Rational.{ℚ, whole}
use Rattle.simplex_theory.specs.Tableau.{basic_at, width}
use Rattle.simplex_theory.specs.Totals.{cell_of}
use Rattle.simplex_theory.specs.Multipliers.{row_weight}
use Rattle.named_row.specs.declared.leaves.Weight.{Weight}
use Rattle.dual_leaf.specs.Leaves.{row_multipliers, multipliers_below}
use Rattle.dual_leaf.proofs.LeafLaws.{multipliers_same}
use Rattle.dual_leaf.proofs.Written.{row_read, ok_with}
use Rattle.std.proofs.lemmas.Grind.{common_steps}
use Rattle.dual_leaf.proofs.leaves.row_weights.Goals as goal

pub returns-clause-list : goal.returns-clause-list
unfolding row_weight
returns-clause-list c =
    let t = c.args.tableau.now.table in
    let names = c.args.tableau.now.names in
    let i = c.args.row in
    let v = c.in_ok-weights.weights in
    let n = ap length c.in_ok-weights.ensures ∙ length-replicate c.rows.result (whole (pos 0)) in
    let l = c.put_slacks.auto.cells ∙ ap length c.deref_mut.ensures.value in
    let u = with_items v c.put_slacks.new.cells in
    let a : u.items ≡ c.put_slacks.new.cells = with_items_is v c.put_slacks.new.cells (l ∙ sym v.ok.0) in
    let b = c.deref_mut-2.ensures.value ∙ a in
    let d : c.deref.result.now ≡ c.put.new.values = c.deref.ensures.value ∙ with_items_is u c.put.new.values (c.put.auto.values ∙ ap length c.deref_mut-2.ensures.value ∙ sym u.ok.0) in
    let same = multipliers_same names (λ r. get_or c.deref.result.now r (whole (pos 0))) (λ r. row_weight t i (width t + r)) (length names)
    (λ r h.
    let slack = c.put_slacks.ensures r (omega (arith, c.rows.ensures.shape.named, c.rows.ensures.count, ap length c.deref_mut.ensures.value, n))
    ∙ ap (λ x. cell_of x t.standing (width t + r)) (row_read t i c.requires) in
    ap (λ (x : List ℚ). get_or x r (whole (pos 0))) d
    ∙ c.put.ensures r (omega (arith, c.rows.ensures.shape.named, c.rows.ensures.count, ap length b, l, n))
    ∙ ap₂ (λ x y. cond (eqb (c.width.result + r) x) y (get_or c.deref_mut-2.result.now r (whole (pos 0)))) c.basic.ensures (c.of_fraction.ensures ∙ c.whole.ensures)
    ∙ ap₂ (λ x y. cond (eqb (x + r) (basic_at t i)) (whole (pos 1)) y) c.width.ensures.count (ap (λ (x : List ℚ). get_or x r (whole (pos 0))) b ∙ slack)) in
    ok_with c.named.result (λ (list : Vec Weight Global). list.items ≡ multipliers_below names (λ r. get_or c.deref.result.now r (whole (pos 0))) (length names))
    (λ (list : Vec Weight Global). list.items ≡ row_multipliers c.args.tableau.now i)
    (λ list h. h ∙ same) c.named.ensures

pub put_slacks-requires : goal.put_slacks-requires
put_slacks-requires c = grind (arith, common_steps)

pub named-requires : goal.named-requires
named-requires c = grind (arith, common_steps)
