use Rattle.std.proofs.Common.{◌≡◌, List, Vec, Global, pos, length, get_or, ◌+◌, sym, ◌∙◌, ap, arith}
use Rattle.std.proofs.lemmas.List.{with_items_is, length-replicate}
use Rattle.rational_theory.specs.Rational.{ℚ, whole}
use Rattle.simplex_theory.specs.Tableau.{width}
use Rattle.simplex_theory.specs.Totals.{cell_of}
use Rattle.simplex_theory.specs.Multipliers.{goal_weight}
use Rattle.named_row.specs.declared.leaves.Weight.{Weight}
use Rattle.dual_leaf.specs.Leaves.{goal_multipliers, multipliers_below}
use Rattle.dual_leaf.proofs.LeafLaws.{multipliers_same}
use Rattle.dual_leaf.proofs.Written.{goal_read, ok_with}
use Rattle.dual_leaf.proofs.leaves.goal_weights.Goals as goal

pub returns : goal.returns
unfolding goal_weight
returns c =
    let t = c.args.tableau.now.table in
    let names = c.args.tableau.now.names in
    let v = c.in_ok-weights.weights in
    let n = ap length c.in_ok-weights.ensures ∙ length-replicate c.rows.result (whole (pos 0)) in
    let l = c.put_slacks.auto.cells ∙ ap length c.deref_mut.ensures.value in
    let d : c.deref.result.now ≡ c.put_slacks.new.cells = c.deref.ensures.value ∙ with_items_is v c.put_slacks.new.cells (l ∙ sym v.ok.0) in
    let same = multipliers_same names (λ r. get_or c.deref.result.now r (whole (pos 0))) (λ r. cell_of t.goal t.standing (width t + r)) (length names)
    (λ r h. ap (λ (x : List ℚ). get_or x r (whole (pos 0))) d
    ∙ c.put_slacks.ensures r (omega (arith, c.rows.ensures.shape.named, c.rows.ensures.count, ap length c.deref_mut.ensures.value, n))
    ∙ ap (λ x. cell_of x t.standing (width t + r)) (goal_read t _ c.rows-2.ensures.count)) in
    ok_with c.named.result (λ (list : Vec Weight Global). list.items ≡ multipliers_below names (λ r. get_or c.deref.result.now r (whole (pos 0))) (length names))
    (λ (list : Vec Weight Global). list.items ≡ goal_multipliers c.args.tableau.now)
    (λ list h. h ∙ same) c.named.ensures
