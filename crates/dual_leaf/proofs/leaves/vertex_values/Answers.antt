use Rattle.std.proofs.Common.{length, pos, sym, ◌∙◌, ap, arith}
use Rattle.std.proofs.lemmas.List.{with_items_is, length-replicate}
use Rattle.rational_theory.specs.Rational.{whole}
use Rattle.dual_leaf.proofs.Written.{vertex_list}
use Rattle.dual_leaf.proofs.leaves.vertex_values.Goals as goal

pub returns : goal.returns
returns c =
    let v = c.in_ok-values.values in
    let n = ap length c.in_ok-values.ensures ∙ length-replicate c.width.result (whole (pos 0)) ∙ c.width.ensures.count in
    let l = c.put_columns.auto.values ∙ ap length c.deref_mut.ensures.value in
    with_items_is v c.put_columns.new.values (l ∙ sym v.ok.0)
    ∙ vertex_list c.args.tableau.now.table c.put_columns.new.values (l ∙ n) (λ k h. c.put_columns.ensures k (omega (arith, ap length c.deref_mut.ensures.value, n)))
