use Rattle.std.proofs.Common.{◌≡◌, ◌∙◌, ap, sym, subst, List, map, drop, ◌+◌, None}
use Rattle.std.specs.Result.{IfOk}
use Rattle.std.proofs.lemmas.Result.{IfOk-weaker}
use Rattle.named_row.specs.declared.names.RowId.{RowId}
use Rattle.certificate_model.specs.Warrants.{node_of}
use Rattle.plan_text.specs.Leaves.{rows_from, AscendRows, with_rows}
use Rattle.plan_text.proofs.ListedRows.{split_next, leaf_next, nodes_passed, rows_ascend}
use Rattle.plan_text.proofs.listed.rows_of.Goals as goal
use Rattle.plan_text.proofs.listed.rows_of.Goals.{in-Split, in-Leaf+in_ok-add_rows-in-Leaf}

pub loop-node-init : goal.loop-node-init
loop-node-init c = ap (λ (y : List RowId). rows_from y (map node_of c.args.nodes.now)) (sym c.new-rows.ensures.empty)

pub loop-node-preserved : goal.loop-node-preserved
loop-node-preserved c =
    let nodes = c.args.nodes.now in
    let i = c.loop-node.node-index in
    elim c.match-node.branch [
      | in-Split w ↦
          c.loop-node.invariant
          ∙ split_next nodes i _ c.node-item.result w.in-Split.field-0 c.loop-node.rows.keys c.loop-node-test.true c.node-item.is w.in-Split.is
          ∙ ap (λ y. rows_from y.keys (map node_of (drop (i + 1) nodes))) (sym w.rows-is)
      | in-Leaf+in_ok-add_rows-in-Leaf w ↦
          c.loop-node.invariant
          ∙ leaf_next nodes i _ c.node-item.result w.in-Leaf.leaf c.loop-node.rows.keys c.match-node.rows.keys c.loop-node-test.true c.node-item.is w.in-Leaf.is
          (ap (λ y. y.keys) w.rows-is ∙ w.in_ok-add_rows-in-Leaf.ensures ∙ ap (λ y. with_rows y c.loop-node.rows.keys) w.as_slice.ensures.value)
    ]

pub returns : goal.returns
returns c =
    let nodes = c.args.nodes.now in
    let is = c.loop-node.invariant ∙ nodes_passed nodes c.loop-node.node-index c.loop-node.rows.keys c.loop-node-test.false in
    record {
      value = subst (λ (y : List RowId). IfOk c.in_order.result (λ v. v.items ≡ y)) (sym is) c.in_order.ensures;
      ascend = IfOk-weaker c.in_order.result (λ v. v.items ≡ c.loop-node.rows.keys) (λ v. AscendRows None v.items)
          (λ v e. subst (AscendRows None) (sym (e ∙ sym is)) (rows_ascend (map node_of nodes))) c.in_order.ensures;
    }
