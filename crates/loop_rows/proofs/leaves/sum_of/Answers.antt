use Rattle.std.proofs.Common.{ap, sym, ◌∙◌, arith, drop, get_or, ◌+◌}
use Rattle.std.proofs.lemmas.Result.{err_from_is_err_and}
use Rattle.narrow_fraction.proofs.Attempt.{attempt_err}
use Rattle.named_row.specs.Sheets.{blank}
use Rattle.loop_rows.specs.RowSets.{rows_for}
use Rattle.loop_rows.specs.Weights.{with_weights, first_fault_with, total_of, fault_of}
use Rattle.loop_rows.proofs.LeafSums.{at_left, left_refused, first_of_all}
use Rattle.std.proofs.lemmas.Grind.{common_steps}
use Rattle.loop_rows.proofs.leaves.sum_of.Goals as goal

pub loop-weight-init : goal.loop-weight-init
unfolding total_of fault_of
loop-weight-init g c =
    let rows = rows_for (g.T.RowTable.rows c.args.table.now) c.args.area.now in
    let zeros = sym (c.in_ok-sum.ensures.value ∙ ap blank c.columns-width.ensures) in
    record {
      fault = ap (λ s. first_fault_with rows s c.args.leaf.now.multipliers.items) zeros;
      total = ap (λ s. with_weights rows s c.args.leaf.now.multipliers.items) zeros;
      unspent = c.in_ok-sum.ensures.unspent;
      sum_width = c.in_ok-sum.ensures.width ∙ c.columns-width.ensures;
      row_width = c.in_ok-row.ensures.width ∙ c.columns-width.ensures;
      spare = c.in_ok-spare.ensures;
    }

pub returns-in_err-add_weight-clause-fault : goal.returns-in_err-add_weight-clause-fault
returns-in_err-add_weight-clause-fault g c =
    let rows = rows_for (g.T.RowTable.rows c.args.table.now) c.args.area.now in
    let items = c.args.leaf.now.multipliers.items in
    let i = c.loop-weight.weight-index in
    let below = c.loop-weight-test.true in
    let left = at_left items i c.weight-item.result (omega (arith, below)) (c.weight-item.is ∙ ap (λ xs. get_or xs i c.weight-item.result) c.deref-weight-items.ensures.value) in
    let refused = attempt_err _ _ _ c.in_err-add_weight.ensures.outcome in
    let first = left_refused rows c.loop-weight.sum (drop i items) (drop (i + 1) items) c.weight-item.result c.in_err-add_weight.field-0.0 left refused in
    let p = err_from_is_err_and c.from_residual-in_err-add_weight.result c.from_residual-in_err-add_weight.ensures.1 in
    rw (p.1, p.2) (first_of_all (fault_of rows items) c.in_err-add_weight.field-0.0 (c.loop-weight.invariant.fault ∙ first))

pub returns-in_err-add_weight-clause-unspent : goal.returns-in_err-add_weight-clause-unspent
returns-in_err-add_weight-clause-unspent g c = grind (arith, common_steps)

pub loop-weight-preserved : goal.loop-weight-preserved
loop-weight-preserved g c = grind (arith, common_steps)

pub returns : goal.returns
returns g c = grind (arith, common_steps)

pub returns-in_err-spare : goal.returns-in_err-spare
returns-in_err-spare g c = grind (arith, common_steps)
