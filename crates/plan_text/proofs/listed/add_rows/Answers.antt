use Rattle.plan_text.proofs.ListedRows.{rows_more, rows_passed}
use Rattle.std.proofs.Common.{◌∙◌, sym}
use Rattle.plan_text.proofs.listed.add_rows.Goals as goal

pub loop-weight-preserved : goal.loop-weight-preserved
loop-weight-preserved c =
    c.loop-weight.invariant
    ∙ rows_more c.args.weights.now c.loop-weight.weight-index _ c.weight-item.result c.loop-weight.rows.keys c.insert.new.self.keys c.loop-weight-test.true c.weight-item.is c.in_ok-insert.ensures.keys

pub returns : goal.returns
returns c = sym (c.loop-weight.invariant ∙ rows_passed c.args.weights.now c.loop-weight.weight-index c.loop-weight.rows.keys c.loop-weight-test.false)
