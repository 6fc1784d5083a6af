use Rattle.std.proofs.Common.{refl}
use Rattle.plan_text.specs.SecondText.{row_line}
use Rattle.plan_text.proofs.Written.{more_mapped}
use Rattle.plan_text.proofs.second_writing.push_names.Goals as goal

pub loop-row-preserved : goal.loop-row-preserved
loop-row-preserved c = more_mapped row_line c.args.out.now.items c.args.rows.now c.loop-row.row-index (record { family = 0; index = 0 }) _ c.loop-row.out.items
    _ c.loop-row-test.true refl c.loop-row.invariant c.in_ok-push_row.ensures
