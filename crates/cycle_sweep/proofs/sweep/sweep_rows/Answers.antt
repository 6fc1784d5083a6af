use Rattle.std.proofs.Common.{arith}
use Rattle.cycle_sweep.proofs.Matched.{rows_more, timed_more}
use Rattle.std.proofs.lemmas.Grind.{elements}
use Rattle.cycle_sweep.proofs.sweep.sweep_rows.Goals as goal

pub loop-cycle-preserved : goal.loop-cycle-preserved
loop-cycle-preserved c =
    let before = c.loop-cycle.rows.items in
    record {
      rows = rows_more c.args.artery.now c.args.limit c.args.cycles.now c.loop-cycle.cycle-index c.cycle-item.result before c.push.new.items.items c.in_ok-row.row c.loop-cycle-test.true
          c.cycle-item.is c.in_ok-push.ensures c.loop-cycle.invariant.rows c.in_ok-row.ensures.row;
      timed = timed_more before c.push.new.items.items c.in_ok-row.row c.in_ok-push.ensures c.loop-cycle.invariant.timed c.in_ok-row.ensures.timed;
    }

pub returns : goal.returns
returns c = grind (arith, elements)
