use Rattle.csv.specs.Writing.{text_written}
use Rattle.cycle_sweep.specs.Table.{line, row_fields}
use Rattle.cycle_sweep.proofs.Matched.{records_more}
use Rattle.cycle_sweep.proofs.table.write_rows.Goals as goal

pub loop-row-preserved : goal.loop-row-preserved
loop-row-preserved g c =
    let text = text_written g.W.Write.contents in
    record {
      ready = c.in_ok-write_row.ensures.ready;
      bytes = records_more (λ row. line (row_fields c.args.artery.now row)) c.args.rows.now c.loop-row.row-index c.row-item.result (text c.args.writer.now) (text c.loop-row.writer)
          (text c.write_row.new.writer) c.loop-row-test.true c.row-item.is c.loop-row.invariant.bytes c.in_ok-write_row.ensures.bytes;
    }
