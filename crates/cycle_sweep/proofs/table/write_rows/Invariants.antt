use Rattle.std.proofs.Common.{take}
use Rattle.std.specs.List.{flat_map}
use Rattle.std.specs.Io.KnownBytes.{Appends}
use Rattle.csv.specs.Writing.{text_written}
use Rattle.cycle_sweep.specs.Table.{line, row_fields}
use Rattle.cycle_sweep.specs.Writers.{IsReady}
use Rattle.cycle_sweep.proofs.table.write_rows.Given as goal

-- the records of the rows so far
abbrev pub invariant-loop-row : goal.invariant-loop-row
invariant-loop-row g l = record {
  ready : IsReady l.writer;
  bytes : Appends (text_written g.W.Write.contents l.initial.writer) (text_written g.W.Write.contents l.writer) (flat_map (λ row. line (row_fields l.artery row)) (take l.row-index l.rows));
}
