use Rattle.std.proofs.Common.{take, All}
use Rattle.cycle_sweep.specs.Rows.{AreRows, IsTimedRow}
use Rattle.cycle_sweep.proofs.sweep.sweep_rows.Given as goal

-- a row for each of the cycles so far
abbrev pub invariant-loop-cycle : goal.invariant-loop-cycle
invariant-loop-cycle l = record {
  rows : AreRows l.artery l.limit (take l.cycle-index l.cycles) l.rows.items;
  timed : All IsTimedRow l.rows.items;
}
