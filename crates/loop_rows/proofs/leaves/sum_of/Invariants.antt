use Rattle.std.proofs.Common.{◌≡◌, drop, length, false}
use Rattle.loop_rows.specs.RowSets.{rows_for}
use Rattle.loop_rows.specs.Weights.{with_weights, first_fault_with, total_of, fault_of}
use Rattle.loop_rows.proofs.leaves.sum_of.Given as goal

-- the rows that are left
abbrev pub invariant-loop-weight : goal.invariant-loop-weight
invariant-loop-weight g l = record {
  fault : fault_of (rows_for (g.T.RowTable.rows l.table) l.area) l.leaf.multipliers.items
      ≡ first_fault_with (rows_for (g.T.RowTable.rows l.table) l.area) l.sum (drop l.weight-index l.leaf.multipliers.items);
  total : total_of (rows_for (g.T.RowTable.rows l.table) l.area) l.leaf.multipliers.items
      ≡ with_weights (rows_for (g.T.RowTable.rows l.table) l.area) l.sum (drop l.weight-index l.leaf.multipliers.items);
  unspent : l.sum.spent ≡ false;
  sum_width : length l.sum.coefs ≡ (g.T.RowTable.rows l.table).width;
  row_width : length l.row.coefs ≡ (g.T.RowTable.rows l.table).width;
  spare : g.T.RowTable.IsSpare l.table l.spare;
}
