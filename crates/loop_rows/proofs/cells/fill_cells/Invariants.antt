use Rattle.std.proofs.Common.{◌≡◌, drop, length}
use Rattle.named_row.specs.Sheets.{blank}
use Rattle.loop_rows.specs.Writing.{AreInside, with_cells}
use Rattle.loop_rows.proofs.cells.fill_cells.Given as goal

-- the cells that are left
abbrev pub invariant-loop-cell : goal.invariant-loop-cell
invariant-loop-cell l = record {
  left : with_cells l.cells (blank (length l.fn.into.coefs)) ≡ with_cells (drop l.cell-index l.cells) l.into;
  inside : AreInside (length l.fn.into.coefs) (drop l.cell-index l.cells);
  width : length l.into.coefs ≡ length l.fn.into.coefs;
}
