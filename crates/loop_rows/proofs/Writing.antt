-- What proofs above cite of rows as they are written.
pub use Rattle.loop_rows.specs.laws.Writing.{written_cells_row, written_cells_unspent, written_cells_width, written_row, written_unspent, written_width}
