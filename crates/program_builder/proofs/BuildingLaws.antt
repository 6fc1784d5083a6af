-- A tableau with room for a table stays one.
use Rattle.std.specs.Prelude.{◌≡◌, ℕ, length}
use Rattle.std.proofs.Common.{Result, Ok, Err, IfOk, IfErr, sym, ◌∙◌, ap, subst}
use Rattle.std.proofs.Math.ListN.{length-set}
use Rattle.simplex_theory.specs.Tableau.{IsShaped, exchange}
use Rattle.simplex_theory.proofs.Tableau.{height-exchange, width-exchange}
use Rattle.named_row.specs.Sheets.{Sheet}
use Rattle.named_row.specs.declared.names.RowId.{RowId}
use Rattle.fraction_tableau.specs.NamedTableaus.{NamedTableau, IsSpentFrom, row_cells, with_row}
use Rattle.program_builder.specs.ProgramTable.{ProgramTable}
use Rattle.program_builder.specs.Loading.{HasRoomFor}

-- through a pivot, refused or not
pub made_exchange : (table : ProgramTable) (r j : ℕ) (t : NamedTableau) → HasRoomFor table t → HasRoomFor table (record t { table = exchange r j t.table })
made_exchange table r j t m = record { rows = height-exchange r j t.table ∙ m.rows; columns = width-exchange r j t.table ∙ m.columns }

pub made_spent : (table : ProgramTable) (s t : NamedTableau) → IsShaped s.table → IsShaped t.table → IsSpentFrom s t → HasRoomFor table s → HasRoomFor table t
made_spent table s t h k e m = record {
  rows = sym k.basics ∙ ap length e.basic ∙ h.basics ∙ m.rows;
  columns = ap length e.standing ∙ m.columns;
}

pub made_pivot : {E : Type 0} (table : ProgramTable) (r j : ℕ) (s t : NamedTableau) (outcome : Result (Unit {0}) E) → HasRoomFor table s → IsShaped s.table → IsShaped t.table
    → IfOk outcome (λ _. t ≡ record s { table = exchange r j s.table }) → IfErr outcome (λ _. IsSpentFrom s t) → HasRoomFor table t
made_pivot table r j s t (Ok x) m h k e f = subst (HasRoomFor table) (sym e) (made_exchange table r j s m)
made_pivot table r j s t (Err x) m h k e f = made_spent table s t h k f m

-- and through a load
pub made_row : (table : ProgramTable) (r : ℕ) (name : RowId) (from : Sheet) (t : NamedTableau) → HasRoomFor table t → HasRoomFor table (with_row r name from t)
unfolding with_row
made_row table r name from t m = record { rows = length-set t.table.rows r (row_cells from) ∙ m.rows; columns = m.columns }
