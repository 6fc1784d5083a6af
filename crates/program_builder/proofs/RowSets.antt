-- The rows of a set are those of a program: a table whose names are in order, with the set's rows.
use Rattle.std.proofs.Common.{◌≡◌, ◌↔◌, ◌+◌, ◌^◌, ◌<◌, suc, true, length, Option, None, Some, subst, arith}
use Rattle.progression.specs.Street.{Street, count}
use Rattle.linear_theory.specs.Places.{width}
use Rattle.linear_theory.specs.Rows.{goal_form}
use Rattle.linear_theory.specs.Names.{form_of}
use Rattle.named_row.specs.declared.names.RowId.{RowId}
use Rattle.loop_rows.proofs.Writing.{written_row}
use Rattle.loop_rows.specs.Following as following
use Rattle.loop_rows.specs.Weights.{name_at}
use Rattle.loop_rows.specs.RowSets.{RowSet, IsRowSet, rows_of_set, artery_set}
use Rattle.fraction_tableau.specs.NamedTableaus.{name_in}
use Rattle.program_builder.specs.BoxRows.{IsAmong, rows_of}
use Rattle.program_builder.specs.RowOrder.{IsNextIn}
use Rattle.program_builder.specs.ProgramTable.{IsTable, program_table}
use Rattle.program_builder.specs.Opening.{artery_table}
use Rattle.program_builder.proofs.RowOrder.{names_ascending, names_there, among_names}
use Rattle.program_builder.proofs.RowCounts.{names_most}

module _ (set : RowSet) (s : IsRowSet set) where
  -- a name is in the list exactly where the set has its row
  pub among_set : (r : RowId) → IsAmong (program_table set).names r ↔ (set.has r ≡ true)
  among_set r = (
    λ m. subst (λ (t : RowId). set.has t ≡ true) m.is (names_there set.has (suc set.last_index) set.last_family m.place m.within),
    λ h. among_names set.has (suc set.last_index) set.last_family r h (let l = s.index r h in omega arith) (s.least r h) (s.family r h),
  )

  -- the set's next row is the list's next name
  pub next_in_set : (after o : Option RowId) → following.IsNextIn (rows_of_set set) after o → IsNextIn (program_table set).names after o
  next_in_set after (Some r) f = record {
    there = (among_set r).1 f.there;
    above = f.above;
    first = λ t m. f.first t ((among_set t).0 m);
  }
  next_in_set after None f = λ t m. f t ((among_set t).0 m)

  pub set_is_table : IsTable (program_table set)
  set_is_table = record {
    ascending = names_ascending set.has (suc set.last_index) set.last_family;
    rows = λ box k h. s.rows box (name_in (program_table set).names k);
    goal = s.goal;
  }

  pub set_few : length (program_table set).names + (program_table set).columns < 2 ^ 32
  set_few = let h = names_most set.has (suc set.last_index) set.last_family in let n = s.few in omega arith

-- an artery's
pub artery_table_is : (a : Street) → program_table (artery_set a) ≡ artery_table a
unfolding rows_of
artery_table_is a = λ i. record {
  columns = width (count a);
  names = rows_of a;
  row = λ box r. written_row a (form_of a box (name_at r)) i;
  goal = (written_row a (goal_form a) i).coefs;
}
