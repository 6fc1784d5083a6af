-- The set of the rows of links makes the table of links, which has few rows.
use Rattle.std.proofs.Common.{◌≡◌, ◌^◌, ◌+◌, ◌*◌, ◌<◌, ◌≤◌, suc, length, arith}
use Rattle.progression.specs.Street.{Street, count}
use Rattle.artery_model.specs.Valid.{IsValid}
use Rattle.program_builder.proofs.RowCounts.{names_most}
use Rattle.program_builder.specs.ProgramTable.{program_table}
use Rattle.link_theory.specs.LinkColumns.{link_width}
use Rattle.link_theory.specs.LinkNames.{last_link_family}
use Rattle.link_theory.specs.LinkRows.{link_goal}
use Rattle.link_space.specs.LinkWeights.{link_name_at, link_set}
use Rattle.link_space.specs.laws.LinkSheets.{link_sheet_row}
use Rattle.multi_band.specs.LinkTables.{is_link_there, names_of_links, link_table}

pub link_table_is : (a : Street) → program_table (link_set a) ≡ link_table a
unfolding names_of_links
link_table_is a = λ i. record {
  columns = link_width (count a);
  names = names_of_links a;
  row = λ box r. link_sheet_row a box (link_name_at r) i;
  goal = link_goal a;
}

-- there are few
pub links_most : (a : Street) → count a ≤ 24 → length (names_of_links a) ≤ last_link_family * 25
unfolding names_of_links
links_most a c = let h = names_most (is_link_there a) (suc (count a)) last_link_family in omega arith

pub links_few : (a : Street) → IsValid a → length (names_of_links a) + link_width (count a) < 2 ^ 32
links_few a v = let h = links_most a (let n = v.many in omega arith) in let n = v.many in omega arith
