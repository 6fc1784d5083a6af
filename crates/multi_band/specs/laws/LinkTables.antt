-- The rows of links of an artery are a table: their names ascend, and each row and the goal is as wide as the table.
use Rattle.std.proofs.Common.{◌≡◌, ◌↔◌, ◌^◌, ◌+◌, ◌-◌, ◌*◌, ◌<◌, ◌≤◌, ℕ, suc, length, replicate, ◌∙◌, subst, arith, length-append}
use Rattle.std.proofs.lemmas.List.{length-replicate}
use Rattle.progression.specs.Street.{Street, count}
use Rattle.progression.specs.Speeds.{number}
use Rattle.linear_theory.specs.Boxes.{Area}
use Rattle.linear_theory.specs.Rows.{line}
use Rattle.linear_theory.specs.Names.{form_of}
use Rattle.linear_theory.proofs.PlacedRows.{placed_width}
use Rattle.named_row.specs.declared.names.RowId.{RowId}
use Rattle.fraction_tableau.specs.NamedTableaus.{name_in}
use Rattle.program_builder.specs.BoxRows.{IsAmong}
use Rattle.program_builder.specs.RowOrder.{IsAscending}
use Rattle.program_builder.specs.ProgramTable.{IsTable}
use Rattle.program_builder.proofs.LineCells.{line_width}
use Rattle.program_builder.proofs.RowOrder.{names_ascending, names_there, among_names}
use Rattle.link_theory.specs.LinkColumns.{link_width}
use Rattle.link_theory.specs.LinkRows.{near_form, far_form, link_ratio_form}
use Rattle.link_theory.specs.LinkNames.{LinkName, OfLines, NearRow, FarRow, LinkRatioRow, HasLinkRow, link_row, last_link_family}
use Rattle.link_theory.proofs.LinkFamilies.{link_family_least, link_family_most, link_index_most}
use Rattle.link_space.specs.LinkWeights.{link_name_at}
use Rattle.link_space.proofs.LinkRowTests.{link_row_decided}
use Rattle.link_space.proofs.LinkSets.{link_goal_width}
use Rattle.multi_band.specs.LinkTables.{is_link_there, names_of_links, link_table}

-- ---- widths
pub link_row_width : (a : Street) (box : Area) (n : LinkName) → 2 ≤ count a → length (link_row a box n).coefs ≡ link_width (count a)
link_row_width a box (OfLines n) two =
    let w = line_width a (form_of a box n) in
    let k = length-replicate (2 * (count a - 1)) (number 0) in
    length-append (line a (form_of a box n)).coefs (replicate (2 * (count a - 1)) (number 0)) ∙ omega arith
link_row_width a box (NearRow d e i) two = let f = near_form a d e i in placed_width (link_width (count a)) f.cells f.bound
link_row_width a box (FarRow d e i) two = let f = far_form a d e i in placed_width (link_width (count a)) f.cells f.bound
link_row_width a box (LinkRatioRow i) two = let f = link_ratio_form a i in placed_width (link_width (count a)) f.cells f.bound

-- ---- names
module _ (a : Street) where
  pub links_there : (k : ℕ) → k < length (names_of_links a) → HasLinkRow a (link_name_at (name_in (names_of_links a) k))
  unfolding names_of_links
  links_there k h = (link_row_decided a _).0 (names_there (is_link_there a) (suc (count a)) last_link_family k h)

  pub among_links : (r : RowId) → HasLinkRow a (link_name_at r) → IsAmong (names_of_links a) r
  unfolding names_of_links
  among_links r h =
      let b = link_index_most a r.family r.index h in
      among_names (is_link_there a) (suc (count a)) last_link_family r ((link_row_decided a (link_name_at r)).1 h) (omega arith) (link_family_least a r.family r.index h) (link_family_most a r.family r.index h)

  -- a name is in the list exactly where the artery has its row
  pub among_links_is : (r : RowId) → IsAmong (names_of_links a) r ↔ HasLinkRow a (link_name_at r)
  among_links_is r = (λ m. subst (λ (s : RowId). HasLinkRow a (link_name_at s)) m.is (links_there m.place m.within), λ h. among_links r h)

  pub links_ascend : IsAscending (names_of_links a)
  unfolding names_of_links
  links_ascend = names_ascending (is_link_there a) (suc (count a)) last_link_family

  pub links_are_table : 2 ≤ count a → IsTable (link_table a)
  links_are_table two = record {
    ascending = links_ascend;
    rows = λ box k h. link_row_width a box (link_name_at (name_in (names_of_links a) k)) two;
    goal = link_goal_width a two;
  }
