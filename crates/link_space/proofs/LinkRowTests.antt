-- Lemmas on the definitions of `LinkRowTests` and `LinkWeights`.
use Rattle.std.proofs.Common.{◌≡◌, ◌≤◌, ℕ, not, List, None, refl, sym, map, true≢false, Bool}
use Rattle.std.specs.Prelude.{nat_le, nat_lt}
use Rattle.std.specs.Bool.{Decides}
use Rattle.std.proofs.lemmas.Bool.{leb-true, le-leb}
use Rattle.std.specs.Ordering.{eq_by_cmp}
use Rattle.std.proofs.lemmas.Bool.Decides.{same_from_decides, Decides-and, Decides-not, Decides-ltb}
use Rattle.rational_theory.specs.Compare.{cmp_ℚ}
use Rattle.rational_theory.proofs.Compare.{eq_says}
use Rattle.rational_theory.specs.Rows.{added}
use Rattle.progression.specs.Street.{Street, count, HasLink}
use Rattle.progression.specs.Speeds.{number}
use Rattle.linear_theory.specs.Boxes.{Area}
use Rattle.linear_theory.specs.Names.{Name, WaitRow, FastRow, SlowRow, RiseRow, DropRow, CycleLowRow, CycleHighRow, RatioRow, LoopLowRow, LoopHighRow}
use Rattle.linear_theory.specs.Names.{TurnLowRow, TurnHighRow, LeastRow, EqualLowRow, EqualHighRow, NoRow}
use Rattle.named_row.specs.Sheets.{Sheet, blank, row_of}
use Rattle.named_row.specs.declared.names.RowId.{RowId}
use Rattle.named_row.specs.declared.leaves.Weight.{Weight}
use Rattle.loop_rows.specs.RowTests.{has_link, has_row}
use Rattle.loop_rows.proofs.RowTests.{row_decided}
use Rattle.loop_rows.specs.Weights.{total_of, fault_of}
use Rattle.loop_rows.proofs.LeafSums.{Stands, sum_row_by, total_weights_by}
use Rattle.link_theory.specs.LinkColumns.{link_width}
use Rattle.link_theory.specs.LinkNames.{LinkName, OfLines, NearRow, FarRow, LinkRatioRow, NamesNoBand, HasLinkRow, link_row}
use Rattle.link_theory.specs.LinkTrees.{link_sum, AreLinkWeights}
use Rattle.link_space.specs.LinkRowTests.{names_no_band, has_link_row}
use Rattle.link_space.specs.LinkWeights.{link_name_at, link_named, link_rows}
use Rattle.link_space.specs.laws.LinkSheets.{link_sheet_row, link_sheet_width}

-- ---- tests
link_decided : (a : Street) (i : ℕ) → Decides (has_link a i) (HasLink a i)
link_decided a i = Decides-and (nat_le 1 i) (nat_lt i (count a)) (leb-true 1 i, le-leb 1 i) (Decides-ltb i (count a))

no_band_decided : (n : Name) → Decides (names_no_band n) (NamesNoBand n)
no_band_decided (WaitRow d i) = (λ e. true≢false (sym e), λ h. absurd h)
no_band_decided (FastRow d i) = (λ e. tt, λ h. refl)
no_band_decided (SlowRow d i) = (λ e. tt, λ h. refl)
no_band_decided (RiseRow d i) = (λ e. tt, λ h. refl)
no_band_decided (DropRow d i) = (λ e. tt, λ h. refl)
no_band_decided (CycleLowRow i) = (λ e. tt, λ h. refl)
no_band_decided (CycleHighRow i) = (λ e. tt, λ h. refl)
no_band_decided (RatioRow i) = (λ e. true≢false (sym e), λ h. absurd h)
no_band_decided (LoopLowRow i) = (λ e. tt, λ h. refl)
no_band_decided (LoopHighRow i) = (λ e. tt, λ h. refl)
no_band_decided (TurnLowRow i) = (λ e. tt, λ h. refl)
no_band_decided (TurnHighRow i) = (λ e. tt, λ h. refl)
no_band_decided (LeastRow d i) = (λ e. true≢false (sym e), λ h. absurd h)
no_band_decided (EqualLowRow i) = (λ e. true≢false (sym e), λ h. absurd h)
no_band_decided (EqualHighRow i) = (λ e. true≢false (sym e), λ h. absurd h)
no_band_decided NoRow = (λ e. true≢false (sym e), λ h. absurd h)

-- an artery has a row of links exactly where the test is true
pub link_row_decided : (a : Street) (n : LinkName) → Decides (has_link_row a n) (HasLinkRow a n)
unfolding has_link_row
link_row_decided a (OfLines n) = Decides-and (names_no_band n) (has_row a n) (no_band_decided n) (row_decided a n)
link_row_decided a (NearRow d e i) = link_decided a i
link_row_decided a (FarRow d e i) = link_decided a i
link_row_decided a (LinkRatioRow i) =
    Decides-and (has_link a i) (not (eq_by_cmp cmp_ℚ a.head.ratio (number 1))) (link_decided a i)
    (Decides-not (eq_by_cmp cmp_ℚ a.head.ratio (number 1)) (eq_says a.head.ratio (number 1) (eq_by_cmp cmp_ℚ a.head.ratio (number 1)) refl))

-- a test that says whether an artery has a row
pub link_row_tested : (a : Street) (row : RowId) (there : Bool) → Decides there (HasLinkRow a (link_name_at row)) → there ≡ has_link_row a (link_name_at row)
link_row_tested a row there d = sym (same_from_decides (has_link_row a (link_name_at row)) there (link_row_decided a (link_name_at row)) d)

-- ---- sums
module _ (a : Street) (box : Area) (two : 2 ≤ count a) where
  -- the source's rows are those of the names
  pub links_stand : Stands (link_rows a box) link_name_at (HasLinkRow a) (link_row a box)
  links_stand = record {
    decided = λ row. link_row_decided a (link_name_at row);
    is = λ row. link_sheet_row a box (link_name_at row);
    columns = λ row. link_sheet_width a box two (link_name_at row);
  }

  pub link_total_row : (ws : List Weight) (sum : Sheet) → sum ≡ total_of (link_rows a box) ws → row_of sum ≡ added (row_of (blank (link_width (count a)))) (link_sum a box (map link_named ws))
  link_total_row ws sum e = sum_row_by (link_rows a box) link_name_at (HasLinkRow a) (link_row a box) links_stand ws sum e

  pub link_total_weights : (ws : List Weight) → fault_of (link_rows a box) ws ≡ None → AreLinkWeights a (map link_named ws)
  link_total_weights ws e = total_weights_by (link_rows a box) link_name_at (HasLinkRow a) (link_row a box) links_stand ws e
