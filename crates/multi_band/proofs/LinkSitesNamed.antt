-- What a site of links names is there: the row, the column and the link are ones of links.
use Rattle.std.proofs.Common.{arith, ◌≡◌, ℕ, ◌+◌, ◌-◌, ◌<◌, List, length, refl, sym, subst}
use Rattle.rational_theory.specs.Rational.{ℚ}
use Rattle.progression.specs.Street.{Street, count, HasLink}
use Rattle.progression.specs.declared.parts.Dir.{Dir}
use Rattle.progression.specs.declared.parts.Dir.TheVariants.{Outbound, Inbound}
use Rattle.artery_model.specs.Valid.{IsValid}
use Rattle.linear_theory.specs.Boxes.{Area, IsBoxOf}
use Rattle.link_theory.specs.LinkColumns.{link_width, half_place}
use Rattle.link_theory.specs.LinkNames.{HasLinkRow}
use Rattle.link_space.specs.LinkWeights.{link_name_at, link_rows}
use Rattle.link_space.specs.laws.LinkSheets.{link_sheet_width}
use Rattle.link_space.proofs.LinkRowTests.{link_row_decided}
use Rattle.offset_recovery.specs.declared.outcome.WideTiming.{WideTiming}
use Rattle.offset_recovery.specs.Recovered.{unit_tests, line_tests, recovered_by}
use Rattle.branch_and_bound.specs.Lines.{BoxLine}
use Rattle.branch_and_bound.specs.Rules.{IsMet}
use Rattle.branch_and_bound.specs.Answer.{IsSite}
use Rattle.branch_and_bound.specs.declared.found.Site.{Site}
use Rattle.box_search.specs.declared.site.SitePart.{SitePart}
use Rattle.box_search.specs.Ends.{end_leaf, end_point}
use Rattle.box_search.specs.Sites.{refusal_at}
use Rattle.box_search.specs.SiteNames.{IsTimingPartIn}
use Rattle.box_search.specs.laws.RunLaws.{point_columns}
use Rattle.box_search.proofs.EachRefusal.{Each, each_earlier, each_first, each_if}
use Rattle.box_search.proofs.NamedSites.{IsNamedOutcome, units_named, lines_named, placed_named, outcome_by_named, made_named, fault_named, vertex_named, refusal_named}
use Rattle.multi_band.specs.LinkProgram.{link_program}
use Rattle.multi_band.specs.LinkRecovered.{half_tests, link_column_tests, link_number_tests, linked, link_recovered}
use Rattle.multi_band.specs.LinkRules.{link_rules}
use Rattle.multi_band.specs.LinkSites.{IsLinkPartOf, IsLinkSiteOf}
use Rattle.multi_band.specs.LinkTables.{names_of_links}
use Rattle.multi_band.specs.laws.LinkLines.{link_boxed, link_searchable}

module _ (a : Street) (v : IsValid a) (box : Area) (x : List ℚ) (e : length x ≡ link_width (count a)) where
  abbrev IsThere : WideTiming → Type 0
  IsThere = IsTimingPartIn a (link_width (count a))

  half_within : (d : Dir) (i : ℕ) → HasLink a i → half_place (count a) d i < link_width (count a)
  half_within Outbound i h = let l = h.0 in let m = h.1 in omega arith
  half_within Inbound i h = let l = h.0 in let m = h.1 in omega arith

  halves_named : (d : Dir) → Each IsThere (half_tests a x d)
  halves_named d = each_first IsThere _ (count a - 1) (λ k l. each_if IsThere _ _ (half_within d (k + 1) (omega arith, omega arith)))

  columns_named : Each IsThere (link_column_tests a x)
  columns_named =
      each_earlier IsThere (line_tests a x) _ (lines_named a v (link_width (count a)) (let n = v.few in omega arith) box x)
      (each_earlier IsThere (half_tests a x Outbound) _ (halves_named Outbound) (halves_named Inbound))

  numbers_named : Each IsThere (link_number_tests a x)
  numbers_named =
      let n = v.few in
      each_earlier IsThere (unit_tests a x) _ (units_named a v (link_width (count a)) (omega arith) box x e)
      (each_earlier IsThere (link_column_tests a x) _ columns_named (placed_named a v (link_width (count a)) (omega arith) box x))

  link_outcome_named : IsNamedOutcome a (link_width (count a)) (link_recovered a box x)
  unfolding link_recovered
  link_outcome_named =
      made_named a (link_width (count a)) (linked a x) (recovered_by a box x (link_number_tests a x))
      (outcome_by_named a v (link_width (count a)) (let n = v.few in omega arith) box x (link_number_tests a x) numbers_named _ refl)

link_part_named : (a : Street) (line : BoxLine) → IsValid a → (k : ℕ) → Each (IsLinkPartOf a) (refusal_at (link_program a) line k)
link_part_named a line v k =
    refusal_named a (λ row. HasLinkRow a (link_name_at row)) (link_program a) line v (λ w. refl) (λ w. refl) (λ row at. refl)
    (fault_named (link_rows a line.area) (λ row. HasLinkRow a (link_name_at row)) (λ row h. (link_row_decided a (link_name_at row)).0 h) (λ row. link_sheet_width a line.area v.few (link_name_at row))
    (end_leaf (link_program a) line))
    (vertex_named a (length (names_of_links a)) (link_width (count a)) (λ row. HasLinkRow a (link_name_at row)) (link_recovered a line.area (end_point (link_program a) line))
    (link_outcome_named a v line.area (end_point (link_program a) line) (point_columns (link_program a) line v))) k

pub link_site_of : (a : Street) (line : BoxLine) (k : ℕ) (site : Site SitePart) → IsMet (link_rules a) line → IsSite (link_rules a) line k site → IsLinkSiteOf a site
link_site_of a line k site m h = record {
  boxed = subst (IsBoxOf a) (sym h.area_is) (link_boxed a line m);
  part = link_part_named a line (link_searchable a line m).valid k site.part h.part_is.refused;
}
