-- What a search of an artery's links answers, and what its accepted certificate says of every link timing on any grid.
use Rattle.std.specs.Prelude.{ℕ, Option}
use Rattle.rational_theory.specs.Rational.{ℚ}
use Rattle.progression.specs.Street.{Street}
use Rattle.link_theory.specs.LinkRecord.{LinkRecord}
use Rattle.branch_and_bound.specs.declared.found.Verdict.{Verdict}
use Rattle.box_search.specs.declared.site.SitePart.{SitePart}
use Rattle.box_search.specs.Kinds.{IsSearchedOf}
use Rattle.multi_band.specs.LinkKind.{link_bands}
use Rattle.multi_band.specs.LinkTold.{LinkFound}

-- A search of the artery's links within the limit of units of work, where there is one, found this, and its certificate is accepted. A stop by work
-- comes only where there is a limit, and it is less than enough for the links of this artery. A site that the verdict names has a box of this
-- artery, and a row, a column or a link of its links.
abbrev pub IsLinksSearched : Street → Option ℕ → LinkFound → Type 0
IsLinksSearched a = IsSearchedOf (link_bands a)
