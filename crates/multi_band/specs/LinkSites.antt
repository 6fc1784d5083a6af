-- What the site of a refused operation of links names: a box of the artery, and a row, a column or a link of links.
use Rattle.std.specs.Prelude.{length}
use Rattle.progression.specs.Street.{Street, count}
use Rattle.linear_theory.specs.Boxes.{IsBoxOf}
use Rattle.link_theory.specs.LinkColumns.{link_width}
use Rattle.link_theory.specs.LinkNames.{HasLinkRow}
use Rattle.link_space.specs.LinkWeights.{link_name_at}
use Rattle.branch_and_bound.specs.declared.found.Site.{Site}
use Rattle.branch_and_bound.specs.declared.found.Verdict.{Verdict}
use Rattle.box_search.specs.declared.site.SitePart.{SitePart}
use Rattle.box_search.specs.SiteNames.{IsPartIn, EndsAt}
use Rattle.multi_band.specs.LinkTables.{names_of_links}

-- the row, the column or the link that is named is one of links
abbrev pub IsLinkPartOf : Street → SitePart → Type 0
IsLinkPartOf a = IsPartIn a (length (names_of_links a)) (link_width (count a)) (λ row. HasLinkRow a (link_name_at row))

pub record IsLinkSiteOf (a : Street) (site : Site SitePart) : Type 0 where
  pub boxed : IsBoxOf a site.area
  pub part : IsLinkPartOf a site.part

-- where the verdict names a site, its box is one of the artery, and its row, its column and its link are ones of links
abbrev pub HasLinkSite : Street → Verdict SitePart → Type 0
HasLinkSite a = EndsAt (IsLinkSiteOf a)
