-- What the site of a refused operation names: a box, a row, a column and a link of the artery.
use Rattle.std.specs.Prelude.{length}
use Rattle.progression.specs.Street.{Street, count}
use Rattle.linear_theory.specs.Names.{HasRow, name_of}
use Rattle.linear_theory.specs.Places.{width}
use Rattle.linear_theory.specs.Boxes.{IsBoxOf}
use Rattle.program_builder.specs.BoxRows.{rows_of}
use Rattle.branch_and_bound.specs.declared.found.Site.{Site}
use Rattle.branch_and_bound.specs.declared.found.Verdict.{Verdict}
use Rattle.box_search.specs.declared.site.SitePart.{SitePart}
use Rattle.box_search.specs.SiteNames.{IsPartIn, EndsAt}

abbrev pub IsPartOf : Street → SitePart → Type 0
IsPartOf a = IsPartIn a (length (rows_of a)) (width (count a)) (λ row. HasRow a (name_of row.family row.index))

pub record IsSiteOf (a : Street) (site : Site SitePart) : Type 0 where
  pub boxed : IsBoxOf a site.area
  pub part : IsPartOf a site.part

-- where the verdict names a site, its box, its row, its column and its link are ones of the artery
abbrev pub HasSite : Street → Verdict SitePart → Type 0
HasSite a = EndsAt (IsSiteOf a)
