-- What the site of a refused operation names: a row and a column of a tableau of so many, and a link of the artery.
use Rattle.std.specs.Prelude.{ℕ, ◌<◌, ◌≤◌}
use Rattle.progression.specs.Street.{Street, HasLink}
use Rattle.named_row.specs.declared.names.RowId.{RowId}
use Rattle.named_row.specs.declared.names.Place.{Place}
use Rattle.named_row.specs.declared.names.Place.TheVariants.{Cell, Bound}
use Rattle.fraction_tableau.specs.declared.wide_cell.WideCell.{WideCell}
use Rattle.offset_recovery.specs.declared.outcome.WideTiming.{WideTiming}
use Rattle.offset_recovery.specs.declared.outcome.WideTiming.TheVariants as wide
use Rattle.branch_and_bound.specs.declared.found.Site.{Site}
use Rattle.branch_and_bound.specs.declared.found.Stop.{Stop}
use Rattle.branch_and_bound.specs.declared.found.Stop.TheVariants.{Work, Wide}
use Rattle.branch_and_bound.specs.declared.found.Verdict.{Verdict}
use Rattle.branch_and_bound.specs.declared.found.Verdict.TheVariants.{Best, NoTiming, Stopped}
use Rattle.box_search.specs.declared.site.SitePart.{SitePart}
use Rattle.box_search.specs.declared.site.SitePart.TheVariants as part

-- ---- in a tableau of so many rows and columns
-- a column, or the bound
abbrev pub IsPlaceIn : ℕ → Place → Type 0
IsPlaceIn columns (Cell column) = column < columns
IsPlaceIn columns Bound = Unit {0}

abbrev pub IsTimingPartIn : Street → ℕ → WideTiming → Type 0
IsTimingPartIn a columns (wide.Sum link refused) = HasLink a link
IsTimingPartIn a columns (wide.Product column refused) = column < columns
IsTimingPartIn a columns (wide.Unit left right) = Unit {0}
IsTimingPartIn a columns (wide.Number column ticks) = column < columns

-- a row and a column
abbrev pub IsRatioIn : ℕ → ℕ → WideCell → Type 0
IsRatioIn rows columns cell = (cell.row < rows) × (cell.col < columns)

-- or also the goal row, after the last row, and the bound, after the last column
abbrev pub IsCellIn : ℕ → ℕ → WideCell → Type 0
IsCellIn rows columns cell = (cell.row ≤ rows) × (cell.col ≤ columns)

-- the row, the column or the link that is named is there
abbrev pub IsPartIn : Street → ℕ → ℕ → (RowId → Type 0) → SitePart → Type 0
IsPartIn a rows columns Has (part.Ratio cell) = IsRatioIn rows columns cell
IsPartIn a rows columns Has (part.Cell cell) = IsCellIn rows columns cell
IsPartIn a rows columns Has (part.LeafSum row at) = Has row × IsPlaceIn columns at.place
IsPartIn a rows columns Has (part.Timing wide) = IsTimingPartIn a columns wide

-- what is true of the site of a stop, and of a verdict, where there is one
abbrev pub StopsAt : {W : Type 0} → (Site W → Type 0) → Stop W → Type 0
StopsAt Named (Work spent) = Unit {0}
StopsAt Named (Wide site) = Named site

abbrev pub EndsAt : {W : Type 0} → (Site W → Type 0) → Verdict W → Type 0
EndsAt Named Best = Unit {0}
EndsAt Named NoTiming = Unit {0}
EndsAt Named (Stopped stop) = StopsAt Named stop
