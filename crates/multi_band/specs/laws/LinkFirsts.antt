-- The opening of each box of links is a tableau that steps may begin from.
use Rattle.progression.specs.Street.{Street, count}
use Rattle.artery_model.specs.Valid.{IsValid}
use Rattle.link_theory.specs.LinkColumns.{link_width}
use Rattle.link_theory.specs.LinkRows.{link_goal}
use Rattle.branch_and_bound.specs.Lines.{BoxLine}
use Rattle.box_search.specs.Program.{IsFirst}
use Rattle.multi_band.specs.LinkTables.{link_box_rows}
use Rattle.multi_band.specs.LinkOpening.{link_opening}
use Rattle.multi_band.specs.laws.LinkOpenings.{width-link_opening, link_opening_dual, link_opening_stands}

pub links_first : (a : Street) → IsValid a → (line : BoxLine) → IsFirst (link_box_rows a line.area) (link_goal a) (link_width (count a)) (link_opening a line.area)
links_first a v line = record { columns_are = width-link_opening a line.area v; dual = link_opening_dual a line.area v; stands = link_opening_stands a line.area v }
