-- A row of links as it is written is as a filled one must be.
use Rattle.progression.specs.Street.{Street}
use Rattle.linear_theory.specs.Boxes.{Area}
use Rattle.link_theory.specs.LinkNames.{LinkName, HasLinkRow}
use Rattle.link_space.specs.LinkSheets.{link_sheet, IsFilledLinks}
use Rattle.link_space.specs.laws.LinkSheets.{link_sheet_unspent, link_sheet_met}

pub link_sheet_filled : (a : Street) (box : Area) (n : LinkName) → HasLinkRow a n → IsFilledLinks a box (link_sheet a box n)
link_sheet_filled a box n h = record { unspent = link_sheet_unspent a box n; met = λ x p. link_sheet_met a box x n p h }
