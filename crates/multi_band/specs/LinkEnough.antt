-- How many units of work are enough for an artery's links, and when a search of them may stop by work.
use Rattle.std.specs.Prelude.{ℕ, Option}
use Rattle.progression.specs.Street.{Street}
use Rattle.linear_theory.specs.Boxes.{root_box}
use Rattle.branch_and_bound.specs.declared.found.Verdict.{Verdict}
use Rattle.box_search.specs.declared.site.SitePart.{SitePart}
use Rattle.box_search.specs.Enough.{sets_in, enough_for, IsWithin}
use Rattle.multi_band.specs.LinkProgram.{link_program}

-- as for an artery, with the rows and columns of links
abbrev pub link_enough_of : Street → ℕ
link_enough_of a = enough_for (root_box a) (sets_in (link_program a))

-- a stop by work comes only where there is a limit, and it is less than enough
abbrev pub IsWithinLinkEnough : Street → Option ℕ → Verdict SitePart → Type 0
IsWithinLinkEnough a = IsWithin (link_enough_of a)
