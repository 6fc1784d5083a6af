-- How many units of work are enough for an artery, and when a search of it may stop by work.
use Rattle.std.specs.Prelude.{ℕ, Option}
use Rattle.progression.specs.Street.{Street}
use Rattle.linear_theory.specs.Boxes.{root_box}
use Rattle.branch_and_bound.specs.declared.found.Verdict.{Verdict}
use Rattle.box_search.specs.declared.site.SitePart.{SitePart}
use Rattle.branch_tree.specs.ArteryProgram.{program_of}
use Rattle.box_search.specs.Enough.{sets_in, enough_for, IsWithin}

abbrev pub sets_of : Street → ℕ
sets_of a = sets_in (program_of a)

abbrev pub enough_of : Street → ℕ
enough_of a = enough_for (root_box a) (sets_of a)

abbrev pub IsWithinEnough : Street → Option ℕ → Verdict SitePart → Type 0
IsWithinEnough a = IsWithin (enough_of a)
