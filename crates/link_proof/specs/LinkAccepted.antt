-- Accepted link certificates: the link timing is good and has the claimed value, and the tree of boxes proves the claim, leaf by leaf.
use Rattle.std.specs.Prelude.{Option}
use Rattle.rational_theory.specs.Rational.{ℚ}
use Rattle.progression.specs.Street.{Street}
use Rattle.linear_theory.specs.Boxes.{root_box}
use Rattle.certificate_checker.specs.Checked.{Checked, aim_at, IsAcceptedOf}
use Rattle.certificate_checker.specs.declared.leaves.Aim.{Aim}
use Rattle.link_theory.specs.LinkRecord.{LinkRecord}
use Rattle.link_theory.specs.BestLinks.{links_of}
use Rattle.link_space.specs.FirstLinkFailing.{IsFirstLinkFailing}
use Rattle.link_space.specs.LinkSheets.{link_goal_sheet}
use Rattle.link_space.specs.LinkWeights.{link_rows}
use Rattle.link_space.specs.declared.failing.LinkFailing.{LinkFailing}
use Rattle.link_proof.specs.LinkWarrants.{LinkWarrant}

-- the timings with a band for each link
abbrev pub of_links : Street → Checked LinkRecord LinkFailing
of_links a = record { objective = links_of a; FailsFirst = IsFirstLinkFailing a; root = root_box a; rows = link_rows a; goal = link_goal_sheet a }

-- what each leaf is to show: that its box has no link timing, or that no value is above the limit
abbrev pub link_aim : Street → Option ℚ → Aim
link_aim a = aim_at (of_links a)

abbrev pub IsLinkAccepted : Street → LinkWarrant → Type 0
IsLinkAccepted a = IsAcceptedOf (of_links a)
