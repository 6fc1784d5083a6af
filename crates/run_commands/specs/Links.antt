-- What `links` finds of an artery, what it writes, and what it puts.
use Rattle.std.specs.Prelude.{◌≡◌, ℕ, List, Option}
use Rattle.progression.specs.Street.{Street}
use Rattle.multi_band.specs.LinkTold.{LinkFound}
use Rattle.multi_band.specs.LinkCertified.{link_warrant_of}
use Rattle.multi_band.specs.LinksSearched.{IsLinksSearched}
use Rattle.multi_band.specs.LinkReport.{link_report_lines}
use Rattle.run_commands.specs.Searched.{cause_of, IsLinkTextOf}
use Rattle.run_inputs.specs.declared.cause.Cause.{Cause}

-- a search of the artery's links within the limit, its cause, the lines of its report, and the text of the very certificate that is accepted
pub record IsLinkSolution (a : Street) (limit : Option ℕ) (c : Cause) (lines certificate : List ℕ) : Type 0 where
  pub found : LinkFound
  pub searched : IsLinksSearched a limit found
  pub cause_is : c ≡ cause_of found.verdict
  pub lines_are : lines ≡ link_report_lines a found
  pub certificate_is : IsLinkTextOf certificate (link_warrant_of a found)
