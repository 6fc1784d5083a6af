-- What `solve` finds of an artery, what it writes, and what it puts.
use Rattle.std.specs.Prelude.{◌≡◌, ℕ, List, Option}
use Rattle.progression.specs.Street.{Street}
use Rattle.branch_tree.specs.Told.{Found}
use Rattle.branch_tree.specs.Certified.{warrant_of}
use Rattle.diagram_print.specs.Report.{report_lines}
use Rattle.branch_tree.specs.Searched.{IsSearched}
use Rattle.run_commands.specs.Searched.{cause_of, IsTextOf}
use Rattle.run_inputs.specs.declared.cause.Cause.{Cause}

-- a search of the artery within the limit, its cause, the lines of its report, and the text of the very certificate that is accepted
pub record IsSolution (a : Street) (limit : Option ℕ) (c : Cause) (lines certificate : List ℕ) : Type 0 where
  pub found : Found
  pub searched : IsSearched a limit found
  pub cause_is : c ≡ cause_of found.verdict
  pub lines_are : lines ≡ report_lines a found
  pub certificate_is : IsTextOf certificate (warrant_of a found)
