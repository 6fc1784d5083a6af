-- The first refusal of an ordinary certificate.
use Rattle.progression.specs.Street.{Street}
use Rattle.progression.specs.TimingRecord.{TimingRecord}
use Rattle.progression.specs.Best.{bands_of}
use Rattle.linear_theory.specs.Boxes.{root_box}
use Rattle.linear_theory.specs.Rows.{goal_form}
use Rattle.loop_rows.specs.Writing.{written}
use Rattle.loop_rows.specs.Weights.{artery_rows}
use Rattle.time_space.specs.FirstFailing.{IsFirstFailing}
use Rattle.time_space.specs.declared.failing.Failing.{Failing}
use Rattle.certificate_model.specs.Warrants.{Warrant}
use Rattle.certificate_checker.specs.Checked.{Checked, IsFirstRefusalOf}
use Rattle.certificate_checker.specs.declared.reject.Reject.{Reject as RejectOf}

-- why one is refused
abbrev pub Reject : Type 0
Reject = RejectOf Failing

-- the timings with one band a direction
abbrev pub one_band : Street → Checked TimingRecord Failing
one_band a = record { objective = bands_of a; FailsFirst = IsFirstFailing a; root = root_box a; rows = artery_rows a; goal = written a (goal_form a) }

-- the timing breaks a rule and r names the first; or it is good, and r is the first of all others
abbrev pub IsFirstRefusal : Street → Warrant → Reject → Type 0
IsFirstRefusal a = IsFirstRefusalOf (one_band a)
