-- What `hold` finds of an artery and a timing.
use Rattle.std.specs.Prelude.{◌≡◌, ℕ, List, Option, None, Some, MatchOption, codes}
use Rattle.progression.specs.Street.{Street}
use Rattle.progression.specs.TimingRecord.{TimingRecord}
use Rattle.progression.specs.Good.{Good}
use Rattle.progression.specs.Best.{weighted_band}
use Rattle.time_space.specs.FirstFailing.{IsFirstFailing}
use Rattle.time_space.specs.declared.failing.Failing.{Failing}
use Rattle.run_commands.specs.Lines.{holds_lines, fails_line}
use Rattle.run_inputs.specs.declared.cause.Cause.{Cause}
use Rattle.run_inputs.specs.declared.cause.Cause.TheVariants as cause

-- the timing is good on the artery, and its weighted band is printed; or this is the first rule that it breaks
abbrev pub HoldFinds : Street → TimingRecord → Cause → List ℕ → Type 0
HoldFinds a t cause.Done lines = Good a t × (lines ≡ holds_lines (weighted_band a t))
HoldFinds a t (cause.Fails f) lines = IsFirstFailing a t f × (lines ≡ fails_line f)
HoldFinds a t c lines = ⊥

-- ---- the verdict alone
-- the first rule that the timing breaks, none where it is good
abbrev pub IsJudged : Street → TimingRecord → Option Failing → Type 0
IsJudged a t broken = MatchOption broken (Good a t) (IsFirstFailing a t)

abbrev pub verdict_line : Option Failing → List ℕ
verdict_line None = codes "holds\n"
verdict_line (Some f) = fails_line f
