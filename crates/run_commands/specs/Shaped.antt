-- What is found of an artery and a file with a timing, by a command that asks of the timing its number of signals alone.
use Rattle.std.specs.Prelude.{◌≡◌, ℕ, List, length, Option, Some, None}
use Rattle.progression.specs.Street.{Street, count}
use Rattle.progression.specs.TimingRecord.{TimingRecord}
use Rattle.time_space.specs.FirstFailing.{IsFirstFailing}
use Rattle.time_space.specs.declared.failing.Failing.{Failing}
use Rattle.time_space.specs.declared.failing.Failing.TheVariants as failing
use Rattle.run_inputs.specs.Puts.{With}
use Rattle.run_inputs.specs.declared.cause.Cause.{Cause}
use Rattle.run_inputs.specs.declared.cause.Cause.TheVariants as cause
use Rattle.run_commands.specs.Lines.{fails_line, untimed_line}
use Rattle.run_commands.specs.Hold.{IsJudged}

-- the timing has the artery's number of signals, and this text is made of it; the lines tell the rule that it breaks first, where it breaks one
pub record IsMade (a : Street) (t : TimingRecord) (tells : Option Failing → List ℕ) (made lines text : List ℕ) : Type 0 where
  pub shape : length t.patterns ≡ count a
  pub broken : Option Failing
  pub judged : IsJudged a t broken
  pub lines_are : lines ≡ tells broken
  pub text_is : text ≡ made

-- so, or it has another number of signals, and nothing is put
abbrev pub ShapedFinds : Street → TimingRecord → (Option Failing → List ℕ) → List ℕ → Cause → List ℕ → Option (List ℕ) → Type 0
ShapedFinds a t tells made cause.Done lines put = With (IsMade a t tells made lines) put
ShapedFinds a t tells made (cause.Fails f) lines put = (f ≡ failing.Shape) × IsFirstFailing a t failing.Shape × (lines ≡ fails_line failing.Shape) × (put ≡ None)
ShapedFinds a t tells made c lines put = ⊥

-- nothing is made of a certificate without a timing
abbrev pub UntimedFinds : Cause → List ℕ → Option (List ℕ) → Type 0
UntimedFinds c lines put = (c ≡ cause.Untimed) × (lines ≡ untimed_line) × (put ≡ None)

-- of the timing that the file has, where it has one
abbrev pub TimedFinds : Street → (TimingRecord → Option Failing → List ℕ) → (TimingRecord → List ℕ) → Option TimingRecord → Cause → List ℕ → Option (List ℕ) → Type 0
TimedFinds a tells made None c lines put = UntimedFinds c lines put
TimedFinds a tells made (Some t) c lines put = ShapedFinds a t (tells t) (made t) c lines put
