-- What it means that a text's first bad line is named. Lines count from 1, and a line ends with a line feed, the byte 10.
use Rattle.std.specs.Prelude.{◌≡◌, ℕ, suc, ◌+◌, ◌<◌, ◌≤◌, ◌==◌, List, [], ◌∷◌, ◌++◌, Result, Ok, Err, if◌then◌else◌}
use Rattle.progression.specs.TimingRecord.{TimingRecord}
use Rattle.plan_text.specs.declared.fault.TextFault.TheVariants.{Ended}
use Rattle.plan_text.specs.declared.fault.BadText.{BadText}
use Rattle.plan_text.specs.Spelling.{timing_text, IsHeld}
use Rattle.plan_text.specs.Lines.{fault}
use Rattle.plan_text.specs.Reading.{timing_of}
use Rattle.certificate_model.specs.Warrants.{Warrant}
use Rattle.plan_text.specs.CertificateText.{IsHeldWarrant}
use Rattle.plan_text.specs.FirstText.{certificate_text}
use Rattle.plan_text.specs.SecondText.{second_text}
use Rattle.plan_text.specs.CertificateReading.{certificate_of}

-- how many whole lines a text has
abbrev pub lines_in : List ℕ → ℕ
lines_in [] = 0
lines_in (b ∷ bs) = if b == 10 then suc (lines_in bs) else lines_in bs

-- nothing is wrong with a text so far, unless that it goes on: the line with this number is missing
abbrev pub StandsUpTo : {A : Type 0} → ℕ → Result A BadText → Type 0
StandsUpTo line (Ok x) = Unit {0}
StandsUpTo line (Err b) = b ≡ record { line = line; kind = Ended }

-- each answer of a reader names the first bad line
pub record NamesFirstBad {A : Type 0} (read : List ℕ → Result A BadText) : Type 0 where
  -- a line that is missing is the one after all whole lines
  pub missing : (text : List ℕ) (line : ℕ) → read text ≡ fault line Ended → line ≡ lines_in text + 1
  -- any other bad line is one of the text's
  pub there : (text : List ℕ) (b : BadText) → read text ≡ Err b → (b.kind ≡ Ended → ⊥) → (1 ≤ b.line) × (b.line ≤ lines_in text)
  -- the lines before it stand as they may: a text that ends before the bad line does is good so far
  pub before : (start rest : List ℕ) (b : BadText) → read (start ++ rest) ≡ Err b → lines_in start < b.line → StandsUpTo (lines_in start + 1) (read start)
  -- the bad line doesn't: whatever follows it, the answer is the same
  pub here : (start rest other : List ℕ) (b : BadText) → read (start ++ rest) ≡ Err b → b.line ≤ lines_in start → read (start ++ other) ≡ Err b

pub record FirstBad : Type 0 where
  pub timing : NamesFirstBad timing_of
  pub certificate : NamesFirstBad certificate_of
  -- so the text of no timing, and of no certificate, begins with the lines up to a bad one
  pub no_timing : (start rest other : List ℕ) (b : BadText) (t : TimingRecord) → timing_of (start ++ rest) ≡ Err b → b.line ≤ lines_in start → IsHeld t → timing_text t ≡ start ++ other → ⊥
  pub no_certificate : (start rest other : List ℕ) (b : BadText) (c : Warrant) → certificate_of (start ++ rest) ≡ Err b → b.line ≤ lines_in start → IsHeldWarrant c → certificate_text c ≡ start ++ other → ⊥
  pub no_second : (start rest other : List ℕ) (b : BadText) (c : Warrant) → certificate_of (start ++ rest) ≡ Err b → b.line ≤ lines_in start → IsHeldWarrant c → second_text c ≡ start ++ other → ⊥
