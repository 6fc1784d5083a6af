-- How certificates spell their timings. There are timings of several kinds, and all else of a certificate is the same for each.
use Rattle.std.specs.Prelude.{ℕ, List, Result}
use Rattle.progression.specs.TimingRecord.{TimingRecord}
use Rattle.plan_text.specs.declared.fault.BadText.{BadText}
use Rattle.plan_text.specs.Spelling.{number_lines, IsHeld}
use Rattle.plan_text.specs.Reading.{timing_at}

-- the text of the timings of a kind
pub record TimingText (T : Type 0) : Type 1 where
  pub lines : T → List (List ℕ)  -- a timing's lines
  pub height : ℕ  -- how many these are
  pub read : ℕ → List ℕ → Result (T × List ℕ) BadText  -- the timing of the lines from the one with this number on, and what follows them
  pub IsHeld : T → Type 0  -- the program can hold it

-- timings with one band a direction
abbrev pub one_band : TimingText TimingRecord
one_band = record { lines = number_lines; height = 8; read = timing_at; IsHeld = IsHeld }
