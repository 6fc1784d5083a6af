-- What holds of the text of a kind of timing, and gives certificates of that kind the laws of their texts.
use Rattle.std.proofs.Common.{◌≡◌, ℕ, ◌+◌, List, Ok}
use Rattle.plan_text.specs.TimingTexts.{TimingText, one_band}
use Rattle.plan_text.proofs.WordLines.{ended_and}
use Rattle.plan_text.proofs.TextLaws.{IsTextOf}
use Rattle.plan_text.proofs.Timings.{timing_numbers_take, timing_numbers_again}
use Rattle.plan_text.proofs.Grown.{one_and}
use Rattle.plan_text.proofs.GrownTimings.{Reads, timing_read}

pub record TimingLaws {T : Type 0} (text : TimingText T) : Type 0 where
  -- what is read is spelled so, and the program can hold it
  pub takes : (line : ℕ) (bytes : List ℕ) (x : T × List ℕ) → text.read line bytes ≡ Ok x → IsTextOf text bytes x
  -- what is spelled so is read
  pub again : (line : ℕ) (t : T) (rest : List ℕ) → text.IsHeld t → text.read line (ended_and (text.lines t) rest) ≡ Ok (t, rest)
  -- and the same with more bytes
  pub reads : (line : ℕ) → Reads line (one_and (line + text.height)) (text.read line)

pub one_band_laws : TimingLaws one_band
one_band_laws = record { takes = timing_numbers_take; again = timing_numbers_again; reads = timing_read }
