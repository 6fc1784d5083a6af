-- What `half` finds of an artery and a timing, what it writes, and what it puts.
use Rattle.std.specs.Prelude.{◌≡◌, ◌⊎◌, ℕ, List, ◌++◌, codes, Bool, true, false, Option, Some, None, Ok}
use Rattle.std.specs.List.{flat_map, range_with_len}
use Rattle.std.specs.Fmt.{decimal}
use Rattle.progression.specs.Street.{Street, count}
use Rattle.progression.specs.TimingRecord.{TimingRecord, base}
use Rattle.progression.specs.Good.{IsBase}
use Rattle.progression.specs.declared.parts.Dir.TheVariants.{Outbound}
use Rattle.plan_text.specs.Spelling.{timing_text}
use Rattle.plan_text.specs.Reading.{timing_of}
use Rattle.timing_measures.specs.Measures.{band_share}
use Rattle.diagram_print.specs.Measures.{measure_line}
use Rattle.mirror_theory.specs.EqualBands.{HasNone, IsHalfCycleBest}
use Rattle.half_integer.specs.Phases.{is_later}
use Rattle.half_integer.specs.Answers.{IsReady, Ends}
use Rattle.half_integer.specs.declared.end.HalfEnd.{HalfEnd}
use Rattle.half_integer.specs.declared.end.HalfEnd.TheVariants as end
use Rattle.run_inputs.specs.Puts.{With}
use Rattle.run_commands.specs.Bands.{BreaksBase}
use Rattle.run_inputs.specs.declared.cause.Cause.{Cause}
use Rattle.run_inputs.specs.declared.cause.Cause.TheVariants as cause

-- ---- the lines
abbrev pub phase_name : Bool → List ℕ
phase_name true = codes "1"
phase_name false = codes "0"

-- whether the red of signal i is centred with that of signal 1, or half a cycle later
abbrev pub phase_line : Street → TimingRecord → ℕ → List ℕ
phase_line a s i = codes "signal " ++ (decimal i ++ (codes " half " ++ (phase_name (is_later a s i) ++ codes "\n")))

abbrev pub phase_lines : Street → TimingRecord → List ℕ
phase_lines a s = flat_map (phase_line a s) (range_with_len 1 (count a))

abbrev pub half_lines : Street → TimingRecord → List ℕ
half_lines a s = measure_line (codes "equal band") (band_share a s Outbound) 6 ++ phase_lines a s

-- so many ticks, too many for a timing
abbrev pub ticks_line : ℕ → List ℕ
ticks_line n = codes "ticks " ++ (decimal n ++ codes "\n")

abbrev pub end_line : HalfEnd → List ℕ
end_line (end.Uneven i) = codes "uneven signal " ++ (decimal i ++ codes "\n")
end_line (end.Unequal i) = codes "unequal link " ++ (decimal i ++ codes "\n")
end_line (end.TooFine n) = ticks_line n

-- ---- the answer
-- the widest equal bands over all offsets, and the text of the timing that has them, which is read back
pub record IsHalfPlan (a : Street) (t : TimingRecord) (lines text : List ℕ) : Type 0 where
  pub made : TimingRecord
  pub best : IsHalfCycleBest a t made
  pub lines_are : lines ≡ half_lines a made
  pub written : text ≡ timing_text made
  pub read_back : timing_of text ≡ Ok made

-- its lines, and its text, which is put
pub record TellsPlan (a : Street) (made : TimingRecord) (c : Cause) (lines : List ℕ) (put : Option (List ℕ)) : Type 0 where
  pub cause_is : c ≡ cause.Done
  pub lines_are : lines ≡ half_lines a made
  pub put_is : put ≡ Some (timing_text made)
  pub read_back : timing_of (timing_text made) ≡ Ok made

-- no offsets on any grid have equal bands, and nothing is put
pub record HasNoHalfPlan (a : Street) (t : TimingRecord) (lines : List ℕ) (put : Option (List ℕ)) : Type 0 where
  pub none : HasNone a t
  pub lines_are : lines ≡ codes "no equal band\n"
  pub no_put : put ≡ None

-- the timing's base keeps its rules, and it can have such plans
pub record IsHalved (a : Street) (t : TimingRecord) (lines : List ℕ) (put : Option (List ℕ)) : Type 0 where
  pub base : IsBase a (base t)
  pub ready : IsReady a t
  pub found : HasNoHalfPlan a t lines put ⊎ With (IsHalfPlan a t lines) put

-- the base keeps them and the timing can have none, for this first reason
pub record IsUnmatched (a : Street) (t : TimingRecord) (e : HalfEnd) (lines : List ℕ) (put : Option (List ℕ)) : Type 0 where
  pub base : IsBase a (base t)
  pub first : Ends a t e
  pub lines_are : lines ≡ end_line e
  pub no_put : put ≡ None

abbrev pub HalfFinds : Street → TimingRecord → Cause → List ℕ → Option (List ℕ) → Type 0
HalfFinds a t cause.Done lines put = IsHalved a t lines put
HalfFinds a t (cause.Fails f) lines put = BreaksBase a t f lines × (put ≡ None)
HalfFinds a t (cause.Unmatched e) lines put = IsUnmatched a t e lines put
HalfFinds a t c lines put = ⊥
