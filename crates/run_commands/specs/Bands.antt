-- What `bands` finds of an artery and a timing.
use Rattle.std.specs.Prelude.{◌≡◌, ◌≤◌, ℕ, pos, List, ◌++◌, codes, Option, Some, None}
use Rattle.std.specs.Fmt.{decimal}
use Rattle.rational_theory.specs.Rational.{over}
use Rattle.progression.specs.Street.{Street}
use Rattle.progression.specs.TimingRecord.{TimingRecord, base}
use Rattle.progression.specs.BaseRecord.{cycle}
use Rattle.progression.specs.Good.{IsBase}
use Rattle.progression.specs.declared.parts.Dir.{Dir}
use Rattle.progression.specs.declared.parts.Dir.TheVariants.{Outbound, Inbound}
use Rattle.artery_model.specs.Valid.{IsValid}
use Rattle.time_space.specs.FirstFailing.{IsFirstBaseFailing}
use Rattle.time_space.specs.declared.failing.Failing.{Failing}
use Rattle.diagram_print.specs.Measures.{dir_name, measure_text}
use Rattle.band_measure.specs.Widest.{IsWidestBand}
use Rattle.band_measure.specs.declared.pair.Widest.{Widest}
use Rattle.run_commands.specs.Lines.{fails_line}
use Rattle.run_inputs.specs.declared.cause.Cause.{Cause}
use Rattle.run_inputs.specs.declared.cause.Cause.TheVariants as cause

-- the widest band of a direction, as a fraction of the cycle, with the tick of its first line
abbrev pub widest_line : Street → TimingRecord → Dir → Option Widest → List ℕ
widest_line a t d None = codes "no band " ++ (dir_name d ++ codes "\n")
widest_line a t d (Some w) = measure_text (codes "band " ++ dir_name d) (over (pos w.band) (cycle a (base t))) 6 ++ (codes " first " ++ (decimal w.first ++ codes "\n"))

-- the timing's base keeps its rules, and these are the widest bands of both directions
pub record IsMeasured (a : Street) (t : TimingRecord) (lines : List ℕ) : Type 0 where
  pub valid : IsValid a
  pub unit : 2 ≤ t.unit
  pub outbound : Option Widest
  pub inbound : Option Widest
  pub outbound_is : IsWidestBand a (base t) Outbound outbound
  pub inbound_is : IsWidestBand a (base t) Inbound inbound
  pub base : IsBase a (base t)
  pub lines_are : lines ≡ widest_line a t Outbound outbound ++ widest_line a t Inbound inbound

-- the base breaks one of them, and this is the first
pub record BreaksBase (a : Street) (t : TimingRecord) (f : Failing) (lines : List ℕ) : Type 0 where
  pub not_base : ¬ IsBase a (base t)
  pub first : IsFirstBaseFailing a (base t) f
  pub lines_are : lines ≡ fails_line f

abbrev pub BandsFinds : Street → TimingRecord → Cause → List ℕ → Type 0
BandsFinds a t cause.Done lines = IsMeasured a t lines
BandsFinds a t (cause.Fails f) lines = BreaksBase a t f lines
BandsFinds a t c lines = ⊥
