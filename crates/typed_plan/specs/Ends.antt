-- The timing of a plan, and why there is none.
use Rattle.std.specs.Prelude.{◌≡◌, ◌<◌, ◌-◌, ℕ, Option, None, Some, IfSome, unwrap_or, pos, slice_index_or}
use Rattle.rational_theory.specs.Rational.{whole}
use Rattle.progression.specs.Speeds.{seconds}
use Rattle.progression.specs.Street.{Street, HasSignal, HasLink, distance}
use Rattle.progression.specs.TimingRecord.{TimingRecord, base, banded}
use Rattle.progression.specs.BaseRecord.{BaseRecord, cycle, common_red, run}
use Rattle.progression.specs.declared.parts.Dir.{Dir}
use Rattle.progression.specs.declared.parts.Dir.TheVariants.{Outbound, Inbound}
use Rattle.artery_model.specs.Faults.{fault_of}
use Rattle.artery_model.specs.Valid.{IsValid}
use Rattle.band_measure.specs.Cut.{IsCut}
use Rattle.band_measure.specs.Widest.{IsWidestBand}
use Rattle.band_measure.specs.declared.pair.Widest.{Widest}
use Rattle.description_reader.specs.Typed.{Typed, IsTyped, measure, measured}
use Rattle.description_reader.specs.declared.measure.Measure.TheVariants.{Speed}
use Rattle.typed_plan.specs.Asked.{in_seconds, IsLeast}
use Rattle.typed_plan.specs.Counts.{count_fault}
use Rattle.typed_plan.specs.Grid.{too_fine}
use Rattle.typed_plan.specs.declared.timing.Measured.{Measured}
use Rattle.typed_plan.specs.declared.timing.TypedFault.{TypedFault}
use Rattle.typed_plan.specs.declared.timing.TypedFault.TheVariants as fault

-- two pairs, and the same with their bands cut: each keeps its first
pub record AreCut (a : Street) (there back cut_there cut_back : Widest) : Type 0 where
  pub first_out : cut_there.first ≡ there.first
  pub first_in : cut_back.first ≡ back.first
  pub bands : IsCut a (record { outbound = there.band; inbound = back.band }) (record { outbound = cut_there.band; inbound = cut_back.band })

-- what is put of the widest pairs: both cut where both directions have a line, else each as it was measured
abbrev pub ArePut : Street → Option Widest → Option Widest → Option Widest → Option Widest → Type 0
ArePut a (Some there) (Some back) (Some cut_there) (Some cut_back) = AreCut a there back cut_there cut_back
ArePut a there back put_there put_back = (put_there ≡ there) × (put_back ≡ back)

-- the pair of a direction that is put, and no line, both numbers 0, where none runs
abbrev pub pair_or_none : Option Widest → Widest
pair_or_none found = unwrap_or found (record { first = 0; band = 0 })

-- the timing of a base with a pair in each direction
abbrev pub paired : BaseRecord → Widest → Widest → TimingRecord
paired b there back = banded (pos there.first) there.band (pos back.first) back.band b

-- where there is a pair, its first and its band are below the cycle
abbrev pub IsBelow : ℕ → Option Widest → Type 0
IsBelow cycle found = IfSome found (λ (w : Widest). (w.first < cycle) × (w.band < cycle))

-- the common red starts from tick 0 on, and before the first cycle ends
pub record StartsAtOnce (a : Street) (b : BaseRecord) (i : ℕ) : Type 0 where
  pub tick : ℕ
  pub is : common_red b i ≡ pos tick
  pub below : tick < cycle a b

-- the plan's least base, the common red of signal 1 starting at tick 0, with the widest pairs on it, cut where both directions have one
pub record IsTimingOf (a : Street) (p : Typed) (m : Measured) : Type 0 where
  pub counts : count_fault a p ≡ None
  pub fine : too_fine a p ≡ None
  pub least : IsLeast a p (base m.timing)
  pub first : common_red (base m.timing) 1 ≡ pos 0
  pub reds : (i : ℕ) → HasSignal a i → StartsAtOnce a (base m.timing) i
  pub there : Option Widest
  pub back : Option Widest
  pub widest_out : IsWidestBand a (base m.timing) Outbound there
  pub widest_in : IsWidestBand a (base m.timing) Inbound back
  pub put : ArePut a there back m.outbound m.inbound
  pub pairs : m.timing ≡ paired (base m.timing) (pair_or_none m.outbound) (pair_or_none m.inbound)

-- the first number of the plan that isn't of the artery, and then the first that is too large; want of memory may come in place of any answer
abbrev pub Refuses : Street → Typed → TypedFault → Type 0
Refuses a p (fault.Refused r) = count_fault a p ≡ Some (fault_of r)
Refuses a p (fault.TooFine ticks) = (count_fault a p ≡ None) × (too_fine a p ≡ Some ticks)
Refuses a p fault.Memory = Unit {0}

-- a plan has at most one timing on an artery
abbrev pub OneTiming : Type 0
OneTiming = (a : Street) (p : Typed) (m n : Measured) → IsValid a → IsTimingOf a p m → IsTimingOf a p n → m ≡ n

-- A typed speed is that at which the timing's run takes the link: a length over a time is a speed just as a length over a speed is a time.
abbrev pub SpeedsComeBack : Type 0
SpeedsComeBack = (a : Street) (p : Typed) (m : Measured) (d : Dir) (i : ℕ) → IsValid a → IsTyped p → IsTimingOf a p m → HasLink a i → measure p d ≡ Speed
    → seconds a.head.units (distance a d i) (in_seconds (base m.timing) (pos (run (base m.timing) d i))) ≡ slice_index_or (measured p d) (i - 1) (whole (pos 0))
