-- A plan as people type it: the cycle, the offsets, the patterns, and of each link and direction how fast it is gone or how long that takes.
use Rattle.std.specs.Prelude.{◌≡◌, ◌⊎◌, ◌≤◌, ◌^◌, ℕ, List, map, All, Bool, Option, unwrap_or, ℤ, pos, ◌*ℤ◌, ◌≤ℤ◌, codes, if◌then◌else◌}
use Rattle.toml.specs.Data.{Data}
use Rattle.rational_theory.specs.Rational.{ℚ}
use Rattle.artery_model.specs.Bounds.{least_cycle, most_cycle, least_speed, most_speed}
use Rattle.artery_model.specs.Faults.{Fault, first_fault}
use Rattle.artery_model.specs.Valid.{IsQuantity}
use Rattle.progression.specs.declared.parts.Dir.{Dir}
use Rattle.progression.specs.declared.parts.Dir.TheVariants.{Outbound, Inbound}
use Rattle.description_reader.specs.Quantity.{number_in, integer_in}
use Rattle.description_reader.specs.References.{reference_named}
use Rattle.description_reader.specs.Values.{at_key, items_in, text_in}
use Rattle.description_reader.specs.KeyTable.{most_travel}
use Rattle.description_reader.specs.Judgement.{facts_of, value_tests}
use Rattle.description_reader.specs.Streets.{u32_or_zero}
use Rattle.description_reader.specs.Described.{IsReadBy, IsRefusedBy}
use Rattle.description_reader.specs.declared.judge.Form.TheVariants as form
use Rattle.description_reader.specs.declared.measure.Reference.{Reference}
use Rattle.description_reader.specs.declared.measure.Reference.TheVariants.{Red}
use Rattle.description_reader.specs.declared.measure.Measure.{Measure}
use Rattle.description_reader.specs.declared.measure.Measure.TheVariants.{Speed, Travel}

pub record Typed : Type 0 where
  pub cycle : ℚ  -- seconds
  pub offsets : List ℚ  -- each signal's, in seconds
  pub reference : Reference  -- the moment of a signal's cycle from which its offset counts
  pub patterns : List ℕ
  pub measure_out : Measure  -- what the numbers of the links are
  pub out : List ℚ
  pub measure_in : Measure
  pub back : List ℚ

abbrev pub measure : Typed → Dir → Measure
measure p Outbound = p.measure_out
measure p Inbound = p.measure_in

-- the speeds, or the times of travel, of the links in order
abbrev pub measured : Typed → Dir → List ℚ
measured p Outbound = p.out
measured p Inbound = p.back

-- ---- limits
-- a number between two whole numbers, as fine as a quantity can be written
pub record IsWritten (low high : ℤ) (q : ℚ) : Type 0 where
  pub den : q.den ≤ 10 ^ 18
  pub least : (low *ℤ pos q.den) ≤ℤ q.num
  pub most : q.num ≤ℤ (high *ℤ pos q.den)

abbrev pub IsMeasured : Measure → ℚ → Type 0
IsMeasured Speed q = IsWritten least_speed most_speed q
IsMeasured Travel q = IsQuantity (pos 0) most_travel q

-- what the type of a plan keeps
pub record IsTyped (p : Typed) : Type 0 where
  pub cycle : IsQuantity least_cycle most_cycle p.cycle
  pub offsets : All (IsQuantity (pos 0) most_cycle) p.offsets
  pub patterns : All (λ n. (1 ≤ n) × (n ≤ 4)) p.patterns
  pub out : All (IsMeasured p.measure_out) p.out
  pub back : All (IsMeasured p.measure_in) p.back

-- ---- the plan that values make
-- a text that names none is a fault of the plan, and so is no text but where the key is absent
abbrev pub reference_of : List ℕ → Reference
reference_of text = unwrap_or (reference_named text) Red

abbrev pub measure_of : Bool → Measure
measure_of timed = if timed then Travel else Speed

abbrev pub numbers_at : Data → List ℕ → List ℚ
numbers_at d name = map number_in (items_in (at_key d name))

abbrev pub patterns_at : Data → List ℕ → List ℕ
patterns_at d name = map (λ v. u32_or_zero (integer_in v)) (items_in (at_key d name))

-- the table `plan`, where it gives times of travel outbound, and inbound
abbrev pub plan_in : Bool → Bool → Data → Typed
plan_in timed_out timed_in d = record {
  cycle = number_in (at_key d (codes "cycle"));
  offsets = numbers_at d (codes "offset");
  reference = reference_of (text_in (at_key d (codes "reference")));
  patterns = patterns_at d (codes "patterns");
  measure_out = measure_of timed_out;
  out = numbers_at d (if timed_out then codes "travel_out" else codes "speed_out");
  measure_in = measure_of timed_in;
  back = numbers_at d (if timed_in then codes "travel_in" else codes "speed_in");
}

abbrev pub typed_in : Data → Typed
typed_in root = plan_in (facts_of root).timed_out (facts_of root).timed_in (at_key root (codes "plan"))

-- ---- readings
abbrev pub plan_fault : Data → Option Fault
plan_fault root = first_fault (value_tests form.Plan root)

-- the bytes give this plan
abbrev pub GivesPlan : List ℕ → Typed → Type 0
GivesPlan x p = IsReadBy plan_fault typed_in x p

-- and this is the fault of bytes that give none
abbrev pub GivesNone : List ℕ → Fault → Type 0
GivesNone x f = IsRefusedBy plan_fault x f

-- no bytes both give a plan and are refused, and any bytes give at most one plan and have at most one fault
pub record OneTyped : Type 0 where
  pub apart : (x : List ℕ) (p : Typed) (f : Fault) → GivesPlan x p → GivesNone x f → ⊥
  pub plan : (x : List ℕ) (p q : Typed) → GivesPlan x p → GivesPlan x q → p ≡ q
  pub fault : (x : List ℕ) (f g : Fault) → GivesNone x f → GivesNone x g → f ≡ g

-- any bytes give a plan or are refused
abbrev pub SomeTyped : Type 0
SomeTyped = (x : List ℕ) → ((p : Typed) × GivesPlan x p) ⊎ ((f : Fault) × GivesNone x f)
