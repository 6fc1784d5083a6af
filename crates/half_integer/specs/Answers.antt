-- For which timings there are half-cycle plans, and what each refusal says: a rule of the base before uneven signals, these
-- before unequal links, and these before numbers that are too large.
use Rattle.std.specs.Prelude.{◌≡◌, ℕ, None, Some}
use Rattle.progression.specs.Street.{Street, HasSignal, HasLink}
use Rattle.progression.specs.TimingRecord.{TimingRecord, base}
use Rattle.progression.specs.Good.{IsBase}
use Rattle.time_space.specs.FirstFailing.{IsFirstBaseFailing}
use Rattle.half_integer.specs.TooFine.{first_too_fine}
use Rattle.half_integer.specs.Uneven.{IsUneven, IsFirstUneven, IsEqualLink, IsFirstUnequal}
use Rattle.half_integer.specs.declared.end.HalfEnd.{HalfEnd}
use Rattle.half_integer.specs.declared.end.HalfEnd.TheVariants as end
use Rattle.half_integer.specs.declared.plan.HalfFault.{HalfFault}
use Rattle.half_integer.specs.declared.plan.HalfFault.TheVariants as fault

-- no signal is uneven, no link unequal, and every number fits on the doubled grid
pub record IsReady (a : Street) (t : TimingRecord) : Type 0 where
  pub level : (i : ℕ) → HasSignal a i → ¬ IsUneven a t i
  pub equal : (i : ℕ) → HasLink a i → IsEqualLink a t i
  pub fits : first_too_fine a t ≡ None

abbrev pub Ends : Street → TimingRecord → HalfEnd → Type 0
Ends a t (end.Uneven i) = IsFirstUneven a t i
Ends a t (end.Unequal i) = ((k : ℕ) → HasSignal a k → ¬ IsUneven a t k) × IsFirstUnequal a t i
Ends a t (end.TooFine n) = ((k : ℕ) → HasSignal a k → ¬ IsUneven a t k) × ((k : ℕ) → HasLink a k → IsEqualLink a t k) × (first_too_fine a t ≡ Some n)

-- the first rule of its base that fails, or the end of a timing whose base keeps them all
abbrev pub Refuses : Street → TimingRecord → HalfFault → Type 0
Refuses a t (fault.Fails f) = (¬ IsBase a (base t)) × IsFirstBaseFailing a (base t) f
Refuses a t (fault.End e) = IsBase a (base t) × Ends a t e
Refuses a t fault.Memory = Unit {0}

-- one end at most comes, and none where there is a half-cycle plan to look for
pub record OneEnd : Type 0 where
  pub once : (a : Street) (t : TimingRecord) (e f : HalfEnd) → Ends a t e → Ends a t f → e ≡ f
  pub not_ready : (a : Street) (t : TimingRecord) (e : HalfEnd) → Ends a t e → ¬ IsReady a t
