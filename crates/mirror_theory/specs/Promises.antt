-- What half-integer synchronisation promises: reds centred in phase or half a cycle apart are enough, on a grid that is twice as
-- fine, and each signal may choose its phase by itself.
use Rattle.std.specs.Prelude.{ℕ, ◌≤◌, ◌⊎◌, ◌↔◌, ℤ, pos, ◌+ℤ◌}
use Rattle.progression.specs.Street.{Street, HasSignal}
use Rattle.progression.specs.TimingRecord.{TimingRecord, base}
use Rattle.progression.specs.BaseRecord.{cycle}
use Rattle.progression.specs.declared.parts.Dir.{Dir}
use Rattle.artery_model.specs.Valid.{IsValid}
use Rattle.mirror_theory.specs.EqualBands.{IsEven, IsCentred, HasNone, IsHalfCycleBest}
use Rattle.mirror_theory.specs.Runs.{wait_in_phase, Runs, IsWidest, candidate}
use Rattle.mirror_theory.specs.Built.{IsBuilt}

-- an artery's timing whose signals have one red each, and whose links take as long in both directions
pub record IsSubject (a : Street) (t : TimingRecord) : Type 0 where
  pub valid : IsValid a
  pub unit : 2 ≤ t.unit
  pub even : IsEven a t

pub record RunsAtCandidate (a : Street) (t : TimingRecord) (b : ℕ) : Type 0 where
  pub signal : ℕ
  pub there : HasSignal a signal
  pub runs : Runs a t (candidate a t signal 0) b ⊎ Runs a t (candidate a t signal (cycle a (base t))) b

pub record HalfCyclesSuffice : Type 0 where
  -- where no band runs on the doubled grid, no offsets on any grid have equal bands
  pub none : (a : Street) (t : TimingRecord) → IsSubject a t → ((x : ℤ) → ¬ Runs a t x 0) → HasNone a t
  -- a timing built from a widest band that runs, with signal 1 in phase, is best of all
  pub best : (a : Street) (t : TimingRecord) → IsSubject a t → (x : ℤ) (b : ℕ) → Runs a t x b → IsWidest a t b → wait_in_phase a t x 1 0 ≤ wait_in_phase a t x 1 (cycle a (base t))
      → (s : TimingRecord) → IsBuilt a t x b s → IsHalfCycleBest a t s
  -- half a cycle later a band runs as well, and puts signal 1 in phase where it wasn't
  pub turned : (a : Street) (t : TimingRecord) → IsSubject a t → (x : ℤ) (b : ℕ) → Runs a t x b → Runs a t (x +ℤ pos (cycle a (base t))) b
  -- where a band runs, one as wide runs on a line that crosses some signal at the end of its red
  pub candidates : (a : Street) (t : TimingRecord) → IsSubject a t → (x : ℤ) (b : ℕ) → Runs a t x b → RunsAtCandidate a t b
  -- a red of such a timing is centred half a cycle after 0 exactly where it isn't centred at 0
  pub phases : (a : Street) (t : TimingRecord) → IsSubject a t → (s : TimingRecord) → IsHalfCycleBest a t s → (d : Dir) (i : ℕ) → HasSignal a i
      → IsCentred a s d i (pos (cycle a (base t))) ↔ ¬ IsCentred a s d i (pos 0)
