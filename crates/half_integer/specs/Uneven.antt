-- The first signal whose reds aren't one interval, and the first link on which the directions take unequal times.
use Rattle.std.specs.Prelude.{◌≡◌, ◌≢◌, ◌↔◌, ◌⊎◌, ℕ, ◌<◌, ◌≤◌}
use Rattle.progression.specs.Street.{Street, HasSignal, HasLink, left_against}
use Rattle.progression.specs.TimingRecord.{TimingRecord, base}
use Rattle.progression.specs.BaseRecord.{pattern_of}
use Rattle.progression.specs.declared.parts.Dir.TheVariants.{Outbound, Inbound}
use Rattle.mirror_theory.specs.EqualBands.{IsOneRed, travel}

-- the left turns go before the common red of one direction and after it of the other
abbrev pub IsSplit : ℕ → Type 0
IsSplit pattern = (pattern ≡ 1) ⊎ (pattern ≡ 2)

-- its left turns differ in length, or they are as long and go at different times
abbrev pub IsUneven : Street → TimingRecord → ℕ → Type 0
IsUneven a t i = (left_against a Outbound i ≢ left_against a Inbound i)
    ⊎ ((left_against a Outbound i ≡ left_against a Inbound i) × (left_against a Outbound i ≢ 0) × IsSplit (pattern_of (base t) i))

-- such signals are those whose reds aren't one interval
abbrev pub UnevenIsTwoReds : Type 0
UnevenIsTwoReds = (a : Street) (t : TimingRecord) (i : ℕ) → 1 ≤ t.unit → 1 ≤ pattern_of (base t) i → pattern_of (base t) i ≤ 4 → IsUneven a t i ↔ ¬ IsOneRed a t i

pub record IsFirstUneven (a : Street) (t : TimingRecord) (i : ℕ) : Type 0 where
  pub there : HasSignal a i
  pub uneven : IsUneven a t i
  pub before : (k : ℕ) → 1 ≤ k → k < i → ¬ IsUneven a t k

-- both directions take as long on the link
abbrev pub IsEqualLink : Street → TimingRecord → ℕ → Type 0
IsEqualLink a t i = travel a t Outbound i ≡ travel a t Inbound i

pub record IsFirstUnequal (a : Street) (t : TimingRecord) (i : ℕ) : Type 0 where
  pub there : HasLink a i
  pub unequal : ¬ IsEqualLink a t i
  pub before : (k : ℕ) → 1 ≤ k → k < i → IsEqualLink a t k
