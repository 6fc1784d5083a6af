-- Counts of failed calls. They stand in 64 bits and stop at the greatest number there.
use Rattle.std.specs.Prelude.{◌≡◌, ◌⊎◌, ℕ, ◌+◌, ◌-◌, ◌^◌, ◌≤◌, min, List}

-- the number after this one, or the last of 64 bits
abbrev pub next_count : ℕ → ℕ
next_count n = min (n + 1) (2 ^ 64 - 1)

-- a count has risen, or stands at its end
abbrev pub Rose : ℕ → ℕ → Type 0
Rose before now = next_count before ≤ now

-- no name's count has fallen
abbrev pub NoneFell : (List ℕ → ℕ) → (List ℕ → ℕ) → Type 0
NoneFell before now = (name : List ℕ) → before name ≤ now name

-- every name's count is as before
abbrev pub SameCounts : (List ℕ → ℕ) → (List ℕ → ℕ) → Type 0
SameCounts before now = (name : List ℕ) → now name ≡ before name

-- One failure was counted at this name. Every other name's count is as before, or, where one number is the count of both, goes with this one's.
pub record CountedAt (before now : List ℕ → ℕ) (name : List ℕ) : Type 0 where
  pub once : now name ≡ next_count (before name)
  pub others : (other : List ℕ) → now other ≡ before other ⊎ before other ≡ before name × now other ≡ now name
