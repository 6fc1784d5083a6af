-- What greens and reds say in words: the reds of a cycle begin at its start, come again each cycle without end in both directions, and last so long.
use Rattle.std.specs.Prelude.{◌≡◌, ℕ, ◌<◌, ◌≤◌, ℤ, pos, ◌+ℤ◌, ◌*ℤ◌, ◌<ℤ◌, false, ◌↔◌}
use Rattle.progression.specs.Green.{since, is_green}

-- the start of a red, k cycles after this one
abbrev pub start_after : ℕ → ℤ → ℤ → ℤ
start_after cycle start k = start +ℤ k *ℤ pos cycle

-- strictly between the start and the end of the red that starts then
pub record IsInside (start : ℤ) (red : ℕ) (tick : ℤ) : Type 0 where
  pub begun : start <ℤ tick
  pub lasting : tick <ℤ (start +ℤ pos red)

-- a tick isn't green exactly where it is strictly inside a red
abbrev pub RedsAreIntervals : Type 0
RedsAreIntervals =
    (cycle : ℕ) (start : ℤ) (red : ℕ) (tick : ℤ) → 0 < cycle → red ≤ cycle
    → (is_green cycle start red tick ≡ false) ↔ ((k : ℤ) × IsInside (start_after cycle start k) red tick)

-- the last start of a red at the tick or before lies so many ticks back: fewer than a cycle
abbrev pub SinceLastStart : Type 0
SinceLastStart =
    (cycle : ℕ) (start tick : ℤ) (ago : ℕ) → 0 < cycle
    → (since cycle start tick ≡ ago) ↔ ((ago < cycle) × ((k : ℤ) × (start_after cycle start k +ℤ pos ago ≡ tick)))
