-- The first tick of a band that isn't green.
use Rattle.std.specs.Prelude.{◌≡◌, ℕ, ◌+◌, ◌%◌, ◌<◌, ◌≤◌, false, IsTrue, ℤ, pos, ◌+ℤ◌}
use Rattle.progression.specs.Green.{is_open, is_green}

-- t ticks after x is the first tick from x to x + band that isn't green
pub record IsFirstRed (cycle : ℕ) (start : ℤ) (red : ℕ) (x : ℤ) (band t : ℕ) : Type 0 where
  pub within : t ≤ band
  pub red_there : is_green cycle start red (x +ℤ pos t) ≡ false
  pub green_before : (s : ℕ) → s < t → IsTrue (is_green cycle start red (x +ℤ pos s))

-- the same, for a first tick that comes r ticks after the start of a red
pub record IsFirstShut (cycle red r band t : ℕ) : Type 0 where
  pub within : t ≤ band
  pub shut_there : is_open red ((r + t) % cycle) ≡ false
  pub open_before : (s : ℕ) → s < t → IsTrue (is_open red ((r + s) % cycle))
