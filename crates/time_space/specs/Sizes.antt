-- Sizes that no sum or product of 128 bits leaves.
use Rattle.std.specs.Prelude.{ℤ, unsigned_abs, ◌<◌, ◌^◌}

-- below 2 ^ 100 in size
abbrev pub IsWithin : ℤ → Type 0
IsWithin z = unsigned_abs z < 2 ^ 100
