-- The draws of a seed: a linear congruential generator modulo 2^64 with the multiplier and the increment of Knuth's MMIX.
use Rattle.std.specs.Prelude.{ℕ, zero, suc, ◌+◌, ◌*◌, ◌/◌, ◌%◌, ◌^◌}

-- the state that follows a state
abbrev pub next_state : ℕ → ℕ
next_state x = (x * 6364136223846793005 + 1442695040888963407) % 2 ^ 64

-- the state after k draws
unfoldable pub state : ℕ → ℕ → ℕ
state seed zero = seed
state seed (suc k) = next_state (state seed k)

-- the 31 high bits of a state
abbrev pub high_bits : ℕ → ℕ
high_bits x = x / 2 ^ 33

-- draw k, counted from 1, of the numbers below m
abbrev pub draw : ℕ → ℕ → ℕ → ℕ
draw seed k m = high_bits (state seed k) % m
