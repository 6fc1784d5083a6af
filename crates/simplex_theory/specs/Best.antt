-- The best of the numbers below n that pass a test, the first of several as good.
use Rattle.std.proofs.Common.{ℕ, zero, suc, Bool, cond, Option, Some, None, ◌&&◌}

abbrev pub best_step : (ℕ → Bool) → (ℕ → ℕ → Bool) → ℕ → Option ℕ → Option ℕ
best_step fits better n None = cond (fits n) (Some n) None
best_step fits better n (Some b) = cond (fits n && better n b) (Some n) (Some b)

abbrev pub best : (ℕ → Bool) → (ℕ → ℕ → Bool) → ℕ → Option ℕ
best fits better zero = None
best fits better (suc n) = best_step fits better n (best fits better n)
