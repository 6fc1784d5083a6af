-- Limits in seconds on a grid, as products of whole numbers.
use Rattle.std.proofs.Common.{ℕ, pos, ◌*ℤ◌, ◌≤ℤ◌, ◌+◌, ◌*◌, ◌↔◌, arith}
use Rattle.std.proofs.lemmas.Int.{ints}
use borrow.Author.Differences.{up, down}
use Rattle.rational_theory.specs.Rational.{ℚ, ◌*ℚ◌, ◌≤ℚ◌}
use Rattle.rational_theory.proofs.Arithmetic.{IsRatio, own_ratio, whole_ratio, product_ratio, ≤ℚ_in, ≤ℚ_out}
use Rattle.progression.specs.Speeds.{number}

-- a number of seconds on a grid
pub grid_ratio : (x : ℚ) (g : ℕ) → IsRatio (x *ℚ number g) (up x.num * g + down x.num * 0) (up x.num * 0 + down x.num * g) (x.den * 1)
grid_ratio x g = product_ratio x (number g) _ _ _ _ _ _ (own_ratio x) (whole_ratio (pos g))

-- so many ticks are at least a number of seconds
pub least_is : (x : ℚ) (g n : ℕ) → ((x.num *ℤ pos g) ≤ℤ (pos x.den *ℤ pos n)) ↔ ((x *ℚ number g) ≤ℚ number n)
least_is x g n = (
  (λ h. ≤ℚ_in _ _ _ _ _ _ _ _ (grid_ratio x g) (whole_ratio (pos n)) (omega (arith, ints, h))),
  (λ h. let e = ≤ℚ_out _ _ _ _ _ _ _ _ (grid_ratio x g) (whole_ratio (pos n)) h in omega (arith, ints, e)),
)

-- so many ticks are at most a number of seconds
pub most_is : (x : ℚ) (g n : ℕ) → ((pos x.den *ℤ pos n) ≤ℤ (x.num *ℤ pos g)) ↔ (number n ≤ℚ (x *ℚ number g))
most_is x g n = (
  (λ h. ≤ℚ_in _ _ _ _ _ _ _ _ (whole_ratio (pos n)) (grid_ratio x g) (omega (arith, ints, h))),
  (λ h. let e = ≤ℚ_out _ _ _ _ _ _ _ _ (whole_ratio (pos n)) (grid_ratio x g) h in omega (arith, ints, e)),
)
