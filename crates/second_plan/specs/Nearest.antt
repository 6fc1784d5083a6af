-- The whole number nearest to a quotient, of two the lesser.
use Rattle.std.specs.Prelude.{◌≡◌, ℕ, ◌+◌, ◌-◌, ◌*◌, ◌≤◌}

-- how far two numbers lie apart
abbrev pub apart : ℕ → ℕ → ℕ
apart m n = (m - n) + (n - m)

-- Of the whole numbers that are allowed, none is nearer to n / d than k, and none as near is less.
pub record IsNearest (Allowed : ℕ → Type 0) (n d k : ℕ) : Type 0 where
  pub allowed : Allowed k
  pub nearest : (j : ℕ) → Allowed j → apart (k * d) n ≤ apart (j * d) n
  pub lesser : (j : ℕ) → Allowed j → apart (j * d) n ≡ apart (k * d) n → k ≤ j

abbrev pub AnyNumber : ℕ → Type 0
AnyNumber k = Unit {0}
