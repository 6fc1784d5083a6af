-- The loop over the columns of a row: those below k are done.
use Rattle.std.proofs.Common.{◌≡◌, ℕ, zero, suc, pos, None, List, [], ◌∷◌, ◌++◌, take, drop, length, get_or, ◌<◌, ◌≤◌, refl, ap₂, arith}
use Rattle.rational_theory.specs.Rational.{ℚ, whole, ◌+ℚ◌, ◌*ℚ◌}
use Rattle.rational_theory.specs.Rows.{add, scale}
use Rattle.narrow_fraction.specs.Attempt.{first_below}
use Rattle.named_row.specs.Refusals.{cell_refusal}

-- the row c became d below k, by k times the other row s
pub record Summed (by : ℚ) (s c d : List ℚ) (k : ℕ) : Type 0 where
  pub passed : first_below (cell_refusal by c s) k ≡ None
  pub kept : length d ≡ length c
  pub done : (m : ℕ) → m < k → get_or d m (whole (pos 0)) ≡ get_or c m (whole (pos 0)) +ℚ by *ℚ get_or s m (whole (pos 0))
  pub rest : (m : ℕ) → k ≤ m → get_or d m (whole (pos 0)) ≡ get_or c m (whole (pos 0))

-- a row that is the sum in each column is the sum
pub sum_is : (by : ℚ) (s c d : List ℚ) → length s ≡ length c → length d ≡ length c
    → ((m : ℕ) → m < length c → get_or d m (whole (pos 0)) ≡ get_or c m (whole (pos 0)) +ℚ by *ℚ get_or s m (whole (pos 0))) → d ≡ add c (scale by s)
sum_is by [] [] [] e f h = refl
sum_is by (s ∷ ss) (c ∷ cs) (d ∷ ds) e f h = ap₂ (λ x xs. x ∷ xs) (h 0 (omega arith)) (sum_is by ss cs ds (omega arith) (omega arith) (λ m l. h (suc m) (omega arith)))
sum_is by (s ∷ ss) [] d e f h = absurd (omega arith)
sum_is by [] (c ∷ cs) d e f h = absurd (omega arith)
sum_is by [] [] (d ∷ ds) e f h = absurd (omega arith)
sum_is by (s ∷ ss) (c ∷ cs) [] e f h = absurd (omega arith)

-- rows of one width with the same numbers are the same
same_row : (c d : List ℚ) → length d ≡ length c → ((m : ℕ) → get_or d m (whole (pos 0)) ≡ get_or c m (whole (pos 0))) → d ≡ c
same_row [] [] e h = refl
same_row (c ∷ cs) (d ∷ ds) e h = ap₂ (λ x xs. x ∷ xs) (h 0) (same_row cs ds (omega arith) (λ m. h (suc m)))
same_row [] (d ∷ ds) e h = absurd (omega arith)
same_row (c ∷ cs) [] e h = absurd (omega arith)

-- a row that is the sum in each column below k, and has its own numbers from there on
pub part_is : (by : ℚ) (k : ℕ) (s c d : List ℚ) → length s ≡ length c → length d ≡ length c → k ≤ length c
    → ((m : ℕ) → m < k → get_or d m (whole (pos 0)) ≡ get_or c m (whole (pos 0)) +ℚ by *ℚ get_or s m (whole (pos 0)))
    → ((m : ℕ) → k ≤ m → get_or d m (whole (pos 0)) ≡ get_or c m (whole (pos 0)))
    → d ≡ take k (add c (scale by s)) ++ drop k c
part_is by zero s c d e f l h r = same_row c d f (λ m. r m (omega arith))
part_is by (suc k) (s ∷ ss) (c ∷ cs) (d ∷ ds) e f l h r =
    ap₂ (λ x xs. x ∷ xs) (h 0 (omega arith)) (part_is by k ss cs ds (omega arith) (omega arith) (omega arith) (λ m q. h (suc m) (omega arith)) (λ m q. r (suc m) (omega arith)))
part_is by (suc k) (s ∷ ss) [] d e f l h r = absurd (omega arith)
part_is by (suc k) [] (c ∷ cs) d e f l h r = absurd (omega arith)
part_is by (suc k) [] [] d e f l h r = absurd (omega arith)
part_is by (suc k) (s ∷ ss) (c ∷ cs) [] e f l h r = absurd (omega arith)
