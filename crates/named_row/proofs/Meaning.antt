-- What sums of rows, and the tests on them, say of a point whose columns are at least 0.
use Rattle.std.proofs.Common.{◌≡◌, ℕ, suc, pos, List, [], ◌∷◌, length, ◌<◌, arith}
use Rattle.rational_theory.specs.Rational.{ℚ, whole, ◌≤ℚ◌}
use Rattle.rational_theory.proofs.Order.{≤ℚ_refl, ≤ℚ_trans, ≤ℚ-*ℚ, <ℚ_not-≤ℚ}
use Rattle.rational_theory.proofs.Linear.{sum_not_negative, product_not_negative}
use Rattle.rational_theory.specs.Rows.{dot, IsMet, AllNonNegative}
use Rattle.rational_theory.proofs.Rows.{dot-add, dot-scale, ≤ℚ-sum, ≤ℚ-left}
use Rattle.named_row.specs.Sheets.{Sheet, row_of, with_times}
use Rattle.named_row.specs.Covering.{Covers, Refutes, number_at}

-- a point that meets two rows meets the one with a multiple of at least 0 of the other added
pub sum_met : (k : ℚ) (s r : Sheet) (x : List ℚ) → whole (pos 0) ≤ℚ k → IsMet x (row_of s) → IsMet x (row_of r) → IsMet x (row_of (with_times k s r))
unfolding with_times
sum_met k s r x p h m = record { met = rw (dot-add, dot-scale) (≤ℚ-sum _ _ _ _ m.met (≤ℚ-left k _ _ p h.met)) }

-- greater coefficients give a greater sum
dot-≤ℚ : (a b x : List ℚ) → length a ≡ length b → ((j : ℕ) → j < length b → number_at a j ≤ℚ number_at b j) → AllNonNegative x → dot a x ≤ℚ dot b x
dot-≤ℚ [] [] x e h p = ≤ℚ_refl (whole (pos 0))
dot-≤ℚ [] (b ∷ bs) x e h p = absurd (omega arith)
dot-≤ℚ (a ∷ us) [] x e h p = absurd (omega arith)
dot-≤ℚ (a ∷ us) (b ∷ bs) [] e h p = ≤ℚ_refl (whole (pos 0))
dot-≤ℚ (a ∷ us) (b ∷ bs) (x ∷ xs) e h p = ≤ℚ-sum _ _ _ _ (≤ℚ-*ℚ a b x (h 0 (omega arith)) p.0) (dot-≤ℚ us bs xs (omega arith) (λ j l. h (suc j) (omega arith)) p.1)

dot_not_negative : (b x : List ℚ) → ((j : ℕ) → j < length b → whole (pos 0) ≤ℚ number_at b j) → AllNonNegative x → whole (pos 0) ≤ℚ dot b x
dot_not_negative [] x h p = ≤ℚ_refl (whole (pos 0))
dot_not_negative (b ∷ bs) [] h p = ≤ℚ_refl (whole (pos 0))
dot_not_negative (b ∷ bs) (x ∷ xs) h p = sum_not_negative _ _ (product_not_negative b x (h 0 (omega arith)) p.0) (dot_not_negative bs xs (λ j l. h (suc j) (omega arith)) p.1)

-- a row that covers the goal bounds it: at each point that meets the row the goal is at most the value
pub covered : (r goal : Sheet) (value : ℚ) (x : List ℚ) → length goal.coefs ≡ length r.coefs → Covers r goal value → AllNonNegative x → IsMet x (row_of r) → dot goal.coefs x ≤ℚ value
covered r goal value x e h p m = ≤ℚ_trans _ _ _ (dot-≤ℚ goal.coefs r.coefs x e h.coefs p) (≤ℚ_trans _ _ _ m.met h.bound)

-- no point meets a row that refutes
pub refuted : (r : Sheet) (x : List ℚ) → Refutes r → AllNonNegative x → IsMet x (row_of r) → ⊥
refuted r x h p m = <ℚ_not-≤ℚ _ _ h.bound (≤ℚ_trans _ _ _ (dot_not_negative r.coefs x h.coefs p) m.met)
