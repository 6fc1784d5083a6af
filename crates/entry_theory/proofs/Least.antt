-- Lemmas on the definitions of `Least`.
use Rattle.std.proofs.Common.{◌≡◌, ℕ, zero, suc, Bool, true, false, ◌<◌, refl, sym, ◌∙◌, ap, arith}
use Rattle.entry_theory.specs.Least.{least}
use Rattle.std.proofs.lemmas.Bool.{cond_both, cond-true, cond-false, true≢false}

pub record IsLeast (f : ℕ → Bool) (n r : ℕ) : Type 0 where
  pub within : r < n
  pub passes : f r ≡ true
  pub before : (k : ℕ) → k < r → f k ≡ false

-- a number that passes, with none before it, is what the function gives
pub least_is : (f : ℕ → Bool) (n r : ℕ) → IsLeast f n r → least f n ≡ r
unfolding least
least_is f zero r h = absurd (let l = h.within in omega arith)
least_is f (suc n) zero h = cond-true (f 0) _ _ h.passes
least_is f (suc n) (suc r) h =
    cond-false (f 0) _ _ (h.before 0 (omega arith))
    ∙ ap suc (least_is (λ k. f (suc k)) n r (record { within = let l = h.within in omega arith; passes = h.passes; before = λ k l. h.before (suc k) (omega arith) }))

-- where none passes it gives n
pub least_none : (f : ℕ → Bool) (n : ℕ) → ((k : ℕ) → k < n → f k ≡ false) → least f n ≡ n
unfolding least
least_none f zero h = refl
least_none f (suc n) h = cond-false (f 0) _ _ (h 0 (omega arith)) ∙ ap suc (least_none (λ k. f (suc k)) n (λ k l. h (suc k) (omega arith)))

-- where one passes, the function's number does, with none before it
pub least_found : (f : ℕ → Bool) (n k : ℕ) → k < n → f k ≡ true → IsLeast f n (least f n)
unfolding least
least_found f zero k h p = absurd (omega arith)
least_found f (suc n) k h p = cond_both (f 0) 0 (suc (least (λ k. f (suc k)) n)) (IsLeast f (suc n)) here (λ e. there k h p e (λ i l q. least_found (λ k. f (suc k)) n i l q))
  where
    here : f 0 ≡ true → IsLeast f (suc n) 0
    here e = record { within = omega arith; passes = e; before = λ k l. absurd (omega arith) }

    before : (m : ℕ) → f 0 ≡ false → ((k : ℕ) → k < m → f (suc k) ≡ false) → (k : ℕ) → k < suc m → f k ≡ false
    before m e g zero l = e
    before m e g (suc k) l = g k (omega arith)

    past : f 0 ≡ false → IsLeast (λ k. f (suc k)) n (least (λ k. f (suc k)) n) → IsLeast f (suc n) (suc (least (λ k. f (suc k)) n))
    past e i = record { within = let l = i.within in omega arith; passes = i.passes; before = before (least (λ k. f (suc k)) n) e i.before }

    there : (k : ℕ) → k < suc n → f k ≡ true → f 0 ≡ false → ((i : ℕ) → i < n → f (suc i) ≡ true → IsLeast (λ k. f (suc k)) n (least (λ k. f (suc k)) n))
        → IsLeast f (suc n) (suc (least (λ k. f (suc k)) n))
    there zero h p e g = absurd (true≢false (sym p ∙ e))
    there (suc k) h p e g = past e (g k (omega arith) p)
