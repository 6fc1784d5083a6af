-- Lemmas on the definitions of `Best`.
use Rattle.std.proofs.Common.{◌≡◌, ℕ, zero, suc, Bool, true, false, true≢false, Option, Some, None, ◌&&◌, ◌<◌, ◌≤◌, ◌⊎◌, inl, inr, sym, ◌∙◌, ap, arith}
use Rattle.std.specs.Prelude.{IfSome}
use Rattle.std.proofs.lemmas.Bool.{cond_both, and_parts, and_cases, false_from_ne_true}
use Rattle.simplex_theory.specs.Best.{best_step, best}

pub record IsBest (fits : ℕ → Bool) (better : ℕ → ℕ → Bool) (n b : ℕ) : Type 0 where
  pub within : b < n
  pub passes : fits b ≡ true
  pub most : (k : ℕ) → k < n → fits k ≡ true → better k b ≡ false

pub record IsOrder (better : ℕ → ℕ → Bool) : Type 0 where
  pub itself : (k : ℕ) → better k k ≡ false
  pub through : (a b c : ℕ) → better a b ≡ true → better b c ≡ true → better a c ≡ true

abbrev pub OnBest : (ℕ → Bool) → (ℕ → ℕ → Bool) → ℕ → Option ℕ → Type 0
OnBest fits better n None = (k : ℕ) → k < n → fits k ≡ true → ⊥
OnBest fits better n (Some b) = IsBest fits better n b

on_best_step : (fits : ℕ → Bool) (better : ℕ → ℕ → Bool) (n : ℕ) (o : Option ℕ) → IsOrder better → OnBest fits better n o → OnBest fits better (suc n) (best_step fits better n o)
on_best_step fits better n None q h = cond_both (fits n) (Some n) None (OnBest fits better (suc n)) one none
  where
    last : fits n ≡ true → (k : ℕ) → fits k ≡ true → (k ≡ n) ⊎ (k < n) → better k n ≡ false
    last e k f (inl m) = rw m (q.itself n)
    last e k f (inr m) = absurd (h k m f)

    one : fits n ≡ true → IsBest fits better (suc n) n
    one e = record { within = omega arith; passes = e; most = λ k l f. last e k f (grind arith) }

    earlier : fits n ≡ false → (k : ℕ) → fits k ≡ true → (k ≡ n) ⊎ (k < n) → ⊥
    earlier e k f (inl m) = true≢false (sym f ∙ ap fits m ∙ e)
    earlier e k f (inr m) = h k m f

    none : fits n ≡ false → (k : ℕ) → k < suc n → fits k ≡ true → ⊥
    none e k l f = earlier e k f (grind arith)
on_best_step fits better n (Some b) q h = cond_both (fits n && better n b) (Some n) (Some b) (OnBest fits better (suc n)) one none
  where
    last : better n b ≡ true → (k : ℕ) → fits k ≡ true → (k ≡ n) ⊎ (k < n) → better k n ≡ false
    last e k f (inl m) = rw m (q.itself n)
    last e k f (inr m) = false_from_ne_true (better k n) (λ g. true≢false (sym (q.through k n b g e) ∙ h.most k m f))

    one : (fits n && better n b) ≡ true → IsBest fits better (suc n) n
    one e = record { within = omega arith; passes = (and_parts (fits n) (better n b) e).0; most = λ k l f. last (and_parts (fits n) (better n b) e).1 k f (grind arith) }

    kept : (k : ℕ) → fits k ≡ true → (k ≡ n) ⊎ (k < n) → (fits n ≡ false) ⊎ (better n b ≡ false) → better k b ≡ false
    kept k f (inl m) (inl g) = absurd (true≢false (sym f ∙ ap fits m ∙ g))
    kept k f (inl m) (inr g) = rw m g
    kept k f (inr m) g = h.most k m f

    none : (fits n && better n b) ≡ false → IsBest fits better (suc n) b
    none e = record { within = let w = h.within in omega arith; passes = h.passes; most = λ k l f. kept k f (grind arith) (and_cases (fits n) (better n b) e) }

pub on_best : (fits : ℕ → Bool) (better : ℕ → ℕ → Bool) (n : ℕ) → IsOrder better → OnBest fits better n (best fits better n)
on_best fits better zero q = λ k l f. absurd (omega arith)
on_best fits better (suc n) q = on_best_step fits better n (best fits better n) q (on_best fits better n q)

pub best_low : (fits : ℕ → Bool) (better : ℕ → ℕ → Bool) (n m : ℕ) (o : Option ℕ) → OnBest fits better n o → n ≤ m → IfSome o (λ b. b < m)
best_low fits better n m None h l = tt
best_low fits better n m (Some b) h l = let w = h.within in omega arith
