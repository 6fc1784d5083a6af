-- What holds along a run of numbers: carried forth and back, found or denied, and the place of the greatest.
use Rattle.std.proofs.Common.{◌≡◌, ℕ, zero, suc, ◌<◌, ◌≤◌, ◌⊎◌, inl, inr, sym, subst, arith}
use Rattle.simplex_theory.proofs.Tableau.{same_or_other}

pub record Found (P : ℕ → Type 0) (n : ℕ) : Type 0 where
  pub at : ℕ
  pub within : at < n
  pub holds : P at

pub found_or_none : (P : ℕ → Type 0) → ((k : ℕ) → P k ⊎ (P k → ⊥)) → (n : ℕ) → Found P n ⊎ ((k : ℕ) → k < n → P k → ⊥)
found_or_none P d zero = inr (λ k l h. absurd (omega arith))
found_or_none P d (suc n) = pick (found_or_none P d n) (d n)
  where
    pick : Found P n ⊎ ((k : ℕ) → k < n → P k → ⊥) → P n ⊎ (P n → ⊥) → Found P (suc n) ⊎ ((k : ℕ) → k < suc n → P k → ⊥)
    pick (inl f) q = inl (record { at = f.at; within = let w = f.within in omega arith; holds = f.holds })
    pick (inr f) (inl h) = inl (record { at = n; within = omega arith; holds = h })
    pick (inr f) (inr g) = inr (λ k l h. last k l h (same_or_other k n))
      where
        last : (k : ℕ) → k < suc n → P k → (k ≡ n) ⊎ (k ≡ n → ⊥) → ⊥
        last k l h (inl e) = g (subst P e h)
        last k l h (inr e) = f k (grind arith) h

last_or_before : (a b : ℕ) → a ≤ suc b → (a ≡ suc b) ⊎ (a ≤ b)
last_or_before a b h = grind arith

pub forth : (P : ℕ → Type 0) (n : ℕ) → ((k : ℕ) → k < n → P k → P (suc k)) → (a b : ℕ) → a ≤ b → b ≤ n → P a → P b
forth P n s a zero h l p = let e : a ≡ 0 = omega arith in subst P e p
forth P n s a (suc b) h l p = pick (last_or_before a b h) (λ q. s b (omega arith) (forth P n s a b q (omega arith) p))
  where
    pick : (a ≡ suc b) ⊎ (a ≤ b) → (a ≤ b → P (suc b)) → P (suc b)
    pick (inl e) f = subst P e p
    pick (inr q) f = f q

pub back : (P : ℕ → Type 0) (n : ℕ) → ((k : ℕ) → k < n → P (suc k) → P k) → (a b : ℕ) → a ≤ b → b ≤ n → P b → P a
back P n s a zero h l p = let e : 0 ≡ a = omega arith in subst P e p
back P n s a (suc b) h l p = pick (last_or_before a b h) (λ q. back P n s a b q (omega arith) (s b (omega arith) p))
  where
    pick : (a ≡ suc b) ⊎ (a ≤ b) → (a ≤ b → P a) → P a
    pick (inl e) f = subst P (sym e) p
    pick (inr q) f = f q

-- where f is greatest below n
pub record Greatest (f : ℕ → ℕ) (n : ℕ) : Type 0 where
  pub at : ℕ
  pub within : at < n
  pub most : (k : ℕ) → k < n → f k ≤ f at

at_most_or_not : (a b : ℕ) → (a ≤ b) ⊎ (b ≤ a)
at_most_or_not a b = grind arith

pub greatest : (f : ℕ → ℕ) (n : ℕ) → Greatest f (suc n)
greatest f zero = record { at = 0; within = omega arith; most = λ k l. let e : k ≡ 0 = omega arith in subst (λ i. f i ≤ f 0) (sym e) (omega arith) }
greatest f (suc n) = pick (greatest f n) (at_most_or_not (f (greatest f n).at) (f (suc n)))
  where
    pick : (g : Greatest f (suc n)) → (f g.at ≤ f (suc n)) ⊎ (f (suc n) ≤ f g.at) → Greatest f (suc (suc n))
    pick g (inl h) = record { at = suc n; within = omega arith; most = λ k l. last k l (same_or_other k (suc n)) }
      where
        last : (k : ℕ) → k < suc (suc n) → (k ≡ suc n) ⊎ (k ≡ suc n → ⊥) → f k ≤ f (suc n)
        last k l (inl e) = rw e (omega arith)
        last k l (inr e) = let m = g.most k (grind arith) in omega arith
    pick g (inr h) = record { at = g.at; within = let w = g.within in omega arith; most = λ k l. last k l (same_or_other k (suc n)) }
      where
        last : (k : ℕ) → k < suc (suc n) → (k ≡ suc n) ⊎ (k ≡ suc n → ⊥) → f k ≤ f g.at
        last k l (inl e) = rw e h
        last k l (inr e) = g.most k (grind arith)
