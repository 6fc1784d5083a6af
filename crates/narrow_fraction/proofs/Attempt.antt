-- Lemmas on the definitions of `Attempt`.
use Rattle.std.proofs.Common.{◌≡◌, ℕ, suc, zero, add-one, Bool, true, false, Option, Some, None, Ok, Err, refl, ◌∙◌, ap, ap₂, subst, arith, ◌+◌, ◌≤◌, ◌<◌, ◌⊎◌, inl, inr}
use Rattle.narrow_fraction.specs.Attempt.{refusal_if, attempt, earlier, first_below}

pub attempt_err : {A : Type 0} {E : Type 0} (r : Option E) (v : A) (e : E) → Err e ≡ attempt r v → r ≡ Some e
attempt_err None v e h = cc
attempt_err (Some f) v e h = cc

pub attempt_ok : {A : Type 0} {E : Type 0} (r : Option E) (v x : A) → Ok x ≡ attempt r v → (r ≡ None) × (x ≡ v)
attempt_ok None v x h = let e : x ≡ v = cc in (refl, e)
attempt_ok (Some f) v x h = cc

pub some_not_none : {E A : Type 0} {x : E} → Some x ≡ None → A
some_not_none e = cc

-- no test is true that refuses nothing
pub not_refused : {E : Type 0} (b : Bool) (x : E) → refusal_if b x ≡ None → b ≡ false
not_refused true x e = some_not_none e
not_refused false x e = refl

-- where the first of two refusals is none, so is each
pub neither : {E : Type 0} (o p : Option E) → earlier o p ≡ None → (o ≡ None) × (p ≡ None)
neither None p e = (refl, e)
neither (Some x) p e = some_not_none e

last_or_before : (a b : ℕ) → a ≤ suc b → (a ≡ suc b) ⊎ (a ≤ b)
last_or_before a b h = grind arith

-- what was refused below a number is refused below each greater one
pub first_stays : {E : Type 0} (f : ℕ → Option E) (e : E) (k n : ℕ) → k ≤ n → first_below f k ≡ Some e → first_below f n ≡ Some e
first_stays f e k zero h p = let q : k ≡ 0 = omega arith in subst (λ m. first_below f m ≡ Some e) q p
first_stays {E = E} f e k (suc n) h p = pick (last_or_before k n h) (λ q. ap (λ o. earlier o (f n)) (first_stays f e k n q p))
  where
    pick : (k ≡ suc n) ⊎ (k ≤ n) → (k ≤ n → first_below f (suc n) ≡ Some e) → first_below f (suc n) ≡ Some e
    pick (inl q) g = subst (λ m. first_below f m ≡ Some e) q p
    pick (inr q) g = g q

-- equal refusals have equal firsts
pub first_same : {E : Type 0} (f g : ℕ → Option E) (n : ℕ) → ((k : ℕ) → k < n → f k ≡ g k) → first_below f n ≡ first_below g n
first_same f g zero h = refl
first_same {E = E} f g (suc n) h = pair (first_same f g n (λ k l. h k (omega arith))) (h n (omega arith))
  where
    pair : first_below f n ≡ first_below g n → f n ≡ g n → earlier (first_below f n) (f n) ≡ earlier (first_below g n) (g n)
    pair p q = rw (p, q) refl

-- one more was passed
pub first_next : {E : Type 0} (f : ℕ → Option E) (k : ℕ) → first_below f k ≡ None → f k ≡ None → first_below f (k + 1) ≡ None
first_next f k p q = ap (first_below f) (add-one k) ∙ ap₂ earlier p q

-- the first refusal is at k
pub first_is : {E : Type 0} (f : ℕ → Option E) (k n : ℕ) (e : E) → first_below f k ≡ None → f k ≡ Some e → k < n → first_below f n ≡ Some e
first_is f k n e p q h = first_stays f e (suc k) n (omega arith) (ap₂ earlier p q)

-- where none is the first, none is refused
pub none_each : {E : Type 0} (f : ℕ → Option E) (n : ℕ) → first_below f n ≡ None → (j : ℕ) → j < n → f j ≡ None
none_each f zero e j h = absurd (omega arith)
none_each {E = E} f (suc n) e j h = pick (last_or_before (suc j) n h) (λ l. none_each f n (neither (first_below f n) (f n) e).0 j l)
  where
    pick : (suc j ≡ suc n) ⊎ (suc j ≤ n) → (j < n → f j ≡ None) → f j ≡ None
    pick (inl q) g = let s : j ≡ n = omega arith in ap f s ∙ (neither (first_below f n) (f n) e).1
    pick (inr q) g = g (omega arith)
