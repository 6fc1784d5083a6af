-- Lemmas on the definitions of `StepCounts`.
use Rattle.std.proofs.Common.{◌≡◌, ℕ, zero, suc, true, false, true≢false, ◌+◌, ◌-◌, ◌^◌, ◌<◌, ◌≤◌, ◌⊎◌, inl, inr, refl, sym, ◌∙◌, ap, ap₂, subst, arith}
use Rattle.std.proofs.Math.Nat.{pow-suc}
use Rattle.std.proofs.lemmas.Bool.{cases_Bool, cases_lt}
use Rattle.simplex_theory.specs.Tableau.{Tableau, height, width, basic_at, exchange}
use Rattle.simplex_theory.proofs.Tableau.{height-exchange, width-exchange, same_or_other}
use Rattle.simplex_theory.specs.DualSteps.{IsDual, IsChoice}
use Rattle.simplex_theory.proofs.Paths.{IsPath, basic_or_not, no_return, dual_along}
use Rattle.simplex_theory.specs.Paths.{IsBasic, HaveSameBasics}
use Rattle.simplex_theory.specs.BlandRule.{Move, optimal, infeasible, pivoted, move, made, next, Says}
use Rattle.simplex_theory.proofs.BlandRule.{says, dual_next}
use Rattle.simplex_theory.specs.StepCounts.{room, is_pivot, after, counted, steps, steps_to_end}

-- ---- too many numbers for their room
moved : (f : ℕ → ℕ) (m i : ℕ) → (f i ≡ m) ⊎ (f i ≡ m → ⊥) → ℕ
moved f m i (inl e) = f (suc m)
moved f m i (inr e) = f i

pub no_room : (m : ℕ) (f : ℕ → ℕ) → ((i : ℕ) → i ≤ m → f i < m) → ((i k : ℕ) → i < k → k ≤ m → f i ≡ f k → ⊥) → ⊥
unfolding moved
no_room zero f b d = absurd (let e = b 0 (omega arith) in omega arith)
no_room (suc m) f b d = no_room m (λ i. moved f m i (same_or_other (f i) m)) (λ i l. low i l (same_or_other (f i) m)) (λ i k l h e. apart i k l h (same_or_other (f i) m) (same_or_other (f k) m) e)
  where
    below : (a : ℕ) → a < suc m → (a ≡ m → ⊥) → a < m
    below a h n = grind arith

    low : (i : ℕ) → i ≤ m → (q : (f i ≡ m) ⊎ (f i ≡ m → ⊥)) → moved f m i q < m
    low i l (inl e) = below (f (suc m)) (b (suc m) (omega arith)) (λ g. d i (suc m) (omega arith) (omega arith) (e ∙ sym g))
    low i l (inr n) = below (f i) (b i (omega arith)) n

    apart : (i k : ℕ) → i < k → k ≤ m → (q : (f i ≡ m) ⊎ (f i ≡ m → ⊥)) (s : (f k ≡ m) ⊎ (f k ≡ m → ⊥)) → moved f m i q ≡ moved f m k s → ⊥
    apart i k l h (inl p) (inl q) e = d i k l (omega arith) (p ∙ sym q)
    apart i k l h (inl p) (inr q) e = d k (suc m) (omega arith) (omega arith) (sym e)
    apart i k l h (inr p) (inl q) e = d i (suc m) (omega arith) (omega arith) e
    apart i k l h (inr p) (inr q) e = d i k l (omega arith) e

pub room_is : (n : ℕ) → room n ≡ 2 ^ n
unfolding room
room_is zero = refl
room_is (suc n) = let e = room_is n in let f = pow-suc 2 n in omega arith

bit : {A : Type 0} {B : Type 0} → A ⊎ B → ℕ
bit (inl a) = 1
bit (inr b) = 0

bit_low : {A : Type 0} {B : Type 0} (q : A ⊎ B) → bit q ≤ 1
unfolding bit
bit_low (inl a) = omega arith
bit_low (inr b) = omega arith

basic_bit : Tableau → ℕ → ℕ
basic_bit t v = bit (basic_or_not t v)

code : ℕ → Tableau → ℕ
code zero t = 0
code (suc n) t = code n t + code n t + basic_bit t n

code_low : (n : ℕ) (t : Tableau) → code n t < room n
unfolding code room basic_bit
code_low zero t = omega arith
code_low (suc n) t = let e = code_low n t in let f = bit_low (basic_or_not t n) in omega arith

code_same : (n : ℕ) (t u : Tableau) → code n t ≡ code n u → (v : ℕ) → v < n → basic_bit t v ≡ basic_bit u v
unfolding code basic_bit
code_same zero t u e v h = absurd (omega arith)
code_same (suc n) t u e v h = pick (same_or_other v n) (λ l. code_same n t u (let f = bit_low (basic_or_not t n) in let g = bit_low (basic_or_not u n) in omega arith) v l)
  where
    pick : (v ≡ n) ⊎ (v ≡ n → ⊥) → (v < n → basic_bit t v ≡ basic_bit u v) → basic_bit t v ≡ basic_bit u v
    pick (inl p) k = rw p (let f = bit_low (basic_or_not t n) in let g = bit_low (basic_or_not u n) in omega arith)
    pick (inr p) k = k (grind arith)

bit_basic : (t u : Tableau) (v : ℕ) (q : IsBasic t v ⊎ ((i : ℕ) → i < height t → basic_at t i ≡ v → ⊥)) (s : IsBasic u v ⊎ ((i : ℕ) → i < height u → basic_at u i ≡ v → ⊥))
    → bit q ≡ bit s → IsBasic t v → IsBasic u v
unfolding bit
bit_basic t u v q (inl b) e a = b
bit_basic t u v (inl c) (inr b) e a = absurd (omega arith)
bit_basic t u v (inr c) (inr b) e a = absurd (c a.row a.within a.is)

same_codes : (n : ℕ) (t u : Tableau) → IsDual t → IsDual u → height t + width t ≡ n → height u + width u ≡ n → code n t ≡ code n u → HaveSameBasics t u
unfolding basic_bit
same_codes n t u d f h k e = record {
  there = λ v b. bit_basic t u v (basic_or_not t v) (basic_or_not u v) (code_same n t u e v (let l = d.placed.low_rows b.row b.within in let m = b.is in omega arith)) b;
  back = λ v b. bit_basic u t v (basic_or_not u v) (basic_or_not t v) (sym (code_same n t u e v (let l = f.placed.low_rows b.row b.within in let m = b.is in omega arith))) b;
}

abbrev row_in : Move → ℕ
row_in optimal = 0
row_in (infeasible r) = 0
row_in (pivoted r j) = r

abbrev place_in : Move → ℕ
place_in optimal = 0
place_in (infeasible r) = 0
place_in (pivoted r j) = j

choice_in : (t : Tableau) (m : Move) → Says t m → is_pivot m ≡ true → IsChoice t (row_in m) (place_in m)
choice_in t optimal s e = absurd (true≢false (sym e))
choice_in t (infeasible r) s e = absurd (true≢false (sym e))
choice_in t (pivoted r j) s e = s

made_in : (t : Tableau) (m : Move) → is_pivot m ≡ true → made m t ≡ exchange (row_in m) (place_in m) t
made_in t optimal e = absurd (true≢false (sym e))
made_in t (infeasible r) e = absurd (true≢false (sym e))
made_in t (pivoted r j) e = refl

pub next_is : (t : Tableau) → next t ≡ made (move t) t
unfolding next
next_is t = refl

after_next : (t : Tableau) (k : ℕ) → after (next t) k ≡ after t (suc k)
unfolding after
after_next t zero = refl
after_next t (suc k) = ap next (after_next t k)

path_from : (t : Tableau) (n : ℕ) → IsDual t → ((k : ℕ) → k < n → is_pivot (move (after t k)) ≡ true) → IsPath (after t) (λ k. row_in (move (after t k))) (λ k. place_in (move (after t k))) n
unfolding after
path_from t n d g = record {
  start = d;
  choice = λ k h. choice_in (after t k) (move (after t k)) (says (after t k)) (g k h);
  next = λ k h. next_is (after t k) ∙ made_in (after t k) (move (after t k)) (g k h);
}

part_of : (p : ℕ → Tableau) (r j : ℕ → ℕ) (n i d : ℕ) → IsPath p r j n → i + d ≤ n → IsPath (λ k. p (i + k)) (λ k. r (i + k)) (λ k. j (i + k)) d
part_of p r j n i d a h = record {
  start = dual_along p r j n a (i + 0) (omega arith);
  choice = λ k l. a.choice (i + k) (omega arith);
  next = λ k l. let e : i + suc k ≡ suc (i + k) = omega arith in ap p e ∙ a.next (i + k) (omega arith);
}

-- no two tableaus of a path have the same basic variables
pub never_again : (p : ℕ → Tableau) (r j : ℕ → ℕ) (n i k : ℕ) → IsPath p r j n → i < k → k ≤ n → HaveSameBasics (p i) (p k) → ⊥
never_again p r j n i k a h l s =
    let e : i + 0 ≡ i = omega arith in
    let f : i + suc (k - suc i) ≡ k = omega arith in
    no_return (λ m. p (i + m)) (λ m. r (i + m)) (λ m. j (i + m)) (k - suc i) (part_of p r j n i (suc (k - suc i)) a (omega arith))
    (subst (λ u. HaveSameBasics (p u) (p (i + suc (k - suc i)))) (sym e) (subst (λ u. HaveSameBasics (p i) (p u)) (sym f) s))

counted_le : (m : Move) (a n : ℕ) → a ≤ n → counted m a ≤ suc n
counted_le optimal a n h = omega arith
counted_le (infeasible r) a n h = omega arith
counted_le (pivoted r j) a n h = omega arith

pub steps_le : (n : ℕ) (t : Tableau) → steps n t ≤ n
unfolding steps
steps_le zero t = omega arith
steps_le (suc n) t = counted_le (move t) _ n (steps_le n (next t))

counted_full : (m : Move) (a n : ℕ) → counted m a ≡ suc n → (is_pivot m ≡ true) × (a ≡ n)
counted_full optimal a n e = absurd (omega arith)
counted_full (infeasible r) a n e = absurd (omega arith)
counted_full (pivoted r j) a n e = (refl, omega arith)

all_pivots : (n : ℕ) (t : Tableau) → steps n t ≡ n → (k : ℕ) → k < n → is_pivot (move (after t k)) ≡ true
unfolding steps after
all_pivots zero t e k h = absurd (omega arith)
all_pivots (suc n) t e zero h = (counted_full (move t) _ n e).0
all_pivots (suc n) t e (suc k) h = ap (λ u. is_pivot (move u)) (sym (after_next t k)) ∙ all_pivots n (next t) (counted_full (move t) _ n e).1 k (omega arith)

size_along : (p : ℕ → Tableau) (r j : ℕ → ℕ) (n : ℕ) → IsPath p r j n → (k : ℕ) → k ≤ n → height (p k) + width (p k) ≡ height (p 0) + width (p 0)
size_along p r j n a zero h = refl
size_along p r j n a (suc k) h =
    ap (λ u. height u + width u) (a.next k (omega arith)) ∙ ap₂ (λ u v. u + v) (height-exchange (r k) (j k) (p k)) (width-exchange (r k) (j k) (p k)) ∙ size_along p r j n a k (omega arith)

-- a path is shorter than the number of sets
pub path_low : (p : ℕ → Tableau) (r j : ℕ → ℕ) (n : ℕ) → IsPath p r j n → n ≡ room (height (p 0) + width (p 0)) → ⊥
path_low p r j n a e =
    let s = height (p 0) + width (p 0) in
    no_room n (λ k. code s (p k)) (λ k h. subst (λ m. code s (p k) < m) (sym e) (code_low s (p k)))
    (λ i k h l f. never_again p r j n i k a h l (same_codes s (p i) (p k) (dual_along p r j n a i (omega arith)) (dual_along p r j n a k l)
    (size_along p r j n a i (omega arith)) (size_along p r j n a k l) f))

pub steps_low : (t : Tableau) → IsDual t → steps_to_end t < room (height t + width t)
unfolding steps_to_end after
steps_low t d = pick (cases_lt (steps (room (height t + width t)) t) (room (height t + width t)))
  where
    pick : (steps (room (height t + width t)) t < room (height t + width t)) ⊎ (room (height t + width t) ≤ steps (room (height t + width t)) t)
        → steps (room (height t + width t)) t < room (height t + width t)
    pick (inl h) = h
    pick (inr h) =
        let full : steps (room (height t + width t)) t ≡ room (height t + width t) = let e = steps_le (room (height t + width t)) t in omega arith in
        absurd (path_low (after t) (λ k. row_in (move (after t k))) (λ k. place_in (move (after t k))) (room (height t + width t))
        (path_from t (room (height t + width t)) d (all_pivots _ t full)) refl)

-- ---- a step lowers the number
counted_more : (m : Move) (a b n : ℕ) → counted m a < suc n → (a < n → b ≡ a) → counted m b ≡ counted m a
counted_more optimal a b n h f = refl
counted_more (infeasible r) a b n h f = refl
counted_more (pivoted r j) a b n h f = ap suc (f (omega arith))

steps_more : (n : ℕ) (t : Tableau) → steps n t < n → steps (suc n) t ≡ steps n t
unfolding steps
steps_more zero t h = absurd (omega arith)
steps_more (suc n) t h = counted_more (move t) _ _ n h (steps_more n (next t))

counted_pivot : (m : Move) (a : ℕ) → is_pivot m ≡ true → counted m a ≡ suc a
counted_pivot optimal a e = absurd (true≢false (sym e))
counted_pivot (infeasible r) a e = absurd (true≢false (sym e))
counted_pivot (pivoted r j) a e = refl

steps_next : (n : ℕ) (t : Tableau) → steps n t < n → is_pivot (move t) ≡ true → steps n t ≡ suc (steps n (next t))
unfolding steps
steps_next zero t h e = absurd (omega arith)
steps_next (suc n) t h e =
    let f = counted_pivot (move t) (steps n (next t)) e in
    f ∙ ap suc (sym (steps_more n (next t) (omega arith)))

size_made : (t : Tableau) (m : Move) → height (made m t) + width (made m t) ≡ height t + width t
size_made t optimal = refl
size_made t (infeasible r) = refl
size_made t (pivoted r j) = ap₂ (λ u v. u + v) (height-exchange r j t) (width-exchange r j t)

pub steps_fall : (t : Tableau) → IsDual t → is_pivot (move t) ≡ true → steps_to_end t ≡ suc (steps_to_end (next t))
unfolding steps_to_end next
steps_fall t d e = steps_next (room (height t + width t)) t (steps_low t d) e ∙ ap (λ n. suc (steps (room n) (next t))) (sym (size_made t (move t)))

-- ---- after these steps the tableau is an end
counted_none : (m : Move) (a : ℕ) → is_pivot m ≡ false → counted m a ≡ 0
counted_none optimal a e = refl
counted_none (infeasible r) a e = refl
counted_none (pivoted r j) a e = absurd (true≢false e)

ended_in : (n : ℕ) (t : Tableau) → steps n t < n → is_pivot (move (after t (steps n t))) ≡ false
unfolding steps after
ended_in zero t h = absurd (omega arith)
ended_in (suc n) t h = pick (cases_Bool (is_pivot (move t))) (ended_in n (next t))
  where
    pick : (is_pivot (move t) ≡ true) ⊎ (is_pivot (move t) ≡ false) → (steps n (next t) < n → is_pivot (move (after (next t) (steps n (next t)))) ≡ false)
        → is_pivot (move (after t (counted (move t) (steps n (next t))))) ≡ false
    pick (inl e) f =
        let g = counted_pivot (move t) (steps n (next t)) e in
        rw g (ap (λ u. is_pivot (move u)) (sym (after_next t (steps n (next t)))) ∙ f (omega arith))
    pick (inr e) f = rw (counted_none (move t) (steps n (next t)) e) e

pub ended : (t : Tableau) → IsDual t → is_pivot (move (after t (steps_to_end t))) ≡ false
unfolding steps_to_end
ended t d = ended_in (room (height t + width t)) t (steps_low t d)

-- ---- along the steps to an end
counted_above : (m : Move) (a k : ℕ) → k < counted m a → is_pivot m ≡ true
counted_above optimal a k h = absurd (omega arith)
counted_above (infeasible r) a k h = absurd (omega arith)
counted_above (pivoted r j) a k h = refl

counted_below : (m : Move) (a k : ℕ) → suc k < counted m a → k < a
counted_below optimal a k h = absurd (omega arith)
counted_below (infeasible r) a k h = absurd (omega arith)
counted_below (pivoted r j) a k h = omega arith

pivots_before : (n : ℕ) (t : Tableau) (k : ℕ) → k < steps n t → is_pivot (move (after t k)) ≡ true
unfolding steps after
pivots_before zero t k h = absurd (omega arith)
pivots_before (suc n) t zero h = counted_above (move t) _ 0 h
pivots_before (suc n) t (suc k) h = ap (λ u. is_pivot (move u)) (sym (after_next t k)) ∙ pivots_before n (next t) k (counted_below (move t) _ k h)

-- each step before the end is a pivot
pub pivots_to_end : (t : Tableau) (k : ℕ) → k < steps_to_end t → is_pivot (move (after t k)) ≡ true
unfolding steps_to_end
pivots_to_end t k h = pivots_before (room (height t + width t)) t k h

-- no two tableaus on the way to the end have the same basic variables
pub no_basis_twice : (t : Tableau) (i k : ℕ) → IsDual t → i < k → k ≤ steps_to_end t → HaveSameBasics (after t i) (after t k) → ⊥
no_basis_twice t i k d h l s =
    never_again (after t) (λ k. row_in (move (after t k))) (λ k. place_in (move (after t k))) (steps_to_end t) i k (path_from t (steps_to_end t) d (pivots_to_end t)) h l s

pub dual_after : (t : Tableau) (k : ℕ) → IsDual t → IsDual (after t k)
unfolding after
dual_after t zero d = d
dual_after t (suc k) d = dual_next (after t k) (dual_after t k d)
