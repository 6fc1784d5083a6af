-- Draws that begin at a later state.
use Rattle.std.proofs.Common.{◌≡◌, ℕ, zero, suc, ◌+◌, ◌-◌, ◌*◌, ◌%◌, refl, sym, ◌∙◌, ap, List, [], ◌∷◌, ◌++◌, map, arith}
use Rattle.std.proofs.Math.Nat.{mod-add-mod}
use Rattle.std.proofs.lemmas.List.FromFn.{map-range_with_len_more}
use Rattle.std.specs.List.{range_with_len}
use Rattle.workload_maker.specs.Draws.{next_state, state, high_bits, draw}
use Rattle.workload_maker.specs.Made.{signal_with, link_with, red_drawn, left_drawn, distance_drawn, made_signal, made_link}

-- the product may be reduced before the sum
pub wraps_once : (x : ℕ) → (x * 6364136223846793005 % 18446744073709551616 + 1442695040888963407) % 18446744073709551616 ≡ next_state x
wraps_once x = mod-add-mod (x * 6364136223846793005) 18446744073709551616 1442695040888963407

-- no step
pub no_step : (x : ℕ) → x ≡ state x 0
unfolding state
no_step x = refl

-- one step
pub one_step : (x : ℕ) → state x 1 ≡ next_state x
unfolding state
one_step x = refl

-- k steps after j steps
pub steps_add : (x j k : ℕ) → state (state x j) k ≡ state x (j + k)
unfolding state
steps_add x j zero = ap (state x) (omega arith)
steps_add x j (suc k) =
    let e : suc (j + k) ≡ j + suc k = omega arith in
    ap next_state (steps_add x j k) ∙ ap (state x) e

-- three draws after one another
pub two_steps : (x a b : ℕ) → a ≡ state x 1 → b ≡ state a 1 → b ≡ state x 2
two_steps x a b first second = second ∙ ap (λ y. state y 1) first ∙ steps_add x 1 1

pub three_steps : (x a b c : ℕ) → a ≡ state x 1 → b ≡ state a 1 → c ≡ state b 1 → c ≡ state x 3
three_steps x a b c first second third = third ∙ ap (λ y. state y 1) (two_steps x a b first second) ∙ steps_add x 2 1

-- a later draw by its place among all draws
pub draw_at : (x j k l m : ℕ) → j + k ≡ l → draw (state x j) k m ≡ draw x l m
draw_at x j k l m e = ap (λ y. high_bits y % m) (steps_add x j k ∙ ap (state x) e)

-- the signal that is drawn after i signals
pub signal_at : (seed i x : ℕ) → x ≡ state seed (3 * i) → signal_with (i + 1) (red_drawn x 1) (left_drawn x 2) (left_drawn x 3) ≡ made_signal seed (i + 1)
signal_at seed i x e =
    let red : draw x 1 21 ≡ draw seed (3 * (i + 1) - 2) 21 = ap (λ y. draw y 1 21) e ∙ draw_at seed (3 * i) 1 (3 * (i + 1) - 2) 21 (omega arith) in
    let left_out : draw x 2 3 ≡ draw seed (3 * (i + 1) - 1) 3 = ap (λ y. draw y 2 3) e ∙ draw_at seed (3 * i) 2 (3 * (i + 1) - 1) 3 (omega arith) in
    let left_in : draw x 3 3 ≡ draw seed (3 * (i + 1)) 3 = ap (λ y. draw y 3 3) e ∙ draw_at seed (3 * i) 3 (3 * (i + 1)) 3 (omega arith) in
    rw (red, left_out, left_in) refl

-- the links whose lengths are drawn after n signals
pub links_at : (seed n x : ℕ) (js : List ℕ) → x ≡ state seed (3 * n) → map link_with (map (distance_drawn x) js) ≡ map (made_link seed n) js
links_at seed n x [] e = refl
links_at seed n x (j ∷ js) e =
    let d : draw x j 41 ≡ draw seed (3 * n + j) 41 = ap (λ y. draw y j 41) e ∙ draw_at seed (3 * n) j (3 * n + j) 41 refl in
    ap (λ k. link_with (200 + 10 * k) ∷ map link_with (map (distance_drawn x) js)) d ∙ ap (λ ls. made_link seed n j ∷ ls) (links_at seed n x js e)

-- one more item of a list that is made from the numbers from 1 on
pub one_more : {X : Type 0} (f : ℕ → X) (i : ℕ) (before after : List X) (x : X) → after ≡ before ++ x ∷ [] → before ≡ map f (range_with_len 1 i)
    → x ≡ f (i + 1) → after ≡ map f (range_with_len 1 (i + 1))
one_more f i before after x e b v =
    e ∙ ap (λ xs. xs ++ x ∷ []) b ∙ ap (λ y. map f (range_with_len 1 i) ++ y ∷ []) v ∙ sym (map-range_with_len_more f 1 i (i + 1) (omega arith))
