-- Lemmas on the definitions of `BlandRule`.
use Rattle.std.proofs.Common.{◌≡◌, ℕ, pos, Bool, true, false, true≢false, Option, Some, None, Ordering, Less, Equal, Greater, ltb, ◌<◌, ◌⊎◌, inl, inr, refl, sym, ◌∙◌, ap, subst, arith}
use Rattle.std.specs.Ordering.{is_lt, MatchOrdering}
use Rattle.std.proofs.lemmas.Bool.{ltb-true, ltb-false, lt-ltb, le-ltb, false_from_ne_true}
use Rattle.rational_theory.specs.Rational.{ℚ, whole, ◌≤ℚ◌, ◌<ℚ◌}
use Rattle.rational_theory.proofs.Order.{≤ℚ_refl, <ℚ-≤ℚ, <ℚ_trans}
use Rattle.rational_theory.specs.Compare.{cmp_ℚ}
use Rattle.rational_theory.proofs.Compare.{ranked_ℚ, cmp_ℚ-is, lt_true, lt_false}
use Rattle.simplex_theory.specs.Tableau.{Tableau, cell, height, width, bound, standing_at}
use Rattle.simplex_theory.specs.DualSteps.{IsChoice, IsDual, ratio}
use Rattle.simplex_theory.proofs.DualSteps.{dual-exchange}
use Rattle.simplex_theory.proofs.Best.{IsBest, IsOrder, OnBest, on_best}
use Rattle.simplex_theory.specs.BlandRule.{is_negative, less_by, row_before, place_before, chosen_row, chosen_place, Move, optimal, infeasible, pivoted, move_in, move_by, move, made, next, Says}

-- ---- what the functions choose
negative_true : (x : ℚ) → x <ℚ whole (pos 0) → is_negative x ≡ true
negative_true x h = sym (ap is_lt (cmp_ℚ-is x (whole (pos 0)) Less h))

pub row_order : (t : Tableau) → IsOrder (row_before t)
row_order t = record {
  itself = λ k. le-ltb _ _ (omega arith);
  through = λ a b c e f. lt-ltb _ _ (let g = ltb-true _ _ e in let h = ltb-true _ _ f in omega arith);
}

less_by_out : (x y : ℚ) (b : Bool) (o : Ordering) → MatchOrdering o (x <ℚ y) (x ≡ y) (y <ℚ x) → less_by o b ≡ true → (x <ℚ y) ⊎ ((x ≡ y) × (b ≡ true))
less_by_out x y b Less m e = inl m
less_by_out x y b Equal m e = inr (m, e)
less_by_out x y b Greater m e = absurd (true≢false (sym e))

less_by_lt : (x y : ℚ) (b : Bool) → x <ℚ y → less_by (cmp_ℚ x y) b ≡ true
less_by_lt x y b h = rw (← cmp_ℚ-is x y Less h) refl

less_by_eq : (x y : ℚ) (b : Bool) → x ≡ y → less_by (cmp_ℚ x y) b ≡ b
less_by_eq x y b h = rw (← cmp_ℚ-is x y Equal h) refl

before_out : (t : Tableau) (r i k : ℕ) → place_before t r i k ≡ true → (ratio t r i <ℚ ratio t r k) ⊎ ((ratio t r i ≡ ratio t r k) × (ltb (standing_at t i) (standing_at t k) ≡ true))
before_out t r i k e = less_by_out _ _ _ _ (ranked_ℚ (ratio t r i) (ratio t r k) _ refl) e

pub place_order : (t : Tableau) (r : ℕ) → IsOrder (place_before t r)
place_order t r = record {
  itself = λ k. less_by_eq (ratio t r k) (ratio t r k) _ refl ∙ le-ltb _ _ (omega arith);
  through = λ a b c e f. pick a b c (before_out t r a b e) (before_out t r b c f);
}
  where
    pick : (a b c : ℕ) → (ratio t r a <ℚ ratio t r b) ⊎ ((ratio t r a ≡ ratio t r b) × (ltb (standing_at t a) (standing_at t b) ≡ true))
        → (ratio t r b <ℚ ratio t r c) ⊎ ((ratio t r b ≡ ratio t r c) × (ltb (standing_at t b) (standing_at t c) ≡ true)) → place_before t r a c ≡ true
    pick a b c (inl e) (inl f) = less_by_lt _ _ _ (<ℚ_trans _ _ _ e f)
    pick a b c (inl e) (inr f) = less_by_lt _ _ _ (subst (λ u. ratio t r a <ℚ u) f.0 e)
    pick a b c (inr e) (inl f) = less_by_lt _ _ _ (subst (λ u. u <ℚ ratio t r c) (sym e.0) f)
    pick a b c (inr e) (inr f) = less_by_eq _ _ _ (e.0 ∙ f.0) ∙ lt-ltb _ _ (let g = ltb-true _ _ e.1 in let h = ltb-true _ _ f.1 in omega arith)

pub on_row : (t : Tableau) → OnBest (λ i. is_negative (bound t i)) (row_before t) (height t) (chosen_row t)
unfolding chosen_row
on_row t = on_best (λ i. is_negative (bound t i)) (row_before t) (height t) (row_order t)

pub on_place : (t : Tableau) (r : ℕ) → OnBest (λ k. is_negative (cell t r k)) (place_before t r) (width t) (chosen_place t r)
unfolding chosen_place
on_place t r = on_best (λ k. is_negative (cell t r k)) (place_before t r) (width t) (place_order t r)

choice_from : (t : Tableau) (r j : ℕ) → IsBest (λ i. is_negative (bound t i)) (row_before t) (height t) r → IsBest (λ k. is_negative (cell t r k)) (place_before t r) (width t) j → IsChoice t r j
choice_from t r j a b = record {
  row = a.within;
  negative = lt_true _ _ (sym a.passes);
  least_row = λ i h l. ltb-false _ _ (a.most i h (negative_true _ l));
  place = b.within;
  entering = lt_true _ _ (sym b.passes);
  least_ratio = λ k h l. by_order _ _ _ _ (ranked_ℚ (ratio t r k) (ratio t r j) _ refl) (b.most k h (negative_true _ l));
  least_place = λ k h l e. ltb-false _ _ (sym (less_by_eq (ratio t r k) (ratio t r j) _ (sym e)) ∙ b.most k h (negative_true _ l));
}
  where
    by_order : (x y : ℚ) (b : Bool) (o : Ordering) → MatchOrdering o (x <ℚ y) (x ≡ y) (y <ℚ x) → less_by o b ≡ false → y ≤ℚ x
    by_order x y b Less m e = absurd (true≢false e)
    by_order x y b Equal m e = rw m (≤ℚ_refl _)
    by_order x y b Greater m e = <ℚ-≤ℚ _ _ m

not_negative : (x : ℚ) → (is_negative x ≡ true → ⊥) → whole (pos 0) ≤ℚ x
not_negative x n = lt_false _ _ (sym (false_from_ne_true _ n))

says_in : (t : Tableau) (r : ℕ) (o : Option ℕ) → IsBest (λ i. is_negative (bound t i)) (row_before t) (height t) r
    → OnBest (λ k. is_negative (cell t r k)) (place_before t r) (width t) o → Says t (move_in r o)
says_in t r None a h = (a.within, lt_true _ _ (sym a.passes), λ k l. not_negative _ (h k l))
says_in t r (Some j) a h = choice_from t r j a h

says_by : (t : Tableau) (o : Option ℕ) → OnBest (λ i. is_negative (bound t i)) (row_before t) (height t) o → Says t (move_by t o)
says_by t None h = λ i l. not_negative _ (h i l)
says_by t (Some r) h = says_in t r (chosen_place t r) h (on_place t r)

pub says : (t : Tableau) → Says t (move t)
unfolding move
says t = says_by t (chosen_row t) (on_row t)

dual_made : (t : Tableau) (m : Move) → IsDual t → Says t m → IsDual (made m t)
dual_made t optimal d s = d
dual_made t (infeasible r) d s = d
dual_made t (pivoted r j) d s = dual-exchange r j t d s

pub dual_next : (t : Tableau) → IsDual t → IsDual (next t)
unfolding next
dual_next t d = dual_made t (move t) d (says t)

pub move_pivot : (t : Tableau) (r j : ℕ) → chosen_row t ≡ Some r → chosen_place t r ≡ Some j → move t ≡ pivoted r j
unfolding move
move_pivot t r j e f = ap (move_by t) e ∙ ap (move_in r) f

pub chosen_choice : (t : Tableau) (r j : ℕ) → chosen_row t ≡ Some r → chosen_place t r ≡ Some j → IsChoice t r j
chosen_choice t r j e f = subst (Says t) (move_pivot t r j e f) (says t)

pub chosen_row_in : (t : Tableau) (r : ℕ) → chosen_row t ≡ Some r → (r < height t) × (bound t r <ℚ whole (pos 0))
chosen_row_in t r e = let b = subst (OnBest (λ i. is_negative (bound t i)) (row_before t) (height t)) e (on_row t) in (b.within, lt_true _ _ (sym b.passes))
