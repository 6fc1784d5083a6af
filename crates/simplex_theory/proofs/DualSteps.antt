-- Lemmas on the definitions of `DualSteps`.
use Rattle.std.proofs.Common.{◌≡◌, ℕ, pos, List, [], ◌∷◌, get_or, ◌+◌, ◌<◌, ◌⊎◌, inl, inr, refl, sym, ◌∙◌, ap, subst, arith}
use Rattle.rational_theory.specs.Rational.{ℚ, whole, neg_ℚ, inverse_ℚ, ◌+ℚ◌, ◌*ℚ◌, ◌≤ℚ◌, ◌<ℚ◌}
use Rattle.rational_theory.proofs.Arithmetic.{+ℚ_comm, *ℚ-one, neg-neg}
use Rattle.rational_theory.proofs.Order.{*ℚ-inverse, *ℚ_cancel, <ℚ-≤ℚ, ≤ℚ-*ℚ}
use Rattle.rational_theory.proofs.Linear.{linear, product_not_negative, sum_not_negative}
use Rattle.rational_theory.proofs.Ring.{zero-*ℚ, ring, at, lit, minus, ◌⊕◌, ◌⊗◌}
use Rattle.rational_theory.proofs.Rows.{+ℚ_cancel}
use Rattle.simplex_theory.proofs.Signs.{below_or_not, neg_positive, inverse_positive, inverse_neg, negative_nonzero, product_not_positive}
use Rattle.simplex_theory.proofs.Lines.{divided_at, divided_other, cleared_at, cleared_other}
use Rattle.simplex_theory.specs.Lines.{divided}
use Rattle.simplex_theory.specs.Tableau.{Tableau, line, cell, goal_cell, height, width, bound, goal_bound, basic_at, standing_at, IsShaped, IsPlace, exchange}
use Rattle.simplex_theory.proofs.Tableau.{height-exchange, width-exchange, goal-exchange, basic_same, basic_other, standing_same, standing_other, shaped-exchange, same_or_other}
use Rattle.simplex_theory.specs.DualSteps.{IsPlaced, IsDual, ratio, IsChoice}

pub place_of : (t : Tableau) (r j : ℕ) → IsChoice t r j → IsPlace t r j
place_of t r j c = record { row = c.row; place = c.place; pivot = negative_nonzero _ c.entering }

-- ---- variables stay where they are but the two
pub placed-exchange : (r j : ℕ) (t : Tableau) → IsShaped t → IsPlaced t → IsPlace t r j → IsPlaced (exchange r j t)
placed-exchange r j t s p q = record {
  rows = λ i k a b e. rows i k (rw (← height-exchange r j t) a) (rw (← height-exchange r j t) b) (same_or_other i r) (same_or_other k r) e;
  places = λ i k a b e. places i k (rw (← width-exchange r j t) a) (rw (← width-exchange r j t) b) (same_or_other i j) (same_or_other k j) e;
  apart = λ i k a b e. apart i k (rw (← height-exchange r j t) a) (rw (← width-exchange r j t) b) (same_or_other i r) (same_or_other k j) e;
  low_rows = λ i a. rw (height-exchange r j t, width-exchange r j t) (low_rows i (rw (← height-exchange r j t) a) (same_or_other i r));
  low_places = λ k a. rw (height-exchange r j t, width-exchange r j t) (low_places k (rw (← width-exchange r j t) a) (same_or_other k j));
}
  where
    at_row : basic_at (exchange r j t) r ≡ standing_at t j
    at_row = basic_same r j t (rw s.basics q.row)

    at_place : standing_at (exchange r j t) j ≡ basic_at t r
    at_place = standing_same r j t q.place

    rows : (i k : ℕ) → i < height t → k < height t → (i ≡ r) ⊎ (i ≡ r → ⊥) → (k ≡ r) ⊎ (k ≡ r → ⊥) → basic_at (exchange r j t) i ≡ basic_at (exchange r j t) k → i ≡ k
    rows i k a b (inl m) (inl n) e = m ∙ sym n
    rows i k a b (inl m) (inr n) e = absurd (p.apart k j b q.place (sym (basic_other r j k t n) ∙ sym e ∙ ap (λ l. basic_at (exchange r j t) l) m ∙ at_row))
    rows i k a b (inr m) (inl n) e = absurd (p.apart i j a q.place (sym (basic_other r j i t m) ∙ e ∙ ap (λ l. basic_at (exchange r j t) l) n ∙ at_row))
    rows i k a b (inr m) (inr n) e = p.rows i k a b (sym (basic_other r j i t m) ∙ e ∙ basic_other r j k t n)

    places : (i k : ℕ) → i < width t → k < width t → (i ≡ j) ⊎ (i ≡ j → ⊥) → (k ≡ j) ⊎ (k ≡ j → ⊥) → standing_at (exchange r j t) i ≡ standing_at (exchange r j t) k → i ≡ k
    places i k a b (inl m) (inl n) e = m ∙ sym n
    places i k a b (inl m) (inr n) e = absurd (p.apart r k q.row b (sym at_place ∙ ap (λ l. standing_at (exchange r j t) l) (sym m) ∙ e ∙ standing_other r j k t n))
    places i k a b (inr m) (inl n) e = absurd (p.apart r i q.row a (sym at_place ∙ ap (λ l. standing_at (exchange r j t) l) (sym n) ∙ sym e ∙ standing_other r j i t m))
    places i k a b (inr m) (inr n) e = p.places i k a b (sym (standing_other r j i t m) ∙ e ∙ standing_other r j k t n)

    apart : (i k : ℕ) → i < height t → k < width t → (i ≡ r) ⊎ (i ≡ r → ⊥) → (k ≡ j) ⊎ (k ≡ j → ⊥) → basic_at (exchange r j t) i ≡ standing_at (exchange r j t) k → ⊥
    apart i k a b (inl m) (inl n) e = p.apart r j q.row q.place (sym at_place ∙ ap (λ l. standing_at (exchange r j t) l) (sym n) ∙ sym e ∙ ap (λ l. basic_at (exchange r j t) l) m ∙ at_row)
    apart i k a b (inl m) (inr n) e = n (p.places k j b q.place (sym (standing_other r j k t n) ∙ sym e ∙ ap (λ l. basic_at (exchange r j t) l) m ∙ at_row))
    apart i k a b (inr m) (inl n) e = m (p.rows i r a q.row (sym (basic_other r j i t m) ∙ e ∙ ap (λ l. standing_at (exchange r j t) l) n ∙ at_place))
    apart i k a b (inr m) (inr n) e = p.apart i k a b (sym (basic_other r j i t m) ∙ e ∙ standing_other r j k t n)

    low_rows : (i : ℕ) → i < height t → (i ≡ r) ⊎ (i ≡ r → ⊥) → basic_at (exchange r j t) i < height t + width t
    low_rows i a (inl m) = rw (m, at_row) (p.low_places j q.place)
    low_rows i a (inr m) = rw (basic_other r j i t m) (p.low_rows i a)

    low_places : (k : ℕ) → k < width t → (k ≡ j) ⊎ (k ≡ j → ⊥) → standing_at (exchange r j t) k < height t + width t
    low_places k a (inl m) = rw (m, at_place) (p.low_rows r q.row)
    low_places k a (inr m) = rw (standing_other r j k t m) (p.low_places k a)

-- ---- the goal row after a step
pub goal_at : (r j : ℕ) (t : Tableau) → IsShaped t → IsPlace t r j → goal_cell (exchange r j t) j ≡ ratio t r j
unfolding ratio
goal_at r j t s p =
    ap (λ (l : List ℚ). get_or l j (whole (pos 0))) (goal-exchange r j t)
    ∙ cleared_at j (divided j (line t r)) t.goal (let e = s.goals in let k = p.place in omega arith)
    ∙ ap (λ u. neg_ℚ (goal_cell t j) *ℚ u) (divided_at j (line t r) (let e = s.lines r p.row in let k = p.place in omega arith))
    ∙ ring (minus (at 0) ⊗ at 1) (at 0 ⊗ minus (at 1)) (goal_cell t j ∷ inverse_ℚ (cell t r j) ∷ []) refl
    ∙ ap (λ u. goal_cell t j *ℚ u) (sym (inverse_neg (cell t r j) p.pivot))

pub goal_other : (r j k : ℕ) (t : Tableau) → IsPlace t r j → (k ≡ j → ⊥) → goal_cell (exchange r j t) k ≡ goal_cell t k +ℚ ratio t r j *ℚ cell t r k
unfolding ratio
goal_other r j k t p n =
    ap (λ (l : List ℚ). get_or l k (whole (pos 0))) (goal-exchange r j t)
    ∙ cleared_other j k (divided j (line t r)) t.goal n
    ∙ ap (λ u. goal_cell t k +ℚ neg_ℚ (goal_cell t j) *ℚ u) (divided_other j k (line t r) n)
    ∙ ring (at 0 ⊕ minus (at 1) ⊗ (at 2 ⊗ at 3)) (at 0 ⊕ at 1 ⊗ minus (at 2) ⊗ at 3) (goal_cell t k ∷ goal_cell t j ∷ inverse_ℚ (cell t r j) ∷ cell t r k ∷ []) refl
    ∙ ap (λ u. goal_cell t k +ℚ goal_cell t j *ℚ u *ℚ cell t r k) (sym (inverse_neg (cell t r j) p.pivot))

-- ---- signs
pub ratio_not_negative : (t : Tableau) (r k : ℕ) → whole (pos 0) ≤ℚ goal_cell t k → cell t r k <ℚ whole (pos 0) → whole (pos 0) ≤ℚ ratio t r k
unfolding ratio
ratio_not_negative t r k g c = product_not_negative _ _ g (inverse_positive _ (neg_positive _ c))

pub ratio-times : (t : Tableau) (r k : ℕ) → cell t r k <ℚ whole (pos 0) → ratio t r k *ℚ cell t r k ≡ neg_ℚ (goal_cell t k)
unfolding ratio
ratio-times t r k c =
    let n = negative_nonzero _ c in
    ap (λ u. goal_cell t k *ℚ u *ℚ cell t r k) (inverse_neg (cell t r k) n)
    ∙ ring (at 0 ⊗ minus (at 1) ⊗ at 2) (minus (at 0) ⊗ (at 2 ⊗ at 1)) (goal_cell t k ∷ inverse_ℚ (cell t r k) ∷ cell t r k ∷ []) refl
    ∙ ap (λ u. neg_ℚ (goal_cell t k) *ℚ u) (*ℚ-inverse (cell t r k) n) ∙ *ℚ-one _

pub dual-exchange : (r j : ℕ) (t : Tableau) → IsDual t → IsChoice t r j → IsDual (exchange r j t)
dual-exchange r j t d c = record {
  shaped = shaped-exchange r j t d.shaped c.row;
  placed = placed-exchange r j t d.shaped d.placed p;
  goals = λ k l. pick k (rw (← width-exchange r j t) l) (same_or_other k j);
}
  where
    p : IsPlace t r j
    p = place_of t r j c

    grows : whole (pos 0) ≤ℚ ratio t r j
    grows = ratio_not_negative t r j (d.goals j c.place) c.entering

    other : (k : ℕ) → k < width t → (cell t r k <ℚ whole (pos 0)) ⊎ (whole (pos 0) ≤ℚ cell t r k) → whole (pos 0) ≤ℚ (goal_cell t k +ℚ ratio t r j *ℚ cell t r k)
    other k l (inr h) = sum_not_negative _ _ (d.goals k l) (product_not_negative _ _ grows h)
    other k l (inl h) =
        let a = ≤ℚ-*ℚ _ _ (neg_ℚ (cell t r k)) (c.least_ratio k l h) (<ℚ-≤ℚ _ _ (neg_positive _ h)) in
        let e : ratio t r k *ℚ neg_ℚ (cell t r k) ≡ goal_cell t k =
        ring (at 0 ⊗ minus (at 1)) (minus (at 0 ⊗ at 1)) (ratio t r k ∷ cell t r k ∷ []) refl ∙ ap neg_ℚ (ratio-times t r k h) ∙ neg-neg _ in
        linear (record { count = 1; low = at 0 ⊗ minus (at 1); high = at 2 } ∷ []) 0 (lit (pos 0)) (at 2 ⊕ at 0 ⊗ at 1) (ratio t r j ∷ cell t r k ∷ goal_cell t k ∷ [])
        (subst (λ u. (ratio t r j *ℚ neg_ℚ (cell t r k)) ≤ℚ u) e a, tt) refl

    pick : (k : ℕ) → k < width t → (k ≡ j) ⊎ (k ≡ j → ⊥) → whole (pos 0) ≤ℚ goal_cell (exchange r j t) k
    pick k l (inl e) = rw e (rw (goal_at r j t d.shaped p) grows)
    pick k l (inr n) = rw (goal_other r j k t p n) (other k l (below_or_not (cell t r k) (whole (pos 0))))

-- ---- the goal's bound never rises, and stays only where the ratio is 0
pub goal_bound-exchange : (r j : ℕ) (t : Tableau) → IsPlace t r j → goal_bound (exchange r j t) ≡ goal_bound t +ℚ ratio t r j *ℚ bound t r
goal_bound-exchange r j t p = ap (λ k. goal_cell (exchange r j t) k) (width-exchange r j t) ∙ goal_other r j (width t) t p (λ e. absurd (let k = p.place in omega arith))

pub goal_bound_falls : (r j : ℕ) (t : Tableau) → IsDual t → IsChoice t r j → goal_bound (exchange r j t) ≤ℚ goal_bound t
goal_bound_falls r j t d c =
    rw (goal_bound-exchange r j t (place_of t r j c))
    (linear (record { count = 1; low = at 1; high = lit (pos 0) } ∷ []) 0 (at 0 ⊕ at 1) (at 0) (goal_bound t ∷ ratio t r j *ℚ bound t r ∷ [])
    (product_not_positive _ _ (ratio_not_negative t r j (d.goals j c.place) c.entering) (<ℚ-≤ℚ _ _ c.negative), tt) refl)

pub ratio_zero : (t : Tableau) (r j : ℕ) → cell t r j <ℚ whole (pos 0) → ratio t r j ≡ whole (pos 0) → goal_cell t j ≡ whole (pos 0)
ratio_zero t r j c e =
    sym (neg-neg _) ∙ ap neg_ℚ (sym (ratio-times t r j c)) ∙ ap (λ u. neg_ℚ (u *ℚ cell t r j)) e
    ∙ ring (minus (lit (pos 0) ⊗ at 0)) (lit (pos 0)) (cell t r j ∷ []) refl

pub zero_ratio : (t : Tableau) (r j : ℕ) → goal_cell t j ≡ whole (pos 0) → ratio t r j ≡ whole (pos 0)
unfolding ratio
zero_ratio t r j e = ap (λ u. u *ℚ inverse_ℚ (neg_ℚ (cell t r j))) e ∙ zero-*ℚ _

pub goal_bound_stays : (r j : ℕ) (t : Tableau) → IsChoice t r j → goal_bound (exchange r j t) ≡ goal_bound t → goal_cell t j ≡ whole (pos 0)
goal_bound_stays r j t c e =
    ratio_zero t r j c.entering
    (*ℚ_cancel _ _ (bound t r) (negative_nonzero _ c.negative)
    (+ℚ_cancel _ _ (goal_bound t)
    (+ℚ_comm _ _ ∙ sym (goal_bound-exchange r j t (place_of t r j c)) ∙ e
    ∙ ring (at 0) (lit (pos 0) ⊗ at 1 ⊕ at 0) (goal_bound t ∷ bound t r ∷ []) refl)))
