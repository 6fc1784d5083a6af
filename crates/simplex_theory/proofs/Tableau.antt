-- Lemmas on the definitions of `Tableau`.
use Rattle.std.proofs.Common.{◌≡◌, ◌↔◌, ℕ, suc, pos, List, [], length, get_or, ◌<◌, ◌⊎◌, inl, inr, refl, sym, ◌∙◌, ap, subst, arith}
use Rattle.std.proofs.Math.ListN.{set, length-set}
use Rattle.std.proofs.lemmas.List.{get_or-set_same, get_or-set_other, get_or-map, length-map}
use Rattle.rational_theory.specs.Rational.{ℚ, whole, neg_ℚ, inverse_ℚ, ◌+ℚ◌, ◌*ℚ◌}
use Rattle.rational_theory.proofs.Order.{inverse_not_zero, *ℚ_cancel}
use Rattle.rational_theory.proofs.Arithmetic.{*ℚ_comm, *ℚ-zero, +ℚ-zero}
use Rattle.rational_theory.specs.Rows.{dot}
use Rattle.rational_theory.proofs.Ring.{zero-*ℚ}
use Rattle.simplex_theory.specs.Lines.{values, divided, cleared}
use Rattle.simplex_theory.proofs.Lines.{divided_gap, cleared_gap, length-values, values-set, get_or-values, length-divided, length-cleared}
use Rattle.simplex_theory.specs.Tableau.{Tableau, line, cell, goal_cell, height, width, basic_at, standing_at, IsShaped, exchange, IsPlace, gap, goal_gap, Meets}

-- ---- what is where after an exchange
pub height-exchange : (r j : ℕ) (t : Tableau) → height (exchange r j t) ≡ height t
unfolding exchange
height-exchange r j t = length-set _ r _ ∙ length-map t.rows _

pub width-exchange : (r j : ℕ) (t : Tableau) → width (exchange r j t) ≡ width t
unfolding exchange
width-exchange r j t = length-set _ j _

pub line-exchange_same : (r j : ℕ) (t : Tableau) → r < height t → line (exchange r j t) r ≡ divided j (line t r)
unfolding exchange
line-exchange_same r j t h = get_or-set_same _ r _ [] (rw (length-map t.rows (cleared j (divided j (line t r)))) h)

pub line-exchange_other : (r j i : ℕ) (t : Tableau) → i < height t → (i ≡ r → ⊥) → line (exchange r j t) i ≡ cleared j (divided j (line t r)) (line t i)
unfolding exchange
line-exchange_other r j i t h n = get_or-set_other _ r i _ [] n ∙ get_or-map _ t.rows i [] [] h

pub goal-exchange : (r j : ℕ) (t : Tableau) → (exchange r j t).goal ≡ cleared j (divided j (line t r)) t.goal
unfolding exchange
goal-exchange r j t = refl

pub basic-exchange : (r j : ℕ) (t : Tableau) → (exchange r j t).basic ≡ set t.basic r (standing_at t j)
unfolding exchange
basic-exchange r j t = refl

pub standing-exchange : (r j : ℕ) (t : Tableau) → (exchange r j t).standing ≡ set t.standing j (basic_at t r)
unfolding exchange
standing-exchange r j t = refl

pub same_or_other : (i r : ℕ) → (i ≡ r) ⊎ (i ≡ r → ⊥)
same_or_other i r = grind arith

pub shaped-exchange : (r j : ℕ) (t : Tableau) → IsShaped t → r < height t → IsShaped (exchange r j t)
shaped-exchange r j t s h = record {
  basics = ap length (basic-exchange r j t) ∙ length-set t.basic r (standing_at t j) ∙ s.basics ∙ sym (height-exchange r j t);
  lines = λ i l. pick i (subst (λ n. i < n) (height-exchange r j t) l) (same_or_other i r) ∙ ap suc (sym (width-exchange r j t));
  goals = ap length (goal-exchange r j t) ∙ length-cleared j _ t.goal (s.goals ∙ sym (length-divided j (line t r) ∙ s.lines r h)) ∙ s.goals ∙ ap suc (sym (width-exchange r j t));
}
  where
    pick : (i : ℕ) → i < height t → (i ≡ r) ⊎ (i ≡ r → ⊥) → length (line (exchange r j t) i) ≡ suc (width t)
    pick i l (inl e) = rw e (ap length (line-exchange_same r j t h) ∙ length-divided j (line t r) ∙ s.lines r h)
    pick i l (inr n) = ap length (line-exchange_other r j i t l n) ∙ length-cleared j _ (line t i) (s.lines i l ∙ sym (length-divided j (line t r) ∙ s.lines r h)) ∙ s.lines i l

values_there : (r j : ℕ) (t : Tableau) (x : ℕ → ℚ) (z : ℚ) → j < width t → values x z (exchange r j t).standing ≡ set (values x z t.standing) j (x (basic_at t r))
values_there r j t x z h = ap (λ s. values x z s) (standing-exchange r j t) ∙ values-set x z t.standing j (basic_at t r) h

pub basic_same : (r j : ℕ) (t : Tableau) → r < length t.basic → basic_at (exchange r j t) r ≡ standing_at t j
basic_same r j t h = ap (λ (l : List ℕ). get_or l r 0) (basic-exchange r j t) ∙ get_or-set_same t.basic r _ 0 h

pub basic_other : (r j i : ℕ) (t : Tableau) → (i ≡ r → ⊥) → basic_at (exchange r j t) i ≡ basic_at t i
basic_other r j i t n = ap (λ (l : List ℕ). get_or l i 0) (basic-exchange r j t) ∙ get_or-set_other t.basic r i _ 0 n

pub standing_same : (r j : ℕ) (t : Tableau) → j < width t → standing_at (exchange r j t) j ≡ basic_at t r
standing_same r j t h = ap (λ (l : List ℕ). get_or l j 0) (standing-exchange r j t) ∙ get_or-set_same t.standing j _ 0 h

pub standing_other : (r j k : ℕ) (t : Tableau) → (k ≡ j → ⊥) → standing_at (exchange r j t) k ≡ standing_at t k
standing_other r j k t n = ap (λ (l : List ℕ). get_or l k 0) (standing-exchange r j t) ∙ get_or-set_other t.standing j k _ 0 n

pub gap-exchange_same : (r j : ℕ) (t : Tableau) (x : ℕ → ℚ) (z : ℚ) → IsShaped t → IsPlace t r j
    → gap (exchange r j t) x z r ≡ inverse_ℚ (cell t r j) *ℚ gap t x z r
unfolding gap
gap-exchange_same r j t x z s p =
    rw (basic_same r j t (rw s.basics p.row), line-exchange_same r j t p.row, values_there r j t x z p.place)
    (ap (λ u. u +ℚ dot (divided j (line t r)) (set (values x z t.standing) j (x (basic_at t r)))) (sym (get_or-values x z t.standing j p.place))
    ∙ divided_gap (line t r) (values x z t.standing) j (x (basic_at t r)) (let e = s.lines r p.row in let k = p.place in omega arith) (let e =
    length-values x z t.standing in let k = p.place in omega arith) p.pivot)

pub gap-exchange_other : (r j i : ℕ) (t : Tableau) (x : ℕ → ℚ) (z : ℚ) → IsShaped t → IsPlace t r j → i < height t → (i ≡ r → ⊥)
    → gap (exchange r j t) x z i ≡ gap t x z i +ℚ neg_ℚ (cell t i j) *ℚ gap (exchange r j t) x z r
unfolding gap
gap-exchange_other r j i t x z s p l n =
    rw (basic_other r j i t n, basic_same r j t (rw s.basics p.row), line-exchange_same r j t p.row, line-exchange_other r j i t l n, values_there r j t x z p.place)
    (cleared_gap (line t i) (divided j (line t r)) (values x z t.standing) j (x (basic_at t i)) (x (basic_at t r)) (let e = s.lines i l in let k =
    p.place in omega arith) (let e = length-values x z t.standing in let k = p.place in omega arith)
    ∙ ap (λ u. gap t x z i +ℚ neg_ℚ (cell t i j) *ℚ (u +ℚ dot (divided j (line t r)) (set (values x z t.standing) j (x (basic_at t r))))) (get_or-values x z t.standing j p.place))

pub goal_gap-exchange : (r j : ℕ) (t : Tableau) (x : ℕ → ℚ) (z y : ℚ) → IsShaped t → IsPlace t r j
    → goal_gap (exchange r j t) x z y ≡ goal_gap t x z y +ℚ neg_ℚ (goal_cell t j) *ℚ gap (exchange r j t) x z r
unfolding gap goal_gap
goal_gap-exchange r j t x z y s p =
    rw (basic_same r j t (rw s.basics p.row), line-exchange_same r j t p.row, goal-exchange r j t, values_there r j t x z p.place)
    (cleared_gap t.goal (divided j (line t r)) (values x z t.standing) j y (x (basic_at t r)) (let e = s.goals in let k = p.place in omega arith) (let e =
    length-values x z t.standing in let k = p.place in omega arith)
    ∙ ap (λ u. goal_gap t x z y +ℚ neg_ℚ (goal_cell t j) *ℚ (u +ℚ dot (divided j (line t r)) (set (values x z t.standing) j (x (basic_at t r))))) (get_or-values x z t.standing j p.place))

-- ---- the exchange keeps the assignments, and the goal on them
no_part : (a b c : ℚ) → c ≡ whole (pos 0) → a +ℚ b *ℚ c ≡ a
no_part a b c e = ap (λ t. a +ℚ b *ℚ t) e ∙ ap (λ t. a +ℚ t) (*ℚ-zero b) ∙ +ℚ-zero a

pub meets-exchange : (r j : ℕ) (t : Tableau) (x : ℕ → ℚ) (z : ℚ) → IsShaped t → IsPlace t r j → Meets t x z ↔ Meets (exchange r j t) x z
meets-exchange r j t x z s p = (
  λ m. record { met = λ i l. there m i (subst (λ n. i < n) (height-exchange r j t) l) (same_or_other i r) },
  λ m. record { met = λ i l. back m i l (same_or_other i r) },
)
  where
    own : Meets t x z → gap (exchange r j t) x z r ≡ whole (pos 0)
    own m = gap-exchange_same r j t x z s p ∙ ap (λ u. inverse_ℚ (cell t r j) *ℚ u) (m.met r p.row) ∙ *ℚ-zero _

    there : Meets t x z → (i : ℕ) → i < height t → (i ≡ r) ⊎ (i ≡ r → ⊥) → gap (exchange r j t) x z i ≡ whole (pos 0)
    there m i l (inl e) = rw e (own m)
    there m i l (inr n) = gap-exchange_other r j i t x z s p l n ∙ no_part _ _ _ (own m) ∙ m.met i l

    zeroed : Meets (exchange r j t) x z → gap (exchange r j t) x z r ≡ whole (pos 0)
    zeroed m = m.met r (rw (height-exchange r j t) p.row)

    back : Meets (exchange r j t) x z → (i : ℕ) → i < height t → (i ≡ r) ⊎ (i ≡ r → ⊥) → gap t x z i ≡ whole (pos 0)
    back m i l (inl e) =
        rw e
        (*ℚ_cancel _ _ (inverse_ℚ (cell t r j)) (inverse_not_zero (cell t r j) p.pivot)
        (*ℚ_comm _ _ ∙ sym (gap-exchange_same r j t x z s p) ∙ zeroed m ∙ sym (zero-*ℚ _)))
    back m i l (inr n) = sym (no_part _ _ _ (zeroed m)) ∙ sym (gap-exchange_other r j i t x z s p l n) ∙ m.met i (rw (height-exchange r j t) l)

pub goal-exchange_same : (r j : ℕ) (t : Tableau) (x : ℕ → ℚ) (z y : ℚ) → IsShaped t → IsPlace t r j → Meets t x z → goal_gap (exchange r j t) x z y ≡ goal_gap t x z y
goal-exchange_same r j t x z y s p m =
    goal_gap-exchange r j t x z y s p
    ∙ no_part _ _ _ (((meets-exchange r j t x z s p).0 m).met r (rw (height-exchange r j t) p.row))
