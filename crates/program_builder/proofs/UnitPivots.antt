-- An exchange whose pivot is 1: what it makes of the goal row, and that a row with 0 at the place stays as it is.
use Rattle.std.proofs.Common.{◌≡◌, ℕ, pos, List, [], ◌∷◌, get_or, length, ◌<◌, ◌⊎◌, inl, inr, refl, sym, ◌∙◌, ap, arith}
use Rattle.std.proofs.lemmas.Bool.{cases_eq}
use Rattle.std.proofs.lemmas.Int.{ints}
use Rattle.rational_theory.specs.Rational.{ℚ, whole, neg_ℚ, inverse_ℚ, ◌+ℚ◌, ◌*ℚ◌}
use Rattle.rational_theory.proofs.Order.{*ℚ-inverse, whole_not_zero}
use Rattle.rational_theory.proofs.Ring.{one-*ℚ, ring, at, lit, minus, ◌⊕◌, ◌⊗◌}
use Rattle.simplex_theory.proofs.Signs.{inverse_neg}
use Rattle.simplex_theory.specs.Lines.{divided, cleared}
use Rattle.simplex_theory.proofs.Lines.{cleared_at, cleared_other}
use Rattle.simplex_theory.specs.Tableau.{Tableau, line, cell, goal_cell, height, width, IsShaped, IsPlace, exchange}
use Rattle.simplex_theory.proofs.Tableau.{line-exchange_other}
use Rattle.simplex_theory.specs.DualSteps.{ratio}
use Rattle.simplex_theory.proofs.DualSteps.{goal_at, goal_other}

one_not_zero : whole (pos 1) ≡ whole (pos 0) → ⊥
one_not_zero = whole_not_zero (pos 1) (λ e. absurd (omega (arith, ints)))

pub inverse_one : inverse_ℚ (whole (pos 1)) ≡ whole (pos 1)
inverse_one = sym (one-*ℚ _) ∙ *ℚ-inverse (whole (pos 1)) one_not_zero

pub unit_place : (t : Tableau) (r j : ℕ) → r < height t → j < width t → cell t r j ≡ whole (pos 1) → IsPlace t r j
unit_place t r j h l e = record { row = h; place = l; pivot = λ z. one_not_zero (sym e ∙ z) }

ratio_one : (t : Tableau) (r j : ℕ) → cell t r j ≡ whole (pos 1) → ratio t r j ≡ neg_ℚ (goal_cell t j)
unfolding ratio
ratio_one t r j e =
    ap (λ u. goal_cell t j *ℚ inverse_ℚ (neg_ℚ u)) e
    ∙ ap (λ u. goal_cell t j *ℚ u) (inverse_neg (whole (pos 1)) one_not_zero ∙ ap neg_ℚ inverse_one)
    ∙ ring (at 0 ⊗ minus (lit (pos 1))) (minus (at 0)) (goal_cell t j ∷ []) refl

pub unit_goal_at : (r j : ℕ) (t : Tableau) → IsShaped t → IsPlace t r j → cell t r j ≡ whole (pos 1) → goal_cell (exchange r j t) j ≡ neg_ℚ (goal_cell t j)
unit_goal_at r j t s p e = goal_at r j t s p ∙ ratio_one t r j e

pub unit_goal_other : (r j k : ℕ) (t : Tableau) → IsPlace t r j → cell t r j ≡ whole (pos 1) → (k ≡ j → ⊥)
    → goal_cell (exchange r j t) k ≡ goal_cell t k +ℚ neg_ℚ (goal_cell t j) *ℚ cell t r k
unit_goal_other r j k t p e n = goal_other r j k t p n ∙ ap (λ u. goal_cell t k +ℚ u *ℚ cell t r k) (ratio_one t r j e)

-- a row with 0 at the place
pub cleared_kept : (j k : ℕ) (e d : List ℚ) → j < length d → get_or d j (whole (pos 0)) ≡ whole (pos 0) → get_or (cleared j e d) k (whole (pos 0)) ≡ get_or d k (whole (pos 0))
cleared_kept j k e d h z = pick (cases_eq k j)
  where
    pick : (k ≡ j) ⊎ (k ≡ j → ⊥) → get_or (cleared j e d) k (whole (pos 0)) ≡ get_or d k (whole (pos 0))
    pick (inl q) =
        ap (λ m. get_or (cleared j e d) m (whole (pos 0))) q ∙ cleared_at j e d h ∙ ap (λ u. neg_ℚ u *ℚ get_or e j (whole (pos 0))) z
        ∙ ring (minus (lit (pos 0)) ⊗ at 0) (lit (pos 0)) (get_or e j (whole (pos 0)) ∷ []) refl ∙ sym z ∙ ap (λ m. get_or d m (whole (pos 0))) (sym q)
    pick (inr n) =
        cleared_other j k e d n ∙ ap (λ u. get_or d k (whole (pos 0)) +ℚ neg_ℚ u *ℚ get_or e k (whole (pos 0))) z
        ∙ ring (at 0 ⊕ minus (lit (pos 0)) ⊗ at 1) (at 0) (get_or d k (whole (pos 0)) ∷ get_or e k (whole (pos 0)) ∷ []) refl

pub cell_kept : (r j i k : ℕ) (t : Tableau) → IsShaped t → j < width t → i < height t → (i ≡ r → ⊥) → cell t i j ≡ whole (pos 0) → cell (exchange r j t) i k ≡ cell t i k
cell_kept r j i k t s h l n z =
    ap (λ (c : List ℚ). get_or c k (whole (pos 0))) (line-exchange_other r j i t l n)
    ∙ cleared_kept j k (divided j (line t r)) (line t i) (let e = s.lines i l in omega arith) z
