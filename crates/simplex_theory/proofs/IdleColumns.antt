-- A column that is 0 in every row never enters the basis: at every vertex its value is 0.
use Rattle.std.proofs.Common.{◌≡◌, ℕ, zero, suc, pos, List, [], ◌∷◌, get_or, ◌<◌, ◌⊎◌, inl, inr, refl, sym, ◌∙◌, ap, subst, arith}
use Rattle.rational_theory.specs.Rational.{ℚ, whole, neg_ℚ, inverse_ℚ, ◌+ℚ◌, ◌*ℚ◌}
use Rattle.rational_theory.proofs.Arithmetic.{*ℚ-zero}
use Rattle.rational_theory.proofs.Ring.{ring, at, lit, minus, ◌⊕◌, ◌⊗◌}
use Rattle.simplex_theory.proofs.Lines.{divided_other, cleared_other}
use Rattle.simplex_theory.specs.Lines.{divided}
use Rattle.simplex_theory.specs.Tableau.{Tableau, line, cell, height, width, standing_at, exchange, IsPlace}
use Rattle.simplex_theory.proofs.Tableau.{height-exchange, width-exchange, line-exchange_same, line-exchange_other, standing_other, same_or_other}
use Rattle.simplex_theory.specs.DualSteps.{IsDual}
use Rattle.simplex_theory.proofs.DualSteps.{place_of}
use Rattle.simplex_theory.specs.BlandRule.{Move, optimal, infeasible, pivoted, move, made, Says}
use Rattle.simplex_theory.proofs.BlandRule.{says}
use Rattle.simplex_theory.specs.StepCounts.{after}
use Rattle.simplex_theory.proofs.StepCounts.{next_is}
use Rattle.simplex_theory.specs.Vertices.{vertex}
use Rattle.simplex_theory.proofs.Vertices.{vertex_other}
use Rattle.simplex_theory.specs.RowLists.{vertex_point}
use Rattle.simplex_theory.proofs.RowLists.{columns_from_at}

-- the variable stands at a place whose cells are 0 in every row
pub record IsIdle (t : Tableau) (v : ℕ) : Type 0 where
  pub place : ℕ
  pub inside : place < width t
  pub stands : standing_at t place ≡ v
  pub nothing : (i : ℕ) → i < height t → cell t i place ≡ whole (pos 0)

module _ (r j v : ℕ) (t : Tableau) (p : IsPlace t r j) (d : IsIdle t v) where
  -- no pivot is there
  elsewhere : d.place ≡ j → ⊥
  elsewhere e = p.pivot (ap (λ k. cell t r k) (sym e) ∙ d.nothing r p.row)

  divided_cell : get_or (divided j (line t r)) d.place (whole (pos 0)) ≡ whole (pos 0)
  divided_cell = divided_other j d.place (line t r) elsewhere ∙ ap (λ u. inverse_ℚ (cell t r j) *ℚ u) (d.nothing r p.row) ∙ *ℚ-zero _

  idle_cell : (i : ℕ) → i < height t → (i ≡ r) ⊎ (i ≡ r → ⊥) → cell (exchange r j t) i d.place ≡ whole (pos 0)
  idle_cell i l (inl e) =
      ap (λ m. cell (exchange r j t) m d.place) e ∙ ap (λ (c : List ℚ). get_or c d.place (whole (pos 0))) (line-exchange_same r j t p.row) ∙ divided_cell
  idle_cell i l (inr n) =
      ap (λ (c : List ℚ). get_or c d.place (whole (pos 0))) (line-exchange_other r j i t l n)
      ∙ cleared_other j d.place (divided j (line t r)) (line t i) elsewhere
      ∙ ap (λ u. cell t i d.place +ℚ neg_ℚ (cell t i j) *ℚ u) divided_cell
      ∙ ap (λ u. u +ℚ neg_ℚ (cell t i j) *ℚ whole (pos 0)) (d.nothing i l)
      ∙ ring (lit (pos 0) ⊕ minus (at 0) ⊗ lit (pos 0)) (lit (pos 0)) (cell t i j ∷ []) refl

  -- an exchange leaves it so
  pub idle-exchange : IsIdle (exchange r j t) v
  idle-exchange = record {
    place = d.place;
    inside = rw (width-exchange r j t) d.inside;
    stands = standing_other r j d.place t elsewhere ∙ d.stands;
    nothing = λ i l. idle_cell i (subst (λ n. i < n) (height-exchange r j t) l) (same_or_other i r);
  }

-- so does a step
idle_made : (t : Tableau) (m : Move) (v : ℕ) → Says t m → IsIdle t v → IsIdle (made m t) v
idle_made t optimal v s d = d
idle_made t (infeasible r) v s d = d
idle_made t (pivoted r j) v s d = idle-exchange r j v t (place_of t r j s) d

pub idle_after : (t : Tableau) (v k : ℕ) → IsIdle t v → IsIdle (after t k) v
unfolding after
idle_after t v zero d = d
idle_after t v (suc k) d = subst (λ u. IsIdle u v) (sym (next_is (after t k))) (idle_made (after t k) (move (after t k)) v (says (after t k)) (idle_after t v k d))

-- at the vertex it has the value 0
pub idle_value : (t : Tableau) (v : ℕ) → IsDual t → IsIdle t v → vertex t v ≡ whole (pos 0)
idle_value t v h d = vertex_other t v h.shaped (λ i l e. h.placed.apart i d.place l d.inside (e ∙ sym d.stands))

pub idle_point : (t : Tableau) (v : ℕ) → IsDual t → v < width t → IsIdle t v → get_or (vertex_point t) v (whole (pos 0)) ≡ whole (pos 0)
unfolding vertex_point
idle_point t v h l d = columns_from_at (vertex t) 0 (width t) v l ∙ ap (vertex t) (omega arith) ∙ idle_value t v h d
