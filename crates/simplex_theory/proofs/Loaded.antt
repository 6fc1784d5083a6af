-- A tableau with rows and goal just loaded, and the vertex of an optimal one.
use Rattle.std.proofs.Common.{◌≡◌, ℕ, pos, [], ◌∷◌, ◌+◌, ◌<◌, ◌⊎◌, inl, inr, refl, sym, ◌∙◌, ap, ap₂, subst, arith}
use Rattle.rational_theory.specs.Rational.{ℚ, whole, neg_ℚ, ◌+ℚ◌, ◌*ℚ◌, ◌≤ℚ◌}
use Rattle.rational_theory.proofs.Arithmetic.{*ℚ-one}
use Rattle.rational_theory.proofs.Order.{≤ℚ_refl}
use Rattle.rational_theory.proofs.Linear.{linear}
use Rattle.rational_theory.proofs.Ring.{zero-+ℚ, ring, at, lit, minus, ◌⊕◌, ◌⊗◌}
use Rattle.simplex_theory.specs.Tableau.{Tableau, line, cell, goal_cell, height, width, bound, goal_bound, basic_at, standing_at, IsShaped, gap, goal_gap}
use Rattle.simplex_theory.specs.DualSteps.{IsPlaced, IsDual}
use Rattle.simplex_theory.specs.Vertices.{vertex}
use Rattle.simplex_theory.proofs.Vertices.{vertex_basic, vertex_other, vertex_meets, goal_gap_zeros}
use Rattle.simplex_theory.specs.Paths.{IsBasic}
use Rattle.simplex_theory.proofs.Paths.{basic_or_not}
use Rattle.simplex_theory.specs.Totals.{total}
use Rattle.simplex_theory.proofs.Totals.{total_same, total_neg, dot_places}
use Rattle.simplex_theory.specs.Multipliers.{System, StandsFor}

-- each slack is basic in its row, and each column stands at its place
pub record IsLoaded (t : Tableau) (s : System) : Type 0 where
  pub shaped : IsShaped t
  pub slacks : (i : ℕ) → i < height t → basic_at t i ≡ width t + i
  pub columns : (k : ℕ) → k < width t → standing_at t k ≡ k
  pub cells : (i k : ℕ) → i < height t → k < width t → cell t i k ≡ s.coef i k
  pub bounds : (i : ℕ) → i < height t → bound t i ≡ s.limit i
  pub goals : (k : ℕ) → k < width t → goal_cell t k ≡ neg_ℚ (s.goal k)
  pub nothing : goal_bound t ≡ whole (pos 0)

pub placed-loaded : (t : Tableau) (s : System) → IsLoaded t s → IsPlaced t
placed-loaded t s l = record {
  rows = λ i k a b e. let f = l.slacks i a in let g = l.slacks k b in omega arith;
  places = λ i k a b e. let f = l.columns i a in let g = l.columns k b in omega arith;
  apart = λ i k a b e. absurd (let f = l.slacks i a in let g = l.columns k b in omega arith);
  low_rows = λ i a. let f = l.slacks i a in omega arith;
  low_places = λ k a. let f = l.columns k a in omega arith;
}

gap-loaded : (t : Tableau) (s : System) (x : ℕ → ℚ) (z : ℚ) (i : ℕ) → IsLoaded t s → i < height t → gap t x z i +ℚ s.limit i *ℚ z ≡ total (λ c. s.coef i c *ℚ x c) (width t) +ℚ x (width t + i)
unfolding gap
gap-loaded t s x z i l h =
    ap (λ u. (x (basic_at t i) +ℚ u) +ℚ s.limit i *ℚ z)
    (dot_places (line t i) x z t.standing (l.shaped.lines i h)
    ∙ ap₂ (λ u v. u +ℚ neg_ℚ (v *ℚ z)) (total_same _ _ (width t) (λ c k. ap₂ (λ u v. u *ℚ x v) (l.cells i c h k) (l.columns c k))) (l.bounds i h))
    ∙ ap (λ v. (x v +ℚ (total (λ c. s.coef i c *ℚ x c) (width t) +ℚ neg_ℚ (s.limit i *ℚ z))) +ℚ s.limit i *ℚ z) (l.slacks i h)
    ∙ ring ((at 0 ⊕ (at 1 ⊕ minus (at 2))) ⊕ at 2) (at 1 ⊕ at 0) (x (width t + i) ∷ total (λ c. s.coef i c *ℚ x c) (width t) ∷ s.limit i *ℚ z ∷ []) refl

pub stands-loaded : (t : Tableau) (s : System) → IsLoaded t s → StandsFor t s
unfolding goal_gap
stands-loaded t s l = record {
  rows = λ x z. (
    λ m. record { fills = λ r h. sym (gap-loaded t s x z r l h) ∙ ap (λ u. u +ℚ s.limit r *ℚ z) (m.met r h) ∙ zero-+ℚ _ },
    λ f. record {
      met = λ r h.
          ring (at 0) ((at 0 ⊕ at 1) ⊕ minus (at 1)) (gap t x z r ∷ s.limit r *ℚ z ∷ []) refl
          ∙ ap (λ u. u +ℚ neg_ℚ (s.limit r *ℚ z)) (gap-loaded t s x z r l h ∙ f.fills r h) ∙ ring (at 0 ⊕ minus (at 0)) (lit (pos 0)) (s.limit r *ℚ z ∷ []) refl;
    },
  );
  goals = λ x z m.
      let g = total (λ c. s.goal c *ℚ x c) (width t) in
      let e : total (λ k. goal_cell t k *ℚ x (standing_at t k)) (width t) ≡ neg_ℚ g =
      total_same _ _ (width t) (λ c k. ap₂ (λ u v. u *ℚ x v) (l.goals c k) (l.columns c k) ∙ ring (minus (at 0) ⊗ at 1) (minus (at 0 ⊗ at 1)) (s.goal c ∷ x c ∷ []) refl)
      ∙ total_neg (λ c. s.goal c *ℚ x c) (width t) in
      ap (λ u. g +ℚ u) (dot_places t.goal x z t.standing l.shaped.goals ∙ ap₂ (λ u v. u +ℚ neg_ℚ (v *ℚ z)) e l.nothing)
      ∙ ring (at 0 ⊕ (minus (at 0) ⊕ minus (lit (pos 0) ⊗ at 1))) (lit (pos 0)) (g ∷ z ∷ []) refl;
}

-- ---- the vertex
pub vertex_low : (t : Tableau) (v : ℕ) → IsDual t → ((i : ℕ) → i < height t → whole (pos 0) ≤ℚ bound t i) → whole (pos 0) ≤ℚ vertex t v
vertex_low t v d h = pick (basic_or_not t v)
  where
    pick : IsBasic t v ⊎ ((i : ℕ) → i < height t → basic_at t i ≡ v → ⊥) → whole (pos 0) ≤ℚ vertex t v
    pick (inl b) = subst (λ u. whole (pos 0) ≤ℚ u) (sym (vertex_basic t b.row d.shaped d.placed b.within) ∙ ap (vertex t) b.is) (h b.row b.within)
    pick (inr n) = rw (vertex_other t v d.shaped n) (≤ℚ_refl _)

-- where no bound is negative, the vertex meets each named row
pub vertex_rows : (t : Tableau) (s : System) (r : ℕ) → IsDual t → StandsFor t s → ((i : ℕ) → i < height t → whole (pos 0) ≤ℚ bound t i) → r < height t
    → total (λ c. s.coef r c *ℚ vertex t c) (width t) ≤ℚ s.limit r
vertex_rows t s r d k h l =
    let f = ((k.rows (vertex t) (whole (pos 1))).0 (vertex_meets t d.shaped d.placed)).fills r l in
    linear (record { count = 1; low = lit (pos 0); high = at 1 } ∷ record { count = 1; low = at 0 ⊕ at 1; high = at 2 } ∷ []) 0 (at 0) (at 2)
    (total (λ c. s.coef r c *ℚ vertex t c) (width t) ∷ vertex t (width t + r) ∷ s.limit r ∷ [])
    (vertex_low t (width t + r) d h, (rw f (rw (*ℚ-one (s.limit r)) (≤ℚ_refl _)), tt)) refl

-- the goal at the vertex is the goal row's bound
pub vertex_goal : (t : Tableau) (s : System) → IsDual t → StandsFor t s → total (λ c. s.goal c *ℚ vertex t c) (width t) ≡ goal_bound t
unfolding goal_gap
vertex_goal t s d k =
    let g = total (λ c. s.goal c *ℚ vertex t c) (width t) in
    let e = k.goals (vertex t) (whole (pos 1)) (vertex_meets t d.shaped d.placed) in
    let f = sym (zero-+ℚ _) ∙ goal_gap_zeros t (vertex t) d.shaped (λ i l. vertex_other t (standing_at t i) d.shaped (λ j m n. d.placed.apart j i m l n)) in
    ring (at 0) ((at 0 ⊕ minus (at 1)) ⊕ at 1) (g ∷ goal_bound t ∷ []) refl ∙ ap (λ u. (g +ℚ u) +ℚ goal_bound t) (sym f) ∙ ap (λ u. u +ℚ goal_bound t) e ∙ zero-+ℚ _
