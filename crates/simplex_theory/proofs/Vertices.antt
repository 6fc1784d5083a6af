-- Lemmas on the definitions of `Vertices`.
use Rattle.std.proofs.Common.{◌≡◌, ℕ, zero, suc, pos, List, [], ◌∷◌, get_or, length, Bool, true, false, cond, eqb, ◌<◌, refl, sym, ◌∙◌, ap, ap₂, subst, arith}
use Rattle.std.proofs.lemmas.Bool.{eq-eqb, eqb-true}
use Rattle.rational_theory.specs.Rational.{ℚ, whole, neg_ℚ, ◌+ℚ◌, ◌*ℚ◌, ◌≤ℚ◌}
use Rattle.rational_theory.proofs.Arithmetic.{+ℚ_comm, +ℚ-neg, neg-neg, *ℚ-one}
use Rattle.rational_theory.proofs.Order.{≤ℚ_refl}
use Rattle.rational_theory.specs.Rows.{dot}
use Rattle.rational_theory.proofs.Rows.{≤ℚ-sum}
use Rattle.rational_theory.proofs.Ring.{zero-+ℚ, ring, at, lit, minus, ◌⊕◌, ◌⊗◌}
use Rattle.simplex_theory.specs.Lines.{values}
use Rattle.simplex_theory.specs.Tableau.{Tableau, line, height, width, bound, goal_bound, basic_at, standing_at, IsShaped, Meets, gap, goal_gap}
use Rattle.simplex_theory.specs.DualSteps.{IsPlaced}
use Rattle.simplex_theory.specs.Vertices.{filled, fill, vertex}

cond_other : (t : Bool) (x y : ℚ) → (t ≡ true → ⊥) → cond t x y ≡ y
cond_other true x y n = absurd (n refl)
cond_other false x y n = refl

filled_basic : (f : ℕ → ℚ) (k : List ℚ) (bs : List ℕ) (cs : List (List ℚ)) (i : ℕ) → i < length bs → length bs ≡ length cs
    → ((a b : ℕ) → a < length bs → b < length bs → get_or bs a 0 ≡ get_or bs b 0 → a ≡ b)
    → filled f k bs cs (get_or bs i 0) ≡ neg_ℚ (dot (get_or cs i []) k)
filled_basic f k [] cs i h l n = absurd (omega arith)
filled_basic f k (b ∷ bs) [] i h l n = absurd (omega arith)
filled_basic f k (b ∷ bs) (c ∷ cs) zero h l n = rw (eq-eqb b b refl) refl
filled_basic f k (b ∷ bs) (c ∷ cs) (suc i) h l n =
    cond_other (eqb (get_or bs i 0) b) _ _ (λ e. absurd (let d = n (suc i) 0 h (omega arith) (eqb-true _ _ e) in omega arith))
    ∙ filled_basic f k bs cs i (omega arith) (omega arith) (λ u v p q e. let d = n (suc u) (suc v) (omega arith) (omega arith) e in omega arith)

filled_other : (f : ℕ → ℚ) (k : List ℚ) (bs : List ℕ) (cs : List (List ℚ)) (u : ℕ) → length bs ≡ length cs
    → ((i : ℕ) → i < length bs → get_or bs i 0 ≡ u → ⊥) → filled f k bs cs u ≡ f u
filled_other f k [] cs u l n = refl
filled_other f k (b ∷ bs) [] u l n = refl
filled_other f k (b ∷ bs) (c ∷ cs) u l n =
    cond_other (eqb u b) _ _ (λ e. n 0 (omega arith) (sym (eqb-true _ _ e)))
    ∙ filled_other f k bs cs u (omega arith) (λ i h e. n (suc i) (omega arith) e)

pub values_same : (x y : ℕ → ℚ) (z : ℚ) (vs : List ℕ) → ((j : ℕ) → j < length vs → x (get_or vs j 0) ≡ y (get_or vs j 0)) → values x z vs ≡ values y z vs
values_same x y z [] h = refl
values_same x y z (v ∷ vs) h = ap₂ (λ a l. a ∷ l) (h 0 (omega arith)) (values_same x y z vs (λ j l. h (suc j) (omega arith)))

pub fill_basic : (t : Tableau) (f : ℕ → ℚ) (z : ℚ) (i : ℕ) → IsShaped t → IsPlaced t → i < height t → fill t f z (basic_at t i) ≡ neg_ℚ (dot (line t i) (values f z t.standing))
unfolding fill
fill_basic t f z i s p h =
    filled_basic f (values f z t.standing) t.basic t.rows i (rw s.basics h) s.basics (λ a b k l e. p.rows a b (rw (← s.basics) k) (rw (← s.basics) l) e)

pub fill_other : (t : Tableau) (f : ℕ → ℚ) (z : ℚ) (u : ℕ) → IsShaped t → ((i : ℕ) → i < height t → basic_at t i ≡ u → ⊥) → fill t f z u ≡ f u
unfolding fill
fill_other t f z u s n = filled_other f (values f z t.standing) t.basic t.rows u s.basics (λ i h e. n i (rw (← s.basics) h) e)

pub fill_standing : (t : Tableau) (f : ℕ → ℚ) (z : ℚ) (k : ℕ) → IsShaped t → IsPlaced t → k < width t → fill t f z (standing_at t k) ≡ f (standing_at t k)
fill_standing t f z k s p h = fill_other t f z (standing_at t k) s (λ i l e. p.apart i k l h e)

pub values_fill : (t : Tableau) (f : ℕ → ℚ) (z : ℚ) → IsShaped t → IsPlaced t → values (fill t f z) z t.standing ≡ values f z t.standing
values_fill t f z s p = values_same (fill t f z) f z t.standing (λ k h. fill_standing t f z k s p h)

pub fill_meets : (t : Tableau) (f : ℕ → ℚ) (z : ℚ) → IsShaped t → IsPlaced t → Meets t (fill t f z) z
unfolding gap
fill_meets t f z s p = record {
  met = λ i h. rw (fill_basic t f z i s p h, values_fill t f z s p) (+ℚ_comm _ _ ∙ +ℚ-neg _);
}

-- ---- sums over the places
-- where all variables of the places are 0
pub dot_zeros : (c : List ℚ) (x : ℕ → ℚ) (z : ℚ) (vs : List ℕ) → length c ≡ suc (length vs) → ((j : ℕ) → j < length vs → x (get_or vs j 0) ≡ whole (pos 0))
    → dot c (values x z vs) ≡ neg_ℚ (get_or c (length vs) (whole (pos 0)) *ℚ z)
dot_zeros [] x z vs l h = absurd (omega arith)
dot_zeros (a ∷ []) x z [] l h = ring (at 0 ⊗ minus (at 1) ⊕ lit (pos 0)) (minus (at 0 ⊗ at 1)) (a ∷ z ∷ []) refl
dot_zeros (a ∷ (b ∷ us)) x z [] l h = absurd (omega arith)
dot_zeros (a ∷ us) x z (v ∷ vs) l h =
    ap₂ (λ s t. a *ℚ s +ℚ t) (h 0 (omega arith)) (dot_zeros us x z vs (omega arith) (λ j k. h (suc j) (omega arith)))
    ∙ ring (at 0 ⊗ lit (pos 0) ⊕ at 1) (at 1) (a ∷ neg_ℚ (get_or us (length vs) (whole (pos 0)) *ℚ z) ∷ []) refl

-- where no product at a place is negative
pub dot_low : (c : List ℚ) (x : ℕ → ℚ) (z : ℚ) (vs : List ℕ) → length c ≡ suc (length vs)
    → ((j : ℕ) → j < length vs → whole (pos 0) ≤ℚ (get_or c j (whole (pos 0)) *ℚ x (get_or vs j 0)))
    → neg_ℚ (get_or c (length vs) (whole (pos 0)) *ℚ z) ≤ℚ dot c (values x z vs)
dot_low [] x z vs l h = absurd (omega arith)
dot_low (a ∷ []) x z [] l h = rw (ring (at 0 ⊗ minus (at 1) ⊕ lit (pos 0)) (minus (at 0 ⊗ at 1)) (a ∷ z ∷ []) refl) (≤ℚ_refl _)
dot_low (a ∷ (b ∷ us)) x z [] l h = absurd (omega arith)
dot_low (a ∷ us) x z (v ∷ vs) l h =
    subst (λ t. t ≤ℚ (a *ℚ x v +ℚ dot us (values x z vs))) (zero-+ℚ _)
    (≤ℚ-sum _ _ _ _ (h 0 (omega arith)) (dot_low us x z vs (omega arith) (λ j k. h (suc j) (omega arith))))

pub vertex_basic : (t : Tableau) (i : ℕ) → IsShaped t → IsPlaced t → i < height t → vertex t (basic_at t i) ≡ bound t i
unfolding vertex
vertex_basic t i s p h =
    fill_basic t (λ v. whole (pos 0)) (whole (pos 1)) i s p h
    ∙ ap neg_ℚ (dot_zeros (line t i) (λ v. whole (pos 0)) (whole (pos 1)) t.standing (s.lines i h) (λ j k. refl))
    ∙ neg-neg _ ∙ *ℚ-one _

pub vertex_other : (t : Tableau) (u : ℕ) → IsShaped t → ((i : ℕ) → i < height t → basic_at t i ≡ u → ⊥) → vertex t u ≡ whole (pos 0)
unfolding vertex
vertex_other t u s n = fill_other t (λ v. whole (pos 0)) (whole (pos 1)) u s n

pub vertex_meets : (t : Tableau) → IsShaped t → IsPlaced t → Meets t (vertex t) (whole (pos 1))
unfolding vertex
vertex_meets t s p = fill_meets t (λ v. whole (pos 0)) (whole (pos 1)) s p

-- the goal row at an assignment that is 0 at the places
pub goal_gap_zeros : (t : Tableau) (x : ℕ → ℚ) → IsShaped t → ((k : ℕ) → k < width t → x (standing_at t k) ≡ whole (pos 0)) → goal_gap t x (whole (pos 1)) (whole (pos 0)) ≡ neg_ℚ (goal_bound t)
unfolding goal_gap
goal_gap_zeros t x s h = zero-+ℚ _ ∙ dot_zeros t.goal x (whole (pos 1)) t.standing s.goals h ∙ ap neg_ℚ (*ℚ-one _)
