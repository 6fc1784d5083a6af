-- Lemmas on the definitions of `Directions`. From these alone: which variables can be basic, and the signs of the goal row.
use Rattle.entry_theory.specs.Directions.{HaveSameForms}
use Rattle.std.proofs.Common.{◌≡◌, ℕ, zero, suc, pos, cond, eqb, List, [], ◌∷◌, get_or, length, ◌<◌, ◌⊎◌, inl, inr, refl, sym, ◌∙◌, ap, ap₂, subst, arith}
use Rattle.std.proofs.lemmas.Bool.{eq-eqb, ne_eqb, cond-true, cond-false}
use Rattle.rational_theory.specs.Rational.{ℚ, whole, neg_ℚ, ◌+ℚ◌, ◌*ℚ◌, ◌≤ℚ◌}
use Rattle.rational_theory.proofs.Arithmetic.{+ℚ-zero}
use Rattle.rational_theory.proofs.Order.{≤ℚ_refl, ≤ℤ_whole}
use Rattle.rational_theory.proofs.Linear.{product_not_negative}
use Rattle.rational_theory.specs.Rows.{dot}
use Rattle.rational_theory.proofs.Ring.{zero-+ℚ, ring, at, lit, minus, ◌⊕◌, ◌⊗◌}
use Rattle.simplex_theory.proofs.Signs.{one_positive}
use Rattle.std.proofs.lemmas.Int.{ints}
use Rattle.simplex_theory.specs.Lines.{values}
use Rattle.simplex_theory.specs.Tableau.{Tableau, line, cell, goal_cell, height, width, basic_at, standing_at, IsShaped, IsPlace, Meets, gap, goal_gap, exchange}
use Rattle.simplex_theory.proofs.Tableau.{height-exchange, width-exchange, meets-exchange, goal-exchange_same, same_or_other}
use Rattle.simplex_theory.specs.DualSteps.{IsPlaced, IsDual}
use Rattle.simplex_theory.specs.Vertices.{fill}
use Rattle.simplex_theory.proofs.Vertices.{fill_basic, fill_other, fill_standing, fill_meets, values_fill, dot_zeros, dot_low}
use Rattle.simplex_theory.specs.Paths.{IsBasic, HaveSameBasics}
use Rattle.simplex_theory.proofs.Paths.{basic_or_not}

pub same_forms-exchange : (r j : ℕ) (t u : Tableau) → IsShaped t → IsPlace t r j → HaveSameForms t u → HaveSameForms (exchange r j t) u
same_forms-exchange r j t u s p f = record {
  rows = height-exchange r j t ∙ f.rows;
  columns = width-exchange r j t ∙ f.columns;
  met = λ x. (
    λ m. (f.met x).0 ((meets-exchange r j t x (whole (pos 0)) s p).1 m),
    λ m. (meets-exchange r j t x (whole (pos 0)) s p).0 ((f.met x).1 m),
  );
  goal = λ x y m. let n = (meets-exchange r j t x (whole (pos 0)) s p).1 m in goal-exchange_same r j t x (whole (pos 0)) y s p n ∙ f.goal x y n;
}

-- ---- a direction along one variable
-- 1 at the variable v, and 0 at every other
unfoldable pub alone : ℕ → ℕ → ℚ
alone v u = cond (eqb u v) (whole (pos 1)) (whole (pos 0))

alone_here : (v : ℕ) → alone v v ≡ whole (pos 1)
unfolding alone
alone_here v = cond-true (eqb v v) _ _ (eq-eqb v v refl)

alone_other : (v u : ℕ) → (u ≡ v → ⊥) → alone v u ≡ whole (pos 0)
unfolding alone
alone_other v u n = cond-false (eqb u v) _ _ (ne_eqb u v n)

alone_low : (v u : ℕ) → whole (pos 0) ≤ℚ alone v u
alone_low v u = pick (same_or_other u v)
  where
    pick : (u ≡ v) ⊎ (u ≡ v → ⊥) → whole (pos 0) ≤ℚ alone v u
    pick (inl e) = subst (λ x. whole (pos 0) ≤ℚ x) (sym (ap (alone v) e ∙ alone_here v)) one_positive
    pick (inr n) = subst (λ x. whole (pos 0) ≤ℚ x) (sym (alone_other v u n)) (≤ℚ_refl _)

one_is_not_zero : whole (pos 1) ≡ whole (pos 0) → ⊥
one_is_not_zero f = let g = ≤ℤ_whole (pos 1) (pos 0) (rw f (≤ℚ_refl (whole (pos 0)))) in absurd (omega (arith, ints))

-- the variable moves by 1, the others of the places stay, and the basic ones do what their rows ask
abbrev pub direction : Tableau → ℕ → ℕ → ℚ
direction t v = fill t (alone v) (whole (pos 0))

no_bound : (b : ℚ) → neg_ℚ (b *ℚ whole (pos 0)) ≡ whole (pos 0)
no_bound b = ring (minus (at 0 ⊗ lit (pos 0))) (lit (pos 0)) (b ∷ []) refl

-- a row read where one place has 1 and the others have 0
dot_one : (c : List ℚ) (x : ℕ → ℚ) (vs : List ℕ) (j : ℕ) → length c ≡ suc (length vs) → j < length vs → x (get_or vs j 0) ≡ whole (pos 1)
    → ((k : ℕ) → k < length vs → (k ≡ j → ⊥) → x (get_or vs k 0) ≡ whole (pos 0)) → dot c (values x (whole (pos 0)) vs) ≡ get_or c j (whole (pos 0))
dot_one [] x vs j l h o n = absurd (omega arith)
dot_one (a ∷ us) x [] j l h o n = absurd (omega arith)
dot_one (a ∷ us) x (v ∷ vs) zero l h o n =
    ap₂ (λ s t. a *ℚ s +ℚ t) o (dot_zeros us x (whole (pos 0)) vs (omega arith) (λ k m. n (suc k) (omega arith) (λ e. absurd (omega arith))) ∙ no_bound _)
    ∙ ring (at 0 ⊗ lit (pos 1) ⊕ lit (pos 0)) (at 0) (a ∷ []) refl
dot_one (a ∷ us) x (v ∷ vs) (suc j) l h o n =
    ap₂ (λ s t. a *ℚ s +ℚ t) (n 0 (omega arith) (λ e. absurd (omega arith)))
    (dot_one us x vs j (omega arith) (omega arith) o (λ k m q. n (suc k) (omega arith) (λ e. q (omega arith))))
    ∙ ring (at 0 ⊗ lit (pos 0) ⊕ at 1) (at 1) (a ∷ get_or us j (whole (pos 0)) ∷ []) refl

-- a row read along the variable of its place j
dot_alone : (t : Tableau) (c : List ℚ) (j : ℕ) → IsPlaced t → length c ≡ suc (width t) → j < width t
    → dot c (values (alone (standing_at t j)) (whole (pos 0)) t.standing) ≡ get_or c j (whole (pos 0))
dot_alone t c j p l h =
    dot_one c (alone (standing_at t j)) t.standing j l h (alone_here _) (λ k m n. alone_other _ _ (λ e. n (p.places k j m h e)))

-- a basic variable falls by its row's cell
direction_basic : (t : Tableau) (i j : ℕ) → IsShaped t → IsPlaced t → i < height t → j < width t → direction t (standing_at t j) (basic_at t i) ≡ neg_ℚ (cell t i j)
direction_basic t i j s p h l =
    fill_basic t (alone (standing_at t j)) (whole (pos 0)) i s p h ∙ ap neg_ℚ (dot_alone t (line t i) j p (s.lines i h) l)

-- ---- what a direction says of a tableau that it meets
-- where it is 0 at each place it is 0 at each basic variable
only_zero : (t : Tableau) (x : ℕ → ℚ) (v : ℕ) → IsShaped t → Meets t x (whole (pos 0)) → ((k : ℕ) → k < width t → x (standing_at t k) ≡ whole (pos 0)) → IsBasic t v → x v ≡ whole (pos 0)
unfolding gap
only_zero t x v s m h b =
    let e = dot_zeros (line t b.row) x (whole (pos 0)) t.standing (s.lines b.row b.within) h ∙ no_bound _ in
    ap x (sym b.is) ∙ sym (+ℚ-zero _) ∙ ap (λ u. x (basic_at t b.row) +ℚ u) (sym e) ∙ m.met b.row b.within

standing_not_basic : (t : Tableau) (k : ℕ) → IsPlaced t → k < width t → IsBasic t (standing_at t k) → ⊥
standing_not_basic t k p h b = p.apart b.row k b.within h b.is

-- where every basic variable of u is basic in t, so is every one of t in u
pub no_more_basics : (t u : Tableau) → IsShaped t → IsPlaced t → IsShaped u → IsPlaced u → HaveSameForms t u → ((v : ℕ) → IsBasic u v → IsBasic t v) → (v : ℕ) → IsBasic t v → IsBasic u v
no_more_basics t u s p k q f h v b = pick (basic_or_not u v)
  where
    other : ((i : ℕ) → i < height u → basic_at u i ≡ v → ⊥) → (w : ℕ) → (IsBasic u w → ⊥) → (w ≡ v → ⊥) → direction u v w ≡ whole (pos 0)
    other n w o d = fill_other u (alone v) (whole (pos 0)) w k (λ i l e. o (record { row = i; within = l; is = e })) ∙ alone_other v w d

    pick : IsBasic u v ⊎ ((i : ℕ) → i < height u → basic_at u i ≡ v → ⊥) → IsBasic u v
    pick (inl c) = c
    pick (inr n) =
        absurd (one_is_not_zero
        (sym (fill_other u (alone v) (whole (pos 0)) v k n ∙ alone_here v)
        ∙ only_zero t (direction u v) v s ((f.met (direction u v)).1 (fill_meets u (alone v) (whole (pos 0)) k q))
        (λ i l. other n (standing_at t i) (λ c. standing_not_basic t i p l (h _ c)) (λ e. standing_not_basic t i p l (subst (IsBasic t) (sym e) b))) b))

-- a variable that stands at place j in t and is basic in u: some row has a cell there, and its own variable is not basic in u
pub some_row : (t u : Tableau) (j : ℕ) → IsShaped t → IsPlaced t → IsShaped u → IsPlaced u → HaveSameForms t u → j < width t → IsBasic u (standing_at t j)
    → ((i : ℕ) → i < height t → (IsBasic u (basic_at t i) → ⊥) → cell t i j ≡ whole (pos 0)) → ⊥
some_row t u j s p k q f h b z =
    one_is_not_zero
    (sym (fill_standing t (alone v) (whole (pos 0)) j s p h ∙ alone_here v)
    ∙ only_zero u (direction t v) v k ((f.met (direction t v)).0 (fill_meets t (alone v) (whole (pos 0)) s p)) (λ i l. none (standing_at u i) (standing_not_basic u i q l)) b)
  where
    v : ℕ
    v = standing_at t j

    none : (w : ℕ) → (IsBasic u w → ⊥) → direction t v w ≡ whole (pos 0)
    none w n = pick (basic_or_not t w)
      where
        pick : IsBasic t w ⊎ ((i : ℕ) → i < height t → basic_at t i ≡ w → ⊥) → direction t v w ≡ whole (pos 0)
        pick (inl c) =
            ap (direction t v) (sym c.is) ∙ direction_basic t c.row j s p c.within h ∙ ap neg_ℚ (z c.row c.within (λ d. n (subst (IsBasic u) c.is d)))
            ∙ ring (minus (lit (pos 0))) (lit (pos 0)) [] refl
        pick (inr o) = fill_other t (alone v) (whole (pos 0)) w s o ∙ alone_other v w (λ e. n (subst (IsBasic u) (sym e) b))

-- the goal row's cells depend on the basic variables and the coefficients alone: where u has no negative one, nor has t
pub same_signs : (t u : Tableau) → IsShaped t → IsPlaced t → IsDual u → HaveSameForms t u → HaveSameBasics t u → (k : ℕ) → k < width t → whole (pos 0) ≤ℚ goal_cell t k
unfolding goal_gap
same_signs t u s p d f e k h =
    subst (λ x. whole (pos 0) ≤ℚ x) (sym (own ∙ zero-+ℚ _))
    (subst (λ x. x ≤ℚ dot u.goal (values (direction t v) (whole (pos 0)) u.standing)) (no_bound _)
    (dot_low u.goal (direction t v) (whole (pos 0)) u.standing d.shaped.goals (λ i l. product_not_negative _ _ (d.goals i l) (low i l))))
  where
    v : ℕ
    v = standing_at t k

    low : (i : ℕ) → i < width u → whole (pos 0) ≤ℚ direction t v (standing_at u i)
    low i l =
        subst (λ x. whole (pos 0) ≤ℚ x)
        (sym (fill_other t (alone v) (whole (pos 0)) (standing_at u i) s (λ r b m. standing_not_basic u i d.placed l (e.there _ (record { row = r; within = b; is = m })))))
        (alone_low v (standing_at u i))

    own : goal_cell t k ≡ goal_gap u (direction t v) (whole (pos 0)) (whole (pos 0))
    own =
        sym (dot_alone t t.goal k p s.goals h) ∙ ap (dot t.goal) (sym (values_fill t (alone v) (whole (pos 0)) s p)) ∙ sym (zero-+ℚ _)
        ∙ f.goal (direction t v) (whole (pos 0)) (fill_meets t (alone v) (whole (pos 0)) s p)

pub dual_by_forms : (t u : Tableau) → IsShaped t → IsPlaced t → IsDual u → HaveSameForms t u → HaveSameBasics t u → IsDual t
dual_by_forms t u s p d f e = record { shaped = s; placed = p; goals = same_signs t u s p d f e }
