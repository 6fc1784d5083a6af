-- The choice of a place, with its ratio.
use Rattle.std.proofs.Common.{◌≡◌, ℕ, suc, pos, [], Bool, true, false, cond, ltb, Option, Some, None, Ok, IfSome, ◌&&◌, add-one, ◌+◌, ◌<◌, ◌≤◌, refl, sym, ◌∙◌, ap, ap₂, subst, arith}
use Rattle.std.proofs.lemmas.Bool.{cond-true}
use Rattle.rational_theory.specs.Rational.{ℚ, whole, neg_ℚ, inverse_ℚ, ◌*ℚ◌, ◌/ℚ◌}
use Rattle.rational_theory.specs.Compare.{cmp_ℚ}
use Rattle.rational_theory.proofs.Compare.{lt_true}
use Rattle.rational_theory.proofs.Arithmetic.{neg-neg}
use Rattle.rational_theory.proofs.Ring.{ring, lit, minus}
use Rattle.simplex_theory.proofs.Signs.{negative_nonzero}
use Rattle.simplex_theory.specs.Tableau.{Tableau, cell, goal_cell, width, standing_at}
use Rattle.simplex_theory.specs.DualSteps.{ratio}
use Rattle.simplex_theory.specs.Best.{best, best_step}
use Rattle.simplex_theory.proofs.Best.{OnBest}
use Rattle.simplex_theory.specs.BlandRule.{is_negative, place_before, less_by, chosen_place}
use Rattle.narrow_fraction.specs.Attempt.{attempt, earlier, first_below}
use Rattle.narrow_fraction.proofs.Attempt.{first_stays, none_each}
use Rattle.fraction_tableau.specs.Refusals.{refused}
use Rattle.narrow_fraction.specs.declared.wide.Op.TheVariants.{Div}
use Rattle.fraction_tableau.specs.declared.wide_cell.WideCell.{WideCell}
use Rattle.dual_simplex.specs.declared.choose.Chosen.{Chosen}
use Rattle.dual_simplex.specs.Ratios.{ratio_at, ratio_refusal, with_cells, place_of, IsChosen}

pub not_zero : (x : ℚ) → true ≡ is_negative x → x ≡ whole (pos 0) → ⊥
not_zero x h = negative_nonzero x (lt_true _ _ h)

pub neg_not_zero : (x y : ℚ) → (x ≡ whole (pos 0) → ⊥) → y ≡ neg_ℚ x → y ≡ whole (pos 0) → ⊥
neg_not_zero x y n e z = n (sym (neg-neg x) ∙ ap neg_ℚ (sym e ∙ z) ∙ ring (minus (lit (pos 0))) (lit (pos 0)) [] refl)

-- the facts of a place with a negative cell x, of the goal cell g, whose ratio was not refused
pub record Entry (t : Tableau) (r k : ℕ) (x g : ℚ) : Type 0 where
  pub entry : x ≡ cell t r k
  pub negative : true ≡ is_negative x
  pub goal : g ≡ goal_cell t k
  pub fits : refused Div g (neg_ℚ x) r k ≡ None

below_zero : (t : Tableau) (r k : ℕ) (x g : ℚ) → Entry t r k x g → is_negative (cell t r k) ≡ true
below_zero t r k x g e = ap is_negative (sym e.entry) ∙ sym e.negative

pub ratio_passes : (t : Tableau) (r k : ℕ) (x g : ℚ) → x ≡ cell t r k → g ≡ goal_cell t k → is_negative (cell t r k) ≡ true → ratio_at t r k ≡ refused Div g (neg_ℚ x) r k
ratio_passes t r k x g e f n = cond-true _ _ _ n ∙ ap₂ (λ a b. refused Div a b r k) (sym f) (sym (ap neg_ℚ e))

not_refused : (t : Tableau) (r k : ℕ) (x g : ℚ) → Entry t r k x g → ratio_at t r k ≡ None
not_refused t r k x g e = ratio_passes t r k x g e.entry e.goal (below_zero t r k x g e) ∙ e.fits

is_ratio : (t : Tableau) (r k : ℕ) (x g : ℚ) → x ≡ cell t r k → g ≡ goal_cell t k → g /ℚ neg_ℚ x ≡ ratio t r k
unfolding ratio
is_ratio t r k x g e f = ap₂ (λ a b. a *ℚ inverse_ℚ b) f (ap neg_ℚ e)

-- its cells are those of the place
cells_of : (t : Tableau) (r k : ℕ) (x g : ℚ) → x ≡ cell t r k → g ≡ goal_cell t k → Some (record { place = k; goal = g; cell = x }) ≡ with_cells t r (Some k)
cells_of t r k x g e f = ap₂ (λ u v. Some (record { place = k; goal = u; cell = v })) f e

step_with : (t : Tableau) (r k p : ℕ) (x g v u : ℚ) (s : Bool) → Entry t r k x g → v ≡ ratio t r k → u ≡ ratio t r p → s ≡ less_by (cmp_ℚ v u) (ltb (standing_at t k) (standing_at t p))
    → best_step (λ k. is_negative (cell t r k)) (place_before t r) k (Some p) ≡ cond s (Some k) (Some p)
step_with t r k p x g v u s e d f h =
    let c : place_before t r k p ≡ s = ap₂ (λ a b. less_by (cmp_ℚ a b) (ltb (standing_at t k) (standing_at t p))) (sym d) (sym f) ∙ sym h in
    ap₂ (λ a b. cond (a && b) (Some k) (Some p)) (below_zero t r k x g e) c

pub next_place : (t : Tableau) (r k : ℕ) (x g : ℚ) (o : Option Chosen) (b : Chosen) (s : Bool) → Entry t r k x g → o ≡ Some b → IfSome o (IsChosen t r)
    → s ≡ less_by (cmp_ℚ (g /ℚ neg_ℚ x) (b.goal /ℚ neg_ℚ b.cell)) (ltb (standing_at t k) (standing_at t b.place))
    → Ok (Some (cond s (record { place = k; goal = g; cell = x }) b)) ≡ attempt (ratio_at t r k) (with_cells t r (best_step (λ k. is_negative (cell t r k)) (place_before t r) k (place_of o)))
next_place t r k x g o b s e f i h =
    let d = is_ratio t r b.place b.cell b.goal w.cell_is w.goal_is in
    let a = not_refused t r k x g e in
    let c : best_step (λ k. is_negative (cell t r k)) (place_before t r) k (place_of o) ≡ cond s (Some k) (Some b.place) =
    rw f (step_with t r k b.place x g _ _ s e (is_ratio t r k x g e.entry e.goal) d h) in
    ap Ok (chosen s) ∙ sym (ap₂ (λ q s. attempt q (with_cells t r s)) a c)
  where
    w : IsChosen t r b
    w = subst (λ (o : Option Chosen). IfSome o (IsChosen t r)) f i

    chosen : (s : Bool) → Some (cond s (record { place = k; goal = g; cell = x }) b) ≡ with_cells t r (cond s (Some k) (Some b.place))
    chosen true = cells_of t r k x g e.entry e.goal
    chosen false = cells_of t r b.place b.cell b.goal w.cell_is w.goal_is

-- a chosen place, where the best so far is one
pub kept_place : (t : Tableau) (r n : ℕ) (o : Option Chosen) (b : Option ℕ) → OnBest (λ k. is_negative (cell t r k)) (place_before t r) n b → n ≤ width t
    → first_below (ratio_at t r) n ≡ None → o ≡ with_cells t r b
    → IfSome o (IsChosen t r)
kept_place t r n o None h l p e = rw e tt
kept_place t r n o (Some j) h l p e = rw e (record { place = (let w = h.within in omega arith); goal_is = refl; cell_is = refl; negative = h.passes; passed = none_each (ratio_at t r) n p j h.within })

pub place_with : (t : Tableau) (r : ℕ) (b : Option ℕ) → place_of (with_cells t r b) ≡ b
place_with t r None = refl
place_with t r (Some j) = refl

-- the place of a best one, where there is one
pub chosen_at : (t : Tableau) (r : ℕ) (o : Option Chosen) (b : Chosen) → o ≡ Some b → o ≡ with_cells t r (chosen_place t r) → Some b.place ≡ chosen_place t r
chosen_at t r o b e f = ap place_of (sym e ∙ f) ∙ place_with t r (chosen_place t r)

best_next : (t : Tableau) (r k : ℕ) → best (λ k. is_negative (cell t r k)) (place_before t r) (k + 1) ≡ best_step (λ k. is_negative (cell t r k))
    (place_before t r) k (best (λ k. is_negative (cell t r k)) (place_before t r) k)
best_next t r k = rw add-one refl

pub place_next : (t : Tableau) (r k : ℕ) (o u : Option Chosen) → first_below (ratio_at t r) k ≡ None → o ≡ with_cells t r (best (λ k. is_negative (cell t r k)) (place_before t r) k)
    → ratio_at t r k ≡ None
    → u ≡ with_cells t r (best_step (λ k. is_negative (cell t r k)) (place_before t r) k (place_of o))
    → (first_below (ratio_at t r) (k + 1) ≡ None) × (u ≡ with_cells t r (best (λ k. is_negative (cell t r k)) (place_before t r) (k + 1)))
place_next t r k o u p e q f = (
  ap (first_below (ratio_at t r)) (add-one k) ∙ ap₂ earlier p q,
  f ∙ ap (with_cells t r) (ap (best_step (λ k. is_negative (cell t r k)) (place_before t r) k) (ap place_of e ∙ place_with t r _) ∙ sym (best_next t r k)),
)

pub place_stop : (t : Tableau) (r k : ℕ) (w : WideCell) → k < width t → first_below (ratio_at t r) k ≡ None → ratio_at t r k ≡ Some w → ratio_refusal t r ≡ Some w
unfolding ratio_refusal
place_stop t r k w h p q = first_stays (ratio_at t r) w (suc k) (width t) (omega arith) (ap₂ earlier p q)
