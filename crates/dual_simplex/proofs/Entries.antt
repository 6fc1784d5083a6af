-- The walk over a row's cells that aren't 0: the places between them have no ratio and are not chosen.
use Rattle.std.proofs.Common.{◌≡◌, ℕ, zero, suc, pos, Bool, true, false, cond, eqb, Option, Some, None, length, ◌&&◌, ◌+◌, ◌<◌, ◌≤◌, ◌⊎◌, inl, inr, refl, sym, ◌∙◌, ap, arith}
use Rattle.std.proofs.lemmas.Bool.{cond-false, ne_eqb}
use Rattle.rational_theory.specs.Rational.{ℚ, whole, neg_ℚ}
use Rattle.simplex_theory.specs.Tableau.{Tableau, cell, goal_cell, height, width}
use Rattle.simplex_theory.specs.Best.{best, best_step}
use Rattle.simplex_theory.specs.BlandRule.{is_negative, place_before}
use Rattle.narrow_fraction.specs.Attempt.{first_below}
use Rattle.narrow_fraction.specs.declared.wide.Op.TheVariants.{Div}
use Rattle.fraction_tableau.specs.Refusals.{refused}
use Rattle.fraction_tableau.specs.NamedTableaus.{number_at}
use Rattle.fraction_tableau.specs.KeptCells.{kept_below}
use Rattle.fraction_tableau.specs.declared.kept.Kept.{Kept}
use Rattle.fraction_tableau.proofs.KeptCells.{IsNext, last_or_before, kept_same, step_count}
use Rattle.fraction_tableau.proofs.Merges.{pass_none}
use Rattle.dual_simplex.specs.declared.choose.Chosen.{Chosen}
use Rattle.dual_simplex.specs.Ratios.{ratio_at, with_cells}
use Rattle.dual_simplex.proofs.Choices.{not_zero}

zero_not_negative : (x : ℚ) → x ≡ whole (pos 0) → is_negative x ≡ false
zero_not_negative x e = pick (is_negative x) refl
  where
    pick : (b : Bool) → b ≡ is_negative x → is_negative x ≡ false
    pick true q = absurd (not_zero x q e)
    pick false q = sym q

-- the cells of a row that isn't the goal row
pub entries_are : (t : Tableau) (r : ℕ) → r < height t → kept_below (number_at t r) (width t) ≡ kept_below (cell t r) (width t)
entries_are t r h =
    kept_same (number_at t r) (cell t r) (width t) (λ m l. cond-false (eqb r (height t)) (goal_cell t m) (cell t r m) (ne_eqb r (height t) (λ q. absurd (omega arith))))

idle_ratio : (t : Tableau) (r k : ℕ) → cell t r k ≡ whole (pos 0) → ratio_at t r k ≡ None
idle_ratio t r k e = cond-false (is_negative (cell t r k)) (refused Div (goal_cell t k) (neg_ℚ (cell t r k)) r k) None (zero_not_negative (cell t r k) e)

step_over : (fits : ℕ → Bool) (better : ℕ → ℕ → Bool) (n : ℕ) (o : Option ℕ) → fits n ≡ false → best_step fits better n o ≡ o
step_over fits better n None e = cond-false (fits n) (Some n) None e
step_over fits better n (Some b) e = ap (λ f. cond (f && better n b) (Some n) (Some b)) e

pub best_skip : (fits : ℕ → Bool) (better : ℕ → ℕ → Bool) (n p : ℕ) → n ≤ p → ((m : ℕ) → n ≤ m → m < p → fits m ≡ false) → best fits better p ≡ best fits better n
best_skip fits better n zero h z = let q : 0 ≡ n = omega arith in ap (best fits better) q
best_skip fits better n (suc p) h z = pick (last_or_before n p h) (λ q. best_skip fits better n p q (λ m a b. z m a (omega arith)))
  where
    pick : (n ≡ suc p) ⊎ (n ≤ p) → (n ≤ p → best fits better p ≡ best fits better n) → best fits better (suc p) ≡ best fits better n
    pick (inl q) g = ap (best fits better) (sym q)
    pick (inr q) g = step_over fits better p (best fits better p) (z p q (omega arith)) ∙ g q

-- the places below `at` are looked at, which are so many of the row's cells
pub record Looking (t : Tableau) (r index : ℕ) (o : Option Chosen) : Type 0 where
  pub at : ℕ
  pub high : at ≤ width t
  pub count : index ≡ length (kept_below (cell t r) at)
  pub passed : first_below (ratio_at t r) at ≡ None
  pub chosen : o ≡ with_cells t r (best (λ k. is_negative (cell t r k)) (place_before t r) at)

pub looking_none : (t : Tableau) (r : ℕ) → Looking t r 0 None
looking_none t r = record { at = 0; high = omega arith; count = refl; passed = refl; chosen = refl }

pub looking_passed : (t : Tableau) (r index : ℕ) (o : Option Chosen) (p : ℕ) → (l : Looking t r index o) → l.at ≤ p → ((m : ℕ) → l.at ≤ m → m < p → cell t r m ≡ whole (pos 0))
    → first_below (ratio_at t r) p ≡ None
looking_passed t r index o p l h z = pass_none (ratio_at t r) l.at p h l.passed (λ m a b. idle_ratio t r m (z m a b))

pub looking_chosen : (t : Tableau) (r index : ℕ) (o : Option Chosen) (p : ℕ) → (l : Looking t r index o) → l.at ≤ p → ((m : ℕ) → l.at ≤ m → m < p → cell t r m ≡ whole (pos 0))
    → o ≡ with_cells t r (best (λ k. is_negative (cell t r k)) (place_before t r) p)
looking_chosen t r index o p l h z =
    l.chosen ∙ ap (with_cells t r) (sym (best_skip (λ k. is_negative (cell t r k)) (place_before t r) l.at p h (λ m a b. zero_not_negative (cell t r m) (z m a b))))

pub looking_next : (t : Tableau) (r index : ℕ) (o u : Option Chosen) (k : Kept) → (l : Looking t r index o) → IsNext (cell t r) l.at (width t) k
    → (first_below (ratio_at t r) (k.place + 1) ≡ None) × (u ≡ with_cells t r (best (λ k. is_negative (cell t r k)) (place_before t r) (k.place + 1))) → Looking t r (index + 1) u
looking_next t r index o u k l x q =
    let h = x.inside in
    record { at = k.place + 1; high = omega arith; count = ap (λ n. n + 1) l.count ∙ sym (step_count (cell t r) l.at (width t) k x); passed = q.0; chosen = q.1 }

-- the same walk, without a choice: none of the places below `at` has a negative cell
pub record Clear (t : Tableau) (r index : ℕ) : Type 0 where
  pub at : ℕ
  pub high : at ≤ width t
  pub count : index ≡ length (kept_below (cell t r) at)
  pub none : (m : ℕ) → m < at → is_negative (cell t r m) ≡ false

pub clear_none : (t : Tableau) (r : ℕ) → Clear t r 0
clear_none t r = record { at = 0; high = omega arith; count = refl; none = λ m h. absurd (omega arith) }

sides : (m n : ℕ) → (m < n) ⊎ (n ≤ m)
sides m n = grind arith

pub clear_upto : (t : Tableau) (r index p : ℕ) → (l : Clear t r index) → ((m : ℕ) → l.at ≤ m → m < p → cell t r m ≡ whole (pos 0)) → (m : ℕ) → m < p → is_negative (cell t r m) ≡ false
clear_upto t r index p l z m h = pick (sides m l.at)
  where
    pick : (m < l.at) ⊎ (l.at ≤ m) → is_negative (cell t r m) ≡ false
    pick (inl a) = l.none m a
    pick (inr a) = zero_not_negative (cell t r m) (z m a h)

below_next : (m k : ℕ) → m < k + 1 → (m ≡ k) ⊎ (m < k)
below_next m k l = grind arith

pub clear_next : (t : Tableau) (r index : ℕ) (k : Kept) → (l : Clear t r index) → IsNext (cell t r) l.at (width t) k → is_negative k.cell ≡ false → Clear t r (index + 1)
clear_next t r index k l x n =
    let h = x.inside in
    record {
      at = k.place + 1;
      high = omega arith;
      count = ap (λ n. n + 1) l.count ∙ sym (step_count (cell t r) l.at (width t) k x);
      none = λ m a. pick m (below_next m k.place a);
    }
  where
    pick : (m : ℕ) → (m ≡ k.place) ⊎ (m < k.place) → is_negative (cell t r m) ≡ false
    pick m (inl q) = ap (λ i. is_negative (cell t r i)) q ∙ ap is_negative x.is ∙ n
    pick m (inr q) = clear_upto t r index k.place l x.zeros m q
