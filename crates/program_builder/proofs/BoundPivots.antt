-- The pivots of an entry on bounds alone: where an entry with the same cells was not refused, nor an operation on a bound, the entry is not refused
-- either, and the bounds are its own.
use Rattle.std.proofs.Common.{◌≡◌, ℕ, zero, suc, pos, cond, eqb, Option, None, List, length, ◌+◌, ◌<◌, ◌≤◌, ◌⊎◌, inl, inr, refl, sym, ◌∙◌, ap, ap₂, subst, arith}
use Rattle.std.proofs.lemmas.Bool.{cond-true, cond-false, eq-eqb, ne_eqb}
use Rattle.rational_theory.specs.Rational.{ℚ, whole, ◌*ℚ◌}
use Rattle.simplex_theory.specs.Lines.{divided, cleared}
use Rattle.simplex_theory.specs.Tableau.{Tableau, line, cell, goal_cell, height, width, bound, goal_bound, IsShaped, IsPlace, exchange}
use Rattle.simplex_theory.proofs.Tableau.{height-exchange, width-exchange, line-exchange_same, line-exchange_other, goal-exchange, same_or_other}
use Rattle.narrow_fraction.specs.Past128.{Fits128}
use Rattle.narrow_fraction.specs.Attempt.{earlier, first_below}
use Rattle.narrow_fraction.proofs.Attempt.{neither, none_each}
use Rattle.narrow_fraction.specs.declared.wide.Op.TheVariants.{Mul, Div, Sub}
use Rattle.fraction_tableau.specs.KeptCells.{number_in}
use Rattle.fraction_tableau.specs.NamedTableaus.{number_at}
use Rattle.fraction_tableau.specs.Refusals.{refused, divide_at, divide_refusal, clear_at, clear_refusal, row_refusal, pivot_refusal}
use Rattle.fraction_tableau.proofs.Refusals.{refused_none}
use Rattle.fraction_tableau.proofs.Merges.{divided_last, cleared_last}
use Rattle.entry_theory.specs.SameCells.{HaveSameCells}
use Rattle.entry_theory.proofs.SameCells.{same_divided, below_or_last}
use Rattle.program_builder.specs.Remembering.{AreBoundsOf, IsLess, ArePivoted}

all_none : {E : Type 0} (f : ℕ → Option E) (n : ℕ) → ((k : ℕ) → k < n → f k ≡ None) → first_below f n ≡ None
all_none f zero h = refl
all_none f (suc n) h = ap₂ earlier (all_none f n (λ k l. h k (omega arith))) (h n (omega arith))

-- ---- a row: refused nowhere but perhaps at the bound, where it isn't
divide_passes : (i j w : ℕ) (c d : List ℚ) → length c ≡ suc w → length d ≡ suc w → j < w → ((k : ℕ) → k < w → number_in c k ≡ number_in d k) → Fits128 Div (number_in d w) (number_in d j)
    → divide_refusal i j c ≡ None → divide_refusal i j d ≡ None
unfolding divide_refusal
divide_passes i j w c d m n h a f e =
    let p = neither (refused Div (whole (pos 1)) (number_in c j) i j) (first_below (divide_at i j c) (length c)) e in
    ap₂ earlier (ap (λ x. refused Div (whole (pos 1)) x i j) (sym (a j h)) ∙ p.0)
    (all_none (divide_at i j d) (length d) (λ k l. pick k (below_or_last k w (subst (λ z. k < z) n l)) p.1))
  where
    here : (k : ℕ) → k < w → divide_at i j c k ≡ divide_at i j d k
    here k l = λ x. cond (eqb k j) None (refused Div (a k l x) (a j h x) i k)

    pick : (k : ℕ) → (k < w) ⊎ (k ≡ w) → first_below (divide_at i j c) (length c) ≡ None → divide_at i j d k ≡ None
    pick k (inl l) o = sym (here k l) ∙ none_each (divide_at i j c) (length c) o k (omega arith)
    pick k (inr q) o =
        ap (divide_at i j d) q ∙ cond-false (eqb w j) None (refused Div (number_in d w) (number_in d j) i w) (ne_eqb w j (λ r. absurd (omega arith)))
        ∙ refused_none Div (number_in d w) (number_in d j) i w f

clear_passes : (i j w : ℕ) (e f c d : List ℚ) (p q : ℚ) → length c ≡ suc w → length d ≡ suc w → j < w → ((k : ℕ) → k < w → number_in c k ≡ number_in d k)
    → ((k : ℕ) → k < w → number_in e k ≡ number_in f k) → p ≡ q
    → Fits128 Mul (number_in d j) (number_in f w) → Fits128 Sub (number_in d w) (number_in d j *ℚ number_in f w)
    → clear_refusal i j e c p ≡ None → clear_refusal i j f d q ≡ None
unfolding clear_refusal
clear_passes i j w e f c d p q m n h a b g y z o =
    let s = neither (first_below (clear_at i j e c) (length c)) (refused Div (number_in c j) p i j) o in
    ap₂ earlier
    (all_none (clear_at i j f d) (length d) (λ k l. pick k (below_or_last k w (subst (λ v. k < v) n l)) s.0))
    (ap₂ (λ u v. refused Div u v i j) (sym (a j h)) (sym g) ∙ s.1)
  where
    here : (k : ℕ) → k < w → clear_at i j e c k ≡ clear_at i j f d k
    here k l = λ x. cond (eqb k j) None (earlier (refused Mul (a j h x) (b k l x) i k) (refused Sub (a k l x) (a j h x *ℚ b k l x) i k))

    pick : (k : ℕ) → (k < w) ⊎ (k ≡ w) → first_below (clear_at i j e c) (length c) ≡ None → clear_at i j f d k ≡ None
    pick k (inl l) r = sym (here k l) ∙ none_each (clear_at i j e c) (length c) r k (omega arith)
    pick k (inr t) r =
        ap (clear_at i j f d) t
        ∙ cond-false (eqb w j) None (earlier (refused Mul (number_in d j) (number_in f w) i w) (refused Sub (number_in d w) (number_in d j *ℚ number_in f w) i w))
        (ne_eqb w j (λ u. absurd (omega arith)))
        ∙ ap₂ earlier (refused_none Mul (number_in d j) (number_in f w) i w y) (refused_none Sub (number_in d w) (number_in d j *ℚ number_in f w) i w z)

-- ---- the rows and the goal row by one number
pub number_row : (t : Tableau) (i k : ℕ) → i < height t → number_at t i k ≡ cell t i k
number_row t i k h = cond-false (eqb i (height t)) (goal_cell t k) (cell t i k) (ne_eqb i (height t) (λ e. absurd (omega arith)))

pub number_goal : (t : Tableau) (i k : ℕ) → i ≡ height t → number_at t i k ≡ goal_cell t k
number_goal t i k e = cond-true (eqb i (height t)) (goal_cell t k) (cell t i k) (eq-eqb i (height t) e)

pub row_or_goal : (i n : ℕ) → i ≤ n → (i < n) ⊎ (i ≡ n)
row_or_goal i n h = grind arith

pub less_is : (f g own o b p z : ℚ) → f ≡ g → b ≡ o → own ≡ p → IsLess f own b z → IsLess g p o z
less_is f g own o b p z e h q l = rw (← e, ← h, ← q) l

-- ---- a pivot of both
module _ (t u : Tableau) (r j : ℕ) (s : IsShaped t) (v : IsShaped u) (p : IsPlace t r j) (a : HaveSameCells t u) (column old new : List ℚ)
    (numbers : (i : ℕ) → i ≤ height t → number_in column i ≡ number_at t i j) (b : AreBoundsOf u old) (n : ArePivoted r column old new) where
  columns : width t ≡ width u
  columns = ap length a.standing

  place : j < width u
  place = let h = p.place in let e = columns in omega arith

  low : r < height u
  low = let h = p.row in let e = a.rows in omega arith

  same_cells : (i : ℕ) → i < height u → (k : ℕ) → k < width u → cell t i k ≡ cell u i k
  same_cells i h k l = a.cells i k (let e = a.rows in omega arith) (let e = columns in omega arith)

  same_goals : (k : ℕ) → k < width u → goal_cell t k ≡ goal_cell u k
  same_goals k l = a.goals k (let e = columns in omega arith)

  same_own : (k : ℕ) → k < width u → number_in (divided j (line t r)) k ≡ number_in (divided j (line u r)) k
  same_own k l = same_divided r j t u s v p.row p.place a k (let e = columns in omega arith)

  length_row : (i : ℕ) → i < height u → length (line t i) ≡ suc (width u)
  length_row i h = s.lines i (let e = a.rows in omega arith) ∙ ap suc columns

  -- what was noted and read, in words of u
  factor_row : (i : ℕ) → i < height u → number_in column i ≡ cell u i j
  factor_row i h = let l : i < height t = (let e = a.rows in omega arith) in numbers i (omega arith) ∙ number_row t i j l ∙ a.cells i j l p.place

  factor_goal : number_in column (height u) ≡ goal_cell u j
  factor_goal = numbers (height u) (let e = a.rows in omega arith) ∙ number_goal t (height u) j (sym a.rows) ∙ a.goals j p.place

  old_row : (i : ℕ) → i < height u → number_in old i ≡ bound u i
  old_row i h = b.bounds i (omega arith) ∙ number_row u i (width u) h

  old_goal : number_in old (height u) ≡ goal_bound u
  old_goal = b.bounds (height u) (omega arith) ∙ number_goal u (height u) (width u) refl

  -- the pivot's own row
  own_bound : number_in new r ≡ number_in (divided j (line u r)) (width u)
  own_bound = divided_last j (width u) (line u r) (number_in new r) (number_in old r) (number_in column r) place (factor_row r low) (old_row r low) n.own

  own_fits : Fits128 Div (bound u r) (cell u r j)
  own_fits = subst (λ x. Fits128 Div x (cell u r j)) (old_row r low) (subst (λ x. Fits128 Div (number_in old r) x) (factor_row r low) n.quotient)

  less_row : (i : ℕ) → i < height u → (i ≡ r → ⊥) → IsLess (cell u i j) (number_in (divided j (line u r)) (width u)) (bound u i) (number_in new i)
  less_row i h o = less_is _ _ _ _ _ _ _ (factor_row i h) (old_row i h) own_bound (n.others i (let e = b.count in omega arith) o)

  less_goal : IsLess (goal_cell u j) (number_in (divided j (line u r)) (width u)) (goal_bound u) (number_in new (height u))
  less_goal = less_is _ _ _ _ _ _ _ factor_goal old_goal own_bound (n.others (height u) (let e = b.count in omega arith) (λ e. let h = low in absurd (omega arith)))

  -- ---- nothing is refused
  divide_none : divide_refusal r j (line t r) ≡ None → divide_refusal r j (line u r) ≡ None
  divide_none e = divide_passes r j (width u) (line t r) (line u r) (length_row r low) (v.lines r low) place (same_cells r low) own_fits e

  goal_none : clear_refusal (height t) j (divided j (line t r)) t.goal (cell t r j) ≡ None → clear_refusal (height u) j (divided j (line u r)) u.goal (cell u r j) ≡ None
  goal_none e =
      clear_passes (height u) j (width u) (divided j (line t r)) (divided j (line u r)) t.goal u.goal (cell t r j) (cell u r j)
      (s.goals ∙ ap suc columns) v.goals place same_goals same_own (same_cells r low j place) less_goal.product less_goal.difference
      (subst (λ m. clear_refusal m j (divided j (line t r)) t.goal (cell t r j) ≡ None) a.rows e)

  row_none : first_below (row_refusal r j (divided j (line t r)) (cell t r j) t.rows) (height t) ≡ None → (i : ℕ) → i < height u → row_refusal r j (divided j (line u r)) (cell u r j) u.rows i ≡ None
  row_none e i h = pick (same_or_other i r)
    where
      pick : (i ≡ r) ⊎ (i ≡ r → ⊥) → row_refusal r j (divided j (line u r)) (cell u r j) u.rows i ≡ None
      pick (inl q) = cond-true (eqb i r) None (clear_refusal i j (divided j (line u r)) (line u i) (cell u r j)) (eq-eqb i r q)
      pick (inr q) =
          cond-false (eqb i r) None (clear_refusal i j (divided j (line u r)) (line u i) (cell u r j)) (ne_eqb i r q)
          ∙ clear_passes i j (width u) (divided j (line t r)) (divided j (line u r)) (line t i) (line u i) (cell t r j) (cell u r j)
          (length_row i h) (v.lines i h) place (same_cells i h) same_own (same_cells r low j place) (less_row i h q).product (less_row i h q).difference
          (sym (cond-false (eqb i r) None (clear_refusal i j (divided j (line t r)) (line t i) (cell t r j)) (ne_eqb i r q))
          ∙ none_each (row_refusal r j (divided j (line t r)) (cell t r j) t.rows) (height t) e i (let f = a.rows in omega arith))

  pub pivot_none : pivot_refusal r j t.rows t.goal ≡ None → pivot_refusal r j u.rows u.goal ≡ None
  unfolding pivot_refusal
  pivot_none e =
      let x = neither (divide_refusal r j (line t r)) (earlier (clear_refusal (height t) j (divided j (line t r)) t.goal (cell t r j))
      (first_below (row_refusal r j (divided j (line t r)) (cell t r j) t.rows) (height t))) e in
      let y = neither (clear_refusal (height t) j (divided j (line t r)) t.goal (cell t r j)) (first_below (row_refusal r j (divided j (line t r)) (cell t r j) t.rows) (height t)) x.1 in
      ap₂ earlier (divide_none x.0) (ap₂ earlier (goal_none y.0) (all_none (row_refusal r j (divided j (line u r)) (cell u r j) u.rows) (height u) (row_none y.1)))

  -- ---- the bounds
  bound_row : (i : ℕ) → i < height u → (i ≡ r) ⊎ (i ≡ r → ⊥) → number_in new i ≡ bound (exchange r j u) i
  bound_row i h (inl q) =
      ap (number_in new) q ∙ own_bound ∙ sym (ap (number_in (divided j (line u r))) (width-exchange r j u))
      ∙ sym (ap (λ (c : List ℚ). number_in c (width (exchange r j u))) (ap (line (exchange r j u)) q ∙ line-exchange_same r j u low))
  bound_row i h (inr q) =
      cleared_last j (width u) (divided j (line u r)) (line u i) (number_in new i) (cell u i j) (bound u i) (number_in (divided j (line u r)) (width u)) place refl refl refl (less_row i h q).value
      ∙ sym (ap (number_in (cleared j (divided j (line u r)) (line u i))) (width-exchange r j u))
      ∙ sym (ap (λ (c : List ℚ). number_in c (width (exchange r j u))) (line-exchange_other r j i u h q))

  bound_goal : number_in new (height u) ≡ goal_bound (exchange r j u)
  bound_goal =
      cleared_last j (width u) (divided j (line u r)) u.goal (number_in new (height u)) (goal_cell u j) (goal_bound u) (number_in (divided j (line u r)) (width u)) place refl refl refl less_goal.value
      ∙ sym (ap (number_in (cleared j (divided j (line u r)) u.goal)) (width-exchange r j u))
      ∙ sym (ap (λ (c : List ℚ). number_in c (width (exchange r j u))) (goal-exchange r j u))

  pub bounds_pivoted : AreBoundsOf (exchange r j u) new
  bounds_pivoted = record {
    count = n.count ∙ b.count ∙ ap (λ m. m + 1) (sym (height-exchange r j u));
    bounds = λ i h. let l = subst (λ m. i ≤ m) (height-exchange r j u) h in pick i l (row_or_goal i (height u) l);
  }
    where
      pick : (i : ℕ) → i ≤ height u → (i < height u) ⊎ (i ≡ height u) → number_in new i ≡ number_at (exchange r j u) i (width (exchange r j u))
      pick i l (inl h) = bound_row i h (same_or_other i r) ∙ sym (number_row (exchange r j u) i (width (exchange r j u)) (subst (λ m. i < m) (sym (height-exchange r j u)) h))
      pick i l (inr q) = ap (number_in new) q ∙ bound_goal ∙ sym (number_goal (exchange r j u) i (width (exchange r j u)) (q ∙ sym (height-exchange r j u)))
