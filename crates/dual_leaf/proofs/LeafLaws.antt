-- The lists that are read off a tableau show what they are to show.
use Rattle.std.proofs.Common.{◌≡◌, ℕ, zero, suc, pos, Bool, true, false, cond, List, [], ◌∷◌, ◌++◌, map, length, get_or, ◌+◌, ◌<◌, ◌≤◌, add-one, refl, sym, ◌∙◌, ap, ap₂, subst, arith}
use Rattle.std.specs.Ordering.{eq_by_cmp}
use Rattle.std.proofs.lemmas.List.{get_or-map}
use Rattle.rational_theory.specs.Rational.{ℚ, whole, ◌+ℚ◌, ◌*ℚ◌, ◌≤ℚ◌, ◌<ℚ◌}
use Rattle.rational_theory.proofs.Arithmetic.{+ℚ_assoc, +ℚ-zero}
use Rattle.rational_theory.proofs.Ring.{zero-+ℚ, zero-*ℚ}
use Rattle.rational_theory.specs.Compare.{cmp_ℚ}
use Rattle.rational_theory.proofs.Compare.{eq_true}
use Rattle.rational_theory.specs.Rows.{Row, scale, AllNonNegative}
use Rattle.simplex_theory.proofs.Lines.{get_or-add, get_or-scale}
use Rattle.simplex_theory.specs.Tableau.{Tableau, cell, height, width, bound, goal_bound}
use Rattle.simplex_theory.specs.Totals.{total, cell_of}
use Rattle.simplex_theory.proofs.Totals.{total_same}
use Rattle.simplex_theory.specs.Multipliers.{goal_weight, row_weight}
use Rattle.simplex_theory.proofs.Multipliers.{goal_weight_low, goal_weighed_bound, goal_covers, row_weight_low, row_weighed_bound, row_refutes}
use Rattle.simplex_theory.specs.RowLists.{row_at, coef_at, system_of, vertex_point}
use Rattle.simplex_theory.proofs.RowLists.{optimal_point}
use Rattle.named_row.specs.declared.names.RowId.{RowId}
use Rattle.named_row.specs.declared.leaves.Weight.{Weight}
use Rattle.fraction_tableau.specs.NamedTableaus.{NamedTableau, unnamed, name_in}
use Rattle.dual_leaf.specs.Leaves.{multiplier, multipliers_below, goal_multipliers, row_multipliers, sum_of, CoversWith, SharesGoal, LeafCovers, LeafRefutes, ReachesOptimum}

-- ---- sums over a list of multipliers
abbrev weighed : (RowId → ℚ) → List Weight → ℚ
weighed g [] = whole (pos 0)
weighed g (w ∷ ws) = w.by *ℚ g w.row +ℚ weighed g ws

weighed-append : (g : RowId → ℚ) (vs ws : List Weight) → weighed g (vs ++ ws) ≡ weighed g vs +ℚ weighed g ws
weighed-append g [] ws = sym (zero-+ℚ _)
weighed-append g (v ∷ vs) ws = ap (λ t. v.by *ℚ g v.row +ℚ t) (weighed-append g vs ws) ∙ sym (+ℚ_assoc _ _ _)

one_tested : (g : RowId → ℚ) (name : RowId) (by : ℚ) (b : Bool) → (b ≡ true → by ≡ whole (pos 0)) → weighed g (cond b [] (record { row = name; by = by } ∷ [])) ≡ by *ℚ g name
one_tested g name by true h = sym (ap (λ t. t *ℚ g name) (h refl) ∙ zero-*ℚ (g name))
one_tested g name by false h = +ℚ-zero _

-- a multiplier of 0 that is left out does not matter
weighed_one : (g : RowId → ℚ) (name : RowId) (by : ℚ) → weighed g (multiplier name by) ≡ by *ℚ g name
weighed_one g name by = one_tested g name by (eq_by_cmp cmp_ℚ by (whole (pos 0))) (λ e. eq_true by (whole (pos 0)) (sym e))

weighed_below : (g : RowId → ℚ) (names : List RowId) (f : ℕ → ℚ) (n : ℕ) → weighed g (multipliers_below names f n) ≡ total (λ r. f r *ℚ g (name_in names r)) n
unfolding multipliers_below
weighed_below g names f zero = refl
weighed_below g names f (suc n) = weighed-append g (multipliers_below names f n) (multiplier (name_in names n) (f n))
    ∙ ap₂ (λ s t. s +ℚ t) (weighed_below g names f n) (weighed_one g (name_in names n) (f n))

-- the sum of the rows, coefficient by coefficient, and its bound
sum_coef : (read : RowId → Row) (ws : List Weight) (c : ℕ) → coef_at (sum_of read ws) c ≡ weighed (λ n. coef_at (read n) c) ws
sum_coef read [] c = refl
sum_coef read (w ∷ ws) c =
    get_or-add (scale w.by (read w.row).coefs) (sum_of read ws).coefs c
    ∙ ap₂ (λ s t. s +ℚ t) (get_or-scale w.by (read w.row).coefs c) (sum_coef read ws c)

sum_bound : (read : RowId → Row) (ws : List Weight) → (sum_of read ws).bound ≡ weighed (λ n. (read n).bound) ws
sum_bound read [] = refl
sum_bound read (w ∷ ws) = ap (λ t. w.by *ℚ (read w.row).bound +ℚ t) (sum_bound read ws)

read_at : (read : RowId → Row) (names : List RowId) (r : ℕ) → r < length names → row_at (map read names) r ≡ read (name_in names r)
read_at read names r h = get_or-map read names r unnamed (record { coefs = []; bound = whole (pos 0) }) h

-- the sum's coefficient of a column is the weighted sum of the rows' coefficients
below_coef : (read : RowId → Row) (names : List RowId) (f : ℕ → ℚ) (n c : ℕ) → n ≤ length names → coef_at (sum_of read (multipliers_below names f n))
    c ≡ total (λ r. f r *ℚ coef_at (row_at (map read names) r) c) n
below_coef read names f n c h =
    sum_coef read (multipliers_below names f n) c ∙ weighed_below (λ m. coef_at (read m) c) names f n
    ∙ total_same _ _ n (λ r l. ap (λ (t : Row). f r *ℚ coef_at t c) (sym (read_at read names r (omega arith))))

below_bound : (read : RowId → Row) (names : List RowId) (f : ℕ → ℚ) (n : ℕ) → n ≤ length names → (sum_of read (multipliers_below names f n)).bound ≡
    total (λ r. f r *ℚ (row_at (map read names) r).bound) n
below_bound read names f n h =
    sum_bound read (multipliers_below names f n) ∙ weighed_below (λ m. (read m).bound) names f n
    ∙ total_same _ _ n (λ r l. ap (λ (t : Row). f r *ℚ t.bound) (sym (read_at read names r (omega arith))))

-- ---- signs
append_low : (vs ws : List Weight) → AllNonNegative (map (λ w. w.by) vs) → AllNonNegative (map (λ w. w.by) ws) → AllNonNegative (map (λ w. w.by) (vs ++ ws))
append_low [] ws h k = k
append_low (v ∷ vs) ws h k = (h.0, append_low vs ws h.1 k)

tested_low : (name : RowId) (by : ℚ) (b : Bool) → whole (pos 0) ≤ℚ by → AllNonNegative (map (λ (w : Weight). w.by) (cond b [] (record { row = name; by = by } ∷ [])))
tested_low name by true h = tt
tested_low name by false h = (h, tt)

below_low : (names : List RowId) (f : ℕ → ℚ) (n : ℕ) → ((r : ℕ) → whole (pos 0) ≤ℚ f r) → AllNonNegative (map (λ w. w.by) (multipliers_below names f n))
unfolding multipliers_below
below_low names f zero h = tt
below_low names f (suc n) h = append_low (multipliers_below names f n) (multiplier (name_in names n) (f n)) (below_low names f n h) (tested_low (name_in names n) (f n) _ (h n))

-- equal multipliers make equal lists
pub multipliers_same : (names : List RowId) (f g : ℕ → ℚ) (n : ℕ) → ((r : ℕ) → r < n → f r ≡ g r) → multipliers_below names f n ≡ multipliers_below names g n
unfolding multipliers_below
multipliers_same names f g zero h = refl
multipliers_same names f g (suc n) h = ap₂ (λ s t. s ++ t) (multipliers_same names f g n (λ r l. h r (omega arith))) (ap (multiplier (name_in names n)) (h n (omega arith)))

-- ---- the leaves
shared_weight : (t : NamedTableau) (u : Tableau) (v : ℕ) → SharesGoal t u → goal_weight t.table v ≡ goal_weight u v
unfolding goal_weight
shared_weight t u v s = ap₂ (λ c l. cell_of c l v) (sym s.goal) (sym s.standing)

shared_list : (t : NamedTableau) (u : Tableau) → SharesGoal t u → goal_multipliers t ≡ multipliers_below t.names (λ r. goal_weight u (width u + r)) (height u)
shared_list t u s =
    ap (multipliers_below t.names (λ r. goal_weight t.table (width t.table + r))) (sym s.count)
    ∙ multipliers_same t.names _ _ (height u) (λ r l. shared_weight t u (width t.table + r) s ∙ ap (λ (l : List ℕ). goal_weight u (length l + r)) (sym s.standing))

pub goal_leaf_covers : (t : NamedTableau) → LeafCovers t (goal_multipliers t)
goal_leaf_covers t = record {
  not_negative = λ u s d. subst (λ (ws : List Weight). AllNonNegative (map (λ w. w.by) ws)) (sym (shared_list t u s))
      (below_low t.names (λ r. goal_weight u (width u + r)) (height u) (λ r. goal_weight_low u (width u + r) d));
  covers = λ u read goal s d k.
      let n : height u ≤ length t.names = let e = s.count in omega arith in
      subst (λ (ws : List Weight). CoversWith goal (width u) (goal_bound u) (sum_of read ws)) (sym (shared_list t u s))
      (record {
        coefs = λ c h.
            subst (λ x. get_or goal c (whole (pos 0)) ≤ℚ x) (sym (below_coef read t.names (λ r. goal_weight u (width u + r)) (height u) c n))
            (goal_covers u (system_of (map read t.names) goal) c d k.stands h);
        bound = below_bound read t.names (λ r. goal_weight u (width u + r)) (height u) n ∙ goal_weighed_bound u (system_of (map read t.names) goal) d k.stands;
      });
}

pub row_leaf_refutes : (t : NamedTableau) (i : ℕ) → length t.names ≡ height t.table → i < height t.table → bound t.table i <ℚ whole (pos 0)
    → ((k : ℕ) → k < width t.table → whole (pos 0) ≤ℚ cell t.table i k)
    → LeafRefutes t (row_multipliers t i)
row_leaf_refutes t i e h b n = record {
  not_negative = below_low t.names (λ r. row_weight t.table i (width t.table + r)) (length t.names) (λ r. row_weight_low t.table i (width t.table + r) n);
  refutes = λ read goal d k.
      let f : ℕ → ℚ = λ r. row_weight t.table i (width t.table + r) in
      record {
        coefs = λ c l.
            subst (λ x. whole (pos 0) ≤ℚ x) (sym (below_coef read t.names f (length t.names) c (omega arith) ∙ ap (total (λ r. f r *ℚ coef_at (row_at (map read t.names) r) c)) e))
            (row_refutes t.table (system_of (map read t.names) goal) i c d k.stands h n l);
        bound = subst (λ x. x <ℚ whole (pos 0))
            (sym (below_bound read t.names f (length t.names) (omega arith) ∙ ap (total (λ r. f r *ℚ (row_at (map read t.names) r).bound)) e
            ∙ row_weighed_bound t.table (system_of (map read t.names) goal) i d k.stands h)) b;
      };
}

-- ---- the point
pub reaches_optimum : (t : Tableau) → ReachesOptimum t (vertex_point t)
reaches_optimum t rows goal d s h = optimal_point t rows goal d s h

-- one row more
pub multipliers_next : (names : List RowId) (f : ℕ → ℚ) (n : ℕ) → multipliers_below names f (n + 1) ≡ multipliers_below names f n ++ multiplier (name_in names n) (f n)
unfolding multipliers_below
multipliers_next names f n = rw add-one refl

-- and that of the tableau itself
pub own_shares : (t : NamedTableau) → length t.names ≡ height t.table → SharesGoal t t.table
own_shares t e = record { goal = refl; standing = refl; count = sym e }
