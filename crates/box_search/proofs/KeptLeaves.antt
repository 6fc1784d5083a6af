-- The leaf of a line's end is a leaf that a certificate keeps, where the rows have names and ascend, and are few.
use Rattle.std.proofs.Common.{arith, ◌≡◌, ℕ, pos, zero, suc, ◌<◌, ◌≤◌, inl, inr, Bool, true, false, true≢false, cond, Option, None, Some, List, []}
use Rattle.std.proofs.Common.{◌∷◌, ◌++◌, length, All, refl, sym, subst, length-append}
use Rattle.std.proofs.lemmas.Bool.{lt-ltb, eq-eqb}
use Rattle.std.proofs.lemmas.List.{append-nil}
use Rattle.std.proofs.lemmas.List.Elements.{All-nil, All-cons, All-append}
use Rattle.std.specs.Prelude.{◌||◌, ◌&&◌}
use Rattle.std.specs.Ordering.{eq_by_cmp}
use Rattle.rational_theory.specs.Rational.{ℚ, whole}
use Rattle.rational_theory.specs.Compare.{cmp_ℚ}
use Rattle.branch_and_bound.specs.Lines.{BoxLine}
use Rattle.named_row.specs.Order.{IsBelow, is_below}
use Rattle.named_row.specs.declared.names.RowId.{RowId}
use Rattle.named_row.specs.declared.leaves.Weight.{Weight}
use Rattle.simplex_theory.specs.BlandRule.{Move, optimal, infeasible, pivoted}
use Rattle.fraction_tableau.specs.NamedTableaus.{name_in}
use Rattle.program_builder.specs.RowOrder.{IsAscending}
use Rattle.dual_leaf.specs.Leaves.{multiplier, multipliers_below}
use Rattle.certificate_model.specs.Families.{Table, IsNamedIn, is_after}
use Rattle.certificate_model.specs.Warrants.{Ascend, IsNodeIn, LeafOf}
use Rattle.box_search.specs.Program.{Program}
use Rattle.box_search.specs.Ends.{named_last, end_move, leaf_by, end_leaf}

-- ---- names
or_left : (b c : Bool) → b ≡ true → (b || c) ≡ true
or_left true c e = refl
or_left false c e = absurd (true≢false (sym e))

or_right : (b c : Bool) → c ≡ true → (b || c) ≡ true
or_right true c e = refl
or_right false c e = e

and_both : (b c : Bool) → b ≡ true → c ≡ true → (b && c) ≡ true
and_both true c e f = f
and_both false c e f = absurd (true≢false (sym e))

pub below_test : (r s : RowId) → IsBelow r s → is_below r s ≡ true
below_test r s (inl h) = or_left _ _ (lt-ltb _ _ h)
below_test r s (inr h) = or_right _ _ (and_both _ _ (eq-eqb _ _ h.0) (lt-ltb _ _ h.1))

-- ---- multipliers of ascending rows, by the names of a table
-- each row comes before this one
abbrev AreBelow : List Weight → RowId → Type 0
AreBelow [] r = Unit {0}
AreBelow (w ∷ ws) r = (is_below w.row r ≡ true) × AreBelow ws r

below_append : (vs ws : List Weight) (r : RowId) → AreBelow vs r → AreBelow ws r → AreBelow (vs ++ ws) r
below_append [] ws r h k = k
below_append (v ∷ vs) ws r h k = (h.0, below_append vs ws r h.1 k)

ascend_more : (last : Option RowId) (ws : List Weight) (w : Weight) → Ascend last ws → is_after last w.row ≡ true → AreBelow ws w.row → Ascend last (ws ++ w ∷ [])
ascend_more last [] w h k b = (k, tt)
ascend_more last (v ∷ vs) w h k b = (h.0, ascend_more (Some v.row) vs w h.1 b.0 b.1)

module _ (table : Table) (names : List RowId) (f : ℕ → ℚ) where
  -- the multiplier of one row is one weight of it, or none
  one_length : (b : Bool) (w : Weight) → length (cond b [] (w ∷ [])) ≤ 1
  one_length true w = omega arith
  one_length false w = omega arith

  few : (n : ℕ) → length (multipliers_below names f n) ≤ n
  unfolding multipliers_below
  few zero = omega arith
  few (suc n) =
      let h = few n in
      let e = length-append (multipliers_below names f n) (multiplier (name_in names n) (f n)) in
      let k = one_length (eq_by_cmp cmp_ℚ (f n) (whole (pos 0))) (record { row = name_in names n; by = f n }) in
      omega arith

  one_below : (b : Bool) (w : Weight) (r : RowId) → is_below w.row r ≡ true → AreBelow (cond b [] (w ∷ [])) r
  one_below true w r h = tt
  one_below false w r h = (h, tt)

  all_below : (n : ℕ) (r : RowId) → ((k : ℕ) → k < n → is_below (name_in names k) r ≡ true) → AreBelow (multipliers_below names f n) r
  unfolding multipliers_below
  all_below zero r h = tt
  all_below (suc n) r h = below_append (multipliers_below names f n) _ r (all_below n r (λ k l. h k (omega arith))) (one_below _ (record { row = name_in names n; by = f n }) r (h n (omega arith)))

  one_more : (b : Bool) (ws : List Weight) (w : Weight) → Ascend None ws → AreBelow ws w.row → Ascend None (ws ++ cond b [] (w ∷ []))
  one_more true ws w h k = subst (Ascend None) (sym (append-nil ws)) h
  one_more false ws w h k = ascend_more None ws w h refl k

  ascends : (n : ℕ) → ((i k : ℕ) → i < k → k < n → is_below (name_in names i) (name_in names k) ≡ true) → Ascend None (multipliers_below names f n)
  unfolding multipliers_below
  ascends zero h = tt
  ascends (suc n) h =
      one_more _ (multipliers_below names f n) (record { row = name_in names n; by = f n }) (ascends n (λ i k l m. h i k l (omega arith)))
      (all_below n (name_in names n) (λ k l. h k n l (omega arith)))

  one_named : (b : Bool) (w : Weight) → IsNamedIn table w.row → All (λ v. IsNamedIn table v.row) (cond b [] (w ∷ []))
  one_named true w h = All-nil (λ v. IsNamedIn table v.row)
  one_named false w h = All-cons (λ v. IsNamedIn table v.row) w [] h (All-nil (λ v. IsNamedIn table v.row))

  are_named : (n : ℕ) → ((k : ℕ) → k < n → IsNamedIn table (name_in names k)) → All (λ w. IsNamedIn table w.row) (multipliers_below names f n)
  unfolding multipliers_below
  are_named zero h = All-nil (λ w. IsNamedIn table w.row)
  are_named (suc n) h =
      All-append (λ w. IsNamedIn table w.row) (multipliers_below names f n) _ (are_named n (λ k l. h k (omega arith))) (one_named _ (record { row = name_in names n; by = f n }) (h n (omega arith)))

  -- those of all rows are a leaf that a certificate keeps
  rows_kept : length names ≤ 10000 → IsAscending names → ((k : ℕ) → k < length names → IsNamedIn table (name_in names k)) → IsNodeIn table (LeafOf (multipliers_below names f (length names)))
  rows_kept most ascending named =
      let short = few (length names) in (
        omega arith,
        ascends (length names) (λ i k l m. below_test _ _ (ascending.ascending i k l m)),
        are_named (length names) named,
      )

-- so is the leaf of each end of a program whose names are those of a table
pub program_kept : {T W : Type 0} (table : Table) (p : Program T W) (line : BoxLine) → length p.names ≤ 10000 → IsAscending p.names
    → ((k : ℕ) → k < length p.names → IsNamedIn table (name_in p.names k))
    → IsNodeIn table (LeafOf (end_leaf p line))
unfolding end_leaf
program_kept table p line most ascending named = pick (end_move p line)
  where
    none_kept : IsNodeIn table (LeafOf [])
    none_kept = (omega arith, tt, All-nil (λ w. IsNamedIn table w.row))

    pick : (m : Move) → IsNodeIn table (LeafOf (leaf_by (named_last p line) m))
    pick optimal = rows_kept table p.names _ most ascending named
    pick (infeasible r) = rows_kept table p.names _ most ascending named
    pick (pivoted r j) = none_kept
