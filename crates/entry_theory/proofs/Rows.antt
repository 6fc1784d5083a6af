-- What the entry's choice of a row says, and that it is the only such row.
use Rattle.std.proofs.Common.{◌≡◌, ℕ, suc, pos, true, false, not, eqb, ltb, List, [], ◌∷◌, ◌+◌, ◌&&◌, ◌<◌, ◌≤◌, ◌⊎◌, inl, inr, refl, sym, ◌∙◌, arith}
use Rattle.std.specs.Prelude.{◌==◌}
use Rattle.std.specs.List.{list_any}
use Rattle.std.proofs.lemmas.Bool.{eq-eqb, eqb-true, and_parts, or_cases, not-true, false_from_ne_true, cond-true, cond-false, lt-ltb, le-ltb, false≢true, true≢false}
use Rattle.std.proofs.lemmas.List.Folds.{list_any_at}
use Rattle.rational_theory.specs.Rational.{ℚ, whole}
use Rattle.rational_theory.proofs.Compare.{eq_says}
use Rattle.simplex_theory.specs.Tableau.{Tableau, cell, height, width, basic_at, exchange}
use Rattle.entry_theory.proofs.Least.{IsLeast, least_is, least_found}
use Rattle.entry_theory.specs.Entry.{IsAmong, is_among, is_zero, can_take, entry_row, entry_pivot}

-- ---- the tests
pub among_true : (vs : List ℕ) (v : ℕ) → IsAmong vs v → is_among vs v ≡ true
among_true vs v a = list_any_at (λ u. u == v) vs a.at 0 a.within (eq-eqb _ _ a.holds)

pub among_found : (vs : List ℕ) (v : ℕ) → is_among vs v ≡ true → IsAmong vs v
among_found [] v e = absurd (false≢true e)
among_found (u ∷ us) v e = pick (or_cases (u == v) (list_any (λ u. u == v) us) e) (among_found us v)
  where
    pick : ((u == v) ≡ true) ⊎ (list_any (λ u. u == v) us ≡ true) → (list_any (λ u. u == v) us ≡ true → IsAmong us v) → IsAmong (u ∷ us) v
    pick (inl h) f = record { at = 0; within = omega arith; holds = eqb-true u v h }
    pick (inr h) f = let a = f h in record { at = suc a.at; within = let w = a.within in omega arith; holds = a.holds }

not_among : (vs : List ℕ) (v : ℕ) → (IsAmong vs v → ⊥) → is_among vs v ≡ false
not_among vs v n = false_from_ne_true _ (λ e. n (among_found vs v e))

pub zero_true : (x : ℚ) → is_zero x ≡ true → x ≡ whole (pos 0)
zero_true x e = (eq_says x (whole (pos 0)) (is_zero x) refl).0 e

pub true_zero : (x : ℚ) → x ≡ whole (pos 0) → is_zero x ≡ true
true_zero x e = (eq_says x (whole (pos 0)) (is_zero x) refl).1 e

-- ---- a row that column j can enter: its own slack is basic in it, and is not in the list, and it has a cell at j
pub record CanEnter (vs : List ℕ) (t : Tableau) (j i : ℕ) : Type 0 where
  pub row : i < height t
  pub own : basic_at t i ≡ width t + i
  pub pivot : cell t i j ≡ whole (pos 0) → ⊥
  pub left_out : IsAmong vs (width t + i) → ⊥

pub can_take_says : (vs : List ℕ) (t : Tableau) (j i : ℕ) → i < height t → can_take vs t j i ≡ true → CanEnter vs t j i
can_take_says vs t j i h e =
    let p = and_parts (eqb (basic_at t i) (width t + i)) (not (is_zero (cell t i j)) && not (is_among vs (width t + i))) e in
    let q = and_parts (not (is_zero (cell t i j))) (not (is_among vs (width t + i))) p.1 in
    record {
      row = h;
      own = eqb-true _ _ p.0;
      pivot = λ z. false≢true (sym (not-true _ q.0) ∙ true_zero _ z);
      left_out = λ a. false≢true (sym (not-true _ q.1) ∙ among_true vs _ a);
    }

pub can_take_of : (vs : List ℕ) (t : Tableau) (j i : ℕ) → CanEnter vs t j i → can_take vs t j i ≡ true
can_take_of vs t j i c =
    let z : is_zero (cell t i j) ≡ false = false_from_ne_true _ (λ e. c.pivot (zero_true _ e)) in
    rw (eq-eqb _ _ c.own, z, not_among vs _ c.left_out) refl

-- the least such row
pub record IsEntryRow (vs : List ℕ) (t : Tableau) (j r : ℕ) : Type 0 where
  pub enters : CanEnter vs t j r
  pub least : (i : ℕ) → CanEnter vs t j i → r ≤ i

at_most_or_less : (a b : ℕ) → (a ≤ b) ⊎ (b < a)
at_most_or_less a b = grind arith

pub entry_row_found : (vs : List ℕ) (t : Tableau) (j i : ℕ) → CanEnter vs t j i → IsEntryRow vs t j (entry_row vs t j)
unfolding entry_row
entry_row_found vs t j i c = says (least_found (can_take vs t j) (height t) i c.row (can_take_of vs t j i c))
  where
    says : {r : ℕ} → IsLeast (can_take vs t j) (height t) r → IsEntryRow vs t j r
    says {r = r} l = record { enters = can_take_says vs t j r l.within l.passes; least = λ i c. pick i c (at_most_or_less r i) }
      where
        pick : (i : ℕ) → CanEnter vs t j i → (r ≤ i) ⊎ (i < r) → r ≤ i
        pick i c (inl h) = h
        pick i c (inr h) = absurd (true≢false (sym (can_take_of vs t j i c) ∙ l.before i h))

pub entry_row_is : (vs : List ℕ) (t : Tableau) (j r : ℕ) → IsEntryRow vs t j r → entry_row vs t j ≡ r
unfolding entry_row
entry_row_is vs t j r h =
    least_is (can_take vs t j) (height t) r
    (record {
      within = h.enters.row;
      passes = can_take_of vs t j r h.enters;
      before = λ k l. false_from_ne_true _ (λ e. let m = h.least k (can_take_says vs t j k (let b = h.enters.row in omega arith) e) in absurd (omega arith));
    })

-- ---- one variable more
pub pivot_column : (vs : List ℕ) (t : Tableau) (v : ℕ) → v < width t → entry_pivot vs t v ≡ exchange (entry_row vs t v) v t
unfolding entry_pivot
pivot_column vs t v h = cond-true (ltb v (width t)) _ _ (lt-ltb v (width t) h)

pub pivot_slack : (vs : List ℕ) (t : Tableau) (v : ℕ) → width t ≤ v → entry_pivot vs t v ≡ t
unfolding entry_pivot
pivot_slack vs t v h = cond-false (ltb v (width t)) _ _ (le-ltb v (width t) h)
