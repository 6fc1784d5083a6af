-- Lists of numbers while they are written one after another: notes, and bounds that a pivot changes.
use Rattle.std.proofs.Common.{◌≡◌, ℕ, pos, List, get_or, set, length, ◌+◌, ◌<◌, ◌≤◌, ◌⊎◌, inl, inr, sym, ◌∙◌, ap, subst, arith}
use Rattle.std.proofs.Math.ListN.{length-set}
use Rattle.std.proofs.lemmas.List.{get_or-set_same, get_or-set_other, get_or_past}
use Rattle.std.proofs.lemmas.Bool.{cases_lt}
use Rattle.rational_theory.specs.Rational.{ℚ, whole, neg_ℚ, inverse_ℚ, ◌+ℚ◌, ◌*ℚ◌}
use Rattle.rational_theory.proofs.Arithmetic.{+ℚ-zero}
use Rattle.rational_theory.proofs.Ring.{zero-*ℚ}
use Rattle.rational_theory.proofs.Arithmetic.{*ℚ-zero}
use Rattle.simplex_theory.proofs.Tableau.{same_or_other}
use Rattle.narrow_fraction.specs.Fraction.{FitsFrac}
use Rattle.narrow_fraction.specs.Past128.{Fits128, SumFits}
use Rattle.narrow_fraction.specs.declared.wide.Op.TheVariants.{Div}
use Rattle.narrow_fraction.proofs.Zeros.{zero_fits, sum_with_zero}
use Rattle.fraction_tableau.specs.Narrow.{IsNarrow}
use Rattle.fraction_tableau.specs.KeptCells.{number_in}
use Rattle.fraction_tableau.proofs.Zeros.{negated_zero}
use Rattle.simplex_theory.specs.Tableau.{Tableau, width}
use Rattle.entry_theory.specs.Entry.{variable_at, entry_row, entry_after}
use Rattle.program_builder.specs.Remembering.{IsLess, ArePivoted, IsNoteOf, AreNotesOf}
use Rattle.program_builder.specs.declared.noting.NotedPivot.{NotedPivot}

-- ---- written one after another
-- the first k are f's, and all are as many as before
pub record AreWritten (f : ℕ → ℚ) (old now : List ℚ) (k : ℕ) : Type 0 where
  pub count : length now ≡ length old
  pub written : (i : ℕ) → i < k → number_in now i ≡ f i

pub last_or_before : (i k : ℕ) → i < k + 1 → (i ≡ k) ⊎ (i < k)
last_or_before i k h = grind arith

-- ---- fitting numbers
pub narrow_set : (now : List ℚ) (k : ℕ) (x : ℚ) → IsNarrow now → k < length now → FitsFrac x → IsNarrow (set now k x)
narrow_set now k x n h f = record {
  fits = λ i. elim (same_or_other i k) [
    | inl q ↦ rw q (subst FitsFrac (sym (get_or-set_same now k x (whole (pos 0)) h)) f)
    | inr q ↦ subst FitsFrac (sym (get_or-set_other now k i x (whole (pos 0)) q)) (n.fits i)
  ];
}

-- ---- a bound less nothing
pub less_nothing : (factor own bound : ℚ) → FitsFrac bound → factor *ℚ own ≡ whole (pos 0) → IsLess factor own bound bound
less_nothing factor own bound f e = record {
  value = sym (ap (λ t. bound +ℚ neg_ℚ t) e ∙ ap (λ t. bound +ℚ t) negated_zero ∙ +ℚ-zero bound);
  product = subst FitsFrac (sym e) zero_fits;
  difference = subst (λ t. SumFits bound t) (sym (ap neg_ℚ e ∙ negated_zero)) (sum_with_zero bound f);
}

pub zero_own : (factor own : ℚ) → own ≡ whole (pos 0) → factor *ℚ own ≡ whole (pos 0)
zero_own factor own e = ap (λ t. factor *ℚ t) e ∙ *ℚ-zero factor

pub zero_factor : (factor own : ℚ) → factor ≡ whole (pos 0) → factor *ℚ own ≡ whole (pos 0)
zero_factor factor own e = ap (λ t. t *ℚ own) e ∙ zero-*ℚ own

-- ---- bounds that a pivot changes, up to a row
pub record IsPivotingBounds (r : ℕ) (column old now : List ℚ) (k : ℕ) : Type 0 where
  pub count : length now ≡ length old
  pub own : number_in now r ≡ number_in old r *ℚ inverse_ℚ (number_in column r)
  pub quotient : Fits128 Div (number_in old r) (number_in column r)
  pub done : (i : ℕ) → i < k → (i ≡ r → ⊥) → IsLess (number_in column i) (number_in now r) (number_in old i) (number_in now i)
  pub rest : (i : ℕ) → k ≤ i → (i ≡ r → ⊥) → number_in now i ≡ number_in old i
  pub narrow : IsNarrow now

-- the pivot's own row
pub pivoting_own : (r : ℕ) (column old now : List ℚ) (k : ℕ) → IsPivotingBounds r column old now k → k ≡ r → IsPivotingBounds r column old now (k + 1)
pivoting_own r column old now k t e = record {
  count = t.count;
  own = t.own;
  quotient = t.quotient;
  done = λ i h o. t.done i (elim (last_or_before i k h) as (λ _. i < k) [ inl q ↦ absurd (o (q ∙ e)) | inr q ↦ q ]) o;
  rest = λ i h o. t.rest i (omega arith) o;
  narrow = t.narrow;
}

-- another row
pub pivoting_next : (r : ℕ) (column old now : List ℚ) (k : ℕ) (x : ℚ) → IsPivotingBounds r column old now k → (k ≡ r → ⊥) → k < length now
    → IsLess (number_in column k) (number_in now r) (number_in now k) x → FitsFrac x
    → IsPivotingBounds r column old (set now k x) (k + 1)
pivoting_next r column old now k x t n h l f = record {
  count = length-set now k x ∙ t.count;
  own = own ∙ t.own;
  quotient = t.quotient;
  done = λ i b o. subst (λ z. IsLess (number_in column i) z (number_in old i) (number_in (set now k x) i)) (sym own) (pick i o (last_or_before i k b));
  rest = λ i b o. get_or-set_other now k i x (whole (pos 0)) (λ d. absurd (omega arith)) ∙ t.rest i (omega arith) o;
  narrow = narrow_set now k x t.narrow h f;
}
  where
    own : number_in (set now k x) r ≡ number_in now r
    own = get_or-set_other now k r x (whole (pos 0)) (λ e. n (sym e))

    pick : (i : ℕ) → (i ≡ r → ⊥) → (i ≡ k) ⊎ (i < k) → IsLess (number_in column i) (number_in now r) (number_in old i) (number_in (set now k x) i)
    pick i o (inl q) =
        rw q
        (subst (λ z. IsLess (number_in column k) (number_in now r) (number_in old k) z) (sym (get_or-set_same now k x (whole (pos 0)) h))
        (subst (λ z. IsLess (number_in column k) (number_in now r) z x) (t.rest k (omega arith) n) l))
    pick i o (inr q) =
        subst (λ z. IsLess (number_in column i) (number_in now r) (number_in old i) z) (sym (get_or-set_other now k i x (whole (pos 0)) (λ d. absurd (omega arith)))) (t.done i q o)

-- the pivot's own row alone, where its new bound is 0
pub pivoted_alone : (r : ℕ) (column old : List ℚ) (x : ℚ) → r < length old → IsNarrow old → x ≡ number_in old r *ℚ inverse_ℚ (number_in column r)
    → Fits128 Div (number_in old r) (number_in column r) → x ≡ whole (pos 0)
    → ArePivoted r column old (set old r x)
pivoted_alone r column old x h n e q z = record {
  count = length-set old r x;
  own = own ∙ e;
  quotient = q;
  others = λ i b o.
      subst (λ t. IsLess (number_in column i) (number_in (set old r x) r) (number_in old i) t) (sym (get_or-set_other old r i x (whole (pos 0)) o))
      (less_nothing (number_in column i) (number_in (set old r x) r) (number_in old i) (n.fits i) (zero_own (number_in column i) (number_in (set old r x) r) (own ∙ z)));
}
  where
    own : number_in (set old r x) r ≡ x
    own = get_or-set_same old r x (whole (pos 0)) h

-- ---- notes
-- the notes of the pivots below k
abbrev pub AreNotesBelow : List ℕ → Tableau → ℕ → List NotedPivot → Type 0
AreNotesBelow vs t k notes = (j : ℕ) (d : NotedPivot) → j < k → j < length notes → variable_at vs j < width (entry_after vs t j)
    → IsNoteOf (entry_after vs t j) (entry_row vs (entry_after vs t j) (variable_at vs j)) (variable_at vs j) (get_or notes j d)

pub notes_none : (vs : List ℕ) (t : Tableau) (notes : List NotedPivot) → AreNotesBelow vs t 0 notes
notes_none vs t notes j d h = absurd (omega arith)

pub notes_next : (vs : List ℕ) (t now : Tableau) (k : ℕ) (old new : List NotedPivot) → now ≡ entry_after vs t k → length new ≡ length old → AreNotesBelow vs t k old
    → ((i : ℕ) (d : NotedPivot) → (i ≡ k → ⊥) → get_or new i d ≡ get_or old i d)
    → (variable_at vs k < width now → (d : NotedPivot) → k < length old → IsNoteOf now (entry_row vs now (variable_at vs k)) (variable_at vs k) (get_or new k d)) → AreNotesBelow vs t (k + 1) new
notes_next vs t now k old new e l n o f j d h m w = elim (last_or_before j k h) [
  | inl q ↦ rw q (subst (λ (s : Tableau). IsNoteOf s (entry_row vs s (variable_at vs k)) (variable_at vs k) (get_or new k d)) e
      (f (subst (λ (s : Tableau). variable_at vs k < width s) (sym e) (subst (λ i. variable_at vs i < width (entry_after vs t i)) q w)) d (omega arith)))
  | inr q ↦ subst (IsNoteOf (entry_after vs t j) (entry_row vs (entry_after vs t j) (variable_at vs j)) (variable_at vs j)) (sym (o j d (λ b. absurd (omega arith)))) (n j d q (omega arith) w)
]

pub notes_all : (vs : List ℕ) (t : Tableau) (k : ℕ) (notes : List NotedPivot) → k ≡ length vs → AreNotesBelow vs t k notes → AreNotesOf vs t notes
notes_all vs t k notes e n j d h m w = n j d (omega arith) m w

-- ---- all of them fit
pub narrow_all : (list : List ℚ) (k : ℕ) → length list ≤ k → ((i : ℕ) → i < k → FitsFrac (number_in list i)) → IsNarrow list
narrow_all list k h f = record {
  fits = λ i. elim (cases_lt i k) [
    | inl l ↦ f i l
    | inr l ↦ subst FitsFrac (sym (get_or_past list i (whole (pos 0)) (omega arith))) zero_fits
  ];
}
