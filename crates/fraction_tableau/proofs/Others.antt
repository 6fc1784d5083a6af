-- The state of the loop over the other rows: those below n are cleared.
use Rattle.std.proofs.Common.{◌≡◌, ℕ, pos, Some, None, List, [], length, get_or, cond, eqb, ◌+◌, ◌<◌, ◌≤◌, ◌⊎◌, inl, inr, refl, sym, ◌∙◌, ap, subst, arith}
use Rattle.std.proofs.Math.ListN.{set, length-set}
use Rattle.std.proofs.lemmas.List.{get_or-set_same, get_or-set_other, set-get_or}
use Rattle.std.proofs.lemmas.Bool.{cases_eq, cond-true, cond-false, eq-eqb, ne_eqb}
use Rattle.rational_theory.specs.Rational.{ℚ, whole}
use Rattle.simplex_theory.specs.Lines.{cleared}
use Rattle.narrow_fraction.specs.Attempt.{first_below}
use Rattle.narrow_fraction.proofs.Attempt.{first_next, first_is}
use Rattle.fraction_tableau.specs.Narrow.{AreNarrow}
use Rattle.fraction_tableau.specs.Refusals.{clear_refusal, row_refusal}
use Rattle.fraction_tableau.specs.KeptCells.{number_in}
use Rattle.fraction_tableau.proofs.Zeros.{zero_row, zero_row_kept}
use Rattle.fraction_tableau.specs.declared.wide_cell.WideCell.{WideCell}

pub record Others (r j : ℕ) (e : List ℚ) (p : ℚ) (rows now : List (List ℚ)) (n : ℕ) : Type 0 where
  pub passed : first_below (row_refusal r j e p rows) n ≡ None
  pub count : length now ≡ length rows
  pub widths : (k : ℕ) → length (get_or now k []) ≡ length (get_or rows k [])
  pub done : (k : ℕ) → k < n → (k ≡ r → ⊥) → get_or now k [] ≡ cleared j e (get_or rows k [])
  pub own : get_or now r [] ≡ get_or rows r []
  pub rest : (k : ℕ) → n ≤ k → get_or now k [] ≡ get_or rows k []
  pub narrow : AreNarrow now

pub others_none : (r j : ℕ) (e : List ℚ) (p : ℚ) (rows : List (List ℚ)) → AreNarrow rows → Others r j e p rows rows 0
others_none r j e p rows v = record { narrow = v; passed = refl; count = refl; widths = λ k. refl; done = λ k h n. absurd (omega arith); own = refl; rest = λ k h. refl }

-- the rows stayed
pub others_stay : (r j : ℕ) (e : List ℚ) (p : ℚ) (rows now then : List (List ℚ)) (n : ℕ) → then ≡ now → Others r j e p rows now n → Others r j e p rows then n
others_stay r j e p rows now then n s o = subst (λ (t : List (List ℚ)). Others r j e p rows t n) (sym s) o

line_same : (r j : ℕ) (e : List ℚ) (p : ℚ) (rows now : List (List ℚ)) (n : ℕ) → get_or now n [] ≡ get_or rows n [] → row_refusal r j e p now n ≡ row_refusal r j e p rows n
line_same r j e p rows now n s = ap (λ d. cond (eqb n r) None (clear_refusal n j e d p)) s

pub others_next : (r j : ℕ) (e : List ℚ) (p : ℚ) (rows now then : List (List ℚ)) (n : ℕ) → Others r j e p rows now n → n < length rows → row_refusal r j e p now n ≡ None
    → ((k : ℕ) → length (get_or then k []) ≡ length (get_or now k [])) → then ≡ cond (eqb n r) now (set now n (cleared j e (get_or now n []))) → AreNarrow then → Others r j e p rows then (n + 1)
others_next r j e p rows now then n o h f w g v = record {
  narrow = v;
  passed = first_next (row_refusal r j e p rows) n o.passed (sym (line_same r j e p rows now n (o.rest n (omega arith))) ∙ f);
  count = many (cases_eq n r) ∙ o.count;
  widths = λ k. w k ∙ o.widths k;
  done = λ k l m. cell k m (last k l) (cases_eq n r);
  own = mine (cases_eq n r);
  rest = λ k l. later k l (cases_eq n r) ∙ o.rest k (omega arith);
}
  where
    skipped : n ≡ r → then ≡ now
    skipped q = g ∙ cond-true (eqb n r) _ _ (eq-eqb n r q)

    written : (n ≡ r → ⊥) → then ≡ set now n (cleared j e (get_or now n []))
    written q = g ∙ cond-false (eqb n r) _ _ (ne_eqb n r q)

    many : (n ≡ r) ⊎ (n ≡ r → ⊥) → length then ≡ length now
    many (inl q) = ap length (skipped q)
    many (inr q) = ap length (written q) ∙ length-set now n _

    last : (k : ℕ) → k < n + 1 → (k ≡ n) ⊎ (k < n)
    last k l = grind arith

    cell : (k : ℕ) → (k ≡ r → ⊥) → (k ≡ n) ⊎ (k < n) → (n ≡ r) ⊎ (n ≡ r → ⊥) → get_or then k [] ≡ cleared j e (get_or rows k [])
    cell k m (inl a) (inl q) = absurd (m (a ∙ q))
    cell k m (inl a) (inr q) = rw (a, written q) (get_or-set_same now n _ [] (rw o.count h) ∙ ap (cleared j e) (o.rest n (omega arith)))
    cell k m (inr a) (inl q) = ap (λ (t : List (List ℚ)). get_or t k []) (skipped q) ∙ o.done k a m
    cell k m (inr a) (inr q) = ap (λ (t : List (List ℚ)). get_or t k []) (written q) ∙ get_or-set_other now n k _ [] (λ b. absurd (omega arith)) ∙ o.done k a m

    mine : (n ≡ r) ⊎ (n ≡ r → ⊥) → get_or then r [] ≡ get_or rows r []
    mine (inl q) = ap (λ (t : List (List ℚ)). get_or t r []) (skipped q) ∙ o.own
    mine (inr q) = ap (λ (t : List (List ℚ)). get_or t r []) (written q) ∙ get_or-set_other now n r _ [] (λ b. q (sym b)) ∙ o.own

    later : (k : ℕ) → n + 1 ≤ k → (n ≡ r) ⊎ (n ≡ r → ⊥) → get_or then k [] ≡ get_or now k []
    later k l (inl q) = ap (λ (t : List (List ℚ)). get_or t k []) (skipped q)
    later k l (inr q) = ap (λ (t : List (List ℚ)). get_or t k []) (written q) ∙ get_or-set_other now n k _ [] (λ b. absurd (omega arith))

pub others_stop : (r j : ℕ) (e : List ℚ) (p : ℚ) (rows now : List (List ℚ)) (n : ℕ) (w : WideCell) → Others r j e p rows now n → n < length rows
    → row_refusal r j e p now n ≡ Some w → first_below (row_refusal r j e p rows) (length rows) ≡ Some w
others_stop r j e p rows now n w o h f =
    first_is (row_refusal r j e p rows) n (length rows) w o.passed (sym (line_same r j e p rows now n (o.rest n (omega arith))) ∙ f) h

-- a row with 0 at the pivot's place stays, and so does the pivot's own
pub others_idle : (r j : ℕ) (e : List ℚ) (p : ℚ) (rows now : List (List ℚ)) (n : ℕ) → Others r j e p rows now n → n < length rows → length (get_or now n []) ≡ length e
    → j < length e → number_in (get_or now n []) j ≡ whole (pos 0)
    → Others r j e p rows now (n + 1)
others_idle r j e p rows now n o h w l z = others_next r j e p rows now now n o h (free (cases_eq n r)) (λ k. refl) (same (cases_eq n r)) o.narrow
  where
    free : (n ≡ r) ⊎ (n ≡ r → ⊥) → row_refusal r j e p now n ≡ None
    free (inl q) = cond-true (eqb n r) None _ (eq-eqb n r q)
    free (inr q) = cond-false (eqb n r) None _ (ne_eqb n r q) ∙ zero_row n j e (get_or now n []) p (o.narrow.narrow n) z

    same : (n ≡ r) ⊎ (n ≡ r → ⊥) → now ≡ cond (eqb n r) now (set now n (cleared j e (get_or now n [])))
    same (inl q) = sym (cond-true (eqb n r) now _ (eq-eqb n r q))
    same (inr q) = sym (cond-false (eqb n r) now _ (ne_eqb n r q) ∙ ap (set now n) (sym (zero_row_kept j e (get_or now n []) w (rw w l) z)) ∙ set-get_or now n [])
