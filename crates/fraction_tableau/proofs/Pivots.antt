-- The parts of a pivot put together.
use Rattle.std.proofs.Common.{◌≡◌, ℕ, pos, Some, None, List, [], map, length, get_or, ◌<◌, ◌⊎◌, inl, inr, sym, ◌∙◌, ap, ap₂, arith}
use Rattle.std.proofs.Math.ListN.{set, length-set}
use Rattle.std.proofs.lemmas.List.{ext_get_or, get_or-set_same, get_or-set_other, get_or-map, length-map}
use Rattle.std.proofs.lemmas.Bool.{cases_eq}
use Rattle.rational_theory.specs.Rational.{ℚ, whole}
use Rattle.simplex_theory.specs.Lines.{divided, cleared}
use Rattle.narrow_fraction.specs.Attempt.{earlier, first_below}
use Rattle.fraction_tableau.specs.Refusals.{divide_refusal, clear_refusal, row_refusal, pivot_refusal, exchanged_rows}
use Rattle.fraction_tableau.specs.declared.wide_cell.WideCell.{WideCell}

pub pivot_first : (r j : ℕ) (rows : List (List ℚ)) (goal : List ℚ) (w : WideCell) → divide_refusal r j (get_or rows r []) ≡ Some w → pivot_refusal r j rows goal ≡ Some w
unfolding pivot_refusal
pivot_first r j rows goal w e =
    ap (λ o. earlier o (earlier (clear_refusal (length rows) j (divided j (get_or rows r [])) goal (get_or (get_or rows r []) j (whole (pos 0))))
    (first_below (row_refusal r j (divided j (get_or rows r [])) (get_or (get_or rows r []) j (whole (pos 0))) rows) (length rows)))) e

pub pivot_then : (r j : ℕ) (rows : List (List ℚ)) (goal e : List ℚ) (p : ℚ) → e ≡ divided j (get_or rows r []) → p ≡ get_or (get_or rows r []) j (whole (pos 0))
    → divide_refusal r j (get_or rows r []) ≡ None
    → pivot_refusal r j rows goal ≡ earlier (clear_refusal (length rows) j e goal p) (first_below (row_refusal r j e p rows) (length rows))
unfolding pivot_refusal
pivot_then r j rows goal e p a b f =
    ap (λ o. earlier o (earlier (clear_refusal (length rows) j (divided j (get_or rows r [])) goal (get_or (get_or rows r []) j (whole (pos 0))))
    (first_below (row_refusal r j (divided j (get_or rows r [])) (get_or (get_or rows r []) j (whole (pos 0))) rows) (length rows)))) f
    ∙ ap₂ (λ u q. earlier (clear_refusal (length rows) j u goal q) (first_below (row_refusal r j u q rows) (length rows))) (sym a) (sym b)

pub rows_done : (r j : ℕ) (rows now : List (List ℚ)) (e : List ℚ) → e ≡ divided j (get_or rows r []) → r < length rows → length now ≡ length rows → get_or now r [] ≡ e
    → ((k : ℕ) → k < length rows → (k ≡ r → ⊥) → get_or now k [] ≡ cleared j e (get_or rows k [])) → now ≡ exchanged_rows r j rows
unfolding exchanged_rows
rows_done r j rows now e a h l o f =
    ext_get_or [] now _ (l ∙ sym (length-set (map (cleared j (divided j (get_or rows r []))) rows) r _ ∙ length-map rows _)) (λ k m. pick k (rw (← l) m) (cases_eq k r))
  where
    pick : (k : ℕ) → k < length rows → (k ≡ r) ⊎ (k ≡ r → ⊥) → get_or now k [] ≡ get_or (set (map (cleared j (divided j (get_or rows r []))) rows) r (divided j (get_or rows r []))) k []
    pick k m (inl q) = rw q (o ∙ a ∙ sym (get_or-set_same (map (cleared j (divided j (get_or rows r []))) rows) r _ [] (omega (arith, length-map rows (cleared j (divided j (get_or rows r [])))))))
    pick k m (inr q) =
        f k m q ∙ ap (λ u. cleared j u (get_or rows k [])) a ∙ sym (get_or-map (cleared j (divided j (get_or rows r []))) rows k [] [] m)
        ∙ sym (get_or-set_other (map (cleared j (divided j (get_or rows r []))) rows) r k _ [] q)

pub pivot_second : (r j : ℕ) (rows : List (List ℚ)) (goal e g : List ℚ) (p : ℚ) (n : ℕ) (w : WideCell) → e ≡ divided j (get_or rows r [])
    → p ≡ get_or (get_or rows r []) j (whole (pos 0)) → divide_refusal r j (get_or rows r []) ≡ None
    → g ≡ goal → n ≡ length rows → clear_refusal n j e g p ≡ Some w → pivot_refusal r j rows goal ≡ Some w
pivot_second r j rows goal e g p n w a b f h l q =
    pivot_then r j rows goal e p a b f ∙ ap (λ o. earlier o (first_below (row_refusal r j e p rows) (length rows))) (ap₂ (λ m d. clear_refusal m j e d p) (sym l) (sym h) ∙ q)

-- the rows come last
pub pivot_third : (r j : ℕ) (rows : List (List ℚ)) (goal e : List ℚ) (p : ℚ) → e ≡ divided j (get_or rows r []) → p ≡ get_or (get_or rows r []) j (whole (pos 0))
    → divide_refusal r j (get_or rows r []) ≡ None
    → clear_refusal (length rows) j e goal p ≡ None → pivot_refusal r j rows goal ≡ first_below (row_refusal r j e p rows) (length rows)
pivot_third r j rows goal e p a b f q = pivot_then r j rows goal e p a b f ∙ ap (λ o. earlier o (first_below (row_refusal r j e p rows) (length rows))) q
