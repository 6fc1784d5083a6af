-- A row with another bound.
use Rattle.std.proofs.Common.{◌≡◌, ℕ, List, [], ◌∷◌, ◌++◌, map, length, ◌-◌, ◌<◌, ◌⊎◌, inl, inr, pos, refl, sym, ◌∙◌, ap, subst, arith}
use Rattle.std.proofs.Math.ListN.{set}
use Rattle.std.specs.List.{range_with_len}
use Rattle.std.proofs.lemmas.List.{get_or-set_same, get_or-set_other, length_push}
use Rattle.std.proofs.lemmas.Bool.{cases_eq}
use Rattle.rational_theory.specs.Rational.{ℚ, whole}
use Rattle.narrow_fraction.specs.Fraction.{FitsFrac}
use Rattle.fraction_tableau.specs.Narrow.{IsNarrow}
use Rattle.fraction_tableau.specs.KeptCells.{number_in, cell_in, dense_row}
use Rattle.fraction_tableau.specs.NamedTableaus.{rebound}
use Rattle.fraction_tableau.specs.declared.kept.Kept.{Kept}

set_last : (xs : List ℚ) (b c : ℚ) → set (xs ++ b ∷ []) (length xs) c ≡ xs ++ c ∷ []
set_last [] b c = refl
set_last (x ∷ xs) b c = ap (λ t. x ∷ t) (set_last xs b c)

pub push_last : (xs : List ℚ) (b c : ℚ) → rebound c (xs ++ b ∷ []) ≡ xs ++ c ∷ []
push_last xs b c = let e : length (xs ++ b ∷ []) - 1 ≡ length xs = (let n = length_push xs b in omega arith) in ap (λ n. set (xs ++ b ∷ []) n c) e ∙ set_last xs b c

-- the cells stay
dense_rebound : (w : ℕ) (cells : List Kept) (b c : ℚ) → dense_row w cells c ≡ rebound c (dense_row w cells b)
unfolding dense_row
dense_rebound w cells b c = sym (push_last (map (cell_in cells) (range_with_len 0 w)) b c)

pub bound_taken : (w : ℕ) (cells : List Kept) (row : List ℚ) (b c d : ℚ) → dense_row w cells b ≡ row → d ≡ c → dense_row w cells d ≡ rebound c row
bound_taken w cells row b c d e f = ap (dense_row w cells) f ∙ dense_rebound w cells b c ∙ ap (rebound c) e

-- what is true of each number of the row and of the bound
pub rebound_each : (P : ℚ → Type 0) (row : List ℚ) (c : ℚ) → 0 < length row → ((k : ℕ) → P (number_in row k)) → P c → (k : ℕ) → P (number_in (rebound c row) k)
rebound_each P row c l h p k = pick (cases_eq k (length row - 1))
  where
    pick : (k ≡ length row - 1) ⊎ (k ≡ length row - 1 → ⊥) → P (number_in (rebound c row) k)
    pick (inl e) = subst (λ n. P (number_in (rebound c row) n)) (sym e) (subst P (sym (get_or-set_same row (length row - 1) c (whole (pos 0)) (omega arith))) p)
    pick (inr n) = subst P (sym (get_or-set_other row (length row - 1) k c (whole (pos 0)) n)) (h k)

-- and its numbers fit
pub narrow_rebound : (row : List ℚ) (c : ℚ) → 0 < length row → IsNarrow row → FitsFrac c → IsNarrow (rebound c row)
narrow_rebound row c l n f = record { fits = rebound_each FitsFrac row c l (λ k. n.fits k) f }
