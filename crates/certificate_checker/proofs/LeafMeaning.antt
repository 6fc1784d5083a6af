-- What a leaf says of a point of at least 0 that meets the rows there are: its goal is at most the limit, or there is no such point.
use Rattle.std.proofs.Common.{◌≡◌, inl, inr, true, Option, None, Some, List, [], ◌∷◌, length, replicate, ℕ, zero, suc, pos, sym, ◌∙◌, refl}
use Rattle.rational_theory.specs.Rational.{ℚ, whole, ◌≤ℚ◌}
use Rattle.rational_theory.proofs.Arithmetic.{+ℚ-zero}
use Rattle.rational_theory.proofs.Order.{≤ℚ_refl}
use Rattle.rational_theory.proofs.Ring.{zero-*ℚ}
use Rattle.rational_theory.specs.Rows.{dot, IsMet, AllNonNegative}
use Rattle.named_row.specs.Sheets.{Sheet, row_of, blank}
use Rattle.named_row.specs.declared.names.RowId.{RowId}
use Rattle.named_row.specs.declared.leaves.Weight.{Weight}
use Rattle.named_row.proofs.Meaning.{sum_met, covered, refuted}
use Rattle.loop_rows.specs.Weights.{Source, with_weight, with_weights, total_of}
use Rattle.certificate_checker.specs.TreeProofs.{AreRows, Keeps, IsLeafProof}
use Rattle.certificate_checker.specs.declared.leaves.Aim.{Aim}

-- a value is at most the limit; where there is no limit, there is no value
abbrev pub IsWithin : Option ℚ → ℚ → Type 0
IsWithin None x = ⊥
IsWithin (Some limit) x = x ≤ℚ limit

-- ---- the sum of the rows that a leaf names
dot-zeros : (n : ℕ) (x : List ℚ) → dot (replicate n (whole (pos 0))) x ≡ whole (pos 0)
dot-zeros zero x = refl
dot-zeros (suc n) [] = refl
dot-zeros (suc n) (y ∷ ys) = rw (zero-*ℚ y, dot-zeros n ys) (+ℚ-zero (whole (pos 0)))

blank_met : (n : ℕ) (x : List ℚ) → IsMet x (row_of (blank n))
unfolding blank
blank_met n x = record { met = rw (dot-zeros n x) (≤ℚ_refl (whole (pos 0))) }

module _ (rows : Source) (x : List ℚ) (met : (row : RowId) → rows.has row ≡ true → IsMet x (row_of (rows.row row))) where
  weights_met : (sum : Sheet) (ws : List Weight) → AreRows rows ws → IsMet x (row_of sum) → IsMet x (row_of (with_weights rows sum ws))
  unfolding with_weight
  weights_met sum [] h m = m
  weights_met sum (w ∷ ws) h m = weights_met (with_weight rows sum w) ws h.2 (sum_met w.by (rows.row w.row) sum x h.1 (met w.row h.0) m)

  pub total_met : (ws : List Weight) → AreRows rows ws → IsMet x (row_of (total_of rows ws))
  unfolding total_of
  total_met ws h = weights_met (blank rows.width) ws h (blank_met rows.width x)

-- ---- what it shows
keeps_says : (goal sum : Sheet) (limit : Option ℚ) (x : List ℚ) → length goal.coefs ≡ length sum.coefs → AllNonNegative x → IsMet x (row_of sum)
    → Keeps goal limit sum → IsWithin limit (dot goal.coefs x)
keeps_says goal sum None x e p m k = refuted sum x k p m
keeps_says goal sum (Some limit) x e p m (inl k) = covered sum goal limit x e k p m
keeps_says goal sum (Some limit) x e p m (inr k) = absurd (refuted sum x k p m)

pub leaf_says : (rows : Source) (wide : (ws : List Weight) → length (total_of rows ws).coefs ≡ rows.width) (x : List ℚ) → AllNonNegative x
    → ((row : RowId) → rows.has row ≡ true → IsMet x (row_of (rows.row row)))
    → (aim : Aim) → length aim.goal.coefs ≡ rows.width → (ws : List Weight) → IsLeafProof rows aim ws → IsWithin aim.limit (dot aim.goal.coefs x)
leaf_says rows wide x p met aim e ws h =
    keeps_says aim.goal (total_of rows ws) aim.limit x (e ∙ sym (wide ws)) p (total_met rows x met ws h.there) h.keeps
