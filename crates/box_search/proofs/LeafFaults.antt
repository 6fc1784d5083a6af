-- The sum of a leaf whose rows are there, with multipliers of at least 0, has no fault but an operation that leaves 128 bits; and
-- where it has none, the leaf is a proof of what its sum shows.
use Rattle.std.proofs.Common.{◌≡◌, true, List, [], ◌∷◌, Option, Some, None, refl, sym, ◌∙◌, ap, subst}
use Rattle.rational_theory.specs.Rational.{ℚ, ◌≤ℚ◌}
use Rattle.progression.specs.Speeds.{number}
use Rattle.narrow_fraction.specs.Attempt.{earlier}
use Rattle.narrow_fraction.proofs.Attempt.{neither, some_not_none}
use Rattle.named_row.specs.Sheets.{Sheet, blank}
use Rattle.named_row.specs.Refusals.{sum_refusal}
use Rattle.named_row.specs.declared.leaves.Weight.{Weight}
use Rattle.named_row.specs.declared.wide_at.WideAt.{WideAt}
use Rattle.loop_rows.specs.Weights.{Source, fault_with, first_fault_with, with_weight, total_of, fault_of}
use Rattle.loop_rows.specs.declared.fault.SumFault.{SumFault}
use Rattle.loop_rows.specs.declared.fault.SumFault.TheVariants.{NoSuchRow, Negative, Wide, Memory}
use Rattle.loop_rows.proofs.LeafSums.{not_below, row_wide, row_added}
use Rattle.certificate_checker.specs.TreeProofs.{AreRows, FitAlong, Keeps, IsLeafProof}
use Rattle.certificate_checker.specs.declared.leaves.Aim.{Aim}
use Rattle.box_search.proofs.EachRefusal.{some_same}

abbrev pub IsWideFault : SumFault → Type 0
IsWideFault (Wide row at) = Unit {0}
IsWideFault (NoSuchRow row) = ⊥
IsWideFault (Negative row) = ⊥
IsWideFault Memory = ⊥

-- ---- of any rows
-- a row without a fault is there, its multiplier is at least 0, and no operation is refused
abbrev pub AddsRight : Source → Type 0
AddsRight rows = (sum : Sheet) (w : Weight) → fault_with rows sum w ≡ None → (rows.has w.row ≡ true) × (number 0 ≤ℚ w.by) × (sum_refusal w.by (rows.row w.row) sum ≡ None)

module _ (rows : Source) where
  one_wide : (sum : Sheet) (w : Weight) → rows.has w.row ≡ true → number 0 ≤ℚ w.by → (f : SumFault) → fault_with rows sum w ≡ Some f → IsWideFault f
  one_wide sum w h l f e = pick (sum_refusal w.by (rows.row w.row) sum) refl
    where
      pick : (o : Option WideAt) → sum_refusal w.by (rows.row w.row) sum ≡ o → IsWideFault f
      pick None r = some_not_none (sym e ∙ row_added rows sum w (rows.has w.row) refl h (not_below w.by _ l) r)
      pick (Some at) r =
          let q = row_wide rows sum w (rows.has w.row) refl h (not_below w.by _ l) at r in
          subst IsWideFault (some_same (Wide w.row at) f (sym q ∙ e)) tt

  wide_along : (sum : Sheet) (ws : List Weight) → AreRows rows ws → (f : SumFault) → first_fault_with rows sum ws ≡ Some f → IsWideFault f
  wide_along sum [] h f e = cc
  wide_along sum (w ∷ ws) h f e = pick (fault_with rows sum w) refl e (wide_along (with_weight rows sum w) ws h.2 f)
    where
      pick : (o : Option SumFault) → fault_with rows sum w ≡ o → earlier o (first_fault_with rows (with_weight rows sum w) ws) ≡ Some f
          → (first_fault_with rows (with_weight rows sum w) ws ≡ Some f → IsWideFault f) → IsWideFault f
      pick None r k again = again k
      pick (Some g) r k again = one_wide sum w h.0 h.1 f (r ∙ k)

  pub rows_only_wide : (ws : List Weight) → AreRows rows ws → (f : SumFault) → fault_of rows ws ≡ Some f → IsWideFault f
  unfolding fault_of
  rows_only_wide ws h f e = wide_along (blank rows.width) ws h f e

  pub fault_none : (sum : Sheet) (ws : List Weight) → AreRows rows ws → FitAlong rows sum ws → first_fault_with rows sum ws ≡ None
  fault_none sum [] h f = refl
  fault_none sum (w ∷ ws) h f =
      ap (λ o. earlier o (first_fault_with rows (with_weight rows sum w) ws)) (row_added rows sum w (rows.has w.row) refl h.0 (not_below w.by _ h.1) f.0)
      ∙ fault_none (with_weight rows sum w) ws h.2 f.1

  -- no operation of a proof's sum is refused
  pub leaf_free : (aim : Aim) (ws : List Weight) → IsLeafProof rows aim ws → fault_of rows ws ≡ None
  unfolding fault_of
  leaf_free aim ws p = fault_none (blank rows.width) ws p.there p.fits

  module _ (right : AddsRight rows) where
    there_in : (sum : Sheet) (ws : List Weight) → first_fault_with rows sum ws ≡ None → AreRows rows ws
    there_in sum [] e = tt
    there_in sum (w ∷ ws) e = let p = neither _ _ e in let q = right sum w p.0 in (q.0, q.1, there_in (with_weight rows sum w) ws p.1)

    pub fits_in : (sum : Sheet) (ws : List Weight) → first_fault_with rows sum ws ≡ None → FitAlong rows sum ws
    fits_in sum [] e = tt
    fits_in sum (w ∷ ws) e = let p = neither _ _ e in ((right sum w p.0).2, fits_in (with_weight rows sum w) ws p.1)

    -- and where none is refused, the leaf is a proof of what its sum shows
    pub leaf_proof : (aim : Aim) (ws : List Weight) → fault_of rows ws ≡ None → Keeps aim.goal aim.limit (total_of rows ws) → IsLeafProof rows aim ws
    unfolding fault_of
    leaf_proof aim ws e k = record { there = there_in (blank rows.width) ws e; fits = fits_in (blank rows.width) ws e; keeps = k }
