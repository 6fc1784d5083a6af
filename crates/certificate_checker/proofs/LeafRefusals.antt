-- The refusal of a leaf, over any rows.
use Rattle.std.proofs.Common.{◌≡◌, ℕ, true, Option, None, Some, option_map, List, [], ◌∷◌, refl, ap, ap₂, sym}
use Rattle.rational_theory.specs.Rational.{◌≤ℚ◌}
use Rattle.rational_theory.proofs.Compare.{lt_false}
use Rattle.progression.specs.Speeds.{number}
use Rattle.narrow_fraction.specs.Attempt.{earlier}
use Rattle.narrow_fraction.proofs.Attempt.{neither, not_refused, some_not_none}
use Rattle.named_row.specs.Sheets.{Sheet, blank}
use Rattle.named_row.specs.Refusals.{sum_refusal}
use Rattle.named_row.specs.declared.names.Place.{Place}
use Rattle.named_row.specs.declared.names.RowId.{RowId}
use Rattle.named_row.specs.declared.leaves.Weight.{Weight}
use Rattle.named_row.specs.declared.wide_at.WideAt.{WideAt}
use Rattle.loop_rows.specs.Weights.{Source, with_weight, fault_with, wide_fault, first_fault_with, fault_of, total_of, IsFirstFault}
use Rattle.loop_rows.specs.declared.fault.SumFault.{SumFault}
use Rattle.loop_rows.specs.declared.fault.SumFault.TheVariants as fault
use Rattle.loop_rows.proofs.LeafSums.{row_added, not_below}
use Rattle.certificate_checker.specs.TreeProofs.{AreRows, FitAlong, IsLeafProof}
use Rattle.certificate_checker.specs.TreeRefusals.{reject_of, weakness, leaf_refusal, IsFirst}
use Rattle.certificate_checker.specs.declared.leaves.Aim.{Aim}
use Rattle.certificate_checker.specs.declared.reject.Reject.TheVariants.{LeafTooWeak}
use Rattle.certificate_checker.proofs.PlaceTests.{not_out}
use Rattle.certificate_checker.proofs.Shown.{shown_in, shown_out}

module _ (F : Type 0) (rows : Source) (aim : Aim) (leaf : ℕ) (ws : List Weight) where
  -- the first fault of its sum
  some_fault : (f : SumFault) → fault_of rows ws ≡ Some f → leaf_refusal {F = F} rows aim leaf ws ≡ Some (reject_of leaf f)
  unfolding leaf_refusal
  some_fault f e = ap (λ o. earlier (option_map (reject_of leaf) o) (option_map (LeafTooWeak leaf) (weakness (total_of rows ws) aim.goal aim.limit))) e

  pub leaf_rejected : (f : SumFault) → IsFirstFault (fault_of rows ws) f → IsFirst {F = F} (leaf_refusal rows aim leaf ws) (reject_of leaf f)
  leaf_rejected (fault.NoSuchRow row) h = some_fault (fault.NoSuchRow row) h
  leaf_rejected (fault.Negative row) h = some_fault (fault.Negative row) h
  leaf_rejected (fault.Wide row at) h = some_fault (fault.Wide row at) h
  leaf_rejected fault.Memory h = tt

  -- where it has none, what the sum shows
  pub leaf_weak : (p : Place) → fault_of rows ws ≡ None → weakness (total_of rows ws) aim.goal aim.limit ≡ Some p → leaf_refusal {F = F} rows aim leaf ws ≡ Some (LeafTooWeak leaf p)
  unfolding leaf_refusal
  leaf_weak p e f = ap₂ (λ o q. earlier (option_map (reject_of leaf) o) (option_map (LeafTooWeak leaf) q)) e f

  pub leaf_right : fault_of rows ws ≡ None → weakness (total_of rows ws) aim.goal aim.limit ≡ None → leaf_refusal {F = F} rows aim leaf ws ≡ None
  unfolding leaf_refusal
  leaf_right e f = ap₂ (λ o q. earlier (option_map (reject_of leaf) o) (option_map (LeafTooWeak leaf) q)) e f

pub map_none : {X Y : Type 0} (f : X → Y) (o : Option X) → option_map f o ≡ None → o ≡ None
map_none f None e = refl
map_none f (Some x) e = absurd (some_not_none e)

not_wide : (row : RowId) (o : Option WideAt) → wide_fault row o ≡ None → o ≡ None
not_wide row None e = refl
not_wide row (Some at) e = some_not_none e

-- ---- a leaf that is not refused is a proof, and back
record IsRight (rows : Source) (sum : Sheet) (w : Weight) : Type 0 where
  there : rows.has w.row ≡ true
  positive : number 0 ≤ℚ w.by
  fits : sum_refusal w.by (rows.row w.row) sum ≡ None

right_in : (rows : Source) (sum : Sheet) (w : Weight) → fault_with rows sum w ≡ None → IsRight rows sum w
unfolding fault_with
right_in rows sum w e =
    let p = neither _ _ e in
    let q = neither _ _ p.1 in
    record { there = not_out _ (not_refused _ _ p.0); positive = lt_false w.by (number 0) (sym (not_refused _ _ q.0)); fits = not_wide _ _ q.1 }

rows_in : (rows : Source) (sum : Sheet) (ws : List Weight) → first_fault_with rows sum ws ≡ None → AreRows rows ws × FitAlong rows sum ws
rows_in rows sum [] e = (tt, tt)
rows_in rows sum (w ∷ ws) e =
    let p = neither _ _ e in
    let here = right_in rows sum w p.0 in
    let rest = rows_in rows (with_weight rows sum w) ws p.1 in
    ((here.there, here.positive, rest.0), (here.fits, rest.1))

fault_out : (rows : Source) (sum : Sheet) (ws : List Weight) → AreRows rows ws → FitAlong rows sum ws → first_fault_with rows sum ws ≡ None
fault_out rows sum [] h k = refl
fault_out rows sum (w ∷ ws) h k =
    ap₂ earlier (row_added rows sum w (rows.has w.row) refl h.0 (not_below w.by (number 0) h.1) k.0) (fault_out rows (with_weight rows sum w) ws h.2 k.1)

pub proof_in : {F : Type 0} (rows : Source) (aim : Aim) (leaf : ℕ) (ws : List Weight) → leaf_refusal {F = F} rows aim leaf ws ≡ None → IsLeafProof rows aim ws
unfolding leaf_refusal fault_of
proof_in rows aim leaf ws e =
    let p = neither _ _ e in
    let right = rows_in rows (blank rows.width) ws (map_none (reject_of leaf) (fault_of rows ws) p.0) in
    record {
      there = right.0;
      fits = right.1;
      keeps = shown_in (total_of rows ws) aim.goal aim.limit (map_none (LeafTooWeak leaf) (weakness (total_of rows ws) aim.goal aim.limit) p.1);
    }

pub proof_out : {F : Type 0} (rows : Source) (aim : Aim) (leaf : ℕ) (ws : List Weight) → IsLeafProof rows aim ws → leaf_refusal {F = F} rows aim leaf ws ≡ None
unfolding fault_of
proof_out {F = F} rows aim leaf ws h = leaf_right F rows aim leaf ws (fault_out rows (blank rows.width) ws h.there h.fits) (shown_out (total_of rows ws) aim.goal aim.limit h.keeps)
