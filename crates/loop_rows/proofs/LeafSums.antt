-- The sum of a leaf's rows, row by row.
use Rattle.std.proofs.Common.{◌≡◌, ℕ, suc, zero, replicate, arith, ◌+◌, drop, get_or, add-one, drop-cons, List, [], ◌∷◌, Bool, true, false, not}
use Rattle.std.proofs.Common.{Option, Some, None, map, length, refl, sym, ◌∙◌, ap, ap₂, ◌<◌}
use Rattle.std.specs.Bool.{Decides}
use Rattle.std.specs.Ordering.{is_lt}
use Rattle.std.proofs.lemmas.Bool.Decides.{same_from_decides}
use Rattle.std.proofs.lemmas.List.{length-replicate}
use Rattle.rational_theory.specs.Rational.{ℚ, ◌+ℚ◌, ◌≤ℚ◌}
use Rattle.rational_theory.proofs.Arithmetic.{+ℚ_assoc, +ℚ-zero}
use Rattle.rational_theory.proofs.Order.{<ℚ_not-≤ℚ}
use Rattle.rational_theory.proofs.Ring.{zero-+ℚ}
use Rattle.rational_theory.specs.Compare.{cmp_ℚ}
use Rattle.rational_theory.proofs.Compare.{lt_true, lt_false}
use Rattle.rational_theory.specs.Rows as maths
use Rattle.rational_theory.specs.Rows.{add, scale, added}
use Rattle.rational_theory.proofs.Rows.{scaled}
use Rattle.progression.specs.Street.{Street, count}
use Rattle.progression.specs.Speeds.{number}
use Rattle.linear_theory.specs.Boxes.{Area}
use Rattle.linear_theory.specs.Places.{width}
use Rattle.linear_theory.specs.Names.{HasRow, form_of}
use Rattle.linear_theory.specs.Rows.{line}
use Rattle.linear_theory.specs.Covering.{coef}
use Rattle.linear_theory.specs.Trees.{sum_of_rows, AreMultipliers, leaf_sum, AreWeights}
use Rattle.narrow_fraction.specs.Attempt.{earlier}
use Rattle.narrow_fraction.proofs.Attempt.{neither, not_refused, some_not_none}
use Rattle.named_row.specs.Sheets.{Sheet, blank, row_of, with_times}
use Rattle.named_row.specs.Refusals.{sum_refusal}
use Rattle.named_row.specs.declared.names.RowId.{RowId}
use Rattle.named_row.specs.declared.leaves.Weight.{Weight}
use Rattle.named_row.specs.declared.wide_at.WideAt.{WideAt}
use Rattle.loop_rows.specs.laws.Writing.{written_row, written_width}
use Rattle.loop_rows.specs.RowTests.{has_row}
use Rattle.loop_rows.proofs.RowTests.{row_decided}
use Rattle.loop_rows.specs.Weights.{Source, artery_rows, with_name, with_weights, first_fault_with, named, name_at, wide_fault, leaf_total}
use Rattle.loop_rows.specs.Weights.{leaf_fault, IsFirstFault, fault_of, fault_with, total_of, with_weight}
use Rattle.loop_rows.specs.declared.fault.SumFault.{SumFault}
use Rattle.loop_rows.specs.declared.fault.SumFault.TheVariants.{NoSuchRow, Negative, Wide, Memory}

-- the first fault that ends the adding of an artery's row
abbrev pub weight_fault : Street → Area → Sheet → Weight → Option SumFault
weight_fault a box = fault_with (artery_rows a box)

-- ---- one row
module _ (rows : Source) (sum : Sheet) (w : Weight) (there : Bool) (d : there ≡ rows.has w.row) where
  -- there is none
  pub row_missing : there ≡ false → fault_with rows sum w ≡ Some (NoSuchRow w.row)
  unfolding fault_with
  row_missing e = let f = sym d ∙ e in rw f refl

  -- its multiplier is below 0
  pub row_negative : there ≡ true → is_lt (cmp_ℚ w.by (number 0)) ≡ true → fault_with rows sum w ≡ Some (Negative w.row)
  unfolding fault_with
  row_negative e n = let f = sym d ∙ e in rw (f, n) refl

  -- it is there with a multiplier of at least 0, so that only the sum is left
  only_wide : there ≡ true → is_lt (cmp_ℚ w.by (number 0)) ≡ false → fault_with rows sum w ≡ wide_fault w.row (sum_refusal w.by (rows.row w.row) sum)
  unfolding fault_with
  only_wide e n = let f = sym d ∙ e in rw (f, n) refl

  pub row_wide : there ≡ true → is_lt (cmp_ℚ w.by (number 0)) ≡ false → (at : WideAt) → sum_refusal w.by (rows.row w.row) sum ≡ Some at → fault_with rows sum w ≡ Some (Wide w.row at)
  row_wide e n at r = only_wide e n ∙ ap (wide_fault w.row) r

  pub row_added : there ≡ true → is_lt (cmp_ℚ w.by (number 0)) ≡ false → sum_refusal w.by (rows.row w.row) sum ≡ None → fault_with rows sum w ≡ None
  row_added e n r = only_wide e n ∙ ap (wide_fault w.row) r

-- a test that says whether an artery has a row
pub row_tested : (a : Street) (row : RowId) (there : Bool) → Decides there (HasRow a (name_at row)) → there ≡ has_row a (name_at row)
row_tested a row there d = sym (same_from_decides (has_row a (name_at row)) there (row_decided a (name_at row)) d)

-- ---- sums of rows
add-none : (xs : List ℚ) → add xs [] ≡ xs
add-none [] = refl
add-none (x ∷ xs) = refl

add_rows : (xs ys zs : List ℚ) → add (add xs ys) zs ≡ add xs (add ys zs)
add_rows [] ys zs = refl
add_rows (x ∷ xs) [] zs = refl
add_rows (x ∷ xs) (y ∷ ys) [] = refl
add_rows (x ∷ xs) (y ∷ ys) (z ∷ zs) = ap₂ (λ u us. u ∷ us) (+ℚ_assoc x y z) (add_rows xs ys zs)

added_assoc : (r s t : maths.Row) → added (added r s) t ≡ added r (added s t)
added_assoc r s t = ap₂ (λ cs b. record { coefs = cs; bound = b }) (add_rows r.coefs s.coefs t.coefs) (+ℚ_assoc r.bound s.bound t.bound)

added-none : (r : maths.Row) → r ≡ added r (record { coefs = []; bound = number 0 })
added-none r = ap₂ (λ cs b. record { coefs = cs; bound = b }) (sym (add-none r.coefs)) (sym (+ℚ-zero r.bound))

-- a source whose rows are those that names stand for: it has a row where its name has one
pub record Stands {N : Type 0} (rows : Source) (name : RowId → N) (Has : N → Type 0) (row : N → maths.Row) : Type 0 where
  pub decided : (r : RowId) → Decides (rows.has r) (Has (name r))
  pub is : (r : RowId) → row_of (rows.row r) ≡ row (name r)
  pub columns : (r : RowId) → length (rows.row r).coefs ≡ rows.width

-- a row without a fault: it is there, its multiplier is at least 0, and the sum stays within 128 bits
pub record IsAddedBy (rows : Source) (Has : RowId → Type 0) (sum : Sheet) (w : Weight) : Type 0 where
  pub there : Has w.row
  pub positive : number 0 ≤ℚ w.by
  pub fits : sum_refusal w.by (rows.row w.row) sum ≡ None

-- ---- widths and numbers
-- two rows of one width
pub add_width : (xs ys : List ℚ) → length ys ≡ length xs → length (add xs ys) ≡ length xs
add_width [] [] e = refl
add_width [] (y ∷ ys) e = absurd (omega arith)
add_width (x ∷ xs) [] e = refl
add_width (x ∷ xs) (y ∷ ys) e = ap suc (add_width xs ys (omega arith))

pub scale_width : (k : ℚ) (xs : List ℚ) → length (scale k xs) ≡ length xs
scale_width k [] = refl
scale_width k (x ∷ xs) = ap suc (scale_width k xs)

coef-add : (xs ys : List ℚ) (j : ℕ) → coef (add xs ys) j ≡ coef xs j +ℚ coef ys j
coef-add [] ys j = sym (zero-+ℚ (coef ys j))
coef-add (x ∷ xs) [] j = sym (+ℚ-zero (coef (x ∷ xs) j))
coef-add (x ∷ xs) (y ∷ ys) zero = refl
coef-add (x ∷ xs) (y ∷ ys) (suc j) = coef-add xs ys j

coef-zeros : (n j : ℕ) → coef (replicate n (number 0)) j ≡ number 0
coef-zeros zero j = refl
coef-zeros (suc n) zero = refl
coef-zeros (suc n) (suc j) = coef-zeros n j

-- ---- tests
not_wide : (row : RowId) (o : Option WideAt) → wide_fault row o ≡ None → o ≡ None
not_wide row None e = refl
not_wide row (Some at) e = some_not_none e

not_false : (b : Bool) → not b ≡ false → b ≡ true
not_false true e = refl
not_false false e = sym e

-- a number that is not below another
pub not_below : (x y : ℚ) → y ≤ℚ x → is_lt (cmp_ℚ x y) ≡ false
not_below x y h = by (is_lt (cmp_ℚ x y)) refl
  where
    by : (b : Bool) → is_lt (cmp_ℚ x y) ≡ b → b ≡ false
    by true e = absurd (<ℚ_not-≤ℚ x y (lt_true x y (sym e)) h)
    by false e = refl

-- ---- the sum of a leaf's rows
module _ {N : Type 0} (rows : Source) (name : RowId → N) (Has : N → Type 0) (row : N → maths.Row) (m : Stands rows name Has row) where
  -- the rows that the leaf names, each times its multiplier
  abbrev named_sum : List Weight → maths.Row
  named_sum ws = sum_of_rows row (map (with_name name) ws)

  after_row : (sum : Sheet) (w : Weight) → row_of (with_weight rows sum w) ≡ added (row_of sum) (scaled w.by (row (name w.row)))
  unfolding with_weight with_times
  after_row sum w = ap (λ (r : maths.Row). added (row_of sum) (scaled w.by r)) (m.is w.row)

  -- a sum with several more rows is the sum and the weighted sum of these rows
  sum_row : (sum : Sheet) (ws : List Weight) → row_of (with_weights rows sum ws) ≡ added (row_of sum) (named_sum ws)
  sum_row sum [] = added-none (row_of sum)
  sum_row sum (w ∷ ws) =
      sum_row (with_weight rows sum w) ws
      ∙ ap (λ (r : maths.Row). added r (named_sum ws)) (after_row sum w)
      ∙ added_assoc (row_of sum) (scaled w.by (row (name w.row))) (named_sum ws)

  pub total_row_by : (ws : List Weight) → row_of (total_of rows ws) ≡ added (row_of (blank rows.width)) (named_sum ws)
  unfolding total_of
  total_row_by ws = sum_row (blank rows.width) ws

  after_width : (sum : Sheet) (w : Weight) → length sum.coefs ≡ rows.width → length (with_weight rows sum w).coefs ≡ rows.width
  unfolding with_weight with_times
  after_width sum w e = add_width sum.coefs (scale w.by (rows.row w.row).coefs) (scale_width w.by (rows.row w.row).coefs ∙ m.columns w.row ∙ sym e) ∙ e

  sum_width : (sum : Sheet) (ws : List Weight) → length sum.coefs ≡ rows.width → length (with_weights rows sum ws).coefs ≡ rows.width
  sum_width sum [] e = e
  sum_width sum (w ∷ ws) e = sum_width (with_weight rows sum w) ws (after_width sum w e)

  pub total_width_by : (ws : List Weight) → length (total_of rows ws).coefs ≡ rows.width
  unfolding total_of blank
  total_width_by ws = sum_width (blank rows.width) ws (length-replicate rows.width (number 0))

  -- its numbers
  pub total_coef_by : (ws : List Weight) (j : ℕ) → coef (total_of rows ws).coefs j ≡ coef (named_sum ws).coefs j
  unfolding blank
  total_coef_by ws j =
      let zeros = replicate rows.width (number 0) in
      ap (λ (r : maths.Row). coef r.coefs j) (total_row_by ws)
      ∙ coef-add zeros (named_sum ws).coefs j
      ∙ ap (λ x. x +ℚ coef (named_sum ws).coefs j) (coef-zeros rows.width j)
      ∙ zero-+ℚ (coef (named_sum ws).coefs j)

  pub total_bound_by : (ws : List Weight) → (total_of rows ws).bound ≡ (named_sum ws).bound
  unfolding blank
  total_bound_by ws = ap (λ (r : maths.Row). r.bound) (total_row_by ws) ∙ zero-+ℚ (named_sum ws).bound

  -- ---- what is right where there is no fault
  pub no_fault_by : (sum : Sheet) (w : Weight) → fault_with rows sum w ≡ None → IsAddedBy rows (λ r. Has (name r)) sum w
  unfolding fault_with
  no_fault_by sum w e =
      let p = neither _ _ e in
      let q = neither _ _ p.1 in
      record {
        there = (m.decided w.row).0 (not_false _ (not_refused _ _ p.0));
        positive = lt_false w.by (number 0) (sym (not_refused _ _ q.0));
        fits = not_wide _ _ q.1;
      }

  -- and back
  pub fault_free_by : (sum : Sheet) (w : Weight) → IsAddedBy rows (λ r. Has (name r)) sum w → fault_with rows sum w ≡ None
  fault_free_by sum w h = row_added rows sum w (rows.has w.row) refl ((m.decided w.row).1 h.there) (not_below w.by (number 0) h.positive) h.fits

  sum_weights : (sum : Sheet) (ws : List Weight) → first_fault_with rows sum ws ≡ None → AreMultipliers Has (map (with_name name) ws)
  sum_weights sum [] e = tt
  sum_weights sum (w ∷ ws) e =
      let p = neither _ _ e in
      let h = no_fault_by sum w p.0 in
      (h.there, h.positive, sum_weights (with_weight rows sum w) ws p.1)

  pub total_weights_by : (ws : List Weight) → fault_of rows ws ≡ None → AreMultipliers Has (map (with_name name) ws)
  unfolding fault_of
  total_weights_by ws e = sum_weights (blank rows.width) ws e

  -- as clauses have them
  pub sum_row_by : (ws : List Weight) (sum : Sheet) → sum ≡ total_of rows ws → row_of sum ≡ added (row_of (blank rows.width)) (named_sum ws)
  sum_row_by ws sum e = ap row_of e ∙ total_row_by ws

-- ---- the rows that are left
pub left_refused : (rows : Source) (sum : Sheet) (ws rest : List Weight) (w : Weight) (f : SumFault) → ws ≡ w ∷ rest → fault_with rows sum w ≡ Some f → first_fault_with rows sum ws ≡ Some f
left_refused rows sum ws rest w f e r = ap (first_fault_with rows sum) e ∙ ap (λ o. earlier o (first_fault_with rows (with_weight rows sum w) rest)) r

pub at_left : {X : Type 0} (xs : List X) (i : ℕ) (x : X) → i < length xs → x ≡ get_or xs i x → drop i xs ≡ x ∷ drop (i + 1) xs
at_left xs i x h e = rw add-one (drop-cons xs i x h ∙ ap (λ y. y ∷ drop (suc i) xs) (sym e))

pub first_of_all : (o : Option SumFault) (f : SumFault) → o ≡ Some f → IsFirstFault o f
first_of_all o (NoSuchRow row) e = e
first_of_all o (Negative row) e = e
first_of_all o (Wide row at) e = e
first_of_all o Memory e = tt

-- ---- of an artery, in its own words
abbrev pub IsAdded : Street → Area → Sheet → Weight → Type 0
IsAdded a box sum w = IsAddedBy (artery_rows a box) (λ row. HasRow a (name_at row)) sum w

module _ (a : Street) (box : Area) where
  artery_stands : Stands (artery_rows a box) name_at (HasRow a) (λ n. line a (form_of a box n))
  artery_stands = record {
    decided = λ row. row_decided a (name_at row);
    is = λ row. written_row a (form_of a box (name_at row));
    columns = λ row. written_width a (form_of a box (name_at row));
  }

  pub total_row : (ws : List Weight) → row_of (leaf_total a box ws) ≡ added (row_of (blank (width (count a)))) (leaf_sum a box (map named ws))
  total_row ws = total_row_by (artery_rows a box) name_at (HasRow a) (λ n. line a (form_of a box n)) artery_stands ws

  pub total_width : (ws : List Weight) → length (leaf_total a box ws).coefs ≡ width (count a)
  total_width ws = total_width_by (artery_rows a box) name_at (HasRow a) (λ n. line a (form_of a box n)) artery_stands ws

  pub total_coef : (ws : List Weight) (j : ℕ) → coef (leaf_total a box ws).coefs j ≡ coef (leaf_sum a box (map named ws)).coefs j
  total_coef ws j = total_coef_by (artery_rows a box) name_at (HasRow a) (λ n. line a (form_of a box n)) artery_stands ws j

  pub total_bound : (ws : List Weight) → (leaf_total a box ws).bound ≡ (leaf_sum a box (map named ws)).bound
  total_bound ws = total_bound_by (artery_rows a box) name_at (HasRow a) (λ n. line a (form_of a box n)) artery_stands ws

  pub no_fault : (sum : Sheet) (w : Weight) → weight_fault a box sum w ≡ None → IsAdded a box sum w
  no_fault sum w e = no_fault_by (artery_rows a box) name_at (HasRow a) (λ n. line a (form_of a box n)) artery_stands sum w e

  pub fault_free : (sum : Sheet) (w : Weight) → IsAdded a box sum w → weight_fault a box sum w ≡ None
  fault_free sum w h = fault_free_by (artery_rows a box) name_at (HasRow a) (λ n. line a (form_of a box n)) artery_stands sum w h

  pub total_weights : (ws : List Weight) → leaf_fault a box ws ≡ None → AreWeights a (map named ws)
  total_weights ws e = total_weights_by (artery_rows a box) name_at (HasRow a) (λ n. line a (form_of a box n)) artery_stands ws e

  pub sum_row_of : (ws : List Weight) (sum : Sheet) → sum ≡ leaf_total a box ws → row_of sum ≡ added (row_of (blank (width (count a)))) (leaf_sum a box (map named ws))
  sum_row_of ws sum e = ap row_of e ∙ total_row ws

  pub sum_weights_of : (ws : List Weight) → leaf_fault a box ws ≡ None → AreWeights a (map named ws)
  sum_weights_of ws e = total_weights ws e
