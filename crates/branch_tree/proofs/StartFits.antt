-- The sum of the start leaf stays within 128 bits, by the limits of an artery's numbers.
use Rattle.std.proofs.Common.{◌≡◌, ℕ, zero, suc, pos, Bool, true, false, cond, Option, None, List, [], ◌∷◌, length, get_or, replicate, ◌*◌, ◌<◌, ◌^◌, refl, sym, ◌∙◌, ap, subst, arith}
use Rattle.std.specs.Ordering.{eq_by_cmp}
use Rattle.rational_theory.specs.Rational.{ℚ, whole, ◌+ℚ◌, ◌*ℚ◌}
use Rattle.rational_theory.specs.Compare.{cmp_ℚ}
use Rattle.rational_theory.specs.Rows as maths
use Rattle.rational_theory.specs.Rows.{scale}
use Rattle.progression.specs.Street.{Street, count, HasSignal}
use Rattle.progression.specs.Speeds.{number}
use Rattle.progression.specs.declared.parts.Dir.{Dir}
use Rattle.progression.specs.declared.parts.Dir.TheVariants.{Outbound, Inbound}
use Rattle.artery_model.specs.Valid.{IsValid}
use Rattle.linear_theory.specs.Places.{width}
use Rattle.linear_theory.specs.Boxes.{Area}
use Rattle.linear_theory.specs.Rows.{wait_form}
use Rattle.narrow_fraction.specs.Attempt.{first_below}
use Rattle.narrow_fraction.proofs.Past128.{past_none}
use Rattle.narrow_fraction.specs.declared.wide.Op.TheVariants.{Add, Mul}
use Rattle.named_row.specs.Sheets.{Sheet, blank, with_times}
use Rattle.named_row.specs.Refusals.{place_refusal, cell_refusal, sum_refusal}
use Rattle.named_row.specs.declared.names.Place.{Place}
use Rattle.named_row.specs.declared.names.Place.TheVariants.{Cell, Bound}
use Rattle.named_row.specs.declared.leaves.Weight.{Weight}
use Rattle.loop_rows.specs.Writing.{written}
use Rattle.loop_rows.proofs.Writing.{written_row}
use Rattle.loop_rows.specs.Weights.{artery_rows, first_fault_with, leaf_fault, fault_of, with_weight}
use Rattle.loop_rows.specs.declared.fault.SumFault.{SumFault}
use Rattle.loop_rows.proofs.LeafSums.{fault_free}
use Rattle.simplex_theory.proofs.Signs.{one_positive}
use Rattle.simplex_theory.proofs.Lines.{get_or-add, get_or-scale}
use Rattle.program_builder.proofs.LineCells.{line_each}
use Rattle.program_builder.proofs.RowKinds.{IsUpTo, small_whole, small_ratio, small_zero, small_wait}
use Rattle.program_builder.proofs.Narrowing.{up_to_times, up_to_plus, up_to_times_fits, up_to_sum_fits}
use Rattle.branch_tree.specs.Starts.{first_out, first_in, start_leaf}
use Rattle.branch_tree.proofs.StartLaws.{ratio_low}

-- the first fault that ends the adding of an artery's rows
abbrev pub weights_fault : Street → Area → Sheet → List Weight → Option SumFault
weights_fault a box = first_fault_with (artery_rows a box)

-- every number of the row is n at most in both its numbers
record IsSmallSheet (n : ℕ) (s : Sheet) : Type 0 where
  cells : (j : ℕ) → IsUpTo n (get_or s.coefs j (whole (pos 0)))
  bound : IsUpTo n s.bound

-- ---- one row more
place_none : (p : Place) (m n q : ℕ) (k x c : ℚ) → IsUpTo m k → IsUpTo n c → IsUpTo q x → m * n < 2 ^ 127 → 2 * (q * (m * n)) < 2 ^ 127 → place_refusal p k x c ≡ None
unfolding place_refusal
place_none p m n q k x c a b d l h =
    let product = past_none Mul k c (up_to_times_fits m n k c a b l) in
    let sum = past_none Add x (k *ℚ c) (up_to_sum_fits q (m * n) x (k *ℚ c) d (up_to_times m n k c a b) h) in
    rw (product, sum) refl

all_none : {E : Type 0} (f : ℕ → Option E) (n : ℕ) → ((j : ℕ) → f j ≡ None) → first_below f n ≡ None
all_none f zero h = refl
all_none f (suc n) h = let p = all_none f n h in let q = h n in rw (p, q) refl

sum_none : (m n q : ℕ) (k : ℚ) (s r : Sheet) → IsUpTo m k → IsSmallSheet n s → IsSmallSheet q r → m * n < 2 ^ 127 → 2 * (q * (m * n)) < 2 ^ 127 → sum_refusal k s r ≡ None
unfolding sum_refusal
sum_none m n q k s r a b d l h =
    let columns = all_none (cell_refusal k r.coefs s.coefs) (length r.coefs) (λ j. place_none (Cell j) m n q k _ _ a (b.cells j) (d.cells j) l h) in
    let last = place_none Bound m n q k r.bound s.bound a b.bound d.bound l h in
    rw (columns, last) refl

small_sum : (m n q : ℕ) (k : ℚ) (s r : Sheet) → IsUpTo m k → IsSmallSheet n s → IsSmallSheet q r → IsSmallSheet (2 * (q * (m * n))) (with_times k s r)
unfolding with_times
small_sum m n q k s r a b d = record {
  cells = λ j.
      subst (IsUpTo (2 * (q * (m * n)))) (sym (get_or-add r.coefs (scale k s.coefs) j ∙ ap (λ y. get_or r.coefs j (whole (pos 0)) +ℚ y) (get_or-scale k s.coefs j)))
      (up_to_plus q (m * n) _ _ (d.cells j) (up_to_times m n k _ a (b.cells j)));
  bound = up_to_plus q (m * n) _ _ d.bound (up_to_times m n k s.bound a b.bound);
}

-- ---- the rows of the start
zeros_at : (w j : ℕ) → get_or (replicate w (whole (pos 0))) j (whole (pos 0)) ≡ whole (pos 0)
zeros_at zero j = refl
zeros_at (suc w) zero = refl
zeros_at (suc w) (suc j) = zeros_at w j

module _ (a : Street) (v : IsValid a) where
  small_blank : (w : ℕ) → IsSmallSheet 100000 (blank w)
  unfolding blank
  small_blank w = record { cells = λ j. subst (IsUpTo 100000) (sym (zeros_at w j)) (small_zero a v); bound = small_zero a v }

  small_row : (d : Dir) → HasSignal a 1 → IsSmallSheet 100000 (written a (wait_form a d 1))
  small_row d s =
      let f = small_wait a v d 1 s in
      let e = written_row a (wait_form a d 1) in
      record {
        cells = λ j. subst (λ (r : maths.Row). IsUpTo 100000 (get_or r.coefs j (whole (pos 0)))) (sym e) (line_each (IsUpTo 100000) a (wait_form a d 1) j (small_zero a v) f.entries);
        bound = subst (λ (r : maths.Row). IsUpTo 100000 r.bound) (sym e) f.bound;
      }

  signal_one : HasSignal a 1
  signal_one = (omega arith, let n = v.few in omega arith)

  small_once : IsUpTo 100000 (number 1)
  small_once = small_whole (pos 1) (omega arith)

  -- with the first row
  abbrev once : Sheet
  once = with_times (number 1) (written a (wait_form a Outbound 1)) (blank (width (count a)))

  small_first : IsSmallSheet (2 * (100000 * (100000 * 100000))) once
  small_first = small_sum 100000 100000 100000 (number 1) (written a (wait_form a Outbound 1)) (blank (width (count a))) small_once (small_row Outbound signal_one) (small_blank (width (count a)))

  abbrev first_weight : Weight
  first_weight = record { row = first_out; by = number 1 }

  abbrev second_weight : Weight
  second_weight = record { row = first_in; by = a.head.ratio }

  first_added : (box : Area) → weights_fault a box (blank (width (count a))) (first_weight ∷ []) ≡ None
  first_added box =
      let r = sum_none 100000 100000 100000 (number 1) (written a (wait_form a Outbound 1)) (blank (width (count a))) small_once (small_row Outbound signal_one)
      (small_blank (width (count a))) (omega arith) (omega arith) in
      let f = fault_free a box (blank (width (count a))) first_weight (record { there = signal_one; positive = one_positive; fits = r }) in
      rw f refl

  second_added : (box : Area) → weights_fault a box (blank (width (count a))) (first_weight ∷ second_weight ∷ []) ≡ None
  unfolding with_weight
  second_added box =
      let r = sum_none 100000 100000 100000 (number 1) (written a (wait_form a Outbound 1)) (blank (width (count a))) small_once (small_row Outbound signal_one)
      (small_blank (width (count a))) (omega arith) (omega arith) in
      let f = fault_free a box (blank (width (count a))) first_weight (record { there = signal_one; positive = one_positive; fits = r }) in
      let q = sum_none 100000 100000 (2 * (100000 * (100000 * 100000))) a.head.ratio (written a (wait_form a Inbound 1)) once (small_ratio a v)
      (small_row Inbound signal_one) small_first (omega arith) (omega arith) in
      let g = fault_free a box once second_weight (record { there = signal_one; positive = ratio_low a v; fits = q }) in
      rw (f, g) refl

  pub start_fits : (box : Area) → leaf_fault a box (start_leaf a) ≡ None
  unfolding fault_of
  start_fits box = pick (eq_by_cmp cmp_ℚ a.head.ratio (number 0))
    where
      pick : (b : Bool) → weights_fault a box (blank (width (count a))) (first_weight ∷ cond b [] (second_weight ∷ [])) ≡ None
      pick true = first_added box
      pick false = second_added box
