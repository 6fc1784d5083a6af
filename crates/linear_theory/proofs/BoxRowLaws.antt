-- The laws of the families that a box gives bounds to: block sums and shifts.
use Rattle.std.proofs.Common.{◌≡◌, ℕ, ◌+◌, ◌*◌, ◌<◌, ◌≤◌, List, [], ◌∷◌, refl, sym, ◌∙◌, arith}
use Rattle.rational_theory.specs.Rational.{ℚ, whole, ◌≤ℚ◌}
use Rattle.rational_theory.proofs.Order.{whole-≤ℤ}
use Rattle.rational_theory.proofs.Ring.{at, minus, ◌⊕◌, ◌⊗◌}
use Rattle.rational_theory.proofs.Linear.{linear}
use Rattle.rational_theory.specs.Rows.{IsMet}
use Rattle.progression.specs.Street.{Street, count, HasSignal, HasLink}
use Rattle.progression.specs.Speeds.{number}
use Rattle.progression.specs.TimingRecord.{TimingRecord, base}
use Rattle.progression.specs.BaseRecord.{run}
use Rattle.progression.specs.Columns.{wait, shift, point}
use Rattle.progression.specs.declared.parts.Dir.TheVariants.{Outbound, Inbound}
use Rattle.linear_theory.specs.Shifts.{shifts_of, shift_at}
use Rattle.linear_theory.specs.Blocks.{part, red_here, clear_next, clear_here}
use Rattle.linear_theory.specs.Boxes.{Area, loop_span, turn_span}
use Rattle.linear_theory.specs.Rows.{minus_one, block_entries, line, loop_low_form, loop_high_form, turn_low_form, turn_high_form}
use Rattle.linear_theory.specs.Counts.{Counts}
use Rattle.linear_theory.proofs.RankedShifts.{shifts_ascend, rising}
use Rattle.linear_theory.proofs.Points.{share}
use Rattle.linear_theory.proofs.SparseSums.{InOrder, line_met}
use Rattle.linear_theory.proofs.Shares.{share_part, part_grows}
use Rattle.linear_theory.proofs.BlockSums.{block_shares, block_sum_shares}
use Rattle.linear_theory.proofs.Ranges.{some_signal, parts_above, unit_above}
use Rattle.linear_theory.proofs.Terms.{one, less_one, zero_term, fact, whole_term, cells_term, constant_term}

-- the columns of a block sum stand in order
pub block_in_order : (a : Street) (i : ℕ) → HasLink a i → (p m : ℚ) → InOrder (count a) 0 (block_entries i p m)
block_in_order a i k p m =
    let l = k.1 in
    let here : (1 ≤ i) × (i ≤ count a) = (k.0, omega arith) in
    let next : (1 ≤ i + 1) × (i + 1 ≤ count a) = (omega arith, omega arith) in
    (omega arith, here, (omega arith, next, (omega arith, here, (omega arith, next, (omega arith, k, (omega arith, k, (omega arith, here, (omega arith, next, tt))))))))

module _ (a : Street) (box : Area) (t : TimingRecord) (c : Counts a box t) where
  module _ (i : ℕ) (k : HasLink a i) where
    -- the block sum in shares is the box's whole number
    sum_is : block_shares a t i ≡ whole (c.inside.loops i k).number
    sum_is = sym (block_sum_shares a t i k) ∙ (c.inside.loops i k).is

    -- it is in the span
    sum_least : whole (loop_span box i).least ≤ℚ block_shares a t i
    sum_least = rw sum_is (whole-≤ℤ _ _ (c.inside.loops i k).least)

    sum_most : block_shares a t i ≤ℚ whole (loop_span box i).most
    sum_most = rw sum_is (whole-≤ℤ _ _ (c.inside.loops i k).most)

    -- the values of its columns, then its reds and clearances, then a number of the box
    abbrev block_values : ℚ → List ℚ
    block_values z =
        share a t (wait a t Outbound i) ∷ share a t (wait a t Inbound i) ∷ share a t (wait a t Outbound (i + 1)) ∷ share a t (wait a t Inbound (i + 1))
        ∷ share a t (run (base t) Outbound i) ∷ share a t (run (base t) Inbound i) ∷ share a t (shift a (base t) i * t.unit) ∷ share a t (shift a (base t) (i + 1) * t.unit)
        ∷ red_here a i ∷ red_here a (i + 1) ∷ clear_next a i ∷ clear_here a i ∷ z ∷ []

    -- the block sum is at least the span's least number
    pub loop_low_law : IsMet (point a t) (line a (loop_low_form a box i))
    loop_low_law =
        line_met a t (loop_low_form a box i) (some_signal a c.street) (block_in_order a i k minus_one (number 1))
        (linear (record { count = 1; low = at 12; high = whole_term } ∷ []) 0 (cells_term less_one one) (constant_term ⊕ minus (at 12))
        (block_values (whole (loop_span box i).least)) (sum_least, tt) refl)

    -- and at most its greatest
    pub loop_high_law : IsMet (point a t) (line a (loop_high_form a box i))
    loop_high_law =
        line_met a t (loop_high_form a box i) (some_signal a c.street) (block_in_order a i k (number 1) minus_one)
        (linear (record { count = 1; low = whole_term; high = at 12 } ∷ []) 0 (cells_term one less_one) (at 12 ⊕ minus constant_term) (block_values (whole (loop_span box i).most)) (sum_most, tt) refl)

  module _ (i : ℕ) (k : HasSignal a i) where
    -- the artery has parts
    some_parts : 0 < a.head.parts
    some_parts = parts_above a c.street

    -- the shift is at least that of the least rank
    pub turn_low_law : IsMet (point a t) (line a (turn_low_form a box i))
    turn_low_law =
        let r = c.inside.turns i k in let b = c.boxed.ranks_most i k in let e = r.is in let m = r.most in
        let q = rising (shifts_of a i) 0 (turn_span box i).least r.rank (shifts_ascend a i) r.least (omega arith) in
        line_met a t (turn_low_form a box i) (some_signal a c.street) (omega arith, k, tt)
        (rw (share_part a t some_parts (unit_above a t c.good) (shift a (base t) i))
        (linear (fact 0 1 ∷ []) 0 (less_one ⊗ at 1 ⊕ zero_term) (minus (at 0)) (part a (shift_at a i (turn_span box i).least) ∷ part a (shift a (base t) i) ∷ [])
        (part_grows a (shift_at a i (turn_span box i).least) (shift a (base t) i) some_parts (omega arith), tt) refl))

    -- and at most that of the greatest
    pub turn_high_law : IsMet (point a t) (line a (turn_high_form a box i))
    turn_high_law =
        let r = c.inside.turns i k in let b = c.boxed.ranks_most i k in let e = r.is in
        let q = rising (shifts_of a i) 0 r.rank (turn_span box i).most (shifts_ascend a i) r.most (omega arith) in
        line_met a t (turn_high_form a box i) (some_signal a c.street) (omega arith, k, tt)
        (rw (share_part a t some_parts (unit_above a t c.good) (shift a (base t) i))
        (linear (fact 1 0 ∷ []) 0 (one ⊗ at 1 ⊕ zero_term) (at 0) (part a (shift_at a i (turn_span box i).most) ∷ part a (shift a (base t) i) ∷ [])
        (part_grows a (shift a (base t) i) (shift_at a i (turn_span box i).most) some_parts (omega arith), tt) refl))
