-- Every good timing lies in the root box.
use Rattle.std.proofs.Common.{◌≡◌, ℕ, pos, ◌+◌, ◌-◌, ◌*◌, ◌<◌, refl, arith, [], ◌∷◌}
use Rattle.rational_theory.specs.Rational.{ℚ, whole, ◌≤ℚ◌}
use Rattle.rational_theory.proofs.Floor.{floor_is, ceil_is}
use Rattle.rational_theory.proofs.Ring.{at}
use Rattle.rational_theory.proofs.Linear.{linear}
use Rattle.progression.specs.Street.{Street, HasSignal, HasLink}
use Rattle.progression.specs.TimingRecord.{TimingRecord, base}
use Rattle.progression.specs.BaseRecord.{pattern_of}
use Rattle.progression.specs.Good.{Good}
use Rattle.progression.specs.Columns.{shift}
use Rattle.progression.specs.declared.parts.Dir.TheVariants.{Outbound, Inbound}
use Rattle.linear_theory.specs.Shifts.{shifts_of, shift_at, shift_count}
use Rattle.linear_theory.specs.Blocks.{block_of}
use Rattle.linear_theory.specs.Boxes.{Area, InBox, IsRoot, LoopIn, TurnIn, least_sum, greatest_sum, shift_least, shift_greatest, loop_span, turn_span, root_span, root_ranks}
use Rattle.linear_theory.proofs.Terms.{fact, block_term}
use Rattle.linear_theory.specs.Counts.{IsStreet}
use Rattle.linear_theory.proofs.WholeBlocks.{turns_between}
use Rattle.linear_theory.proofs.RankedShifts.{shifts_ascend, ranked, rising}
use Rattle.linear_theory.proofs.Points.{share}
use Rattle.linear_theory.proofs.Shares.{share_part, share_not_negative, part_grows}
use Rattle.linear_theory.proofs.BlockSums.{block_shares, shares_whole, block_sum_whole}
use Rattle.linear_theory.proofs.Ranges.{parts_above, unit_above, wait_most}
use Rattle.linear_theory.proofs.Divided.{run_least_holds, run_greatest_holds}

-- a block sum grows with what it adds and falls with what it takes away
pub block_grows : (w w' v v' y y' s s' r r' k k' W W' V V' Y Y' S S' : ℚ)
    → w ≤ℚ W → w' ≤ℚ W' → V ≤ℚ v → V' ≤ℚ v' → y ≤ℚ Y → y' ≤ℚ Y' → s ≤ℚ S → S' ≤ℚ s'
    → block_of w w' v v' y y' s s' r r' k k' ≤ℚ block_of W W' V V' Y Y' S S' r r' k k'
block_grows w w' v v' y y' s s' r r' k k' W W' V V' Y Y' S S' h1 h2 h3 h4 h5 h6 h7 h8 =
    linear (fact 0 8 ∷ fact 1 9 ∷ fact 10 2 ∷ fact 11 3 ∷ fact 4 12 ∷ fact 5 13 ∷ fact 6 14 ∷ fact 15 7 ∷ []) 0
    (block_term (at 0) (at 1) (at 2) (at 3) (at 4) (at 5) (at 6) (at 7) (at 16) (at 17) (at 18) (at 19))
    (block_term (at 8) (at 9) (at 10) (at 11) (at 12) (at 13) (at 14) (at 15) (at 16) (at 17) (at 18) (at 19))
    (w ∷ w' ∷ v ∷ v' ∷ y ∷ y' ∷ s ∷ s' ∷ W ∷ W' ∷ V ∷ V' ∷ Y ∷ Y' ∷ S ∷ S' ∷ r ∷ r' ∷ k ∷ k' ∷ [])
    (h1, (h2, (h3, (h4, (h5, (h6, (h7, (h8, tt)))))))) refl

module _ (a : Street) (t : TimingRecord) (h : IsStreet a) (g : Good a t) where
  -- ---- shifts
  -- the shift of a timing is at least the least allowed one
  shift_low : (i : ℕ) → HasSignal a i → shift_least a i ≤ℚ share a t (shift a (base t) i * t.unit)
  shift_low i k =
      let r = ranked a i (pattern_of (base t) i) (g.base.patterns i k) in
      let e = r.is in let b = r.there in
      let low = rising (shifts_of a i) 0 0 r.rank (shifts_ascend a i) (omega arith) b in
      rw (share_part a t (parts_above a h) (unit_above a t g) (shift a (base t) i)) (part_grows a (shift_at a i 0) (shift a (base t) i) (parts_above a h) (omega arith))

  -- and at most the greatest
  shift_high : (i : ℕ) → HasSignal a i → share a t (shift a (base t) i * t.unit) ≤ℚ shift_greatest a i
  shift_high i k =
      let r = ranked a i (pattern_of (base t) i) (g.base.patterns i k) in
      let e = r.is in let b = r.there in
      let high = rising (shifts_of a i) 0 r.rank (shift_count a i - 1) (shifts_ascend a i) (omega arith) (omega arith) in
      rw (share_part a t (parts_above a h) (unit_above a t g) (shift a (base t) i)) (part_grows a (shift a (base t) i) (shift_at a i (shift_count a i - 1)) (parts_above a h) (omega arith))

  -- ---- block sums
  module _ (i : ℕ) (k : HasLink a i) where
    -- the link's two signals
    here : HasSignal a i
    here = let l = k.1 in (k.0, omega arith)

    next : HasSignal a (i + 1)
    next = let l = k.1 in (omega arith, omega arith)

    -- no share is below 0
    nothing_less : (n : ℕ) → whole (pos 0) ≤ℚ share a t n
    nothing_less n = share_not_negative a t (parts_above a h) (unit_above a t g) n

    -- the block sum is whole
    whole_is : block_shares a t i ≡ whole (turns_between a t i)
    whole_is = shares_whole a t (parts_above a h) (unit_above a t g) i k (g.base.patterns i here) (g.base.patterns (i + 1) next)

    -- each term at the low end of its range gives a sum below it
    sum_low : least_sum a i ≤ℚ whole (turns_between a t i)
    sum_low = rw (← whole_is) (block_grows _ _ _ _ _ _ _ _ _ _ _ _ _ _ _ _ _ _ _ _
        (nothing_less _) (nothing_less _) (wait_most a t h g Outbound (i + 1) next) (wait_most a t h g Inbound (i + 1) next)
        (run_least_holds a t h g Outbound i k) (run_least_holds a t h g Inbound i k) (shift_low i here) (shift_high (i + 1) next))

    -- and at the high end one above it
    sum_high : whole (turns_between a t i) ≤ℚ greatest_sum a i
    sum_high = rw (← whole_is) (block_grows _ _ _ _ _ _ _ _ _ _ _ _ _ _ _ _ _ _ _ _
        (wait_most a t h g Outbound i here) (wait_most a t h g Inbound i here) (nothing_less _) (nothing_less _)
        (run_greatest_holds a t h g Outbound i k) (run_greatest_holds a t h g Inbound i k) (shift_high i here) (shift_low (i + 1) next))

    -- a whole number between two fractions lies between the ceiling and the floor
    loop_in_root : (box : Area) → loop_span box i ≡ root_span a i → LoopIn a box t i
    loop_in_root box e = record {
      number = turns_between a t i;
      is = block_sum_whole a t (parts_above a h) (unit_above a t g) i k (g.base.patterns i here) (g.base.patterns (i + 1) next);
      least = rw e ((ceil_is (turns_between a t i) (least_sum a i)).0 sum_low);
      most = rw e ((floor_is (turns_between a t i) (greatest_sum a i)).0 sum_high);
    }

  -- the shift has a rank
  turn_in_root : (box : Area) (i : ℕ) → HasSignal a i → turn_span box i ≡ root_ranks a i → TurnIn a box t i
  turn_in_root box i k e =
      let r = ranked a i (pattern_of (base t) i) (g.base.patterns i k) in
      let b = r.there in
      record { rank = r.rank; is = r.is; least = rw e (omega arith); most = rw e (omega arith) }

  -- every good timing lies in the root box
  pub root_law : (box : Area) → IsRoot a box → InBox a box t
  root_law box r = record {
    loops = λ i k. loop_in_root i k box (r.loops i k);
    turns = λ i k. turn_in_root box i k (r.turns i k);
  }

  -- where there is a good timing, each signal has a shift
  pub shift_there : (i : ℕ) → HasSignal a i → 0 < shift_count a i
  shift_there i k = let q = (ranked a i (pattern_of (base t) i) (g.base.patterns i k)).there in omega arith
