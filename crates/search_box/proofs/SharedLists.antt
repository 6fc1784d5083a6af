-- The two parts of a box at a place hold exactly the lists of block sums and ranks that the box holds, and none twice.
use Rattle.std.proofs.Common.{ℕ, ◌-◌, ◌<◌, ◌≤◌, ℤ, pos, ◌≤ℤ◌, List, ◌⊎◌, inl, inr, length, refl, sym, ◌∙◌, arith}
use Rattle.std.proofs.lemmas.Int.{ints, by_lt_z}
use Rattle.std.proofs.lemmas.List.{length-set}
use Rattle.std.proofs.lemmas.Bool.{cases_eq, cases_lt}
use Rattle.std.specs.Prelude.{slice_index, slice_index_or}
use Rattle.linear_theory.specs.Boxes.{Area, Span, Ranks, loop_span, turn_span, with_loop, with_turn, low_loop, high_loop, low_turn, high_turn, IsLoopPlace, IsTurnPlace}
use Rattle.linear_theory.proofs.Splits.{loop_put, loop_kept, loop_inside}
use Rattle.linear_theory.proofs.TurnSplits.{turn_put, turn_kept, turn_inside}
use Rattle.search_box.specs.declared.span.At.{At}
use Rattle.search_box.specs.declared.span.At.TheVariants.{Loop, Turn}
use Rattle.search_box.specs.Places.{IsPlace, low_part, high_part, IsWithin, IsRanked, HoldsLists, ShareLists}

-- ---- with another span for link i
module _ (box : Area) (sums : List ℤ) (ranks : List ℕ) (i : ℕ) (k : 1 ≤ i) (l : i - 1 < length box.loops) (s : Span) where
  sum_changed : HoldsLists box sums ranks → IsWithin s (slice_index_or sums (i - 1) (pos 0)) → HoldsLists (with_loop box i s) sums ranks
  sum_changed h w = record {
    sums_count = h.sums_count ∙ sym (length-set box.loops (i - 1) s);
    ranks_count = h.ranks_count;
    each_sum = λ j p q. elim (cases_eq j i) [
      | inl e ↦ let g = loop_put box i j s l e in rw g (rw e w)
      | inr n ↦ let g = loop_kept box i j s k p (λ e. absurd (omega arith)) in rw g (h.each_sum j p (omega (arith, length-set box.loops (i - 1) s)))
    ];
    each_rank = h.each_rank;
  }

  sum_is : HoldsLists (with_loop box i s) sums ranks → IsWithin s (slice_index_or sums (i - 1) (pos 0))
  sum_is h = let g = loop_put box i i s l refl in rw g at (h.each_sum i k (omega (arith, length-set box.loops (i - 1) s)))

  -- and back, where that span is the narrower one
  sum_wider : HoldsLists (with_loop box i s) sums ranks → (loop_span box i).least ≤ℤ s.least → s.most ≤ℤ (loop_span box i).most → HoldsLists box sums ranks
  sum_wider h low high = let was = sum_is h in let least = was.least in let most = was.most in record {
    sums_count = h.sums_count ∙ length-set box.loops (i - 1) s;
    ranks_count = h.ranks_count;
    each_sum = λ j p q. elim (cases_eq j i) [
      | inl e ↦ rw e (record { least = omega (arith, ints); most = omega (arith, ints) })
      | inr n ↦ let g = loop_kept box i j s k p (λ e. absurd (omega arith)) in rw (← g) (h.each_sum j p (omega (arith, length-set box.loops (i - 1) s)))
    ];
    each_rank = h.each_rank;
  }

-- ---- with other ranks for signal i
module _ (box : Area) (sums : List ℤ) (ranks : List ℕ) (i : ℕ) (k : 1 ≤ i) (l : i - 1 < length box.turns) (s : Ranks) where
  rank_changed : HoldsLists box sums ranks → IsRanked s (slice_index ranks (i - 1)) → HoldsLists (with_turn box i s) sums ranks
  rank_changed h w = record {
    sums_count = h.sums_count;
    ranks_count = h.ranks_count ∙ sym (length-set box.turns (i - 1) s);
    each_sum = h.each_sum;
    each_rank = λ j p q. elim (cases_eq j i) [
      | inl e ↦ let g = turn_put box i j s l e in rw g (rw e w)
      | inr n ↦ let g = turn_kept box i j s k p (λ e. absurd (omega arith)) in rw g (h.each_rank j p (omega (arith, length-set box.turns (i - 1) s)))
    ];
  }

  rank_is : HoldsLists (with_turn box i s) sums ranks → IsRanked s (slice_index ranks (i - 1))
  rank_is h = let g = turn_put box i i s l refl in rw g at (h.each_rank i k (omega (arith, length-set box.turns (i - 1) s)))

  -- and back, where those ranks are the fewer ones
  rank_wider : HoldsLists (with_turn box i s) sums ranks → (turn_span box i).least ≤ s.least → s.most ≤ (turn_span box i).most → HoldsLists box sums ranks
  rank_wider h low high = let was = rank_is h in let least = was.least in let most = was.most in record {
    sums_count = h.sums_count;
    ranks_count = h.ranks_count ∙ length-set box.turns (i - 1) s;
    each_sum = h.each_sum;
    each_rank = λ j p q. elim (cases_eq j i) [
      | inl e ↦ rw e (record { least = omega arith; most = omega arith })
      | inr n ↦ let g = turn_kept box i j s k p (λ e. absurd (omega arith)) in rw (← g) (h.each_rank j p (omega (arith, length-set box.turns (i - 1) s)))
    ];
  }

-- ---- the parts at a place in a link's span
module _ (box : Area) (sums : List ℤ) (ranks : List ℕ) (i : ℕ) (at : ℤ) (p : IsLoopPlace box i at) where
  sums_split : HoldsLists box sums ranks → HoldsLists (low_loop box i at) sums ranks ⊎ HoldsLists (high_loop box i at) sums ranks
  sums_split h =
      let was = h.each_sum i p.0 p.1 in
      by_lt_z {P = HoldsLists (low_loop box i at) sums ranks ⊎ HoldsLists (high_loop box i at) sums ranks} at (slice_index_or sums (i - 1) (pos 0))
      (λ less. inr (sum_changed box sums ranks i p.0 (loop_inside box i at p) _ h (record { least = omega (arith, ints); most = was.most })))
      (λ more. inl (sum_changed box sums ranks i p.0 (loop_inside box i at p) _ h (record { least = was.least; most = omega (arith, ints) })))

  sums_joined : HoldsLists (low_loop box i at) sums ranks ⊎ HoldsLists (high_loop box i at) sums ranks → HoldsLists box sums ranks
  sums_joined (inl h) = let m = p.3 in sum_wider box sums ranks i p.0 (loop_inside box i at p) _ h (omega (arith, ints)) (omega (arith, ints))
  sums_joined (inr h) = let m = p.2 in sum_wider box sums ranks i p.0 (loop_inside box i at p) _ h (omega (arith, ints)) (omega (arith, ints))

  sums_once : HoldsLists (low_loop box i at) sums ranks → HoldsLists (high_loop box i at) sums ranks → ⊥
  sums_once h k =
      let low = sum_is box sums ranks i p.0 (loop_inside box i at p) _ h in
      let high = sum_is box sums ranks i p.0 (loop_inside box i at p) _ k in
      let below = low.most in let above = high.least in
      absurd (omega (arith, ints))

-- ---- the parts at a place in a signal's ranks
module _ (box : Area) (sums : List ℤ) (ranks : List ℕ) (i rank : ℕ) (p : IsTurnPlace box i rank) where
  ranks_split : HoldsLists box sums ranks → HoldsLists (low_turn box i rank) sums ranks ⊎ HoldsLists (high_turn box i rank) sums ranks
  ranks_split h =
      let was = h.each_rank i p.0 p.1 in
      elim (cases_lt rank (slice_index ranks (i - 1))) [
        | inl less ↦ inr (rank_changed box sums ranks i p.0 (turn_inside box i rank p) _ h (record { least = omega arith; most = was.most }))
        | inr more ↦ inl (rank_changed box sums ranks i p.0 (turn_inside box i rank p) _ h (record { least = was.least; most = omega arith }))
      ]

  ranks_joined : HoldsLists (low_turn box i rank) sums ranks ⊎ HoldsLists (high_turn box i rank) sums ranks → HoldsLists box sums ranks
  ranks_joined (inl h) = let m = p.3 in rank_wider box sums ranks i p.0 (turn_inside box i rank p) _ h (omega arith) (omega arith)
  ranks_joined (inr h) = let m = p.2 in rank_wider box sums ranks i p.0 (turn_inside box i rank p) _ h (omega arith) (omega arith)

  ranks_once : HoldsLists (low_turn box i rank) sums ranks → HoldsLists (high_turn box i rank) sums ranks → ⊥
  ranks_once h k =
      let low = rank_is box sums ranks i p.0 (turn_inside box i rank p) _ h in
      let high = rank_is box sums ranks i p.0 (turn_inside box i rank p) _ k in
      let below = low.most in let above = high.least in
      absurd (omega arith)

-- at either kind of place
pub shared : (box : Area) (place : At) → IsPlace box place → ShareLists box (low_part box place) (high_part box place)
shared box (Loop i at) p = record {
  whole = λ sums ranks. (sums_split box sums ranks i at p, sums_joined box sums ranks i at p);
  apart = λ sums ranks. sums_once box sums ranks i at p;
}
shared box (Turn i rank) p = record {
  whole = λ sums ranks. (ranks_split box sums ranks i rank p, ranks_joined box sums ranks i rank p);
  apart = λ sums ranks. ranks_once box sums ranks i rank p;
}
