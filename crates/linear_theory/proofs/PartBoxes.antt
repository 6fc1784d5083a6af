-- The parts of a box of an artery are boxes of it.
use Rattle.std.proofs.Common.{ℕ, ℤ, ◌≤ℤ◌, ◌-◌, ◌<◌, ◌≤◌, inl, inr, length, sym, ◌∙◌, ap, subst, arith}
use Rattle.std.proofs.lemmas.Int.{ints}
use Rattle.std.proofs.lemmas.List.{length-set}
use Rattle.std.proofs.lemmas.Bool.{cases_eq}
use Rattle.progression.specs.Street.{Street}
use Rattle.linear_theory.specs.Shifts.{shift_count}
use Rattle.linear_theory.specs.Boxes.{Area, Span, Ranks, IsBoxOf, IsSpanOf, root_span, loop_span, with_loop, with_turn, low_loop, high_loop, low_turn, high_turn, IsLoopPlace, IsTurnPlace}
use Rattle.linear_theory.proofs.Splits.{loop_put, loop_kept, place_link, loop_inside}
use Rattle.linear_theory.proofs.TurnSplits.{turn_put, turn_kept, place_signal, turn_inside}

-- a span within the span of a box lies within the root's
narrower : (root s : Span) (least most : ℤ) → IsSpanOf root s → least ≤ℤ most → s.least ≤ℤ least → most ≤ℤ s.most
    → IsSpanOf root (record { least = least; most = most })
narrower root s least most (inl e) o l m =
    let f = ap (λ (x : Span). x.least) e in let g = ap (λ (x : Span). x.most) e in
    inr (o, omega (arith, ints), omega (arith, ints))
narrower root s least most (inr w) o l m = let f = w.1 in let g = w.2 in inr (o, omega (arith, ints), omega (arith, ints))

module _ (a : Street) (box : Area) (b : IsBoxOf a box) where
  -- with another span for link i
  pub loop_boxed : (i : ℕ) (s : Span) → 1 ≤ i → i - 1 < length box.loops → IsSpanOf (root_span a i) s → IsBoxOf a (with_loop box i s)
  loop_boxed i s k l w = record {
    loops_count = let n = b.loops_count in let m = length-set box.loops (i - 1) s in omega arith;
    turns_count = b.turns_count;
    spans = λ j p. elim (cases_eq j i) [
      | inl e ↦ let g = loop_put box i j s l e in rw g (subst (λ x. IsSpanOf (root_span a x) s) (sym e) w)
      | inr n ↦ let g = loop_kept box i j s k p.0 (λ e. absurd (omega arith)) in rw g (b.spans j p)
    ];
    ranks_order = b.ranks_order;
    ranks_most = b.ranks_most;
  }

  -- with other ranks for signal i
  pub turn_boxed : (i : ℕ) (s : Ranks) → 1 ≤ i → i - 1 < length box.turns → s.least ≤ s.most → s.most < shift_count a i → IsBoxOf a (with_turn box i s)
  turn_boxed i s k l o m = record {
    loops_count = b.loops_count;
    turns_count = length-set box.turns (i - 1) s ∙ b.turns_count;
    spans = b.spans;
    ranks_order = λ j p. elim (cases_eq j i) [
      | inl e ↦ let g = turn_put box i j s l e in rw g o
      | inr n ↦ let g = turn_kept box i j s k p.0 (λ e. absurd (omega arith)) in rw g (b.ranks_order j p)
    ];
    ranks_most = λ j p. elim (cases_eq j i) [
      | inl e ↦ let g = turn_put box i j s l e in rw g (subst (λ x. s.most < shift_count a x) (sym e) m)
      | inr n ↦ let g = turn_kept box i j s k p.0 (λ e. absurd (omega arith)) in rw g (b.ranks_most j p)
    ];
  }

  module _ (i : ℕ) (at : ℤ) (p : IsLoopPlace box i at) where
    -- the parts at a place in a link's span
    pub low_loop_boxed : IsBoxOf a (low_loop box i at)
    low_loop_boxed = let m = p.3 in loop_boxed i _ p.0 (loop_inside box i at p) (narrower (root_span a i) (loop_span box i) _ _ (b.spans i (place_link a box i at b p))
        p.2 (omega (arith, ints)) (omega (arith, ints)))

    pub high_loop_boxed : IsBoxOf a (high_loop box i at)
    high_loop_boxed = let l = p.2 in let m = p.3 in
        loop_boxed i _ p.0 (loop_inside box i at p) (narrower (root_span a i) (loop_span box i) _ _ (b.spans i (place_link a box i at b p))
        (omega (arith, ints)) (omega (arith, ints)) (omega (arith, ints)))

  module _ (i rank : ℕ) (p : IsTurnPlace box i rank) where
    -- the parts at a place in a signal's ranks
    pub low_turn_boxed : IsBoxOf a (low_turn box i rank)
    low_turn_boxed = let m = p.3 in let r = b.ranks_most i (place_signal a box i rank b p) in turn_boxed i _ p.0 (turn_inside box i rank p) p.2 (omega arith)

    pub high_turn_boxed : IsBoxOf a (high_turn box i rank)
    high_turn_boxed = let m = p.3 in turn_boxed i _ p.0 (turn_inside box i rank p) (omega arith) (b.ranks_most i (place_signal a box i rank b p))
