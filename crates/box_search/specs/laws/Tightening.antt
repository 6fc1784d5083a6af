-- The rows of a part of a box say at least what the box's rows say: a point that meets them meets the box's.
use Rattle.std.proofs.Common.{ℕ, ◌-◌, ◌<◌, ◌≤◌, ◌≤ℤ◌, List, [], ◌∷◌, inl, inr, length, refl, sym, subst, arith}
use Rattle.std.proofs.lemmas.Bool.{cases_eq}
use Rattle.std.proofs.lemmas.Int.{ints}
use Rattle.rational_theory.specs.Rational.{ℚ, neg_ℚ, ◌-ℚ◌, ◌≤ℚ◌}
use Rattle.rational_theory.proofs.Order.{≤ℚ_trans, whole-≤ℤ}
use Rattle.rational_theory.proofs.Ring.{at, minus, ◌⊕◌}
use Rattle.rational_theory.proofs.Linear.{linear}
use Rattle.rational_theory.specs.Rows.{IsMet}
use Rattle.progression.specs.Street.{Street, HasSignal, HasLink}
use Rattle.linear_theory.specs.Shifts.{shifts_of, shift_at, shift_count}
use Rattle.linear_theory.specs.Blocks.{part}
use Rattle.linear_theory.specs.Boxes.{Area, Span, Ranks, IsBoxOf, loop_span, turn_span, with_loop, with_turn}
use Rattle.linear_theory.specs.Rows.{line, constant}
use Rattle.linear_theory.specs.Names.{Name, WaitRow, FastRow, SlowRow, RiseRow, DropRow, CycleLowRow, CycleHighRow, RatioRow, LoopLowRow, LoopHighRow, TurnLowRow, TurnHighRow, LeastRow, EqualLowRow, EqualHighRow, NoRow, HasRow, form_of}
use Rattle.linear_theory.proofs.RankedShifts.{shifts_ascend, rising}
use Rattle.linear_theory.proofs.Shares.{part_grows}
use Rattle.linear_theory.proofs.Splits.{loop_put, loop_kept, loop_inside}
use Rattle.linear_theory.proofs.TurnSplits.{turn_put, turn_kept, turn_inside}
use Rattle.search_box.specs.declared.span.At.{At}
use Rattle.search_box.specs.declared.span.At.TheVariants.{Loop, Turn}
use Rattle.search_box.specs.Places.{IsPlace, low_part, high_part}
use Rattle.search_box.proofs.Parts.{parts_of}
use Rattle.recovery_theory.specs.Vertices.{IsVertex}

-- each span of a box lies within the other box's
pub record IsWithin (a : Street) (inner outer : Area) : Type 0 where
  pub least : (i : ℕ) → HasLink a i → (loop_span outer i).least ≤ℤ (loop_span inner i).least
  pub most : (i : ℕ) → HasLink a i → (loop_span inner i).most ≤ℤ (loop_span outer i).most
  pub ranks_least : (i : ℕ) → HasSignal a i → (turn_span outer i).least ≤ (turn_span inner i).least
  pub ranks_most : (i : ℕ) → HasSignal a i → (turn_span inner i).most ≤ (turn_span outer i).most

-- ---- rows
module _ (a : Street) (inner outer : Area) (parts : 0 < a.head.parts) (b : IsBoxOf a inner) (c : IsBoxOf a outer) (w : IsWithin a inner outer) where
  shift_grows : (i m n : ℕ) → m ≤ n → n < shift_count a i → part a (shift_at a i m) ≤ℚ part a (shift_at a i n)
  shift_grows i m n h l = part_grows a (shift_at a i m) (shift_at a i n) parts (rising (shifts_of a i) 0 m n (shifts_ascend a i) h l)

  less_grows : (x y z : ℚ) → x ≤ℚ y → (z -ℚ y) ≤ℚ (z -ℚ x)
  less_grows x y z h = linear (record { count = 1; low = at 0; high = at 1 } ∷ []) 0 (at 2 ⊕ minus (at 1)) (at 2 ⊕ minus (at 0)) (x ∷ y ∷ z ∷ []) (h, tt) refl

  more_less : (x y z : ℚ) → x ≤ℚ y → (x -ℚ z) ≤ℚ (y -ℚ z)
  more_less x y z h = linear (record { count = 1; low = at 0; high = at 1 } ∷ []) 0 (at 0 ⊕ minus (at 2)) (at 1 ⊕ minus (at 2)) (x ∷ y ∷ z ∷ []) (h, tt) refl

  neg_falls : (x y : ℚ) → x ≤ℚ y → neg_ℚ y ≤ℚ neg_ℚ x
  neg_falls x y h = linear (record { count = 1; low = at 0; high = at 1 } ∷ []) 0 (minus (at 1)) (minus (at 0)) (x ∷ y ∷ []) (h, tt) refl

  -- with the same coefficients and a greater bound
  pub row_wider : (x : List ℚ) (n : Name) → HasRow a n → IsMet x (line a (form_of a inner n)) → IsMet x (line a (form_of a outer n))
  row_wider x (WaitRow d i) h m = m
  row_wider x (FastRow d i) h m = m
  row_wider x (SlowRow d i) h m = m
  row_wider x (RiseRow d i) h m = m
  row_wider x (DropRow d i) h m = m
  row_wider x (CycleLowRow i) h m = m
  row_wider x (CycleHighRow i) h m = m
  row_wider x (RatioRow i) h m = m
  row_wider x (LoopLowRow i) h m = record { met = ≤ℚ_trans _ _ _ m.met (less_grows _ _ (constant a i) (whole-≤ℤ _ _ (w.least i h))) }
  row_wider x (LoopHighRow i) h m = record { met = ≤ℚ_trans _ _ _ m.met (more_less _ _ (constant a i) (whole-≤ℤ _ _ (w.most i h))) }
  row_wider x (TurnLowRow i) h m =
      record { met = let o = b.ranks_order i h in let l = b.ranks_most i h in ≤ℚ_trans _ _ _ m.met (neg_falls _ _ (shift_grows i _ _ (w.ranks_least i h) (omega arith))) }
  row_wider x (TurnHighRow i) h m = record { met = ≤ℚ_trans _ _ _ m.met (shift_grows i _ _ (w.ranks_most i h) (c.ranks_most i h)) }
  row_wider x (LeastRow d i) h m = m
  row_wider x (EqualLowRow i) h m = m
  row_wider x (EqualHighRow i) h m = m
  row_wider x NoRow h m = absurd h

  pub vertex_wider : (x : List ℚ) → IsVertex a inner x → IsVertex a outer x
  vertex_wider x v = record { columns = v.columns; not_negative = v.not_negative; rows = λ n h. row_wider x n h (v.rows n h) }

-- ---- parts
module _ (a : Street) (box : Area) where
  loop_within : (i : ℕ) (s : Span) → 1 ≤ i → i - 1 < length box.loops → (loop_span box i).least ≤ℤ s.least → s.most ≤ℤ (loop_span box i).most → IsWithin a (with_loop box i s) box
  loop_within i s k l low high = record {
    least = λ j p. elim (cases_eq j i) [
      | inl e ↦ let g = loop_put box i j s l e in rw g (subst (λ m. (loop_span box m).least ≤ℤ s.least) (sym e) low)
      | inr n ↦ let g = loop_kept box i j s k p.0 (λ e. absurd (omega arith)) in rw g (omega (arith, ints))
    ];
    most = λ j p. elim (cases_eq j i) [
      | inl e ↦ let g = loop_put box i j s l e in rw g (subst (λ m. s.most ≤ℤ (loop_span box m).most) (sym e) high)
      | inr n ↦ let g = loop_kept box i j s k p.0 (λ e. absurd (omega arith)) in rw g (omega (arith, ints))
    ];
    ranks_least = λ j p. omega arith;
    ranks_most = λ j p. omega arith;
  }

  turn_within : (i : ℕ) (s : Ranks) → 1 ≤ i → i - 1 < length box.turns → (turn_span box i).least ≤ s.least → s.most ≤ (turn_span box i).most → IsWithin a (with_turn box i s) box
  turn_within i s k l low high = record {
    least = λ j p. omega (arith, ints);
    most = λ j p. omega (arith, ints);
    ranks_least = λ j p. elim (cases_eq j i) [
      | inl e ↦ let g = turn_put box i j s l e in rw g (subst (λ m. (turn_span box m).least ≤ s.least) (sym e) low)
      | inr n ↦ let g = turn_kept box i j s k p.0 (λ e. absurd (omega arith)) in rw g (omega arith)
    ];
    ranks_most = λ j p. elim (cases_eq j i) [
      | inl e ↦ let g = turn_put box i j s l e in rw g (subst (λ m. s.most ≤ (turn_span box m).most) (sym e) high)
      | inr n ↦ let g = turn_kept box i j s k p.0 (λ e. absurd (omega arith)) in rw g (omega arith)
    ];
  }

  pub low_within : (place : At) → IsPlace box place → IsWithin a (low_part box place) box
  low_within (Loop i cut) p = let m = p.3 in loop_within i _ p.0 (loop_inside box i cut p) (omega (arith, ints)) (omega (arith, ints))
  low_within (Turn i rank) p = let m = p.3 in turn_within i _ p.0 (turn_inside box i rank p) (omega arith) (omega arith)

  pub high_within : (place : At) → IsPlace box place → IsWithin a (high_part box place) box
  high_within (Loop i cut) p = let m = p.2 in loop_within i _ p.0 (loop_inside box i cut p) (omega (arith, ints)) (omega (arith, ints))
  high_within (Turn i rank) p = let m = p.2 in turn_within i _ p.0 (turn_inside box i rank p) (omega arith) (omega arith)

-- the parts of a box of an artery are boxes of it, and a point of a part is one of the box
module _ (a : Street) (box : Area) (parts : 0 < a.head.parts) (b : IsBoxOf a box) (place : At) (p : IsPlace box place) where
  pub low_vertex : (x : List ℚ) → IsVertex a (low_part box place) x → IsVertex a box x
  low_vertex x v = vertex_wider a (low_part box place) box parts (parts_of a box place b p).low_box b (low_within a box place p) x v

  pub high_vertex : (x : List ℚ) → IsVertex a (high_part box place) x → IsVertex a box x
  high_vertex x v = vertex_wider a (high_part box place) box parts (parts_of a box place b p).high_box b (high_within a box place p) x v
