-- The two parts of a box at a place in a signal's ranks hold exactly what the box holds, and no timing twice.
use Rattle.std.proofs.Common.{◌≡◌, ℕ, ◌+◌, ◌-◌, ◌<◌, ◌≤◌, ◌⊎◌, inl, inr, length, refl, subst, arith}
use Rattle.std.proofs.lemmas.List.{get_or-set_other, get_or-set_same}
use Rattle.std.proofs.lemmas.Bool.{cases_eq, cases_lt}
use Rattle.progression.specs.Street.{Street, HasSignal}
use Rattle.progression.specs.TimingRecord.{TimingRecord}
use Rattle.linear_theory.specs.Shifts.{shifts_of}
use Rattle.linear_theory.specs.Boxes.{Area, Ranks, IsBoxOf, InBox, TurnIn, turn_span, no_ranks, with_turn, low_turn, high_turn, IsTurnPlace}
use Rattle.linear_theory.proofs.RankedShifts.{shifts_ascend, rising_strictly}

-- the ranks that were put for signal i
pub turn_put : (box : Area) (i j : ℕ) (s : Ranks) → i - 1 < length box.turns → j ≡ i → turn_span (with_turn box i s) j ≡ s
turn_put box i j s l e = rw e (get_or-set_same box.turns (i - 1) s no_ranks l)

-- the ranks of the other signals
pub turn_kept : (box : Area) (i j : ℕ) (s : Ranks) → 1 ≤ i → 1 ≤ j → ¬ (j ≡ i) → turn_span (with_turn box i s) j ≡ turn_span box j
turn_kept box i j s h k n = get_or-set_other box.turns (i - 1) (j - 1) s no_ranks (λ e. n (omega arith))

module _ (a : Street) (box : Area) (t : TimingRecord) (i : ℕ) (k : HasSignal a i) (l : i - 1 < length box.turns) (s : Ranks) where
  -- a timing of the box lies in the box with other ranks, where its rank does
  turn_changed : InBox a box t → (m : TurnIn a box t i) → s.least ≤ m.rank → m.rank ≤ s.most → InBox a (with_turn box i s) t
  turn_changed h m low high = record {
    loops = λ j p. let was = h.loops j p in record { number = was.number; is = was.is; least = was.least; most = was.most };
    turns = λ j p. elim (cases_eq j i) [
      | inl e ↦ let g = turn_put box i j s l e in let is = m.is in record { rank = m.rank; is = rw e is; least = rw g low; most = rw g high }
      | inr n ↦ let g = turn_kept box i j s k.0 p.0 (λ e. absurd (omega arith)) in
          let was = h.turns j p in record { rank = was.rank; is = was.is; least = rw g was.least; most = rw g was.most }
    ];
  }

  -- and back, where those ranks are the fewer ones
  turn_wider : InBox a (with_turn box i s) t → (turn_span box i).least ≤ s.least → s.most ≤ (turn_span box i).most → InBox a box t
  turn_wider h low high = record {
    loops = λ j p. let was = h.loops j p in record { number = was.number; is = was.is; least = was.least; most = was.most };
    turns = λ j p. elim (cases_eq j i) [
      | inl e ↦ let g = turn_put box i i s l refl in
          let was = h.turns i k in
          let least : s.least ≤ was.rank = rw (← g) was.least in
          let most : was.rank ≤ s.most = rw (← g) was.most in
          rw e (record { rank = was.rank; is = was.is; least = omega arith; most = omega arith })
      | inr n ↦ let g = turn_kept box i j s k.0 p.0 (λ e. absurd (omega arith)) in
          let was = h.turns j p in record { rank = was.rank; is = was.is; least = rw (← g) was.least; most = rw (← g) was.most }
    ];
  }

-- a place in a box of the artery belongs to a signal
pub place_signal : (a : Street) (box : Area) (i rank : ℕ) → IsBoxOf a box → IsTurnPlace box i rank → HasSignal a i
place_signal a box i rank b p = let n = b.turns_count in let m = p.1 in (p.0, omega arith)

-- and its ranks stand in the list
pub turn_inside : (box : Area) (i rank : ℕ) → IsTurnPlace box i rank → i - 1 < length box.turns
turn_inside box i rank p = let k = p.0 in let m = p.1 in omega arith

module _ (a : Street) (box : Area) (t : TimingRecord) (i rank : ℕ) (b : IsBoxOf a box) (p : IsTurnPlace box i rank) where
  -- the place's signal and its ranks
  signal : HasSignal a i
  signal = place_signal a box i rank b p

  pub inside : i - 1 < length box.turns
  inside = turn_inside box i rank p

  -- a timing of the box lies in one of the parts
  pub turn_split : InBox a box t → InBox a (low_turn box i rank) t ⊎ InBox a (high_turn box i rank) t
  turn_split h =
      let was = h.turns i signal in
      elim (cases_lt rank was.rank) [
        | inl less ↦ inr (turn_changed a box t i signal inside _ h was (omega arith) was.most)
        | inr more ↦ inl (turn_changed a box t i signal inside _ h was was.least (omega arith))
      ]

  -- what lies in a part lies in the box
  pub turn_joined : InBox a (low_turn box i rank) t ⊎ InBox a (high_turn box i rank) t → InBox a box t
  turn_joined (inl h) = let m = p.3 in turn_wider a box t i signal inside _ h (omega arith) (omega arith)
  turn_joined (inr h) = let m = p.2 in turn_wider a box t i signal inside _ h (omega arith) (omega arith)

  -- no timing lies in both
  pub turn_once : InBox a (low_turn box i rank) t → InBox a (high_turn box i rank) t → ⊥
  turn_once h k =
      let low = h.turns i signal in let high = k.turns i signal in
      let below : low.rank ≤ rank = subst (λ (s : Ranks). low.rank ≤ s.most) (turn_put box i i _ inside refl) low.most in
      let above : rank + 1 ≤ high.rank = subst (λ (s : Ranks). s.least ≤ high.rank) (turn_put box i i _ inside refl) high.least in
      let most : high.rank ≤ (turn_span box i).most = subst (λ (s : Ranks). high.rank ≤ s.most) (turn_put box i i _ inside refl) high.most in
      let some = b.ranks_most i signal in
      let less = rising_strictly (shifts_of a i) 0 low.rank high.rank (shifts_ascend a i) (omega arith) (omega arith) in
      let e = low.is in let f = high.is in
      absurd (omega arith)
