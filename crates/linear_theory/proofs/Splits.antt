-- The two parts of a box at a place in a link's span hold exactly what the box holds, and no timing twice.
use Rattle.std.proofs.Common.{◌≡◌, ℕ, ℤ, pos, ◌+ℤ◌, ◌≤ℤ◌, ◌-◌, ◌<◌, ◌≤◌, ◌⊎◌, inl, inr, length, refl, sym, ◌∙◌, subst, arith}
use Rattle.std.proofs.lemmas.Int.{ints, by_lt_z}
use Rattle.std.proofs.lemmas.List.{get_or-set_other, get_or-set_same}
use Rattle.std.proofs.lemmas.Bool.{cases_eq}
use Rattle.rational_theory.specs.Rational.{whole}
use Rattle.rational_theory.proofs.Order.{≤ℤ_whole, ≤ℚ_refl}
use Rattle.progression.specs.Street.{Street, HasLink}
use Rattle.progression.specs.TimingRecord.{TimingRecord}
use Rattle.linear_theory.specs.Boxes.{Area, Span, IsBoxOf, InBox, LoopIn, loop_span, no_span, with_loop, low_loop, high_loop, IsLoopPlace}

-- the span that was put for link i
pub loop_put : (box : Area) (i j : ℕ) (s : Span) → i - 1 < length box.loops → j ≡ i → loop_span (with_loop box i s) j ≡ s
loop_put box i j s l e = rw e (get_or-set_same box.loops (i - 1) s no_span l)

-- the spans of the other links
pub loop_kept : (box : Area) (i j : ℕ) (s : Span) → 1 ≤ i → 1 ≤ j → ¬ (j ≡ i) → loop_span (with_loop box i s) j ≡ loop_span box j
loop_kept box i j s h k n = get_or-set_other box.loops (i - 1) (j - 1) s no_span (λ e. n (omega arith))

-- a whole number is one only
whole_once : (m n : ℤ) → whole m ≡ whole n → m ≡ n
whole_once m n e =
    let h = ≤ℤ_whole m n (rw e (≤ℚ_refl (whole n))) in
    let k = ≤ℤ_whole n m (rw e (≤ℚ_refl (whole n))) in
    omega (arith, ints)

module _ (a : Street) (box : Area) (t : TimingRecord) (i : ℕ) (k : HasLink a i) (l : i - 1 < length box.loops) (s : Span) where
  -- a timing of the box lies in the box with another span, where its block sum does
  loop_changed : InBox a box t → (m : LoopIn a box t i) → s.least ≤ℤ m.number → m.number ≤ℤ s.most → InBox a (with_loop box i s) t
  loop_changed h m low high = record {
    loops = λ j p. elim (cases_eq j i) [
      | inl e ↦ let g = loop_put box i j s l e in let is = m.is in record { number = m.number; is = rw e is; least = rw g low; most = rw g high }
      | inr n ↦ let g = loop_kept box i j s k.0 p.0 (λ e. absurd (omega arith)) in
          let was = h.loops j p in record { number = was.number; is = was.is; least = rw g was.least; most = rw g was.most }
    ];
    turns = λ j p. let was = h.turns j p in record { rank = was.rank; is = was.is; least = was.least; most = was.most };
  }

  -- and back, where that span is the narrower one
  loop_wider : InBox a (with_loop box i s) t → (loop_span box i).least ≤ℤ s.least → s.most ≤ℤ (loop_span box i).most → InBox a box t
  loop_wider h low high = record {
    loops = λ j p. elim (cases_eq j i) [
      | inl e ↦ let g = loop_put box i i s l refl in
          let was = h.loops i k in
          let least : s.least ≤ℤ was.number = rw (← g) was.least in
          let most : was.number ≤ℤ s.most = rw (← g) was.most in
          rw e (record { number = was.number; is = was.is; least = omega (arith, ints); most = omega (arith, ints) })
      | inr n ↦ let g = loop_kept box i j s k.0 p.0 (λ e. absurd (omega arith)) in
          let was = h.loops j p in record { number = was.number; is = was.is; least = rw (← g) was.least; most = rw (← g) was.most }
    ];
    turns = λ j p. let was = h.turns j p in record { rank = was.rank; is = was.is; least = was.least; most = was.most };
  }

-- a place in a box of the artery belongs to a link
pub place_link : (a : Street) (box : Area) (i : ℕ) (at : ℤ) → IsBoxOf a box → IsLoopPlace box i at → HasLink a i
place_link a box i at b p = let n = b.loops_count in let m = p.1 in (p.0, omega arith)

-- and its span stands in the list
pub loop_inside : (box : Area) (i : ℕ) (at : ℤ) → IsLoopPlace box i at → i - 1 < length box.loops
loop_inside box i at p = let k = p.0 in let m = p.1 in omega arith

module _ (a : Street) (box : Area) (t : TimingRecord) (i : ℕ) (at : ℤ) (b : IsBoxOf a box) (p : IsLoopPlace box i at) where
  -- the place's link and its span
  link : HasLink a i
  link = place_link a box i at b p

  pub inside : i - 1 < length box.loops
  inside = loop_inside box i at p

  -- a timing of the box lies in one of the parts
  pub loop_split : InBox a box t → InBox a (low_loop box i at) t ⊎ InBox a (high_loop box i at) t
  loop_split h =
      let was = h.loops i link in
      by_lt_z {P = InBox a (low_loop box i at) t ⊎ InBox a (high_loop box i at) t} at was.number
      (λ less. inr (loop_changed a box t i link inside _ h was (omega (arith, ints)) was.most))
      (λ more. inl (loop_changed a box t i link inside _ h was was.least (omega (arith, ints))))

  -- what lies in a part lies in the box
  pub loop_joined : InBox a (low_loop box i at) t ⊎ InBox a (high_loop box i at) t → InBox a box t
  loop_joined (inl h) = let m = p.3 in loop_wider a box t i link inside _ h (omega (arith, ints)) (omega (arith, ints))
  loop_joined (inr h) = let m = p.2 in loop_wider a box t i link inside _ h (omega (arith, ints)) (omega (arith, ints))

  -- no timing lies in both
  pub loop_once : InBox a (low_loop box i at) t → InBox a (high_loop box i at) t → ⊥
  loop_once h k =
      let low = h.loops i link in let high = k.loops i link in
      let e = whole_once low.number high.number (sym low.is ∙ high.is) in
      let below : low.number ≤ℤ at = subst (λ (s : Span). low.number ≤ℤ s.most) (loop_put box i i _ inside refl) low.most in
      let above : (at +ℤ pos 1) ≤ℤ high.number = subst (λ (s : Span). s.least ≤ℤ high.number) (loop_put box i i _ inside refl) high.least in
      absurd (omega (arith, ints))
