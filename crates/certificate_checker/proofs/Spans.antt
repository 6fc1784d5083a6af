-- A box with another span at a place.
use Rattle.std.proofs.Common.{◌≡◌, ◌-◌, pos, ◌+ℤ◌, ◌<ℤ◌, unsigned_abs, refl, sym, ◌∙◌, ap, subst, arith}
use Rattle.std.proofs.lemmas.Int.{ints}
use Rattle.std.proofs.lemmas.List.{length-set, set-set, set-get_or, get_or-set_same}
use Rattle.linear_theory.specs.Boxes.{Area, Span, Ranks, no_span, no_ranks}
use Rattle.search_box.specs.declared.span.At.{At}
use Rattle.search_box.specs.declared.span.At.TheVariants.{Loop, Turn}
use Rattle.certificate_checker.specs.Owed.{number_at}
use Rattle.search_box.specs.Places.{IsPlace, HasSpan, FitsAt, low_part, high_part, span_at, with_span}

-- a place where a box can be split has a span
pub place_there : (box : Area) (p : At) → IsPlace box p → HasSpan box p
place_there box (Loop i at) h = (h.0, h.1)
place_there box (Turn i rank) h = (h.0, h.1)

-- the same links and signals are there with another span
pub there_back : (box : Area) (p : At) (s : Span) → HasSpan (with_span box p s) p → HasSpan box p
there_back box (Loop i at) s h = let n = length-set box.loops (i - 1) s in let m = h.1 in (h.0, omega arith)
there_back box (Turn i rank) s h = let n = length-set box.turns (i - 1) (record { least = unsigned_abs s.least; most = unsigned_abs s.most }) in let m = h.1 in (h.0, omega arith)

-- the second span stays
pub put_twice : (box : Area) (p : At) (s t : Span) → with_span (with_span box p s) p t ≡ with_span box p t
put_twice box (Loop i at) s t = ap (λ ls. record { loops = ls; turns = box.turns }) (set-set box.loops (i - 1) s t)
put_twice box (Turn i rank) s t = ap (λ ts. record { loops = box.loops; turns = ts }) (set-set box.turns (i - 1) _ _)

-- with its own span a box is itself
pub put_own : (box : Area) (p : At) → with_span box p (span_at box p) ≡ box
put_own box (Loop i at) = ap (λ ls. record { loops = ls; turns = box.turns }) (set-get_or box.loops (i - 1) no_span)
put_own box (Turn i rank) = ap (λ ts. record { loops = box.loops; turns = ts }) (set-get_or box.turns (i - 1) no_ranks)

-- the span that was put
pub span_put : (box : Area) (p : At) (s : Span) → HasSpan box p → FitsAt p s → span_at (with_span box p s) p ≡ s
span_put box (Loop i at) s h f = let l = h.0 in let m = h.1 in get_or-set_same box.loops (i - 1) s no_span (omega arith)
span_put box (Turn i rank) s h f =
    let l = h.0 in let m = h.1 in
    let e = get_or-set_same box.turns (i - 1) (record { least = unsigned_abs s.least; most = unsigned_abs s.most }) no_ranks (omega arith) in
    let least : pos (unsigned_abs s.least) ≡ s.least = let z = f.0 in omega (arith, ints) in
    let most : pos (unsigned_abs s.most) ≡ s.most = let z = f.2 in omega (arith, ints) in
    ap (λ (r : Ranks). record { least = pos r.least; most = pos r.most }) e ∙ (λ i. record { least = least i; most = most i })

abbrev pub low_of : At → Span → Span
low_of p s = record { least = s.least; most = number_at p }

abbrev pub high_of : At → Span → Span
high_of p s = record { least = number_at p +ℤ pos 1; most = s.most }

-- the two parts
pub low_is : (box : Area) (p : At) → low_part box p ≡ with_span box p (low_of p (span_at box p))
low_is box (Loop i at) = refl
low_is box (Turn i rank) = refl

pub high_is : (box : Area) (p : At) → high_part box p ≡ with_span box p (high_of p (span_at box p))
high_is box (Loop i at) = refl
high_is box (Turn i rank) = refl

-- something of the span lies above the place
pub above : (box : Area) (p : At) → IsPlace box p → number_at p <ℤ (span_at box p).most
above box (Loop i at) h = h.3
above box (Turn i rank) h = let m = h.3 in omega (arith, ints)

pub low_fits : (box : Area) (p : At) → IsPlace box p → FitsAt p (span_at box p) → FitsAt p (low_of p (span_at box p))
low_fits box (Loop i at) h f = tt
low_fits box (Turn i rank) h f = let m = h.3 in let k = f.3 in (f.0, f.1, omega (arith, ints), omega (arith, ints))

pub high_fits : (box : Area) (p : At) → IsPlace box p → FitsAt p (span_at box p) → FitsAt p (high_of p (span_at box p))
high_fits box (Loop i at) h f = tt
high_fits box (Turn i rank) h f = let m = h.3 in let k = f.3 in (omega (arith, ints), omega (arith, ints), f.2, f.3)

-- back from the low part
pub back_low : (box : Area) (p : At) → with_span (low_part box p) p (span_at box p) ≡ box
back_low box p = ap (λ b. with_span b p (span_at box p)) (low_is box p) ∙ put_twice box p (low_of p (span_at box p)) (span_at box p) ∙ put_own box p

-- ---- within a split, of a box with this span
module _ (box : Area) (p : At) (s : Span) (f : FitsAt p s) (h : IsPlace (with_span box p s) p) where
  span_is : span_at (with_span box p s) p ≡ s
  span_is = span_put box p s (there_back box p s (place_there (with_span box p s) p h)) f

  pub split_above : number_at p <ℤ s.most
  split_above = subst (λ (t : Span). number_at p <ℤ t.most) span_is (above (with_span box p s) p h)

  pub split_high_fits : FitsAt p (high_of p s)
  split_high_fits = subst (λ t. FitsAt p (high_of p t)) span_is (high_fits (with_span box p s) p h (subst (FitsAt p) (sym span_is) f))

  -- its high part
  pub split_high : high_part (with_span box p s) p ≡ with_span box p (high_of p s)
  split_high = high_is (with_span box p s) p ∙ ap (λ t. with_span (with_span box p s) p (high_of p t)) span_is ∙ put_twice box p s (high_of p s)

  -- and back from there
  pub back_high : with_span (high_part (with_span box p s) p) p s ≡ with_span box p s
  back_high = ap (λ b. with_span b p s) split_high ∙ put_twice box p (high_of p s) s
