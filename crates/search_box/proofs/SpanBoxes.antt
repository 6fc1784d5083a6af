-- A box of an artery with another span at a place is one of it.
use Rattle.std.proofs.Common.{ℕ, ◌-◌, pos, ◌≤ℤ◌, inl, inr, subst, ap, arith}
use Rattle.std.proofs.lemmas.Int.{ints}
use Rattle.progression.specs.Street.{Street}
use Rattle.linear_theory.specs.Shifts.{shift_count}
use Rattle.linear_theory.specs.Boxes.{Area, Span, Ranks, IsBoxOf, IsSpanOf}
use Rattle.linear_theory.proofs.RootBoxes.{root_is}
use Rattle.linear_theory.proofs.PartBoxes.{loop_boxed, turn_boxed}
use Rattle.search_box.specs.declared.span.At.{At}
use Rattle.search_box.specs.declared.span.At.TheVariants.{Loop, Turn}
use Rattle.search_box.specs.Places.{HasSpan, FitsAt, IsSpanAt, with_span}

-- ranks that are all ranks, or lie within these and are not empty
record IsRanksOf (shifts : ℕ) (s : Span) : Type 0 where
  order : s.least ≤ℤ s.most
  most : s.most ≤ℤ pos (shifts - 1)

ranks_of_root : (shifts : ℕ) (s : Span) → IsSpanOf (record { least = pos 0; most = pos (shifts - 1) }) s → IsRanksOf shifts s
ranks_of_root shifts s (inl e) = let l = ap (λ (x : Span). x.least) e in let m = ap (λ (x : Span). x.most) e in record { order = omega (arith, ints); most = omega (arith, ints) }
ranks_of_root shifts s (inr w) = record { order = w.0; most = w.2 }

pub span_boxed : (a : Street) (box : Area) (place : At) (s : Span) → HasSpan box place → FitsAt place s → IsBoxOf a box → IsSpanAt a place s → IsBoxOf a (with_span box place s)
span_boxed a box (Loop i at) s h r b w =
    let n = b.loops_count in let l = h.0 in let m = h.1 in
    let root = (root_is a (omega arith)).loops i (l, omega arith) in
    loop_boxed a box b i s l (omega arith) (subst (λ x. IsSpanOf x s) root w)
span_boxed a box (Turn i rank) s h r b w =
    let n = b.turns_count in let l = h.0 in let m = h.1 in
    let some = b.ranks_most i (l, omega arith) in
    let root = (root_is a (omega arith)).turns i (l, omega arith) in
    let k = ranks_of_root (shift_count a i) s (subst (λ (x : Ranks). IsSpanOf (record { least = pos x.least; most = pos x.most }) s) root w) in
    let o = k.order in let p = k.most in let z = r.0 in
    turn_boxed a box b i _ l (omega arith) (omega (arith, ints)) (omega (arith, ints))
