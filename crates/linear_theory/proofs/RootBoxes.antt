-- The root box has the root's spans, and is a box of its artery where each signal allows a pattern.
use Rattle.std.proofs.Common.{ℕ, ◌-◌, ◌<◌, ◌≤◌, inl, ◌∙◌, ap, arith}
use Rattle.progression.specs.Street.{Street, count, HasSignal}
use Rattle.linear_theory.specs.Shifts.{shift_count}
use Rattle.linear_theory.specs.Boxes.{Area, IsBoxOf, IsRoot, root_box, root_span, root_ranks, no_span, no_ranks}
use Rattle.linear_theory.proofs.Points.{length-numbered, get-numbered}

-- where each signal has one, the root is a box of the artery
pub root_boxed : (a : Street) (box : Area) → ((i : ℕ) → HasSignal a i → 0 < shift_count a i) → IsRoot a box → IsBoxOf a box
root_boxed a box s r = record {
  loops_count = r.loops_count;
  turns_count = r.turns_count;
  spans = λ i k. inl (r.loops i k);
  ranks_order = λ i k. rw (r.turns i k) (omega arith);
  ranks_most = λ i k. let q = s i k in rw (r.turns i k) (omega arith);
}

-- the root box has the root's spans
pub root_is : (a : Street) → 1 ≤ count a → IsRoot a (root_box a)
root_is a h = record {
  loops_count = let e = length-numbered (count a - 1) 1 (root_span a) in omega arith;
  turns_count = length-numbered (count a) 1 (root_ranks a);
  loops = λ i k. let l = k.0 in let m = k.1 in get-numbered (count a - 1) 1 (i - 1) (root_span a) no_span (omega arith) ∙ ap (root_span a) (omega arith);
  turns = λ i k. let l = k.0 in let m = k.1 in get-numbered (count a) 1 (i - 1) (root_ranks a) no_ranks (omega arith) ∙ ap (root_ranks a) (omega arith);
}
