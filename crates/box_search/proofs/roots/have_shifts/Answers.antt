use Rattle.std.proofs.Common.{◌≤◌, inl, inr, sym, subst, arith}
use Rattle.std.proofs.lemmas.Bool.{cases_eq}
use Rattle.linear_theory.specs.Shifts.{shift_count}
use Rattle.box_search.proofs.roots.have_shifts.Goals as goal

pub loop-signal-preserved : goal.loop-signal-preserved
loop-signal-preserved c = record {
  some = λ i h k. elim (cases_eq i c.loop-signal.signal) [
    | inl e ↦ let v = c.shift_count.ensures.value in let l = c.shift_count.ensures.least in subst (λ j. 1 ≤ shift_count c.args.artery.now j) (sym e) (omega arith)
    | inr n ↦ c.loop-signal.invariant.some i h (omega arith)
  ];
}
