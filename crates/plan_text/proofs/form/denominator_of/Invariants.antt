use Rattle.std.proofs.Common.{◌≡◌, ◌<◌, ◌^◌, drop}
use Rattle.plan_text.specs.Leaves.{denominator_of, denominator_from}
use Rattle.plan_text.proofs.form.denominator_of.Given as goal

abbrev pub invariant-loop-weight : goal.invariant-loop-weight
invariant-loop-weight l = record {
  above : 0 < l.denominator;
  small : l.denominator < 2 ^ 127;
  rest : denominator_of l.weights ≡ denominator_from l.denominator (drop l.weight-index l.weights);
}
