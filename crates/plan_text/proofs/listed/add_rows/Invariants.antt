use Rattle.std.proofs.Common.{◌≡◌, drop}
use Rattle.plan_text.specs.Leaves.{with_rows}
use Rattle.plan_text.proofs.listed.add_rows.Given as goal

abbrev pub invariant-loop-weight : goal.invariant-loop-weight
invariant-loop-weight l = with_rows l.weights l.fn.rows.keys ≡ with_rows (drop l.weight-index l.weights) l.rows.keys
