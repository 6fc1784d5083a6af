use Rattle.std.proofs.Common.{◌≡◌, ◌++◌, map, take, All}
use Rattle.plan_text.specs.Spelling.{ended}
use Rattle.plan_text.specs.CertificateText.{IsHeldWeight}
use Rattle.plan_text.specs.Namings.{naming_of, weight_line}
use Rattle.plan_text.proofs.tree_writing.push_weights.Given as goal

abbrev pub invariant-loop-weight : goal.invariant-loop-weight
invariant-loop-weight l = record {
  text : l.out.items ≡ l.fn.out.items ++ ended (map (weight_line (naming_of l.names) l.form) (take l.weight-index l.weights));
  held : All IsHeldWeight (take l.weight-index l.weights);
}
