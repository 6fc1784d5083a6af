use Rattle.std.proofs.Common.{◌≡◌, drop, map}
use Rattle.certificate_model.specs.Warrants.{node_of}
use Rattle.plan_text.specs.Leaves.{rows_of, rows_from}
use Rattle.plan_text.proofs.listed.rows_of.Given as goal

abbrev pub invariant-loop-node : goal.invariant-loop-node
invariant-loop-node l = rows_of (map node_of l.nodes) ≡ rows_from l.rows.keys (map node_of (drop l.node-index l.nodes))
