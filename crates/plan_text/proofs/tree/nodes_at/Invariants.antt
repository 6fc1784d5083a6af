use Rattle.std.proofs.Common.{length}
use Rattle.plan_text.specs.Namings.{naming_of}
use Rattle.plan_text.proofs.NodeLoop.{IsOnTheWay}
use Rattle.plan_text.proofs.tree.nodes_at.Given as goal

-- the nodes so far and those of the rest are all
abbrev pub invariant-trees : goal.invariant-trees
invariant-trees l = IsOnTheWay (naming_of l.names) l.nodes.items l.owed l.line l.rest l.fn.line l.bytes

abbrev pub decreases-trees : goal.decreases-trees
decreases-trees l = length l.rest
