use Rattle.std.proofs.Common.{◌≡◌, ◌≤◌, [], ◌∷◌, length, map, drop, All}
use Rattle.certificate_model.specs.Warrants.{node_of, AreTrees}
use Rattle.certificate_checker.proofs.NodeRefusals.{refusal_left}
use Rattle.certificate_checker.proofs.walk.check_tree.Given as goal

-- the nodes that are left
abbrev pub invariant-loop-index : goal.invariant-loop-index
invariant-loop-index g l = record {
  whole : refusal_left (g.K.CheckedKind.kind l.kind) l.aim 0 0 (l.fn.root ∷ []) (map node_of l.fn.nodes)
      ≡ refusal_left (g.K.CheckedKind.kind l.kind) l.aim l.index l.walk.leaves l.walk.owed (map node_of (drop l.index l.fn.nodes));
  trees : AreTrees (length l.walk.owed) (map node_of (drop l.index l.fn.nodes));
  ready : All (g.K.CheckedKind.Ready l.kind) l.walk.owed;
  leaves : l.walk.leaves ≤ l.index;
}
