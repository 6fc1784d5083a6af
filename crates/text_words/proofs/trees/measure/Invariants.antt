use Rattle.std.proofs.Common.{◌≡◌, ◌+◌, map, take}
use Rattle.certificate_model.specs.Warrants.{node_of}
use Rattle.text_words.specs.Claims.{splits, leaves}
use Rattle.text_words.proofs.trees.measure.Given as goal

-- the nodes so far
abbrev pub invariant-loop-node : goal.invariant-loop-node
invariant-loop-node l =
    let before = map node_of (take l.node-index l.nodes) in
    (l.found.splits ≡ splits before) × (l.found.leaves ≡ leaves before) × (l.found.splits + l.found.leaves ≡ l.node-index)
