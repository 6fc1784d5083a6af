-- The tree of a search is one that the checker of certificates accepts.
use Rattle.std.proofs.Common.{List, [], ◌∷◌, map, Option}
use Rattle.rational_theory.specs.Rational.{ℚ}
use Rattle.linear_theory.specs.Boxes.{Area}
use Rattle.named_row.specs.declared.leaves.Leaf.{Leaf}
use Rattle.named_row.specs.declared.leaves.Weight.{Weight}
use Rattle.certificate_checker.specs.TreeProofs.{ProveAll}
use Rattle.branch_and_bound.specs.declared.node.TreeNode.{TreeNode}
use Rattle.branch_and_bound.specs.Answer as engine
use Rattle.branch_and_bound.specs.Rules.{Rules}
use Rattle.branch_and_bound.proofs.Readings.{ReadsAnswers, accepted_read}
use Rattle.box_search.specs.Trees.{node_of}

-- ---- of any rules whose leaves are proofs: the checker reads the tree as the search left it
module _ {T K W : Type 0} (r : Rules T K W) (IsLeafProof : Option ℚ → Area → List Weight → Type 0)
    (proved : (claim : Option ℚ) (box : Area) (leaf : Leaf) → engine.IsProof r claim box leaf → IsLeafProof claim box leaf.multipliers.items) where
  reads : (claim : Option ℚ) → ReadsAnswers r claim (λ boxes nodes. ProveAll (IsLeafProof claim) boxes (map node_of nodes))
  reads claim = record {
    none = tt;
    split = λ box boxes place point nodes p q. (p, q);
    closed = λ box boxes leaf nodes p q. (proved claim box leaf p, q);
    waiting = λ box boxes leaf nodes p q. (proved claim box leaf p, q);
  }

  pub trees_proven : (claim : Option ℚ) (nodes : List TreeNode) → engine.IsAccepted r claim nodes → ProveAll (IsLeafProof claim) (r.root ∷ []) (map node_of nodes)
  trees_proven claim nodes h = accepted_read r claim (λ boxes ns. ProveAll (IsLeafProof claim) boxes (map node_of ns)) (reads claim) nodes h
