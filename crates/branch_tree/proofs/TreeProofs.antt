-- The tree of a search of an artery is one that the checker of certificates accepts.
use Rattle.std.proofs.Common.{inl, inr, Option, Some, None}
use Rattle.rational_theory.specs.Rational.{ℚ}
use Rattle.progression.specs.Street.{Street}
use Rattle.linear_theory.specs.Boxes.{Area}
use Rattle.named_row.specs.declared.leaves.Leaf.{Leaf}
use Rattle.certificate_checker.specs.Accepted.{IsProof}
use Rattle.branch_and_bound.specs.Answer as engine
use Rattle.branch_tree.specs.ArteryRules.{rules_of}
use Rattle.branch_tree.specs.Promises.{TreesAreProofs}
use Rattle.box_search.proofs.TreeProofs.{trees_proven}

-- a leaf of the search is a proof
pub leaf_proof : (a : Street) (claim : Option ℚ) (box : Area) (leaf : Leaf) → engine.IsProof (rules_of a) claim box leaf → IsProof a claim box leaf.multipliers.items
leaf_proof a None box leaf h = h
leaf_proof a (Some value) box leaf (inl h) = record { rows = h.rows; fits = h.fits; shows = inr h.shows }
leaf_proof a (Some value) box leaf (inr h) = h

pub accepted_proofs : TreesAreProofs
accepted_proofs = λ a claim nodes h. trees_proven (rules_of a) (IsProof a) (leaf_proof a) claim nodes h
