-- The leaf of an end, and the start leaf, as proofs that the checker of certificates accepts: where no operation of the sum leaves
-- 128 bits.
use Rattle.std.proofs.Common.{◌≡◌, inl, None, Some}
use Rattle.progression.specs.Street.{Street}
use Rattle.artery_model.specs.Valid.{IsValid}
use Rattle.linear_theory.specs.Boxes.{root_box}
use Rattle.loop_rows.specs.Weights.{leaf_fault}
use Rattle.certificate_checker.specs.Accepted.{IsProof}
use Rattle.branch_and_bound.specs.Lines.{BoxLine}
use Rattle.branch_and_bound.specs.Lineages.{Empty, IsOptimal}
use Rattle.branch_tree.specs.ArteryProgram.{program_of}
use Rattle.box_search.specs.Ends.{end_bound, end_leaf, ending_of}
use Rattle.branch_tree.specs.Starts.{start_leaf, start_bound}
use Rattle.branch_tree.proofs.StartLaws.{start_good}
use Rattle.branch_tree.proofs.StartFits.{start_fits}
use Rattle.branch_tree.specs.laws.BoxLaws.{ends_optimal, ends_infeasible}
use Rattle.branch_tree.proofs.LeafFaults.{proof_of}

module _ (a : Street) (line : BoxLine) (v : IsValid a) (f : leaf_fault a line.area (end_leaf (program_of a) line) ≡ None) where
  pub end_covers : IsOptimal (ending_of (program_of a) line) → IsProof a (Some (end_bound (program_of a) line)) line.area (end_leaf (program_of a) line)
  end_covers o = proof_of a (Some (end_bound (program_of a) line)) line.area (end_leaf (program_of a) line) f (inl (ends_optimal a line v o).covers)

  pub end_refutes : ending_of (program_of a) line ≡ Empty → IsProof a None line.area (end_leaf (program_of a) line)
  end_refutes e = proof_of a None line.area (end_leaf (program_of a) line) f (ends_infeasible a line v e).refutes

-- the start leaf always is one
pub start_covers : (a : Street) → IsValid a → IsProof a (Some (start_bound a)) (root_box a) (start_leaf a)
start_covers a v = proof_of a (Some (start_bound a)) (root_box a) (start_leaf a) (start_fits a v (root_box a)) (inl (start_good a v).covers)
