-- The ends of an artery's lines prove what a search wants of them.
use Rattle.std.proofs.Common.{◌≡◌, List, None, Some, refl, sym, subst}
use Rattle.progression.specs.Street.{Street}
use Rattle.artery_model.specs.Valid.{IsValid}
use Rattle.linear_theory.specs.Boxes.{Area, IsBoxOf}
use Rattle.recovery_theory.specs.Vertices.{IsVertex}
use Rattle.rational_theory.specs.Rational.{ℚ}
use Rattle.simplex_theory.specs.BlandRule.{optimal}
use Rattle.offset_recovery.specs.Recovered.{recovered}
use Rattle.branch_and_bound.specs.Lines.{BoxLine}
use Rattle.branch_tree.specs.ArteryProgram.{program_of}
use Rattle.branch_tree.specs.ArteryRules.{meaning_of}
use Rattle.box_search.specs.Ends.{end_move, end_point}
use Rattle.box_search.specs.Meaning.{EndsProve}
use Rattle.branch_tree.specs.laws.BoxLaws.{reads_good}
use Rattle.box_search.proofs.GivenTimings.{only_gives}
use Rattle.branch_tree.specs.laws.EndLaws.{optimal_end}
use Rattle.branch_tree.proofs.BoxProofs.{end_covers, end_refutes}
use Rattle.branch_tree.proofs.LeafFaults.{proof_free}

pub artery_ends_prove : (a : Street) → IsValid a → EndsProve (program_of a) (meaning_of a) (IsBoxOf a)
artery_ends_prove a v = record {
  covers = λ line leaf read f o. rw read (end_covers a line v f o);
  refutes = λ line leaf read f e. rw read (end_refutes a line v f e);
  covering_free = λ box leaf value h. proof_free a (Some value) box leaf.multipliers.items h;
  refuting_free = λ box leaf h. proof_free a None box leaf.multipliers.items h;
  reads_good = λ line timing b e g. reads_good a line v b timing e (only_gives (recovered a line.area (end_point (program_of a) line)) timing g);
  ratios_named = λ cell. refl;
  pivots_named = λ cell. refl;
  sums_named = λ row at. refl;
}

-- the vertex of an optimal end is a point of the box
pub end_vertex : (a : Street) (line : BoxLine) → IsValid a → (box : Area) (xs : List ℚ) → line.area ≡ box → end_move (program_of a) line ≡ optimal
    → xs ≡ end_point (program_of a) line → IsVertex a box xs
end_vertex a line v box xs e o x = subst (λ b. IsVertex a b xs) e (subst (IsVertex a line.area) (sym x) (optimal_end a line v o).vertex)
