-- What the ends of lines of boxes promise, as an outsider reads it.
use Rattle.std.specs.Prelude.{◌≡◌, ℕ, ◌<◌, ◌≤◌, List, [], ◌∷◌, Option, None, Some, map}
use Rattle.rational_theory.specs.Rational.{ℚ, ◌≤ℚ◌}
use Rattle.progression.specs.Street.{Street}
use Rattle.progression.specs.TimingRecord.{TimingRecord}
use Rattle.progression.specs.Good.{Good}
use Rattle.progression.specs.Best.{weighted_band}
use Rattle.artery_model.specs.Valid.{IsValid}
use Rattle.linear_theory.specs.Boxes.{IsBoxOf, root_box}
use Rattle.linear_theory.specs.Covering.{CoversGoal, RefutesAll}
use Rattle.linear_theory.specs.Trees.{leaf_sum, AreWeights}
use Rattle.named_row.specs.declared.names.RowId.{RowId}
use Rattle.named_row.specs.declared.wide_at.WideAt.{WideAt}
use Rattle.loop_rows.specs.Weights.{named, leaf_fault}
use Rattle.loop_rows.specs.declared.fault.SumFault.TheVariants as fault
use Rattle.dual_simplex.specs.declared.outcome.Step.TheVariants as steps
use Rattle.recovery_theory.specs.Vertices.{IsVertex, goal_at}
use Rattle.search_box.specs.declared.span.At.{At}
use Rattle.search_box.specs.Places.{IsPlace, low_part, high_part, AreParts}
use Rattle.offset_recovery.specs.declared.outcome.WideTiming.{WideTiming}
use Rattle.offset_recovery.specs.Outcomes.{Refused, Gives}
use Rattle.offset_recovery.specs.Recovered.{recovered}
use Rattle.certificate_checker.specs.Accepted.{IsProof, AreProofs}
use Rattle.simplex_theory.specs.Paths.{HaveSameBasics}
use Rattle.branch_and_bound.specs.Lines.{BoxLine, low_line, high_line}
use Rattle.branch_and_bound.specs.Answer.{IsAccepted}
use Rattle.branch_and_bound.specs.Enough.{IsShort}
use Rattle.branch_and_bound.specs.Lineages.{NoEnd, Empty, Reads, Cuts, IsOptimal}
use Rattle.branch_and_bound.specs.declared.node.TreeNode.{TreeNode}
use Rattle.branch_tree.specs.ArteryProgram.{program_of}
use Rattle.box_search.specs.Ends.{table_after, steps_of, end_point, end_bound, end_leaf, ending_of}
use Rattle.box_search.specs.declared.site.SitePart.{SitePart}
use Rattle.box_search.specs.declared.site.SitePart.TheVariants.{LeafSum, Timing}
use Rattle.box_search.specs.Sites.{step_at, IsReached, IsDue, IsWide}
use Rattle.branch_tree.specs.Starts.{start_leaf, start_bound}
use Rattle.branch_tree.specs.ArteryRules.{rules_of}
use Rattle.branch_tree.specs.Enough.{sets_of}
use Rattle.box_search.specs.Trees.{node_of}

-- the run of each line comes to an end, before it could have met every set of basic variables
pub record ComesToAnEnd (a : Street) (line : BoxLine) : Type 0 where
  pub few : steps_of (program_of a) line < sets_of a
  pub ends : ending_of (program_of a) line ≡ NoEnd → ⊥

-- an empty box: the leaf names rows of the artery with multipliers of at least 0, and their sum refutes
pub record IsRefuted (a : Street) (line : BoxLine) : Type 0 where
  pub rows : AreWeights a (map named (end_leaf (program_of a) line))
  pub refutes : RefutesAll a (leaf_sum a line.area (map named (end_leaf (program_of a) line)))

-- any other box: the vertex is a point of it, with the bound as its weighted band; no point of the box has a greater one, since
-- the leaf covers the goal, and its sum has just this bound
pub record IsBounded (a : Street) (line : BoxLine) : Type 0 where
  pub vertex : IsVertex a line.area (end_point (program_of a) line)
  pub goal : goal_at a (end_point (program_of a) line) ≡ end_bound (program_of a) line
  pub rows : AreWeights a (map named (end_leaf (program_of a) line))
  pub covers : CoversGoal a (end_bound (program_of a) line) (leaf_sum a line.area (map named (end_leaf (program_of a) line)))
  pub bound : (leaf_sum a line.area (map named (end_leaf (program_of a) line))).bound ≡ end_bound (program_of a) line
  pub greatest : (x : List ℚ) → IsVertex a line.area x → goal_at a x ≤ℚ end_bound (program_of a) line

-- a split: its place lies in the box, the parts are boxes that share its timings out, and no part has a greater bound
pub record IsShared (a : Street) (line : BoxLine) (place : At) : Type 0 where
  pub inside : IsPlace line.area place
  pub parts : AreParts a line.area (low_part line.area place) (high_part line.area place)
  pub low : IsOptimal (ending_of (program_of a) (low_line place line)) → end_bound (program_of a) (low_line place line) ≤ℚ end_bound (program_of a) line
  pub high : IsOptimal (ending_of (program_of a) (high_line place line)) → end_bound (program_of a) (high_line place line) ≤ℚ end_bound (program_of a) line

pub record BoxesEnd : Type 0 where
  pub comes : (a : Street) (line : BoxLine) → IsValid a → ComesToAnEnd a line
  pub empty : (a : Street) (line : BoxLine) → IsValid a → ending_of (program_of a) line ≡ Empty → IsRefuted a line
  pub bounded : (a : Street) (line : BoxLine) → IsValid a → IsOptimal (ending_of (program_of a) line) → IsBounded a line
  pub reads : (a : Street) (line : BoxLine) (t : TimingRecord) → IsValid a → IsBoxOf a line.area → ending_of (program_of a) line ≡ Reads → recovered a line.area (end_point (program_of a) line) ≡ Gives t → Good a t × (weighted_band a t ≡ end_bound (program_of a) line)
  pub cuts : (a : Street) (line : BoxLine) (place : At) → IsValid a → IsBoxOf a line.area → ending_of (program_of a) line ≡ Cuts place → IsShared a line place
  -- before the end and at it no set of basic variables comes twice
  pub no_basis_twice : (a : Street) (line : BoxLine) (i k : ℕ) → IsValid a → i < k → k ≤ steps_of (program_of a) line → HaveSameBasics (table_after (program_of a) line i) (table_after (program_of a) line k) → ⊥
  -- a run stops before its end where a step is due, and at one first refused operation at most
  pub due : (a : Street) (line : BoxLine) (k : ℕ) → IsValid a → IsDue (program_of a) line k → k < steps_of (program_of a) line
  pub stops : (a : Street) (line : BoxLine) (k m : ℕ) (p q : SitePart) → IsWide (program_of a) line k p → IsWide (program_of a) line m q → (k ≡ m) × (p ≡ q)
  -- at a last vertex the leaf is summed before the vertex is read: where both leave 128 bits the sum is the site
  pub sum : (a : Street) (line : BoxLine) (k : ℕ) (row : RowId) (at : WideAt) → IsReached (program_of a) line k → step_at (program_of a) line k ≡ steps.Optimal
      → leaf_fault a line.area (end_leaf (program_of a) line) ≡ Some (fault.Wide row at) → IsWide (program_of a) line k (LeafSum row at)
  pub vertex : (a : Street) (line : BoxLine) (k : ℕ) (wide : WideTiming) → IsReached (program_of a) line k → step_at (program_of a) line k ≡ steps.Optimal
      → leaf_fault a line.area (end_leaf (program_of a) line) ≡ None → recovered a line.area (end_point (program_of a) line) ≡ Refused wide → IsWide (program_of a) line k (Timing wide)
  -- so the units that a search of the artery needs are bounded, as `IsEnough` of the engine says
  pub short : (a : Street) → IsShort (rules_of a) (sets_of a)
  -- before any step the start leaf is a proof of its bound
  pub start : (a : Street) → IsValid a → IsProof a (Some (start_bound a)) (root_box a) (start_leaf a)

-- a tree that a search accepts is one that the checker of certificates accepts
abbrev pub TreesAreProofs : Type 0
TreesAreProofs = (a : Street) (claim : Option ℚ) (nodes : List TreeNode) → IsAccepted (rules_of a) claim nodes → AreProofs a claim (root_box a ∷ []) (map node_of nodes)
