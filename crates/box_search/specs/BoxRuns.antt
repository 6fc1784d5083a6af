-- What opening a line's box answers, by its run.
use Rattle.std.specs.Prelude.{◌≡◌, ℕ, List, Some, None}
use Rattle.linear_theory.specs.Boxes.{Area}
use Rattle.fraction_tableau.specs.NamedTableaus.{NamedTableau}
use Rattle.loop_rows.specs.declared.fault.SumFault.TheVariants as fault
use Rattle.named_row.specs.declared.leaves.Leaf.{Leaf}
use Rattle.named_row.specs.declared.leaves.Point.{Point}
use Rattle.named_row.specs.declared.leaves.Weight.{Weight}
use Rattle.rational_theory.specs.Rational.{ℚ}
use Rattle.search_box.specs.declared.span.At.{At}
use Rattle.simplex_theory.specs.Tableau.{Tableau, goal_bound}
use Rattle.dual_leaf.specs.Leaves.{goal_multipliers}
use Rattle.simplex_theory.specs.DualSteps.{IsPlaced}
use Rattle.program_builder.specs.ProgramTable.{ProgramTable}
use Rattle.branch_and_bound.specs.Lines.{BoxLine}
use Rattle.branch_and_bound.specs.Rules.{Rules}
use Rattle.branch_and_bound.specs.declared.opened.Opened.{Opened}
use Rattle.branch_and_bound.specs.declared.opened.Opened.TheVariants as opened
use Rattle.branch_and_bound.specs.Unfinished.{IsUnfinished}
use Rattle.branch_and_bound.specs.OpenedNodes.{OpensEmpty, OpensTimed, OpensCut, OpensStuck}
use Rattle.box_search.specs.declared.site.SitePart.{SitePart}
use Rattle.box_search.specs.declared.program.Read.{Read}
use Rattle.box_search.specs.declared.program.Read.TheVariants as reading
use Rattle.box_search.specs.declared.program.Summed.{Summed}
use Rattle.box_search.specs.declared.program.Summed.TheVariants as summed
use Rattle.box_search.specs.Program.{Program, Outcome, Refused, Splits, Gives}
use Rattle.box_search.specs.Ends.{leaf_row}

-- the rows, the columns and the goal of a program
abbrev pub table_of : {T W : Type 0} → Program T W → ProgramTable
table_of p = record { columns = p.columns; names = p.names; row = p.row; goal = p.goal }

-- ---- the sum of a leaf
-- its bound, where no operation of it is refused, or the first one that is
abbrev pub IsSummed : {T W : Type 0} → Program T W → Area → List Weight → Summed → Type 0
IsSummed p box ws (summed.Bound bound) = (p.leaf_fault box ws ≡ None) × (bound ≡ (leaf_row p box ws).bound)
IsSummed p box ws (summed.Wide row at) = p.leaf_fault box ws ≡ Some (fault.Wide row at)

-- the leaf and the bound of an optimal end's goal row, where no operation of the leaf's sum is refused
pub record IsCovering {T W : Type 0} (p : Program T W) (box : Area) (tableau : NamedTableau) (leaf : Leaf) (bound : ℚ) : Type 0 where
  pub leaf_is : leaf.multipliers.items ≡ goal_multipliers tableau
  pub fits : p.leaf_fault box leaf.multipliers.items ≡ None
  pub bound_is : bound ≡ goal_bound tableau.table

-- ---- what is answered
-- what is read off a vertex, as an outcome
abbrev pub outcome_by : {T : Type 0} → Read T → Outcome T SitePart
outcome_by (reading.Timing timing) = Gives timing
outcome_by (reading.SplitAt place) = Splits place
outcome_by (reading.Wide part) = Refused part

-- a split with what the tableau gives its parts to start from
abbrev pub IsCutBy : {T K W : Type 0} → (Tableau → K → Type 0) → NamedTableau → Leaf → ℚ → At → Point → Opened T K W → Type 0
IsCutBy {K = K} keeps tableau leaf bound place point answer = (kept : K) × (answer ≡ opened.Splits leaf bound place point kept) × (IsPlaced tableau.table → keeps tableau.table kept)

-- the line was left after k steps at a refused operation
abbrev pub IsWideAt : {T K W : Type 0} → Rules T K W → BoxLine → ℕ → ℕ → ℕ → W → Type 0
IsWideAt r line k pivots told part = IsUnfinished r line k × r.IsWide line k part × (told ≡ pivots)

-- at a last vertex; a refused operation of the vertex alone isn't told as one of the leaf's sum
abbrev pub IsReadEnd : {T K W : Type 0} → Rules T K W → BoxLine → ℕ → Opened T K W → Type 0
IsReadEnd r line pivots (opened.Infeasible leaf) = ⊥
IsReadEnd r line pivots (opened.Timed leaf bound timing) = OpensTimed r line leaf bound timing
IsReadEnd r line pivots (opened.Splits leaf bound place point kept) = OpensCut r line leaf bound place point kept
IsReadEnd r line pivots (opened.Unread leaf bound told part) = OpensStuck r line leaf bound told part
IsReadEnd r line pivots opened.WorkOut = ⊥
IsReadEnd r line pivots (opened.Wide told part) = IsWideAt r line (r.steps line) pivots told part

-- where the box is empty
abbrev pub IsEmptyEnd : {T K W : Type 0} → Rules T K W → BoxLine → ℕ → Opened T K W → Type 0
IsEmptyEnd r line pivots (opened.Infeasible leaf) = OpensEmpty r line leaf
IsEmptyEnd r line pivots (opened.Timed leaf bound timing) = ⊥
IsEmptyEnd r line pivots (opened.Splits leaf bound place point kept) = ⊥
IsEmptyEnd r line pivots (opened.Unread leaf bound told part) = ⊥
IsEmptyEnd r line pivots opened.WorkOut = ⊥
IsEmptyEnd r line pivots (opened.Wide told part) = IsWideAt r line (r.steps line) pivots told part

-- where a step's operation was refused
abbrev pub IsWideStep : {T K W : Type 0} → Rules T K W → BoxLine → ℕ → ℕ → Opened T K W → Type 0
IsWideStep r line k pivots (opened.Wide told part) = IsWideAt r line k pivots told part
IsWideStep r line k pivots _ = ⊥
