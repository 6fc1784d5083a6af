-- Where the run of a line by Bland's rule of 1977 may stop: a pivot is due, or an operation leaves 128 bits.
use Rattle.std.specs.Prelude.{◌≡◌, ℕ, ◌<◌, Bool, true, false, Option, Some, None}
use Rattle.narrow_fraction.specs.Attempt.{earlier}
use Rattle.simplex_theory.specs.BlandRule.{move}
use Rattle.simplex_theory.specs.StepCounts.{is_pivot}
use Rattle.dual_simplex.specs.declared.outcome.Step.{Step}
use Rattle.dual_simplex.specs.declared.outcome.Step.TheVariants.{Optimal, Infeasible, Pivoted, Wide}
use Rattle.dual_simplex.specs.Steps.{step_of}
use Rattle.loop_rows.specs.declared.fault.SumFault.{SumFault}
use Rattle.loop_rows.specs.declared.fault.SumFault.TheVariants as fault
use Rattle.branch_and_bound.specs.Lines.{BoxLine}
use Rattle.box_search.specs.Program.{Program, Outcome, Refused, Splits, Gives}
use Rattle.box_search.specs.Ends.{table_after, end_leaf, end_point}

-- the step at a tableau of a line's run
abbrev pub step_at : {T W : Type 0} → Program T W → BoxLine → ℕ → Step
step_at p line k = step_of (table_after p line k)

-- it is a pivot, and no operation of it is refused
abbrev pub is_made : Step → Bool
is_made Optimal = false
is_made (Infeasible r) = false
is_made (Pivoted r j) = true
is_made (Wide in_ratio w) = false

-- the first refused operation of the sum of the end's leaf, and of what its vertex becomes
abbrev pub sum_refusal : {T W : Type 0} → Program T W → Option SumFault → Option W
sum_refusal p (Some (fault.Wide row at)) = Some (p.sum_part row at)
sum_refusal p _ = None

abbrev pub vertex_refusal : {T W : Type 0} → Outcome T W → Option W
vertex_refusal (Refused wide) = Some wide
vertex_refusal (Splits place) = None
vertex_refusal (Gives timing) = None

abbrev pub leaf_refusal : {T W : Type 0} → Program T W → BoxLine → Option W
leaf_refusal p line = sum_refusal p (p.leaf_fault line.area (end_leaf p line))

-- the first refused operation at a step: of its ratios, then of its pivot; at an end of the leaf's sum, then of the vertex
abbrev pub refusal_by : {T W : Type 0} → Program T W → BoxLine → Step → Option W
refusal_by p line Optimal = earlier (leaf_refusal p line) (vertex_refusal (p.outcome line.area (end_point p line)))
refusal_by p line (Infeasible r) = leaf_refusal p line
refusal_by p line (Pivoted r j) = None
refusal_by p line (Wide true w) = Some (p.ratio_part w)
refusal_by p line (Wide false w) = Some (p.pivot_part w)

unfoldable pub refusal_at : {T W : Type 0} → Program T W → BoxLine → ℕ → Option W
refusal_at p line k = refusal_by p line (step_at p line k)

-- k steps were made, and no operation of them was refused
pub record IsReached {T W : Type 0} (p : Program T W) (line : BoxLine) (k : ℕ) : Type 0 where
  pub made : (i : ℕ) → i < k → is_made (step_at p line i) ≡ true

-- the run stopped after k steps: another one was due, or this operation was the first that was refused
pub record IsDue {T W : Type 0} (p : Program T W) (line : BoxLine) (k : ℕ) : Type 0 where
  pub reached : IsReached p line k
  pub due : is_pivot (move (table_after p line k)) ≡ true

pub record IsWide {T W : Type 0} (p : Program T W) (line : BoxLine) (k : ℕ) (part : W) : Type 0 where
  pub reached : IsReached p line k
  pub refused : refusal_at p line k ≡ Some part
