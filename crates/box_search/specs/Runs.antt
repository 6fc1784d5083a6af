-- What the steps of a line come to, and what is read off its end.
use Rattle.std.specs.Prelude.{◌≡◌, ℕ, ◌<◌}
use Rattle.linear_theory.specs.Boxes.{Area}
use Rattle.named_row.specs.declared.leaves.Leaf.{Leaf}
use Rattle.named_row.specs.declared.leaves.Point.{Point}
use Rattle.simplex_theory.specs.BlandRule.{optimal, infeasible}
use Rattle.fraction_tableau.specs.NamedTableaus.{NamedTableau}
use Rattle.dual_simplex.specs.declared.outcome.Step.TheVariants as steps
use Rattle.dual_simplex.specs.declared.outcome.NodeEnd.{NodeEnd}
use Rattle.dual_simplex.specs.declared.outcome.NodeEnd.TheVariants.{Optimal, Infeasible, WorkOut, Wide}
use Rattle.work_meter.specs.declared.meter.Meter.{Meter}
use Rattle.work_meter.specs.Work.{capped, IsSpent}
use Rattle.branch_and_bound.specs.Lines.{BoxLine}
use Rattle.branch_and_bound.specs.OpenedNodes.{Leaves}
use Rattle.box_search.specs.Program.{Program}
use Rattle.box_search.specs.Ends.{steps_of, end_move, end_leaf, end_point, named_first, named_last}
use Rattle.box_search.specs.Sites.{step_at, IsReached, IsDue}

-- all steps of the line were made, and the tableau is the last one
pub record IsOptimalRun {T W : Type 0} (p : Program T W) (line : BoxLine) (tableau : NamedTableau) : Type 0 where
  pub reached : IsReached p line (steps_of p line)
  pub step : step_at p line (steps_of p line) ≡ steps.Optimal
  pub move_is : end_move p line ≡ optimal
  pub tableau_is : tableau ≡ named_last p line

pub record IsInfeasibleRun {T W : Type 0} (p : Program T W) (line : BoxLine) (tableau : NamedTableau) (row : ℕ) : Type 0 where
  pub reached : IsReached p line (steps_of p line)
  pub step : step_at p line (steps_of p line) ≡ steps.Infeasible row
  pub move_is : end_move p line ≡ infeasible row
  pub tableau_is : tableau ≡ named_last p line

-- where the run of a line stopped after k steps, by its end: at the line's end, or before it, where a step is due or was refused
abbrev pub IsRunTo : {T W : Type 0} → Program T W → BoxLine → NamedTableau → Meter → ℕ → NodeEnd → Type 0
IsRunTo p line tableau after k Optimal = (k ≡ steps_of p line) × IsOptimalRun p line tableau
IsRunTo p line tableau after k (Infeasible row) = (k ≡ steps_of p line) × IsInfeasibleRun p line tableau row
IsRunTo p line tableau after k WorkOut = (k < steps_of p line) × IsDue p line k × IsSpent after
IsRunTo p line tableau after k (Wide in_ratio cell) = (k < steps_of p line) × IsReached p line k × (step_at p line k ≡ steps.Wide in_ratio cell)

-- the line's box took a unit, and each of its steps another
pub record IsRun {T W : Type 0} (p : Program T W) (line : BoxLine) (tableau : NamedTableau) (before after : Meter) (end : NodeEnd) (pivots : ℕ) : Type 0 where
  pub k : ℕ
  pub leaves : Leaves before after k
  pub pivots_are : pivots ≡ capped k
  pub stops : IsRunTo p line tableau after k end

-- ---- some line to the box
-- has the tableau as its first one; had a run that ended so; or comes to this optimal end, or to an infeasible one at this row
abbrev pub HasFirst : {T W : Type 0} → Program T W → Area → NamedTableau → Type 0
HasFirst p box tableau = (line : BoxLine) × (line.area ≡ box) × (tableau ≡ named_first p line)

abbrev pub HasRun : {T W : Type 0} → Program T W → Area → NamedTableau → NodeEnd → ℕ → Type 0
HasRun p box tableau end pivots = (line : BoxLine) × (before after : Meter) × (line.area ≡ box) × IsRun p line tableau before after end pivots

abbrev pub HasOptimalRun : {T W : Type 0} → Program T W → Area → NamedTableau → Type 0
HasOptimalRun p box tableau = (line : BoxLine) × (line.area ≡ box) × IsOptimalRun p line tableau

abbrev pub HasInfeasibleRun : {T W : Type 0} → Program T W → Area → NamedTableau → ℕ → Type 0
HasInfeasibleRun p box tableau row = (line : BoxLine) × (line.area ≡ box) × IsInfeasibleRun p line tableau row

-- ---- what is read off the end
abbrev pub IsEndLeaf : {T W : Type 0} → Program T W → BoxLine → Leaf → Type 0
IsEndLeaf p line leaf = leaf.multipliers.items ≡ end_leaf p line

abbrev pub IsEndPoint : {T W : Type 0} → Program T W → BoxLine → Point → Type 0
IsEndPoint p line point = point.values.items ≡ end_point p line
