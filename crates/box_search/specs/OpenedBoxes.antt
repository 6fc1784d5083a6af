-- What opening a box answers of each line that leads to it, by the run of its steps.
use Rattle.std.specs.Prelude.{◌≡◌, ℕ, ◌<◌, Bool}
use Rattle.linear_theory.specs.Boxes.{Area}
use Rattle.fraction_tableau.specs.NamedTableaus.{NamedTableau}
use Rattle.fraction_tableau.specs.declared.wide_cell.WideCell.{WideCell}
use Rattle.dual_simplex.specs.declared.outcome.NodeEnd.{NodeEnd}
use Rattle.dual_simplex.specs.declared.outcome.Step.TheVariants as steps
use Rattle.work_meter.specs.declared.meter.Meter.{Meter}
use Rattle.work_meter.specs.Work.{capped}
use Rattle.branch_and_bound.specs.Lines.{BoxLine}
use Rattle.branch_and_bound.specs.OpenedNodes.{Opens}
use Rattle.branch_and_bound.specs.declared.opened.Opened.{Opened}
use Rattle.box_search.specs.Program.{Program}
use Rattle.box_search.specs.Ends.{steps_of, named_first}
use Rattle.box_search.specs.Sites.{IsReached, step_at}
use Rattle.box_search.specs.Runs.{IsOptimalRun, IsInfeasibleRun, IsRun}
use Rattle.box_search.specs.Meaning.{Meaning, rules_from}
use Rattle.box_search.specs.BoxRuns.{IsReadEnd, IsEmptyEnd, IsWideStep}

-- at an optimal end, after so many pivots
abbrev pub IsReadOff : {T K W : Type 0} (p : Program T W) → Meaning K p → Area → NamedTableau → ℕ → Opened T K W → Type 0
IsReadOff p m box tableau pivots opened =
    (line : BoxLine) → line.area ≡ box → IsOptimalRun p line tableau → pivots ≡ capped (steps_of p line) → IsReadEnd (rules_from p m) line pivots opened

-- where this row shows that the box is empty
abbrev pub IsEmptyOff : {T K W : Type 0} (p : Program T W) → Meaning K p → Area → NamedTableau → ℕ → ℕ → Opened T K W → Type 0
IsEmptyOff p m box tableau row pivots opened = (line : BoxLine) → line.area ≡ box → IsInfeasibleRun p line tableau row → IsEmptyEnd (rules_from p m) line pivots opened

-- where an operation of a step was refused, in a ratio or in the pivot
abbrev pub IsWideOff : {T K W : Type 0} (p : Program T W) → Meaning K p → Bool → WideCell → ℕ → Opened T K W → Type 0
IsWideOff p m ratio cell pivots opened =
    (line : BoxLine) (k : ℕ) → k < steps_of p line → IsReached p line k → step_at p line k ≡ steps.Wide ratio cell → IsWideStep (rules_from p m) line k pivots opened

-- at the end of any run, and from the first tableau on
abbrev pub IsOpenedBy : {T K W : Type 0} (p : Program T W) → Meaning K p → Area → NamedTableau → NodeEnd → ℕ → Opened T K W → Type 0
IsOpenedBy p m box tableau end pivots opened =
    (line : BoxLine) (before after : Meter) → line.area ≡ box → IsRun p line tableau before after end pivots → Opens (rules_from p m) line before after opened

abbrev pub IsOpened : {T K W : Type 0} (p : Program T W) → Meaning K p → Area → NamedTableau → Meter → Meter → Opened T K W → Type 0
IsOpened p m box first before after opened = (line : BoxLine) → line.area ≡ box → first ≡ named_first p line → Opens (rules_from p m) line before after opened
