use Rattle.std.proofs.Common.{◌≡◌}
use Rattle.progression.specs.Columns.{numbered}
use Rattle.typed_plan.specs.Grid.{size}
use Rattle.typed_plan.specs.declared.times.Times.TheVariants.{Run}
use Rattle.typed_plan.proofs.least.runs.Given as goal

-- the runs so far
abbrev pub invariant-loop-place : goal.invariant-loop-place
invariant-loop-place l = l.runs.items ≡ numbered l.place 1 (size l.artery l.plan (Run l.dir))
