use Rattle.std.proofs.Common.{◌≡◌, ◌^◌}
use Rattle.std.specs.Prelude.{None, find, nat_le}
use Rattle.progression.specs.Columns.{numbered}
use Rattle.typed_plan.specs.Grid.{size}
use Rattle.typed_plan.specs.declared.times.Times.TheVariants.{Run}
use Rattle.typed_plan.proofs.grid.check_runs.Given as goal

-- none so far was too large
abbrev pub invariant-loop-place : goal.invariant-loop-place
invariant-loop-place l = find (λ n. nat_le (2 ^ 80) n) (numbered l.place 1 (size l.artery l.plan (Run l.dir))) ≡ None
