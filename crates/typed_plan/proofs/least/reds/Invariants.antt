use Rattle.std.proofs.Common.{◌≡◌, ◌<◌, ◌^◌}
use Rattle.std.specs.Prelude.{All}
use Rattle.progression.specs.Columns.{numbered}
use Rattle.typed_plan.specs.Grid.{red_tick}
use Rattle.typed_plan.proofs.least.reds.Given as goal

-- the reds so far
abbrev pub invariant-loop-place : goal.invariant-loop-place
invariant-loop-place l = record {
  value : l.reds.items ≡ numbered l.place 1 (red_tick l.artery l.plan);
  small : All (λ n. n < 2 ^ 80) l.reds.items;
}
