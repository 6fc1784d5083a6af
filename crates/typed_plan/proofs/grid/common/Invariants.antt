use Rattle.std.proofs.Common.{◌≡◌, ◌<◌, ◌≤◌, ◌^◌}
use Rattle.std.specs.Prelude.{None, find, nat_le}
use Rattle.progression.specs.Columns.{numbered}
use Rattle.typed_plan.specs.Grid.{told, common}
use Rattle.typed_plan.proofs.grid.common.Given as goal

-- the multiple so far, and none on the way was too large
abbrev pub invariant-loop-place : goal.invariant-loop-place
invariant-loop-place l = record {
  value : l.ticks ≡ common l.artery l.plan l.times l.start l.place;
  above : 1 ≤ l.ticks;
  small : l.ticks < 2 ^ 80;
  none : find (λ n. nat_le (2 ^ 80) n) (numbered l.place 1 (λ k. told (common l.artery l.plan l.times l.start k))) ≡ None;
}
