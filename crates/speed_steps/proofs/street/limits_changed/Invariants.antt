use Rattle.std.proofs.Common.{◌≡◌, ◌*◌, ◌≤◌, take}
use Rattle.std.specs.Prelude.{sum_by}
use Rattle.speed_steps.specs.Moved.{link_changes}
use Rattle.speed_steps.proofs.street.limits_changed.Given as goal

abbrev pub invariant-loop-link : goal.invariant-loop-link
invariant-loop-link l = record {
  counted : l.count ≡ sum_by (link_changes l.way l.units) (take l.link-index l.link-items);
  few : l.count ≤ 4 * l.link-index;
}
