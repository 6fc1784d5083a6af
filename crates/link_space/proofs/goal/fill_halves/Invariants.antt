use Rattle.std.proofs.Common.{◌≡◌, ◌-◌, length}
use Rattle.progression.specs.Street.{count}
use Rattle.link_theory.specs.LinkColumns.{link_width, half_place}
use Rattle.link_space.specs.LinkSheets.{with_run}
use Rattle.link_space.proofs.goal.fill_halves.Given as goal

-- the halves so far
abbrev pub invariant-loop-link : goal.invariant-loop-link
invariant-loop-link l = record {
  value : l.into ≡ with_run (half_place (count l.artery) l.dir 1) (l.link - 1) l.value l.initial.into;
  width : length l.into.coefs ≡ link_width (count l.artery);
}
