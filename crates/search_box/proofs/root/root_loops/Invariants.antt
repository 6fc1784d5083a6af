use Rattle.std.proofs.Common.{◌≡◌, ◌-◌, map}
use Rattle.progression.specs.Columns.{numbered}
use Rattle.linear_theory.specs.Boxes.{root_span}
use Rattle.search_box.specs.Seen.{span_of}
use Rattle.search_box.proofs.root.root_loops.Given as goal

-- those of the links so far
abbrev pub invariant-loop-link : goal.invariant-loop-link
invariant-loop-link l = map span_of l.loops.items ≡ numbered (l.link - 1) 1 (root_span l.artery)
