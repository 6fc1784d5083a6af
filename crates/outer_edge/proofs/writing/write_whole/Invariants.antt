use Rattle.std.proofs.Common.{◌≡◌, ◌+◌, ◌-◌, ◌≤◌, length, take}
use Rattle.outer_edge.specs.Taken.{Appends}
use Rattle.outer_edge.proofs.writing.write_whole.Given as goal

-- the front of the bytes was appended, and the room fell by no more
abbrev pub invariant-loop-done : goal.invariant-loop-done
invariant-loop-done g l = record {
  front : Appends (g.K.Sink.taken l.initial.out) (g.K.Sink.taken l.out) (take l.done l.bytes);
  within : l.done ≤ length l.bytes;
  room : g.K.Sink.room l.initial.out ≤ g.K.Sink.room l.out + l.done;
  faults : g.K.Sink.faults l.out ≡ g.K.Sink.faults l.initial.out;
}

abbrev pub decreases-loop-done : goal.decreases-loop-done
decreases-loop-done g l = length l.bytes - l.done
