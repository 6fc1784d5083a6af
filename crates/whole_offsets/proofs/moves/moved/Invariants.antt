use Rattle.whole_offsets.proofs.Pushes.{AreMoved}
use Rattle.whole_offsets.proofs.moves.moved.Given as goal

abbrev pub invariant-loop-place : goal.invariant-loop-place
invariant-loop-place l = AreMoved l.rounded.seconds l.rounded.offsets.items l.given l.offsets.items l.place
