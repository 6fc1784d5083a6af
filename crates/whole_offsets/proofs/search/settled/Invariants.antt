use Rattle.whole_offsets.specs.Tried.{IsTried}
use Rattle.whole_offsets.specs.Score.{IsBetter}
use Rattle.whole_offsets.proofs.Rank.{rank}
use Rattle.whole_offsets.proofs.search.settled.Given as goal

abbrev pub invariant-loop-there : goal.invariant-loop-there
invariant-loop-there l = record {
  tried : IsTried l.artery l.base l.fn.first.rounded.seconds l.there;
  no_worse : ¬ IsBetter l.fn.first.score l.there.score;
}

abbrev pub decreases-loop-there : goal.decreases-loop-there
decreases-loop-there l = rank l.artery l.there.timing l.there.score.lineless
