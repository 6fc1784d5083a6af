use Rattle.std.proofs.Common.{◌≡◌, ◌*◌, ◌<◌, ◌≤◌, ◌^◌, unsigned_abs}
use Rattle.progression.specs.Street.{count}
use Rattle.band_measure.specs.Edges.{way}
use Rattle.band_measure.specs.Tried.{FoundOfEdges}
use Rattle.band_measure.proofs.measure.widest_on.Given as goal

-- what is held is the best of the edges so far
abbrev pub invariant-loop-place : goal.invariant-loop-place
invariant-loop-place l = record {
  here : l.place < count l.artery → l.later ≡ way l.artery l.base l.dir l.place;
  near : unsigned_abs l.later ≤ l.place * 2 ^ 93;
  best : FoundOfEdges l.artery l.base l.dir l.place l.best;
}
