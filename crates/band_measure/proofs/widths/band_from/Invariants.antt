use Rattle.std.proofs.Common.{◌≡◌, ◌*◌, ◌<◌, ◌≤◌, ◌^◌, ℕ, pos, unsigned_abs}
use Rattle.progression.specs.Street.{count}
use Rattle.progression.specs.BaseRecord.{cycle}
use Rattle.band_measure.specs.Edges.{way}
use Rattle.progression.specs.Lines.{IsGreenFrom}
use Rattle.band_measure.proofs.widths.band_from.Given as goal

-- the band is green at every signal so far, and no wider one is
abbrev pub invariant-loop-place : goal.invariant-loop-place
invariant-loop-place l = record {
  here : l.place < count l.artery → l.later ≡ way l.artery l.base l.dir l.place;
  near : unsigned_abs l.later ≤ l.place * 2 ^ 93;
  green : (k : ℕ) → k < l.place → IsGreenFrom l.artery l.base l.dir (pos l.first) l.band k;
  most : (b : ℕ) → b ≤ cycle l.artery l.base → ((k : ℕ) → k < l.place → IsGreenFrom l.artery l.base l.dir (pos l.first) b k) → b ≤ l.band;
}
