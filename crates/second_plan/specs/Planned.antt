-- The plan of a base, and what it promises.
use Rattle.std.specs.Prelude.{◌≡◌, ℕ, List, None, pos}
use Rattle.rational_theory.specs.Rational.{ℚ, ◌-ℚ◌, ◌≤ℚ◌}
use Rattle.narrow_fraction.specs.Past128.{Fits128}
use Rattle.narrow_fraction.specs.declared.wide.Op.TheVariants.{Sub}
use Rattle.progression.specs.Street.{Street}
use Rattle.progression.specs.BaseRecord.{BaseRecord}
use Rattle.progression.specs.TimingRecord.{TimingRecord, base, banded}
use Rattle.progression.specs.Good.{Good}
use Rattle.progression.specs.Best.{weighted_band}
use Rattle.progression.specs.declared.parts.Dir.TheVariants.{Outbound, Inbound}
use Rattle.band_measure.specs.Widest.{IsWidest}
use Rattle.band_measure.specs.declared.pair.Widest.{Widest}
use Rattle.second_plan.specs.Seconds.{IsSeconds, AreOffsets}
use Rattle.second_plan.specs.Grid.{in_seconds, too_fine}
use Rattle.band_measure.specs.Cut.{IsCut}
use Rattle.second_plan.specs.declared.answer.Plan.{Plan as Answer}
use Rattle.band_measure.specs.declared.bands.Bands.{Bands}

-- the seconds and the offsets of a base, on a grid whose numbers a timing can hold
pub record AreWhole (a : Street) (b : BaseRecord) (k : ℕ) (offsets : List ℕ) : Type 0 where
  pub seconds : IsSeconds a b k
  pub fine : too_fine a b k ≡ None
  pub rounded : AreOffsets a b k offsets

-- the widest pairs of these offsets, their bands cut
pub record IsPlanned (a : Street) (b : BaseRecord) (k : ℕ) (offsets : List ℕ) (p : TimingRecord) : Type 0 where
  pub whole : AreWhole a b k offsets
  pub there : Widest
  pub back : Widest
  pub bands : Bands
  pub widest_out : IsWidest a (in_seconds a b k offsets) Outbound there.first there.band
  pub widest_in : IsWidest a (in_seconds a b k offsets) Inbound back.first back.band
  pub cut : IsCut a (record { outbound = there.band; inbound = back.band }) bands
  pub timing : p ≡ banded (pos there.first) bands.outbound (pos back.first) bands.inbound (in_seconds a b k offsets)

-- the plan of a base that is to be as good as a claim
pub record IsAnswer (a : Street) (claim : ℚ) (b : BaseRecord) (p : Answer) : Type 0 where
  pub planned : IsPlanned a b p.seconds p.offsets.items p.timing
  pub good : Good a p.timing
  pub fits : Fits128 Sub claim (weighted_band a p.timing)
  pub loss : p.loss ≡ claim -ℚ weighted_band a p.timing

-- no good timing of its base has a greater weighted band
abbrev pub IsBestOfOffsets : Street → TimingRecord → Type 0
IsBestOfOffsets a p = (s : TimingRecord) → base s ≡ base p → Good a s → weighted_band a s ≤ℚ weighted_band a p
