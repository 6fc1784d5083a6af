-- What plans are judged by.
use Rattle.std.specs.Prelude.{◌≡◌, ℕ, ◌+◌, ◌-◌, ◌*◌, ◌<◌, ◌^◌, ◌⊎◌, unsigned_abs}
use Rattle.rational_theory.specs.Rational.{ℚ, ◌+ℚ◌, ◌/ℚ◌, ◌<ℚ◌}
use Rattle.progression.specs.Street.{Street, least_band}
use Rattle.progression.specs.Speeds.{number}
use Rattle.progression.specs.TimingRecord.{TimingRecord, base, band}
use Rattle.progression.specs.BaseRecord.{cycle}
use Rattle.progression.specs.Lines.{IsGreenWay}
use Rattle.progression.specs.Best.{weighted_band}
use Rattle.progression.specs.declared.parts.Dir.{Dir}
use Rattle.progression.specs.declared.parts.Dir.TheVariants.{Outbound, Inbound}
use Rattle.whole_offsets.specs.declared.score.Score.{Score}

-- 0 where the direction's band is green all the way, else 1
abbrev pub IsLack : Street → TimingRecord → Dir → ℕ → Type 0
IsLack a p d n = (IsGreenWay a p d × (n ≡ 0)) ⊎ ((¬ IsGreenWay a p d) × (n ≡ 1))

-- In how many directions the plan's band isn't green all the way. Of the plan of given offsets these are the directions without a line: where
-- there is one, its band is that of a line, cut.
pub record AreWithoutLine (a : Street) (p : TimingRecord) (n : ℕ) : Type 0 where
  pub out : ℕ
  pub back : ℕ
  pub outbound : IsLack a p Outbound out
  pub inbound : IsLack a p Inbound back
  pub both : n ≡ out + back

-- by how much a band is narrower than it has to be: that many ticks over the denominator of its least width. Where it is no narrower the
-- difference of whole numbers is 0.
abbrev pub missed : Street → TimingRecord → Dir → ℕ
missed a p d = let least = least_band a d in unsigned_abs least.num * cycle a (base p) - band p d * least.den

-- as a part of the cycle
abbrev pub miss : Street → TimingRecord → Dir → ℚ
miss a p d = number (missed a p d) /ℚ number ((least_band a d).den * cycle a (base p))

pub record IsScore (a : Street) (p : TimingRecord) (s : Score) : Type 0 where
  pub lineless : AreWithoutLine a p s.lineless
  pub misses : s.misses ≡ miss a p Outbound +ℚ miss a p Inbound
  pub weighted : s.weighted ≡ weighted_band a p

-- the sizes of a timing's cycle and bands
pub record IsSmall (a : Street) (p : TimingRecord) : Type 0 where
  pub some : 0 < cycle a (base p)
  pub cycle : cycle a (base p) < 2 ^ 92
  pub band_out : p.band_out < 2 ^ 92
  pub band_in : p.band_in < 2 ^ 92

-- fewer directions that aren't green, then misses by less, then the greater weighted band
abbrev pub IsBetter : Score → Score → Type 0
IsBetter one other = (one.lineless < other.lineless) ⊎ ((one.lineless ≡ other.lineless)
    × ((one.misses <ℚ other.misses) ⊎ ((one.misses ≡ other.misses) × (other.weighted <ℚ one.weighted))))

-- the same of plans
pub record IsBetterPlan (a : Street) (p q : TimingRecord) : Type 0 where
  pub one : Score
  pub other : Score
  pub one_is : IsScore a p one
  pub other_is : IsScore a q other
  pub better : IsBetter one other
