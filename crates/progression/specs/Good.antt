-- The rules of a good timing (Little 1966; Little, Kelson and Gartner 1981), read off the time-space diagram.
use Rattle.std.specs.Prelude.{◌≡◌, ℕ, ◌+◌, length, IsTrue, IfSome}
use Rattle.rational_theory.specs.Rational.{ℚ, ◌*ℚ◌, ◌-ℚ◌, ◌/ℚ◌, ◌≤ℚ◌}
use Rattle.progression.specs.Street.{Street, count, allows, HasSignal, HasLink, distance, least_band}
use Rattle.progression.specs.Speeds.{number, run_low, run_high, change}
use Rattle.progression.specs.BaseRecord.{BaseRecord, IsBaseRecord, cycle, pattern_of, run}
use Rattle.progression.specs.TimingRecord.{TimingRecord, base, band}
use Rattle.progression.specs.Lines.{IsGreenWay}
use Rattle.progression.specs.declared.parts.Pair.{Pair}
use Rattle.progression.specs.declared.parts.Dir.{Dir}
use Rattle.progression.specs.declared.parts.Dir.TheVariants.{Outbound, Inbound}

-- the pace on a link, in ticks per metre or per foot (no valid artery has a distance of 0), and how much it changes to the
-- link with the next number
abbrev pub pace : Street → BaseRecord → Dir → ℕ → ℚ
pace a b d i = number (run b d i) /ℚ number (distance a d i)

abbrev pub pace_change : Street → BaseRecord → Dir → ℕ → ℚ
pace_change a b d i = pace a b d (i + 1) -ℚ pace a b d i

-- The inbound band is at least k times the outbound one where k is below 1, and at most that where it is above.
abbrev pub RatioHolds : ℚ → ℕ → ℕ → Type 0
RatioHolds k out in_band = let rest = number 1 -ℚ k in (rest *ℚ (k *ℚ number out)) ≤ℚ (rest *ℚ number in_band)

-- The rules of a base, up to the changes of pace.
pub record IsBase (a : Street) (b : BaseRecord) : Type 0 where
  pub formed : IsBaseRecord b
  pub shape : length b.patterns ≡ count a
  pub patterns : (i : ℕ) → HasSignal a i → IsTrue (allows a i (pattern_of b i))
  pub cycle_least : (a.head.cycle.least *ℚ number b.grid) ≤ℚ number (cycle a b)
  pub cycle_most : number (cycle a b) ≤ℚ (a.head.cycle.most *ℚ number b.grid)
  pub fast : (d : Dir) (i : ℕ) → HasLink a i → (run_low a d i *ℚ number b.grid) ≤ℚ number (run b d i)
  pub slow : (d : Dir) (i : ℕ) → HasLink a i → number (run b d i) ≤ℚ (run_high a d i *ℚ number b.grid)
  pub rise : (d : Dir) (i : ℕ) → HasLink a i → HasLink a (i + 1) → IfSome (change a d i) (λ (c : Pair). pace_change a b d i ≤ℚ (c.most *ℚ number b.grid))
  pub drop : (d : Dir) (i : ℕ) → HasLink a i → HasLink a (i + 1) → IfSome (change a d i) (λ (c : Pair). (c.least *ℚ number b.grid) ≤ℚ pace_change a b d i)

-- A direction's band is at least as wide as the artery asks.
abbrev pub HasLeastBand : Street → TimingRecord → Dir → Type 0
HasLeastBand a t d = (least_band a d *ℚ number (cycle a (base t))) ≤ℚ number (band t d)

-- Both bands are equal where the artery asks so.
abbrev pub HasEqualBands : Street → TimingRecord → Type 0
HasEqualBands a t = IsTrue a.head.equal → t.band_out ≡ t.band_in

-- The rules of its base, then those of its bands: their ratio, the least of each, their equality, and that each is green all the way.
pub record Good (a : Street) (t : TimingRecord) : Type 0 where
  pub base : IsBase a (base t)
  pub ratio : RatioHolds a.head.ratio t.band_out t.band_in
  pub least : (d : Dir) → HasLeastBand a t d
  pub equal : HasEqualBands a t
  pub outbound : IsGreenWay a t Outbound
  pub inbound : IsGreenWay a t Inbound
