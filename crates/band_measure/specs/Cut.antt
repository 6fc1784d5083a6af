-- Bands that are cut so that they keep the ratio, or are equal.
use Rattle.std.specs.Prelude.{◌≡◌, ℕ, min, unsigned_abs, ◌⊎◌, IsTrue, false}
use Rattle.rational_theory.specs.Rational.{ℚ, ◌*ℚ◌, ◌/ℚ◌, ◌<ℚ◌}
use Rattle.rational_theory.specs.Floor.{floor_ℚ}
use Rattle.progression.specs.Street.{Street}
use Rattle.progression.specs.Speeds.{number}
use Rattle.band_measure.specs.declared.bands.Bands.{Bands}

-- the greatest whole number that is not above x, for an x of at least 0
abbrev pub whole_part : ℚ → ℕ
whole_part x = unsigned_abs (floor_ℚ x)

-- Below 1 the outbound band may be wider than the ratio k allows, and above 1 the inbound one.
pub record IsCutByRatio (k : ℚ) (wide narrow : Bands) : Type 0 where
  pub below : number 0 <ℚ k → k <ℚ number 1 → narrow ≡ record { outbound = min wide.outbound (whole_part (number wide.inbound /ℚ k)); inbound = wide.inbound }
  pub above : number 1 <ℚ k → narrow ≡ record { outbound = wide.outbound; inbound = min wide.inbound (whole_part (k *ℚ number wide.outbound)) }
  pub else : (k ≡ number 0) ⊎ (k ≡ number 1) → narrow ≡ wide

pub record IsCut (a : Street) (wide narrow : Bands) : Type 0 where
  pub equal : IsTrue a.head.equal → narrow ≡ record { outbound = min wide.outbound wide.inbound; inbound = min wide.outbound wide.inbound }
  pub ratio : a.head.equal ≡ false → IsCutByRatio a.head.ratio wide narrow
