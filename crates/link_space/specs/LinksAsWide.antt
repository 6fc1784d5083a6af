-- One band all the way is a band for each link as well, so that bands of links are worth no less.
use Rattle.std.specs.Prelude.{◌≡◌, ◌-◌}
use Rattle.rational_theory.specs.Rational.{◌*ℚ◌, ◌≤ℚ◌}
use Rattle.progression.specs.Street.{Street, count}
use Rattle.progression.specs.Speeds.{number}
use Rattle.progression.specs.TimingRecord.{TimingRecord}
use Rattle.progression.specs.Good.{Good}
use Rattle.progression.specs.Best.{weighted_band, Best}
use Rattle.artery_model.specs.Valid.{IsValid}
use Rattle.link_theory.specs.LinkRecord.{LinkRecord}
use Rattle.link_theory.specs.BestLinks.{link_value, BestLinks}
use Rattle.link_theory.specs.Plain.{plain}

pub record LinksAsWide : Type 0 where
  -- a best link timing is worth at least so many times the weighted band of any good timing as there are links
  pub as_wide : (a : Street) (t : LinkRecord) (s : TimingRecord) → IsValid a → BestLinks a t → Good a s → (number (count a - 1) *ℚ weighted_band a s) ≤ℚ link_value a t
  -- between two signals just the weighted band of a best timing, where neither least bands nor equal bands are asked for
  pub two_signals : (a : Street) (t : LinkRecord) (s : TimingRecord) → IsValid a → plain a ≡ a → count a ≡ 2 → BestLinks a t → Best a s → link_value a t ≡ weighted_band a s
