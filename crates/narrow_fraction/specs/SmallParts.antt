-- Numbers of few bits.
use Rattle.std.specs.Prelude.{◌<◌, ◌^◌, unsigned_abs}
use Rattle.narrow_fraction.specs.declared.differences.SmallParts.{SmallParts}

-- both parts have at most 20 bits, and the bottom isn't 0
pub record AreSmallParts (p : SmallParts) : Type 0 where
  pub above : 0 < p.bottom
  pub top : unsigned_abs p.top < 2 ^ 20
  pub bottom : p.bottom < 2 ^ 20
