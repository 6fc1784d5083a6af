-- What is known of the numbers of a vertex of links where its unit fits.
use Rattle.std.specs.Prelude.{◌≡◌, ℕ, ◌<◌, ◌^◌, List, length}
use Rattle.rational_theory.specs.Rational.{ℚ}
use Rattle.progression.specs.Street.{Street, count, HasLink}
use Rattle.progression.specs.declared.parts.Dir.{Dir}
use Rattle.link_theory.specs.LinkColumns.{link_width}
use Rattle.link_theory.specs.LinkVertices.{half_ticks}
use Rattle.offset_recovery.specs.Numbers.{IsReady}

-- that of its lines, and how many ticks its halves have at most
pub record IsLinkReady (a : Street) (x : List ℚ) : Type 0 where
  pub lines : IsReady a x
  pub columns : length x ≡ link_width (count a)
  pub halves : (d : Dir) (i : ℕ) → HasLink a i → half_ticks a x d i < 2 ^ 92
