-- Which link timings count for a box, and their points.
use Rattle.std.specs.Prelude.{◌≡◌, List}
use Rattle.rational_theory.specs.Rational.{ℚ}
use Rattle.progression.specs.Street.{Street}
use Rattle.linear_theory.specs.Boxes.{Area, IsBoxOf, InBox}
use Rattle.linear_theory.specs.Counts.{IsStreet}
use Rattle.link_theory.specs.LinkRecord.{LinkRecord, lines}
use Rattle.link_theory.specs.GoodLinks.{GoodLinks}
use Rattle.link_theory.specs.LinkColumns.{link_point}

-- a good link timing whose lines have block sums and shift ranks of the box
pub record LinkCounts (a : Street) (box : Area) (t : LinkRecord) : Type 0 where
  pub street : IsStreet a
  pub good : GoodLinks a t
  pub boxed : IsBoxOf a box
  pub inside : InBox a box (lines t)

-- the point of such a timing
pub record IsGoodLinkPoint (a : Street) (box : Area) (x : List ℚ) : Type 0 where
  pub timing : LinkRecord
  pub counts : LinkCounts a box timing
  pub is : x ≡ link_point a timing
