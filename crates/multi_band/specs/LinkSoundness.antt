-- What follows of the outcome of a vertex of links: a timing is good and worth the vertex's goal, and a place lies inside the box.
use Rattle.std.specs.Prelude.{◌≡◌, List}
use Rattle.rational_theory.specs.Rational.{ℚ}
use Rattle.rational_theory.specs.Rows.{dot}
use Rattle.progression.specs.Street.{Street}
use Rattle.linear_theory.specs.Boxes.{Area, IsBoxOf}
use Rattle.linear_theory.specs.Counts.{IsStreet}
use Rattle.search_box.specs.declared.span.At.{At}
use Rattle.search_box.specs.Places.{IsPlace}
use Rattle.link_theory.specs.LinkRecord.{LinkRecord}
use Rattle.link_theory.specs.GoodLinks.{GoodLinks}
use Rattle.link_theory.specs.BestLinks.{link_value}
use Rattle.link_theory.specs.LinkRows.{link_goal}
use Rattle.link_theory.specs.LinkVertices.{IsLinkVertex}
use Rattle.offset_recovery.specs.Outcomes.{Splits, Gives}
use Rattle.multi_band.specs.LinkRecovered.{link_recovered}

pub record LinkOutcomesAreSound : Type 0 where
  pub good : (a : Street) (box : Area) (x : List ℚ) (t : LinkRecord) → IsStreet a → IsBoxOf a box → IsLinkVertex a box x → link_recovered a box x ≡ Gives t → GoodLinks a t
  pub value : (a : Street) (box : Area) (x : List ℚ) (t : LinkRecord) → IsStreet a → IsBoxOf a box → IsLinkVertex a box x → link_recovered a box x ≡ Gives t → link_value a t ≡ dot (link_goal a) x
  pub place : (a : Street) (box : Area) (x : List ℚ) (place : At) → IsStreet a → IsBoxOf a box → IsLinkVertex a box x → link_recovered a box x ≡ Splits place → IsPlace box place
