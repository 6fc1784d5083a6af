-- What the rows and the vertices of links promise.
use Rattle.std.specs.Prelude.{◌≡◌, ℕ, List, false}
use Rattle.rational_theory.specs.Rational.{ℚ}
use Rattle.rational_theory.specs.Floor.{floor_ℚ}
use Rattle.rational_theory.specs.Rows.{dot, IsMet}
use Rattle.progression.specs.Street.{Street, HasSignal, HasLink}
use Rattle.progression.specs.Good.{Good}
use Rattle.linear_theory.specs.Blocks.{block_sum}
use Rattle.linear_theory.specs.Boxes.{Area, IsBoxOf, InBox, root_box, IsLoopPlace, IsTurnPlace}
use Rattle.linear_theory.specs.Counts.{IsStreet}
use Rattle.linear_theory.specs.Trees.{AcceptedBy}
use Rattle.recovery_theory.specs.Vertices.{IsWhole}
use Rattle.recovery_theory.specs.Splitting.{is_whole_number, is_ranked, rank_below}
use Rattle.link_theory.specs.LinkRecord.{LinkRecord, lines}
use Rattle.link_theory.specs.GoodLinks.{GoodLinks}
use Rattle.link_theory.specs.BestLinks.{link_value, BoundedLinks, NoLinks}
use Rattle.link_theory.specs.Plain.{plain}
use Rattle.link_theory.specs.LinkColumns.{link_point}
use Rattle.link_theory.specs.LinkRows.{link_goal}
use Rattle.link_theory.specs.LinkNames.{LinkName, HasLinkRow, link_row}
use Rattle.link_theory.specs.LinkCounts.{IsGoodLinkPoint}
use Rattle.link_theory.specs.LinkTrees.{LinkTree, CoveringLeaf, RefutingLeaf}
use Rattle.link_theory.specs.LinkVertices.{IsLinkVertex, link_timing_of}

-- no good link timing, on any grid, is lost between the diagram and the rows
pub record NoLinkTimingIsLost : Type 0 where
  -- its lines are a good timing of the artery without least bands and equal bands
  pub good_lines : (a : Street) (t : LinkRecord) → IsStreet a → GoodLinks a t → Good (plain a) (lines t)
  -- their block sums are whole, and they and the shifts lie in the root box
  pub in_the_root : (a : Street) (t : LinkRecord) → IsStreet a → GoodLinks a t → InBox a (root_box a) (lines t)
  -- its point meets each row of each box that its lines lie in
  pub rows_met : (a : Street) (box : Area) (x : List ℚ) → IsGoodLinkPoint a box x → (n : LinkName) → HasLinkRow a n → IsMet x (link_row a box n)
  -- the goal there is its value
  pub value : (a : Street) (t : LinkRecord) → IsStreet a → GoodLinks a t → dot (link_goal a) (link_point a t) ≡ link_value a t
  -- a tree whose leaves cover the goal or refute bounds every good link timing
  pub bounded : (a : Street) (tree : LinkTree) (value : ℚ) → IsStreet a → AcceptedBy (CoveringLeaf a value) (root_box a) tree → BoundedLinks a value
  -- one whose leaves all refute leaves no good link timing
  pub no_timing : (a : Street) (tree : LinkTree) → IsStreet a → AcceptedBy (RefutingLeaf a) (root_box a) tree → NoLinks a

-- a vertex is a good link timing, or names a place where its box is split
pub record LinkVerticesRecover : Type 0 where
  -- where all block sums are whole and all shifts are the signals', the vertex is the point of its link timing
  pub point : (a : Street) (box : Area) (x : List ℚ) → IsStreet a → IsLinkVertex a box x → IsWhole a x → link_point a (link_timing_of a x) ≡ x
  -- which is good, and whose value is the vertex's
  pub good : (a : Street) (box : Area) (x : List ℚ) → IsStreet a → IsLinkVertex a box x → IsWhole a x → GoodLinks a (link_timing_of a x)
  pub value : (a : Street) (box : Area) (x : List ℚ) → IsStreet a → IsLinkVertex a box x → IsWhole a x → link_value a (link_timing_of a x) ≡ dot (link_goal a) x
  -- elsewhere the box is split at a place inside it
  pub loops : (a : Street) (box : Area) (x : List ℚ) (i : ℕ) → IsStreet a → IsBoxOf a box → IsLinkVertex a box x → HasLink a i → is_whole_number (block_sum a x i) ≡ false → IsLoopPlace box i (floor_ℚ (block_sum a x i))
  pub turns : (a : Street) (box : Area) (x : List ℚ) (i : ℕ) → IsStreet a → IsBoxOf a box → IsLinkVertex a box x → HasSignal a i → is_ranked a box x i ≡ false → IsTurnPlace box i (rank_below a x i)
