-- What the linear model promises: no good timing, on any grid, is lost between the diagram and the rows.
use Rattle.std.specs.Prelude.{ℕ, ℤ, List, ◌⊎◌, ◌↔◌}
use Rattle.rational_theory.specs.Rational.{ℚ}
use Rattle.rational_theory.specs.Rows.{IsMet}
use Rattle.progression.specs.Street.{Street}
use Rattle.progression.specs.TimingRecord.{TimingRecord}
use Rattle.progression.specs.Good.{Good}
use Rattle.progression.specs.Best.{Bounded, NoTiming}
use Rattle.linear_theory.specs.Boxes.{Area, IsBoxOf, InBox, root_box, low_loop, high_loop, low_turn, high_turn, IsLoopPlace, IsTurnPlace}
use Rattle.linear_theory.specs.Rows.{line}
use Rattle.linear_theory.specs.Names.{Name, HasRow, form_of}
use Rattle.linear_theory.specs.Counts.{IsStreet, IsGoodPoint}
use Rattle.linear_theory.specs.Covering.{CoversGoal, RefutesAll}
use Rattle.linear_theory.specs.Trees.{Tree, Accepted}

pub record NothingIsLost : Type 0 where
  -- its block sums are whole, and they and its shifts lie in the root box
  pub in_the_root : (a : Street) (t : TimingRecord) → IsStreet a → Good a t → InBox a (root_box a) t
  -- a box holds what its two parts at a place hold
  pub link_parts : (a : Street) (box : Area) (t : TimingRecord) (i : ℕ) (at : ℤ) → IsBoxOf a box → IsLoopPlace box i at
      → InBox a box t ↔ (InBox a (low_loop box i at) t ⊎ InBox a (high_loop box i at) t)
  -- no timing lies in both parts
  pub link_once : (a : Street) (box : Area) (t : TimingRecord) (i : ℕ) (at : ℤ) → IsBoxOf a box → IsLoopPlace box i at
      → InBox a (low_loop box i at) t → InBox a (high_loop box i at) t → ⊥
  -- the same for a signal's ranks
  pub signal_parts : (a : Street) (box : Area) (t : TimingRecord) (i rank : ℕ) → IsBoxOf a box → IsTurnPlace box i rank
      → InBox a box t ↔ (InBox a (low_turn box i rank) t ⊎ InBox a (high_turn box i rank) t)
  pub signal_once : (a : Street) (box : Area) (t : TimingRecord) (i rank : ℕ) → IsBoxOf a box → IsTurnPlace box i rank
      → InBox a (low_turn box i rank) t → InBox a (high_turn box i rank) t → ⊥
  -- its point meets each row of each box that it lies in
  pub rows_met : (a : Street) (box : Area) (x : List ℚ) → IsGoodPoint a box x → (n : Name) → HasRow a n → IsMet x (line a (form_of a box n))
  -- a tree whose leaves cover the goal or refute bounds every good timing
  pub bounded : (a : Street) (tree : Tree) (value : ℚ) → IsStreet a
      → Accepted (λ r. CoversGoal a value r ⊎ RefutesAll a r) a (root_box a) tree → Bounded a value
  -- one whose leaves all refute leaves no good timing
  pub no_timing : (a : Street) (tree : Tree) → IsStreet a → Accepted (RefutesAll a) a (root_box a) tree → NoTiming a
