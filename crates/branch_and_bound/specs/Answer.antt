-- What the search answers: an accepted tree that was needed, its units, and why it stopped.
use Rattle.std.specs.Prelude.{◌≡◌, ℕ, ◌+◌, ◌⊎◌, List, [], ◌∷◌, Option, Some, None, IfSome, take}
use Rattle.std.specs.List.{slice_get}
use Rattle.rational_theory.specs.Rational.{ℚ, ◌≤ℚ◌, ◌<ℚ◌}
use Rattle.progression.specs.Speeds.{number}
use Rattle.linear_theory.specs.Boxes.{Area}
use Rattle.search_box.specs.declared.span.At.{At}
use Rattle.search_box.specs.Places.{IsPlace}
use Rattle.named_row.specs.declared.leaves.Leaf.{Leaf}
use Rattle.named_row.specs.declared.leaves.Point.{Point}
use Rattle.branch_and_bound.specs.Lines.{BoxLine, top_line, low_line, high_line, Fills, Finds, total, line_after}
use Rattle.branch_and_bound.specs.Lineages.{Empty, Reads, Cuts, Stuck, WasRead}
use Rattle.work_meter.specs.Work.{capped, IsWithin}
use Rattle.branch_and_bound.specs.Rules.{Rules}
use Rattle.branch_and_bound.specs.Unfinished.{IsUnfinished, IsLeft}
use Rattle.branch_and_bound.specs.Incumbents.{IsReached, IsBeaten}
use Rattle.branch_and_bound.specs.declared.incumbent.Incumbent.{Incumbent}
use Rattle.branch_and_bound.specs.declared.node.TreeNode.{TreeNode}
use Rattle.branch_and_bound.specs.declared.node.TreeNode.TheVariants.{Split, Closed, Waiting}
use Rattle.branch_and_bound.specs.declared.found.Site.{Site}
use Rattle.branch_and_bound.specs.declared.found.Stop.{Stop}
use Rattle.branch_and_bound.specs.declared.found.Stop.TheVariants.{Work, Wide}
use Rattle.branch_and_bound.specs.declared.found.Found.{Found}
use Rattle.branch_and_bound.specs.declared.found.Verdict.{Verdict}
use Rattle.branch_and_bound.specs.declared.found.Verdict.TheVariants.{Best, NoTiming, Stopped}

-- ---- trees
-- where a node is split
abbrev pub cut_of : TreeNode → Option At
cut_of (Split place point) = Some place
cut_of (Closed leaf) = None
cut_of (Waiting leaf) = None

-- the root's line, which wants a tree
abbrev pub lines_of : {T K W : Type 0} → Rules T K W → List BoxLine
lines_of r = top_line r.root ∷ []

-- the line of the node at an index
abbrev pub line_at : {T K W : Type 0} → Rules T K W → List TreeNode → ℕ → BoxLine
line_at r nodes index = line_after cut_of (lines_of r) (take index nodes)

-- what each finished box costs, and all nodes together
abbrev pub cost_of : {T K W : Type 0} → Rules T K W → BoxLine → ℕ
cost_of r line = 1 + r.steps line

abbrev pub units_of : {T K W : Type 0} → Rules T K W → List TreeNode → ℕ
units_of r nodes = total cut_of (cost_of r) (lines_of r) nodes

-- ---- the tree is accepted
-- a leaf refutes or, where a value is claimed, covers with it
abbrev pub IsProof : {T K W : Type 0} → Rules T K W → Option ℚ → Area → Leaf → Type 0
IsProof r None area leaf = r.Refutes area leaf
IsProof r (Some value) area leaf = r.Refutes area leaf ⊎ r.Covers area leaf value

-- a split lies in its box, and a leaf is a proof
abbrev pub IsAcceptedNode : {T K W : Type 0} → Rules T K W → Option ℚ → BoxLine → TreeNode → Type 0
IsAcceptedNode r claim line (Split place point) = IsPlace line.area place
IsAcceptedNode r claim line (Closed leaf) = IsProof r claim line.area leaf
IsAcceptedNode r claim line (Waiting leaf) = IsProof r claim line.area leaf

abbrev pub IsAccepted : {T K W : Type 0} → Rules T K W → Option ℚ → List TreeNode → Type 0
IsAccepted r claim nodes = Fills cut_of (IsAcceptedNode r claim) (lines_of r) nodes

-- ---- which leaves wait
-- the box is empty, its vertex gave a timing, or its bound is at most the best value
abbrev pub IsOver : {T K W : Type 0} → Rules T K W → Option (Incumbent T) → BoxLine → Type 0
IsOver r best line = (r.ending line ≡ Empty) ⊎ (r.ending line ≡ Reads) ⊎ IsReached (r.bound line) best

-- a closed leaf is over, and a waiting one has a bound of more than the best value, or its split was undone
pub record IsSorted {T K W : Type 0} (r : Rules T K W) (nodes : List TreeNode) (best : Option (Incumbent T)) (spared : Option ℕ) : Type 0 where
  pub closed : (index : ℕ) (leaf : Leaf) → slice_get nodes index ≡ Some (Closed leaf) → IsOver r best (line_at r nodes index)
  pub waits : (index : ℕ) (leaf : Leaf) → slice_get nodes index ≡ Some (Waiting leaf) → IsBeaten best (r.bound (line_at r nodes index)) ⊎ (spared ≡ Some index)

-- ---- where a stop fell
-- the index of the node whose split was undone, and its place
pub record Spot : Type 0 where
  pub index : ℕ
  pub place : At

pub data StopCase : Type 0 where
  -- in the root, after so many pivots
  RootLeft : ℕ → StopCase
  -- at the root's vertex, whose reading was refused
  RootUnread : StopCase
  -- before the low part was opened
  BeforeLow : Spot → StopCase
  -- in the low part, after so many pivots
  InLow : Spot → ℕ → StopCase
  -- before the high part was opened
  BeforeHigh : Spot → StopCase
  -- in the high part, after so many pivots
  InHigh : Spot → ℕ → StopCase

abbrev pub low_of : {T K W : Type 0} → Rules T K W → List TreeNode → Spot → BoxLine
low_of r nodes spot = low_line spot.place (line_at r nodes spot.index)

abbrev pub high_of : {T K W : Type 0} → Rules T K W → List TreeNode → Spot → BoxLine
high_of r nodes spot = high_line spot.place (line_at r nodes spot.index)

-- the part of the undone split that was finished
abbrev pub finished_part : {T K W : Type 0} → Rules T K W → List TreeNode → StopCase → Option BoxLine
finished_part r nodes (BeforeHigh spot) = Some (low_of r nodes spot)
finished_part r nodes (InHigh spot k) = Some (low_of r nodes spot)
finished_part r nodes _ = None

-- the finished part was read to its end
abbrev pub IsReadPart : {T K W : Type 0} → Rules T K W → Option BoxLine → Type 0
IsReadPart r None = Unit {0}
IsReadPart r (Some line) = WasRead (r.ending line)

-- the index of the undone node
abbrev pub undone_of : StopCase → Option ℕ
undone_of (RootLeft k) = None
undone_of RootUnread = None
undone_of (BeforeLow spot) = Some spot.index
undone_of (InLow spot k) = Some spot.index
undone_of (BeforeHigh spot) = Some spot.index
undone_of (InHigh spot k) = Some spot.index

-- the units of a stopped search: those of the finished boxes, and those of the undone split
abbrev pub spends : {T K W : Type 0} → Rules T K W → List TreeNode → StopCase → ℕ
spends r nodes (RootLeft k) = 1 + k
spends r nodes RootUnread = units_of r nodes
spends r nodes (BeforeLow spot) = units_of r nodes
spends r nodes (InLow spot k) = units_of r nodes + (1 + k)
spends r nodes (BeforeHigh spot) = units_of r nodes + cost_of r (low_of r nodes spot)
spends r nodes (InHigh spot k) = units_of r nodes + cost_of r (low_of r nodes spot) + (1 + k)

-- a leaf that doesn't refute has a bound of at most this
abbrev pub IsLeafUnder : {T K W : Type 0} → Rules T K W → ℚ → BoxLine → Leaf → Type 0
IsLeafUnder r bound line leaf = (r.Refutes line.area leaf → ⊥) → r.bound line ≤ℚ bound

abbrev pub IsNodeUnder : {T K W : Type 0} → Rules T K W → ℚ → BoxLine → TreeNode → Type 0
IsNodeUnder r bound line (Split place point) = Unit {0}
IsNodeUnder r bound line (Closed leaf) = IsLeafUnder r bound line leaf
IsNodeUnder r bound line (Waiting leaf) = IsLeafUnder r bound line leaf

-- the undone node waits again: its leaf doesn't refute, its bound is the greatest of such leaves, and its end shows the place
pub record IsSpot {T K W : Type 0} (r : Rules T K W) (nodes : List TreeNode) (spot : Spot) : Type 0 where
  pub leaf : Leaf
  pub at : slice_get nodes spot.index ≡ Some (Waiting leaf)
  pub end : r.ending (line_at r nodes spot.index) ≡ Cuts spot.place
  pub not_refuted : r.Refutes (line_at r nodes spot.index).area leaf → ⊥
  pub greatest : Fills cut_of (IsNodeUnder r (r.bound (line_at r nodes spot.index))) (lines_of r) nodes

-- the root wasn't finished, or its end couldn't be read, or the undone node stands there
abbrev pub HasSpot : {T K W : Type 0} → Rules T K W → List TreeNode → StopCase → Type 0
HasSpot r nodes (RootLeft k) = IsUnfinished r (top_line r.root) k
HasSpot r nodes RootUnread = r.ending (top_line r.root) ≡ Stuck
HasSpot r nodes (BeforeLow spot) = IsSpot r nodes spot
HasSpot r nodes (InLow spot k) = IsSpot r nodes spot
HasSpot r nodes (BeforeHigh spot) = IsSpot r nodes spot
HasSpot r nodes (InHigh spot k) = IsSpot r nodes spot

-- a part in which the search stopped wasn't finished
abbrev pub HasLeft : {T K W : Type 0} → Rules T K W → List TreeNode → StopCase → Type 0
HasLeft r nodes (RootLeft k) = Unit {0}
HasLeft r nodes RootUnread = Unit {0}
HasLeft r nodes (BeforeLow spot) = Unit {0}
HasLeft r nodes (InLow spot k) = IsLeft r (low_of r nodes spot) k
HasLeft r nodes (BeforeHigh spot) = Unit {0}
HasLeft r nodes (InHigh spot k) = IsLeft r (high_of r nodes spot) k

-- a stop by work stands before an opening or where a pivot is due
abbrev pub IsWorkStop : {T K W : Type 0} → Rules T K W → List TreeNode → StopCase → Type 0
IsWorkStop r nodes (RootLeft k) = r.IsDue (top_line r.root) k
IsWorkStop r nodes RootUnread = ⊥
IsWorkStop r nodes (BeforeLow spot) = Unit {0}
IsWorkStop r nodes (InLow spot k) = r.IsDue (low_of r nodes spot) k
IsWorkStop r nodes (BeforeHigh spot) = Unit {0}
IsWorkStop r nodes (InHigh spot k) = r.IsDue (high_of r nodes spot) k

-- the site of a refused operation, in a line's box after so many pivots
pub record IsSite {T K W : Type 0} (r : Rules T K W) (line : BoxLine) (k : ℕ) (site : Site W) : Type 0 where
  pub area_is : site.area ≡ line.area
  pub pivots_is : site.pivots ≡ capped k
  pub part_is : r.IsWide line k site.part

abbrev pub IsWideStop : {T K W : Type 0} → Rules T K W → List TreeNode → StopCase → Site W → Type 0
IsWideStop r nodes (RootLeft k) site = IsSite r (top_line r.root) k site
IsWideStop r nodes RootUnread site = IsSite r (top_line r.root) (r.steps (top_line r.root)) site
IsWideStop r nodes (BeforeLow spot) site = ⊥
IsWideStop r nodes (InLow spot k) site = IsSite r (low_of r nodes spot) k site
IsWideStop r nodes (BeforeHigh spot) site = ⊥
IsWideStop r nodes (InHigh spot k) site = IsSite r (high_of r nodes spot) k site

-- why the search stopped
abbrev pub IsStop : {T K W : Type 0} → Rules T K W → List TreeNode → StopCase → Option ℕ → ℕ → Stop W → Type 0
IsStop r nodes case limit spent (Work units) = (units ≡ spent) × (limit ≡ Some spent) × IsWorkStop r nodes case
IsStop r nodes case limit spent (Wide site) = IsWideStop r nodes case site

-- ---- the tree was needed
-- a split falls where its end shows, at its vertex, and its bound is at least the best value
pub record IsNeededSplit {T K W : Type 0} (r : Rules T K W) (best : Option (Incumbent T)) (line : BoxLine) (place : At) (point : Point) : Type 0 where
  pub end : r.ending line ≡ Cuts place
  pub vertex_is : r.IsVertex line point
  pub worth : IfSome best (λ b. b.value ≤ℚ r.bound line)

-- a leaf is that of its end; where its vertex gives a timing, the best timing is at least as good
pub record IsNeededLeaf {T K W : Type 0} (r : Rules T K W) (best : Option (Incumbent T)) (line : BoxLine) (leaf : Leaf) : Type 0 where
  pub leaf_is : r.IsLeaf line leaf
  pub reached : r.ending line ≡ Reads → IsReached (r.bound line) best

abbrev pub IsNeededNode : {T K W : Type 0} → Rules T K W → Option (Incumbent T) → BoxLine → TreeNode → Type 0
IsNeededNode r best line (Split place point) = IsNeededSplit r best line place point
IsNeededNode r best line (Closed leaf) = IsNeededLeaf r best line leaf
IsNeededNode r best line (Waiting leaf) = IsNeededLeaf r best line leaf

-- a leaf whose vertex is a timing of this value
pub record IsBestLeaf {T K W : Type 0} (r : Rules T K W) (value : ℚ) (line : BoxLine) (cut : Option At) : Type 0 where
  pub whole : cut ≡ None
  pub end : r.ending line ≡ Reads
  pub value_is : r.bound line ≡ value

-- some leaf has this value
abbrev pub GivesValue : {T K W : Type 0} → Rules T K W → List TreeNode → ℚ → Type 0
GivesValue r nodes value = Finds cut_of (λ line node. IsBestLeaf r value line (cut_of node)) (lines_of r) nodes

abbrev pub IsReachedPart : {T K W : Type 0} → Rules T K W → Option (Incumbent T) → Option BoxLine → Type 0
IsReachedPart r best None = Unit {0}
IsReachedPart r best (Some line) = r.ending line ≡ Reads → IsReached (r.bound line) best

-- the finished part of an undone split gave this value
abbrev pub IsPartValue : {T K W : Type 0} → Rules T K W → ℚ → Option BoxLine → Type 0
IsPartValue r value None = ⊥
IsPartValue r value (Some line) = (r.ending line ≡ Reads) × (r.bound line ≡ value)

-- the timing is the best that the leaves and the finished part of an undone split have, and stands where one of them has one
pub record IsNeeded {T K W : Type 0} (r : Rules T K W) (nodes : List TreeNode) (best : Option (Incumbent T)) (part : Option BoxLine) : Type 0 where
  pub tree : Fills cut_of (IsNeededNode r best) (lines_of r) nodes
  pub part_reached : IsReachedPart r best part
  pub found : IfSome best (λ b. GivesValue r nodes b.value ⊎ IsPartValue r b.value part)

-- a value that only the finished part has
pub record IsPartAlone {T K W : Type 0} (r : Rules T K W) (nodes : List TreeNode) (value bound : ℚ) (part : Option BoxLine) : Type 0 where
  pub same : value ≡ bound
  pub gives : IsPartValue r value part
  pub alone : GivesValue r nodes value → ⊥

-- a leaf that doesn't refute, of this bound
pub record IsOpenLeaf {T K W : Type 0} (r : Rules T K W) (bound : ℚ) (line : BoxLine) (leaf : Leaf) : Type 0 where
  pub not_refuted : r.Refutes line.area leaf → ⊥
  pub bound_is : r.bound line ≡ bound

abbrev pub IsOpenNode : {T K W : Type 0} → Rules T K W → ℚ → BoxLine → TreeNode → Type 0
IsOpenNode r bound line (Split place point) = ⊥
IsOpenNode r bound line (Closed leaf) = IsOpenLeaf r bound line leaf
IsOpenNode r bound line (Waiting leaf) = IsOpenLeaf r bound line leaf

-- the bound of a stopped search is the greatest of the leaves that don't refute, and more than the value
pub record IsOpenBound {T K W : Type 0} (r : Rules T K W) (nodes : List TreeNode) (best : Option (Incumbent T)) (bound : ℚ) (part : Option BoxLine) : Type 0 where
  pub over : Fills cut_of (IsNodeUnder r bound) (lines_of r) nodes
  pub found : Finds cut_of (IsOpenNode r bound) (lines_of r) nodes
  pub more : IfSome best (λ b. (b.value <ℚ bound) ⊎ IsPartAlone r nodes b.value bound part)

-- a stop before the root was finished
pub record IsStart {T K W : Type 0} (r : Rules T K W) (nodes : List TreeNode) (best : Option (Incumbent T)) (bound : ℚ) : Type 0 where
  pub leaf : Leaf
  pub nodes_are : nodes ≡ Waiting leaf ∷ []
  pub leaf_is : r.IsStart leaf
  pub bound_is : bound ≡ r.start_bound
  pub best_is : best ≡ None

abbrev pub IsNeededStop : {T K W : Type 0} → Rules T K W → List TreeNode → Option (Incumbent T) → ℚ → StopCase → Type 0
IsNeededStop r nodes best bound (RootLeft k) = IsStart r nodes best bound
IsNeededStop r nodes best bound case = IsNeeded r nodes best (finished_part r nodes case) × IsOpenBound r nodes best bound (finished_part r nodes case)

-- ---- the three verdicts
-- a finished search: no leaf waits, and the units are those of its boxes, within the limit
pub record IsFinished {T K W : Type 0} (r : Rules T K W) (limit : Option ℕ) (nodes : List TreeNode) (best : Option (Incumbent T)) (claim : Option ℚ) (spent : ℕ) : Type 0 where
  pub accepted : IsAccepted r claim nodes
  pub needed : IsNeeded r nodes best None
  pub sorted : IsSorted r nodes best None
  pub none_waits : (index : ℕ) (leaf : Leaf) → slice_get nodes index ≡ Some (Waiting leaf) → ⊥
  pub units : spent ≡ capped (units_of r nodes)
  pub within : IsWithin spent limit

pub record IsBestAnswer {T K W : Type 0} (r : Rules T K W) (limit : Option ℕ) (nodes : List TreeNode) (best : Option (Incumbent T)) (bound : ℚ) (spent : ℕ) : Type 0 where
  pub timing : T
  pub best_is : best ≡ Some (record { value = bound; timing = timing })
  pub good : r.IsGood timing bound
  pub finished : IsFinished r limit nodes best (Some bound) spent

pub record IsNoneAnswer {T K W : Type 0} (r : Rules T K W) (limit : Option ℕ) (nodes : List TreeNode) (best : Option (Incumbent T)) (bound : ℚ) (spent : ℕ) : Type 0 where
  pub best_is : best ≡ None
  pub bound_is : bound ≡ number 0
  pub finished : IsFinished r limit nodes best None spent

pub record IsStoppedAnswer {T K W : Type 0} (r : Rules T K W) (limit : Option ℕ) (nodes : List TreeNode) (best : Option (Incumbent T)) (bound : ℚ) (spent : ℕ) (stop : Stop W) : Type 0 where
  pub case : StopCase
  pub accepted : IsAccepted r (Some bound) nodes
  pub good : IfSome best (λ b. r.IsGood b.timing b.value × (b.value ≤ℚ bound))
  pub spot : HasSpot r nodes case
  pub left : HasLeft r nodes case
  pub read : IsReadPart r (finished_part r nodes case)
  pub needed : IsNeededStop r nodes best bound case
  pub sorted : IsSorted r nodes best (undone_of case)
  pub units : spent ≡ capped (spends r nodes case)
  pub within : IsWithin spent limit
  pub cause : IsStop r nodes case limit spent stop

abbrev pub IsAnswer : {T K W : Type 0} → Rules T K W → Option ℕ → List TreeNode → Option (Incumbent T) → ℚ → ℕ → Verdict W → Type 0
IsAnswer r limit nodes best bound spent Best = IsBestAnswer r limit nodes best bound spent
IsAnswer r limit nodes best bound spent NoTiming = IsNoneAnswer r limit nodes best bound spent
IsAnswer r limit nodes best bound spent (Stopped stop) = IsStoppedAnswer r limit nodes best bound spent stop

-- ---- what is found
-- the timing without its value
abbrev pub timing_of : {T : Type 0} → Option (Incumbent T) → Option T
timing_of None = None
timing_of (Some best) = Some best.timing

-- the timing has a value with which this answers the search
pub record IsFound {T K W : Type 0} (r : Rules T K W) (limit : Option ℕ) (found : Found T W) : Type 0 where
  pub best : Option (Incumbent T)
  pub timing : found.timing ≡ timing_of best
  pub answer : IsAnswer r limit found.nodes.items best found.bound found.spent found.verdict
