-- What the search keeps true of its nodes and of the best timing.
use Rattle.std.specs.Prelude.{◌≡◌, ℕ, ◌+◌, ◌-◌, ◌*◌, ◌<◌, ◌⊎◌, List, [], ◌∷◌, ◌++◌, Option, Some, None, IfSome, Result, Ok, Err, take, drop}
use Rattle.std.specs.List.{slice_get}
use Rattle.rational_theory.specs.Rational.{ℚ, ◌≤ℚ◌}
use Rattle.linear_theory.specs.Boxes.{Area}
use Rattle.search_box.specs.declared.span.At.{At}
use Rattle.named_row.specs.declared.leaves.Leaf.{Leaf}
use Rattle.named_row.specs.declared.leaves.Point.{Point}
use Rattle.branch_and_bound.specs.Lines.{BoxLine, low_line, high_line, Fills, Finds, total, line_after}
use Rattle.branch_and_bound.specs.Volumes.{volume}
use Rattle.branch_and_bound.specs.Lineages.{Empty, Reads, Cuts, IsOptimal, WasRead}
use Rattle.work_meter.specs.Work.{capped, IsWithin, IsSpent}
use Rattle.branch_and_bound.specs.Rules.{Rules, IsMet}
use Rattle.branch_and_bound.specs.Unfinished.{IsUnfinished, IsLeft}
use Rattle.branch_and_bound.specs.OpenedNodes.{IsPart, HasBound, OpensStuck, Opens, Finishes, Leaves}
use Rattle.branch_and_bound.specs.Incumbents.{IsReached, IsUnder, IsBeaten}
use Rattle.branch_and_bound.specs.Answer.{lines_of, cost_of, IsBestLeaf, IsSite}
use Rattle.work_meter.specs.declared.meter.Meter.{Meter}
use Rattle.branch_and_bound.specs.declared.incumbent.Incumbent.{Incumbent}
use Rattle.branch_and_bound.specs.declared.node.Node.{Node}
use Rattle.branch_and_bound.specs.declared.node.Node.TheVariants.{Split, Closed, Waiting}
use Rattle.branch_and_bound.specs.declared.node.TreeNode.{TreeNode}
use Rattle.branch_and_bound.specs.declared.node.TreeNode.TheVariants as tree
use Rattle.branch_and_bound.specs.declared.found.Site.{Site}
use Rattle.branch_and_bound.specs.declared.found.Stop.{Stop}
use Rattle.branch_and_bound.specs.declared.found.Stop.TheVariants.{Work, Wide}
use Rattle.branch_and_bound.specs.declared.opened.Opened.{Opened}
use Rattle.branch_and_bound.specs.declared.settle.Settled.{Settled}
use Rattle.branch_and_bound.specs.declared.settle.Settled.TheVariants.{Done, Stuck, Left}
use Rattle.branch_and_bound.specs.declared.open.Halt.{Halt}
use Rattle.branch_and_bound.specs.declared.open.Halt.TheVariants.{Stopped, Memory}
use Rattle.branch_and_bound.specs.declared.progress.Progress.{Progress}

-- ---- nodes
-- where a node is split
abbrev pub place_of : {K : Type 0} → Node K → Option At
place_of (Split place point) = Some place
place_of (Closed leaf) = None
place_of (Waiting area leaf bound place point kept) = None

pub record IsSplit {T K W : Type 0} (r : Rules T K W) (top : ℚ) (line : BoxLine) (place : At) (point : Point) : Type 0 where
  pub lineage : IsMet r line
  pub end : r.ending line ≡ Cuts place
  pub vertex_is : r.IsVertex line point
  pub over : top ≤ℚ r.bound line

pub record IsRead {T K W : Type 0} (r : Rules T K W) (best : Option (Incumbent T)) (line : BoxLine) (leaf : Leaf) : Type 0 where
  pub end : r.ending line ≡ Reads
  pub covers : r.Covers line.area leaf (r.bound line)
  pub reached : IsReached (r.bound line) best

pub record IsRefuted {T K W : Type 0} (r : Rules T K W) (line : BoxLine) (leaf : Leaf) : Type 0 where
  pub end : r.ending line ≡ Empty
  pub refutes : r.Refutes line.area leaf

pub record IsClosed {T K W : Type 0} (r : Rules T K W) (best : Option (Incumbent T)) (line : BoxLine) (leaf : Leaf) : Type 0 where
  pub lineage : IsMet r line
  pub leaf_is : r.IsLeaf line leaf
  pub shows : IsRefuted r line leaf ⊎ IsRead r best line leaf

pub record IsWaiting {T K W : Type 0} (r : Rules T K W) (top : ℚ) (line : BoxLine) (area : Area) (leaf : Leaf) (bound : ℚ) (place : At) (point : Point) (kept : K) : Type 0 where
  pub lineage : IsMet r line
  pub area_is : area ≡ line.area
  pub end : r.ending line ≡ Cuts place
  pub bounds : HasBound r line leaf bound
  pub vertex_is : r.IsVertex line point
  pub kept_is : r.IsKept line kept
  pub under : r.bound line ≤ℚ top

-- what is known of a node: `top` parts the bounds of the splits from those of the leaves
abbrev pub IsNode : {T K W : Type 0} → Rules T K W → Option (Incumbent T) → ℚ → BoxLine → Node K → Type 0
IsNode r best top line (Split place point) = IsSplit r top line place point
IsNode r best top line (Closed leaf) = IsClosed r best line leaf
IsNode r best top line (Waiting area leaf bound place point kept) = IsWaiting r top line area leaf bound place point kept

-- ---- the best timing
-- a box didn't change it
pub record IsKeptBest {T K W : Type 0} (r : Rules T K W) (line : BoxLine) (old new : Option (Incumbent T)) : Type 0 where
  pub same : new ≡ old
  pub reached : r.ending line ≡ Reads → IsReached (r.bound line) old

-- it is that of this box, and better than the one before
pub record IsRaised {T K W : Type 0} (r : Rules T K W) (line : BoxLine) (old new : Option (Incumbent T)) : Type 0 where
  pub best : Incumbent T
  pub new_is : new ≡ Some best
  pub end : r.ending line ≡ Reads
  pub value : best.value ≡ r.bound line
  pub good : r.IsGood best.timing best.value
  pub more : IsBeaten old best.value

abbrev pub IsBetter : {T K W : Type 0} → Rules T K W → BoxLine → Option (Incumbent T) → Option (Incumbent T) → Type 0
IsBetter r line old new = IsKeptBest r line old new ⊎ IsRaised r line old new

-- ---- one box
-- a box that is a leaf now
pub record IsLeafNow {T K W : Type 0} (r : Rules T K W) (line : BoxLine) (old new : Option (Incumbent T)) (node : Node K) : Type 0 where
  pub whole : place_of node ≡ None
  pub is : (top : ℚ) → IsMet r line → (IsOptimal (r.ending line) → r.bound line ≤ℚ top) → IsNode r new top line node
  pub better : IsBetter r line old new

-- no unit was left to open it with
pub record IsUnopened (before after : Meter) : Type 0 where
  pub same : after ≡ before
  pub spent : IsSpent before

-- a pivot was due, and all units were spent
pub record IsOutOfWork {T K W : Type 0} (r : Rules T K W) (line : BoxLine) (before after : Meter) (k : ℕ) : Type 0 where
  pub due : r.IsDue line k
  pub leaves : Leaves before after k
  pub spent : IsSpent after

-- an operation was refused
pub record IsRefused {T K W : Type 0} (r : Rules T K W) (line : BoxLine) (before after : Meter) (site : Site W) (k : ℕ) : Type 0 where
  pub is : IsSite r line k site
  pub leaves : Leaves before after k

-- why the opening of a part stopped
abbrev pub Stops : {T K W : Type 0} → Rules T K W → BoxLine → Meter → Meter → Stop W → Type 0
Stops r line before after (Work units) = (units ≡ after.spent) × (IsUnopened before after ⊎ ((k : ℕ) × IsLeft r line k × IsOutOfWork r line before after k))
Stops r line before after (Wide site) = (k : ℕ) × IsLeft r line k × IsRefused r line before after site k

-- why a box wasn't finished, once it was opened
abbrev pub IsLeftBy : {T K W : Type 0} → Rules T K W → BoxLine → Meter → Meter → Stop W → Type 0
IsLeftBy r line before after (Work units) = (units ≡ after.spent) × (k : ℕ) × IsUnfinished r line k × IsOutOfWork r line before after k
IsLeftBy r line before after (Wide site) = (k : ℕ) × IsUnfinished r line k × IsRefused r line before after site k

-- the vertex was found, and an operation of its reading was refused
pub record IsStuck {T K W : Type 0} (r : Rules T K W) (line : BoxLine) (before after : Meter) (leaf : Leaf) (bound : ℚ) (site : Site W) : Type 0 where
  pub opens : OpensStuck r line leaf bound site.pivots site.part
  pub cost : Finishes r line before after
  pub area_is : site.area ≡ line.area

-- what became of a box
abbrev pub Settles : {T K W : Type 0} → Rules T K W → BoxLine → Option (Incumbent T) → Option (Incumbent T) → Meter → Meter → Settled K W → Type 0
Settles r line old new before after (Done node) = IsLeafNow r line old new node × Finishes r line before after
Settles r line old new before after (Stuck leaf bound site) = (new ≡ old) × IsStuck r line before after leaf bound site
Settles r line old new before after (Left stop) = (new ≡ old) × IsLeftBy r line before after stop

-- the same of each line to it
abbrev pub SettlesAt : {T K W : Type 0} → Rules T K W → Area → Opened T K W → Option (Incumbent T) → Option (Incumbent T) → Meter → Settled K W → Type 0
SettlesAt r area opened old new after settled = (line : BoxLine) (before : Meter) → area ≡ line.area → Opens r line before after opened → Settles r line old new before after settled

-- ---- two parts
-- the end of a part
abbrev pub ended : {K W : Type 0} → Settled K W → Result (Node K) (Halt W)
ended (Done node) = Ok node
ended (Stuck leaf bound site) = Err (Stopped (Wide site))
ended (Left stop) = Err (Stopped stop)

-- what became of a part
abbrev pub Ends : {T K W : Type 0} → Rules T K W → BoxLine → Progress T → Progress T → Result (Node K) (Halt W) → Type 0
Ends r line old new (Ok node) = IsLeafNow r line old.incumbent new.incumbent node × Finishes r line old.meter new.meter
Ends r line old new (Err (Stopped stop)) = (new.incumbent ≡ old.incumbent) × Stops r line old.meter new.meter stop
Ends r line old new (Err Memory) = Unit {0}

-- the same of each line to its box
abbrev pub EndsAt : {T K W : Type 0} → Rules T K W → Area → K → Progress T → Progress T → Result (Node K) (Halt W) → Type 0
EndsAt r area kept old new end = (parent line : BoxLine) (place : At) → IsPart r parent place line kept area → Ends r line old new end

-- a box with the place at which it is split and what it keeps for its parts
pub record IsCut {T K W : Type 0} (r : Rules T K W) (line : BoxLine) (area : Area) (place : At) (kept : K) : Type 0 where
  pub lineage : IsMet r line
  pub area_is : area ≡ line.area
  pub end : r.ending line ≡ Cuts place
  pub kept_is : r.IsKept line kept

-- both parts are leaves
pub record IsBoth {T K W : Type 0} (r : Rules T K W) (line : BoxLine) (place : At) (old new : Progress T) (low high : Node K) : Type 0 where
  pub middle : Progress T
  pub low_is : IsLeafNow r (low_line place line) old.incumbent middle.incumbent low
  pub low_cost : Finishes r (low_line place line) old.meter middle.meter
  pub high_is : IsLeafNow r (high_line place line) middle.incumbent new.incumbent high
  pub high_cost : Finishes r (high_line place line) middle.meter new.meter

-- the low part wasn't finished
pub record IsLowHalted {T K W : Type 0} (r : Rules T K W) (line : BoxLine) (place : At) (old new : Progress T) (stop : Stop W) : Type 0 where
  pub same : new.incumbent ≡ old.incumbent
  pub stops : Stops r (low_line place line) old.meter new.meter stop

-- the low part was finished, and the high part wasn't
pub record IsHighHalted {T K W : Type 0} (r : Rules T K W) (line : BoxLine) (place : At) (old new : Progress T) (stop : Stop W) : Type 0 where
  pub between : Meter
  pub better : IsBetter r (low_line place line) old.incumbent new.incumbent
  pub read : WasRead (r.ending (low_line place line))
  pub low_cost : Finishes r (low_line place line) old.meter between
  pub stops : Stops r (high_line place line) between new.meter stop

-- what became of the two parts
abbrev pub EndsBoth : {T K W : Type 0} → Rules T K W → BoxLine → At → Progress T → Progress T → Result (Node K × Node K) (Halt W) → Type 0
EndsBoth r line place old new (Ok parts) = IsBoth r line place old new parts.0 parts.1
EndsBoth r line place old new (Err (Stopped stop)) = IsLowHalted r line place old new stop ⊎ IsHighHalted r line place old new stop
EndsBoth r line place old new (Err Memory) = Unit {0}

-- the same of each line to the box
abbrev pub EndsBothAt : {T K W : Type 0} → Rules T K W → Area → At → K → Progress T → Progress T → Result (Node K × Node K) (Halt W) → Type 0
EndsBothAt r area place kept old new end = (line : BoxLine) → IsCut r line area place kept → EndsBoth r line place old new end

-- ---- all nodes
-- what the search keeps true between two splits
pub record IsSearchState {T K W : Type 0} (r : Rules T K W) (nodes : List (Node K)) (best : Option (Incumbent T)) (top : ℚ) (spent : ℕ) : Type 0 where
  pub tree : Fills place_of (IsNode r best top) (lines_of r) nodes
  pub good : IfSome best (λ b. r.IsGood b.timing b.value)
  pub under : IsUnder best top
  pub found : IfSome best (λ b. Finds place_of (λ line node. IsBestLeaf r b.value line (place_of node)) (lines_of r) nodes)
  pub units : spent ≡ capped (total place_of (cost_of r) (lines_of r) nodes)

-- the line of the node at an index
abbrev pub line_there : {T K W : Type 0} → Rules T K W → List (Node K) → ℕ → BoxLine
line_there r nodes index = line_after place_of (lines_of r) (take index nodes)

-- how often a node can still be split, counted with its parts
abbrev pub weight : {K : Type 0} → Node K → ℕ
weight (Split place point) = 0
weight (Closed leaf) = 0
weight (Waiting area leaf bound place point kept) = 2 * volume area - 1

abbrev pub weights : {K : Type 0} → List (Node K) → ℕ
weights [] = 0
weights (node ∷ nodes) = weight node + weights nodes

-- a waiting node as the split that it becomes
abbrev pub split_from : {K : Type 0} → Node K → Node K
split_from (Split place point) = Split place point
split_from (Closed leaf) = Closed leaf
split_from (Waiting area leaf bound place point kept) = Split place point

-- the nodes where the one at an index was split
abbrev pub spliced : {K : Type 0} → List (Node K) → ℕ → At → Point → Node K → Node K → List (Node K)
spliced nodes index place point low high = take index nodes ++ Split place point ∷ low ∷ high ∷ drop (index + 1) nodes

-- what the nodes become where the one at an index waits and is split into these
abbrev pub IsSpliced : {K : Type 0} → List (Node K) → List (Node K) → ℕ → Node K → Node K → Type 0
IsSpliced {K = K} old new index low high = (area : Area) (leaf : Leaf) (bound : ℚ) (place : At) (point : Point) (kept : K)
    → slice_get old index ≡ Some (Waiting area leaf bound place point kept) → new ≡ spliced old index place point low high

-- the tree grew by two leaves
pub record IsGrown {T K W : Type 0} (r : Rules T K W) (old new : List (Node K)) (now : Progress T) : Type 0 where
  pub top : ℚ
  pub holds : IsSearchState r new now.incumbent top now.meter.spent
  pub within : IsWithin now.meter.spent now.meter.limit
  pub lighter : weights new < weights old

-- a part wasn't finished, and the nodes are as before
pub record IsUndone {T K W : Type 0} (r : Rules T K W) (nodes new_nodes : List (Node K)) (index : ℕ) (old new : Progress T) (stop : Stop W) : Type 0 where
  pub place : At
  pub same : new_nodes ≡ nodes
  pub end : r.ending (line_there r nodes index) ≡ Cuts place
  pub halts : IsLowHalted r (line_there r nodes index) place old new stop ⊎ IsHighHalted r (line_there r nodes index) place old new stop

abbrev pub Grows : {T K W : Type 0} → Rules T K W → List (Node K) → List (Node K) → ℕ → Progress T → Progress T → Result (Unit {0}) (Halt W) → Type 0
Grows r nodes new_nodes index old new (Ok done) = IsGrown r nodes new_nodes new
Grows r nodes new_nodes index old new (Err (Stopped stop)) = IsUndone r nodes new_nodes index old new stop
Grows r nodes new_nodes index old new (Err Memory) = Unit {0}

-- ---- the answered nodes
-- a node as it is answered: a waiting one whose bound is at most the best value is closed, unless its split was undone
abbrev pub IsShown : {T K : Type 0} → Option (Incumbent T) → Option ℕ → ℕ → Node K → TreeNode → Type 0
IsShown best spared index (Split place point) (tree.Split at vertex) = (at ≡ place) × (vertex ≡ point)
IsShown best spared index (Closed leaf) (tree.Closed shown) = shown ≡ leaf
IsShown best spared index (Waiting area leaf bound place point kept) (tree.Closed shown) = (shown ≡ leaf) × IsReached bound best × (spared ≡ Some index → ⊥)
IsShown best spared index (Waiting area leaf bound place point kept) (tree.Waiting shown) = (shown ≡ leaf) × (IsBeaten best bound ⊎ (spared ≡ Some index))
IsShown best spared index _ _ = ⊥
