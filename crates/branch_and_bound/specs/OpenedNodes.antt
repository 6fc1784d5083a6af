-- What opening a box answers, and the units of work that it spends.
use Rattle.std.specs.Prelude.{◌≡◌, ℕ, ◌+◌, ◌⊎◌}
use Rattle.rational_theory.specs.Rational.{ℚ}
use Rattle.linear_theory.specs.Boxes.{Area}
use Rattle.search_box.specs.declared.span.At.{At}
use Rattle.named_row.specs.declared.leaves.Leaf.{Leaf}
use Rattle.named_row.specs.declared.leaves.Point.{Point}
use Rattle.branch_and_bound.specs.Lines.{BoxLine, low_line, high_line}
use Rattle.branch_and_bound.specs.Lineages.{Empty, Reads, Cuts, Stuck}
use Rattle.work_meter.specs.Work.{capped, IsWithin, IsSpent}
use Rattle.branch_and_bound.specs.Rules.{Rules, IsMet}
use Rattle.branch_and_bound.specs.Unfinished.{IsUnfinished}
use Rattle.work_meter.specs.declared.meter.Meter.{Meter}
use Rattle.branch_and_bound.specs.declared.opened.Opened.{Opened}
use Rattle.branch_and_bound.specs.declared.opened.Opened.TheVariants.{Infeasible, Timed, Splits, Unread, WorkOut, Wide}

-- the box of a part of a split line, with what the split node kept
pub record IsPart {T K W : Type 0} (r : Rules T K W) (parent : BoxLine) (place : At) (line : BoxLine) (kept : K) (area : Area) : Type 0 where
  pub lineage : IsMet r parent
  pub cut : r.ending parent ≡ Cuts place
  pub kept_is : r.IsKept parent kept
  pub side : (line ≡ low_line place parent) ⊎ (line ≡ high_line place parent)
  pub area_is : area ≡ line.area

pub record OpensEmpty {T K W : Type 0} (r : Rules T K W) (line : BoxLine) (leaf : Leaf) : Type 0 where
  pub end : r.ending line ≡ Empty
  pub leaf_is : r.IsLeaf line leaf
  pub refutes : r.Refutes line.area leaf

-- the leaf of a last vertex, with its bound
pub record HasBound {T K W : Type 0} (r : Rules T K W) (line : BoxLine) (leaf : Leaf) (bound : ℚ) : Type 0 where
  pub leaf_is : r.IsLeaf line leaf
  pub bound_is : bound ≡ r.bound line
  pub covers : r.Covers line.area leaf bound

pub record OpensTimed {T K W : Type 0} (r : Rules T K W) (line : BoxLine) (leaf : Leaf) (bound : ℚ) (timing : T) : Type 0 where
  pub end : r.ending line ≡ Reads
  pub bounds : HasBound r line leaf bound
  pub good : r.IsGood timing bound

pub record OpensCut {T K W : Type 0} (r : Rules T K W) (line : BoxLine) (leaf : Leaf) (bound : ℚ) (place : At) (point : Point) (kept : K) : Type 0 where
  pub end : r.ending line ≡ Cuts place
  pub bounds : HasBound r line leaf bound
  pub vertex_is : r.IsVertex line point
  pub kept_is : r.IsKept line kept

pub record OpensStuck {T K W : Type 0} (r : Rules T K W) (line : BoxLine) (leaf : Leaf) (bound : ℚ) (pivots : ℕ) (part : W) : Type 0 where
  pub end : r.ending line ≡ Stuck
  pub bounds : HasBound r line leaf bound
  pub pivots_is : pivots ≡ capped (r.steps line)
  pub part_is : r.IsWide line (r.steps line) part

-- a box was finished
pub record Finishes {T K W : Type 0} (r : Rules T K W) (line : BoxLine) (before after : Meter) : Type 0 where
  pub spent : after.spent ≡ capped (before.spent + (1 + r.steps line))
  pub within : IsWithin after.spent after.limit

-- a box was left after so many pivots
pub record Leaves (before after : Meter) (pivots : ℕ) : Type 0 where
  pub spent : after.spent ≡ capped (before.spent + (1 + pivots))
  pub within : IsWithin after.spent after.limit

-- what opening a line's box answers
abbrev pub Opens : {T K W : Type 0} → Rules T K W → BoxLine → Meter → Meter → Opened T K W → Type 0
Opens r line before after (Infeasible leaf) = OpensEmpty r line leaf × Finishes r line before after
Opens r line before after (Timed leaf bound timing) = OpensTimed r line leaf bound timing × Finishes r line before after
Opens r line before after (Splits leaf bound place point kept) = OpensCut r line leaf bound place point kept × Finishes r line before after
Opens r line before after (Unread leaf bound pivots part) = OpensStuck r line leaf bound pivots part × Finishes r line before after
Opens r line before after WorkOut = (k : ℕ) × IsUnfinished r line k × r.IsDue line k × Leaves before after k × IsSpent after
Opens r line before after (Wide pivots part) = (k : ℕ) × IsUnfinished r line k × r.IsWide line k part × Leaves before after k × (pivots ≡ capped k)
