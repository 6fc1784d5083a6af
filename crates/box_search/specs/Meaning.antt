-- What a program over boxes means to a search: its root, its good timings, which leaves prove what, and what an end keeps for the parts of
-- its box. With its program it is the rules of a relaxation.
use Rattle.std.specs.Prelude.{◌≡◌, None}
use Rattle.rational_theory.specs.Rational.{ℚ}
use Rattle.linear_theory.specs.Boxes.{Area}
use Rattle.named_row.specs.declared.leaves.Leaf.{Leaf}
use Rattle.named_row.specs.declared.names.RowId.{RowId}
use Rattle.named_row.specs.declared.wide_at.WideAt.{WideAt}
use Rattle.simplex_theory.specs.Tableau.{Tableau}
use Rattle.fraction_tableau.specs.declared.wide_cell.WideCell.{WideCell}
use Rattle.branch_and_bound.specs.Lines.{BoxLine}
use Rattle.branch_and_bound.specs.Lineages.{Empty, Reads, IsOptimal}
use Rattle.branch_and_bound.specs.Rules.{Rules, Laws}
use Rattle.box_search.specs.declared.site.SitePart.{SitePart}
use Rattle.box_search.specs.declared.site.SitePart.TheVariants.{Ratio, Cell, LeafSum}
use Rattle.box_search.specs.Program.{Program, Gives}
use Rattle.box_search.specs.Ends.{steps_of, last_table, end_point, end_bound, end_leaf, ending_of}
use Rattle.box_search.specs.Sites.{IsDue, IsWide}
use Rattle.box_search.specs.Runs.{IsEndLeaf, IsEndPoint}

-- with what is kept of type K
pub record Meaning {T W : Type 0} (K : Type 0) (p : Program T W) : Type 1 where
  -- what the laws ask of the problem
  pub IsSound : Type 0
  -- the box at the top, the leaf before any step at it, and that leaf's bound
  pub root : Area
  pub IsStart : Leaf → Type 0
  pub start_bound : ℚ
  -- what an end keeps of its last tableau
  pub Keeps : Tableau → K → Type 0
  -- the timing is good and has this value
  pub IsGood : T → ℚ → Type 0
  -- a leaf shows that its box holds no timing; or none of a greater value than this
  pub Refutes : Area → Leaf → Type 0
  pub Covers : Area → Leaf → ℚ → Type 0
  pub laws : Laws IsSound root (ending_of p) (end_bound p) (IsEndLeaf p) Refutes Covers

-- the relaxation, searched along lines of boxes
abbrev pub rules_from : {T K W : Type 0} (p : Program T W) → Meaning K p → Rules T K W
rules_from p m = record {
  IsSound = m.IsSound;
  root = m.root;
  steps = steps_of p;
  ending = ending_of p;
  bound = end_bound p;
  IsLeaf = IsEndLeaf p;
  IsVertex = IsEndPoint p;
  IsKept = λ line kept. m.Keeps (last_table p line) kept;
  IsStart = m.IsStart;
  start_bound = m.start_bound;
  IsGood = m.IsGood;
  IsDue = IsDue p;
  IsWide = IsWide p;
  Refutes = m.Refutes;
  Covers = m.Covers;
  laws = m.laws;
}

-- What the end of a line proves, where no operation of its leaf's sum is refused, and that no operation of a proof's sum is; what a timing
-- that is read off a vertex of some box of these is; and that refused operations are named by their kind.
pub record EndsProve {T K : Type 0} (p : Program T SitePart) (m : Meaning K p) (IsFor : Area → Type 0) : Type 0 where
  pub covers : (line : BoxLine) (leaf : Leaf) → IsEndLeaf p line leaf → p.leaf_fault line.area (end_leaf p line) ≡ None → IsOptimal (ending_of p line) → m.Covers line.area leaf (end_bound p line)
  pub refutes : (line : BoxLine) (leaf : Leaf) → IsEndLeaf p line leaf → p.leaf_fault line.area (end_leaf p line) ≡ None → ending_of p line ≡ Empty → m.Refutes line.area leaf
  pub covering_free : (box : Area) (leaf : Leaf) (value : ℚ) → m.Covers box leaf value → p.leaf_fault box leaf.multipliers.items ≡ None
  pub refuting_free : (box : Area) (leaf : Leaf) → m.Refutes box leaf → p.leaf_fault box leaf.multipliers.items ≡ None
  pub reads_good : (line : BoxLine) (timing : T) → IsFor line.area → ending_of p line ≡ Reads → p.outcome line.area (end_point p line) ≡ Gives timing → m.IsGood timing (end_bound p line)
  pub ratios_named : (cell : WideCell) → p.ratio_part cell ≡ Ratio cell
  pub pivots_named : (cell : WideCell) → p.pivot_part cell ≡ Cell cell
  pub sums_named : (row : RowId) (at : WideAt) → p.sum_part row at ≡ LeafSum row at
