-- What a tree proves of every good timing, on any grid.
use Rattle.std.proofs.Common.{◌⊎◌, inl, inr, List, [], ◌∷◌, map}
use Rattle.rational_theory.specs.Rational.{ℚ, ◌≤ℚ◌}
use Rattle.rational_theory.specs.Rows as maths
use Rattle.rational_theory.proofs.Rows.{combine_met}
use Rattle.rational_theory.specs.Rows.{AllMet, AllNonNegative, IsMet}
use Rattle.progression.specs.Street.{Street}
use Rattle.progression.specs.TimingRecord.{TimingRecord}
use Rattle.progression.specs.Good.{Good}
use Rattle.progression.specs.Best.{weighted_band, Bounded, NoTiming}
use Rattle.progression.specs.Columns.{point}
use Rattle.linear_theory.specs.Boxes.{Area, InBox, IsBoxOf, IsRoot, low_loop, high_loop, low_turn, high_turn}
use Rattle.linear_theory.specs.Rows.{line}
use Rattle.linear_theory.specs.Names.{HasRow, form_of}
use Rattle.linear_theory.specs.Counts.{IsStreet, Counts}
use Rattle.linear_theory.specs.Covering.{CoversGoal, RefutesAll}
use Rattle.linear_theory.specs.Trees.{BoxTree, LeafOf, LoopSplit, TurnSplit, AcceptedBy, sum_of_rows, AreMultipliers, Weight, Tree, leaf_sum, AreWeights, Accepted}
use Rattle.linear_theory.proofs.NamedRows.{row_law}
use Rattle.linear_theory.proofs.Splits.{loop_split}
use Rattle.linear_theory.proofs.TurnSplits.{turn_split}
use Rattle.linear_theory.proofs.PartBoxes.{low_loop_boxed, high_loop_boxed, low_turn_boxed, high_turn_boxed}
use Rattle.linear_theory.proofs.Roots.{root_law, shift_there}
use Rattle.linear_theory.proofs.RootBoxes.{root_boxed}
use Rattle.linear_theory.proofs.Bounds.{covers_law, refutes_law}

-- ---- trees of any leaves
module _ (a : Street) (t : TimingRecord) {L : Type 0} (P : Area → L → Type 0) (Q : Type 0)
    (leaf : (box : Area) → IsBoxOf a box → InBox a box t → (l : L) → P box l → Q) where
  -- what each leaf proves of a timing of its box, the tree proves of a timing of the whole
  pub tree_law : (tree : BoxTree L) (box : Area) → IsBoxOf a box → InBox a box t → AcceptedBy P box tree → Q
  tree_law (LeafOf l) box b i c = leaf box b i l c
  tree_law (LoopSplit k at low high) box b i c = elim (loop_split a box t k at b c.0 i) [
    | inl m ↦ tree_law low (low_loop box k at) (low_loop_boxed a box b k at c.0) m c.1
    | inr m ↦ tree_law high (high_loop box k at) (high_loop_boxed a box b k at c.0) m c.2
  ]
  tree_law (TurnSplit k rank low high) box b i c = elim (turn_split a box t k rank b c.0 i) [
    | inl m ↦ tree_law low (low_turn box k rank) (low_turn_boxed a box b k rank c.0) m c.1
    | inr m ↦ tree_law high (high_turn box k rank) (high_turn_boxed a box b k rank c.0) m c.2
  ]

  -- at the root it proves it of each good timing
  pub root_tree_law : IsStreet a → Good a t → (tree : BoxTree L) (root : Area) → IsRoot a root → AcceptedBy P root tree → Q
  root_tree_law h g tree root r c = tree_law tree root (root_boxed a root (shift_there a t h g) r) (root_law a t h g root r) c

-- ---- leaves that are sums of rows
module _ {N : Type 0} (row : N → maths.Row) (has : N → Type 0) (x : List ℚ) (met : (n : N) → has n → IsMet x (row n)) where
  -- a point that meets the rows meets each row of a leaf
  weights_met : (ws : List (ℚ × N)) → AreMultipliers has ws → AllMet x (map (λ (w : ℚ × N). row w.1) ws)
  weights_met [] h = tt
  weights_met (w ∷ ws) h = (met w.1 h.0, weights_met ws h.2)

  -- the multipliers are at least 0
  weights_not_negative : (ws : List (ℚ × N)) → AreMultipliers has ws → AllNonNegative (map (λ (w : ℚ × N). w.0) ws)
  weights_not_negative [] h = tt
  weights_not_negative (w ∷ ws) h = (h.1, weights_not_negative ws h.2)

  -- so it meets their sum
  pub sum_met : (ws : List (ℚ × N)) → AreMultipliers has ws → IsMet x (sum_of_rows row ws)
  sum_met ws h = combine_met _ _ x (weights_not_negative ws h) (weights_met ws h)

-- ---- those of an artery's rows
-- the point of a good timing of the box meets a leaf's sum
pub leaf_met : (a : Street) (box : Area) (t : TimingRecord) → Counts a box t → (ws : List Weight) → AreWeights a ws → IsMet (point a t) (leaf_sum a box ws)
leaf_met a box t c ws h = sum_met (λ n. line a (form_of a box n)) (HasRow a) (point a t) (row_law a box t c) ws h

-- where every leaf covers the goal with the value, or refutes, no good timing has a greater weighted band
pub bounded : (a : Street) (root : Area) (tree : Tree) (value : ℚ) → IsStreet a → IsRoot a root
    → Accepted (λ r. CoversGoal a value r ⊎ RefutesAll a r) a root tree → Bounded a value
bounded a root tree value h r c = λ t g.
    root_tree_law a t (λ box ws. AreWeights a ws × (CoversGoal a value (leaf_sum a box ws) ⊎ RefutesAll a (leaf_sum a box ws))) (weighted_band a t ≤ℚ value)
    (λ box b i ws l. let k : Counts a box t = record { street = h; good = g; boxed = b; inside = i } in elim l.1 [
      | inl m ↦ covers_law a t h g (leaf_sum a box ws) value (leaf_met a box t k ws l.0) m
      | inr m ↦ absurd (refutes_law a t h g (leaf_sum a box ws) (leaf_met a box t k ws l.0) m)
    ])
    h g tree root r c

-- where every leaf refutes, no timing is good
pub no_timing : (a : Street) (root : Area) (tree : Tree) → IsStreet a → IsRoot a root → Accepted (RefutesAll a) a root tree → NoTiming a
no_timing a root tree h r c = λ t g.
    root_tree_law a t (λ box ws. AreWeights a ws × RefutesAll a (leaf_sum a box ws)) ⊥
    (λ box b i ws l. refutes_law a t h g (leaf_sum a box ws) (leaf_met a box t (record { street = h; good = g; boxed = b; inside = i }) ws l.0) l.1)
    h g tree root r c
