-- The first refusal of a tree's nodes, in their order, over any rows, goal and limit.
use Rattle.std.specs.Prelude.{◌≡◌, ℕ, ◌+◌, nat_le, nat_lt, int_le, int_lt, ◌&&◌, not, Bool, List, [], ◌∷◌, length, Option, None, Some, option_map}
use Rattle.rational_theory.specs.Rational.{ℚ}
use Rattle.linear_theory.specs.Boxes.{Area, loop_span, turn_span}
use Rattle.narrow_fraction.specs.Attempt.{refusal_if, earlier}
use Rattle.named_row.specs.Sheets.{Sheet}
use Rattle.named_row.specs.Covering.{uncovered, unrefuted}
use Rattle.named_row.specs.declared.names.Place.{Place}
use Rattle.named_row.specs.declared.leaves.Weight.{Weight}
use Rattle.loop_rows.specs.Weights.{Source, fault_of, total_of}
use Rattle.loop_rows.specs.declared.fault.SumFault.{SumFault}
use Rattle.loop_rows.specs.declared.fault.SumFault.TheVariants as fault
use Rattle.search_box.specs.Places.{low_part, high_part}
use Rattle.search_box.specs.declared.span.At.{At}
use Rattle.search_box.specs.declared.span.At.TheVariants.{Loop, Turn}
use Rattle.certificate_model.specs.Warrants.{Node, SplitAt, LeafOf}
use Rattle.certificate_checker.specs.declared.leaves.Aim.{Aim}
use Rattle.certificate_checker.specs.declared.reject.Reject.{Reject}
use Rattle.certificate_checker.specs.declared.reject.Reject.TheVariants.{SplitOutside, NoSuchRow, Negative, Wide, LeafTooWeak, Memory}

-- ---- splits
-- the place lies in the box
abbrev pub is_place : Area → At → Bool
is_place box (Loop i at) = nat_le 1 i && nat_le i (length box.loops) && int_le (loop_span box i).least at && int_lt at (loop_span box i).most
is_place box (Turn i rank) = nat_le 1 i && nat_le i (length box.turns) && nat_le (turn_span box i).least rank && nat_lt rank (turn_span box i).most

abbrev pub split_refusal : {F : Type 0} → Area → ℕ → At → Option (Reject F)
split_refusal box node at = refusal_if (not (is_place box at)) (SplitOutside node)

-- ---- leaves
-- a sum's fault, of this leaf
abbrev pub reject_of : {F : Type 0} → ℕ → SumFault → Reject F
reject_of leaf (fault.NoSuchRow row) = NoSuchRow leaf row
reject_of leaf (fault.Negative row) = Negative leaf row
reject_of leaf (fault.Wide row at) = Wide leaf row at
reject_of leaf fault.Memory = Memory

-- the second, where both are refused
abbrev pub where_both : Option Place → Option Place → Option Place
where_both None second = None
where_both (Some first) second = second

-- where a sum fails to show what is claimed
abbrev pub weakness : Sheet → Sheet → Option ℚ → Option Place
weakness sum goal None = unrefuted sum
weakness sum goal (Some limit) = where_both (unrefuted sum) (uncovered sum goal limit)

unfoldable pub leaf_refusal : {F : Type 0} → Source → Aim → ℕ → List Weight → Option (Reject F)
leaf_refusal rows aim leaf ws =
    earlier (option_map (reject_of leaf) (fault_of rows ws)) (option_map (LeafTooWeak leaf) (weakness (total_of rows ws) aim.goal aim.limit))

-- ---- nodes
-- a node with its box, with its numbers among the nodes and among the leaves
abbrev pub node_refusal : {F : Type 0} → (Area → Source) → Aim → Area → ℕ → ℕ → Node → Option (Reject F)
node_refusal rows aim box node leaf (SplitAt at) = split_refusal box node at
node_refusal rows aim box node leaf (LeafOf ws) = leaf_refusal (rows box) aim leaf ws

-- after a node: the boxes that want a tree, and how many leaves were read
abbrev pub boxes_after : Area → List Area → Node → List Area
boxes_after box boxes (SplitAt at) = low_part box at ∷ high_part box at ∷ boxes
boxes_after box boxes (LeafOf ws) = boxes

abbrev pub leaves_after : ℕ → Node → ℕ
leaves_after leaves (SplitAt at) = leaves
leaves_after leaves (LeafOf ws) = leaves + 1

-- the nodes that are left, after so many nodes and leaves, for the boxes that want a tree
abbrev pub tree_refusal : {F : Type 0} → (Area → Source) → Aim → ℕ → ℕ → List Area → List Node → Option (Reject F)
tree_refusal rows aim nodes leaves boxes [] = None
tree_refusal rows aim nodes leaves [] (n ∷ ns) = None
tree_refusal rows aim nodes leaves (box ∷ boxes) (n ∷ ns) =
    earlier (node_refusal rows aim box (nodes + 1) (leaves + 1) n) (tree_refusal rows aim (nodes + 1) (leaves_after leaves n) (boxes_after box boxes n) ns)

-- r is the first of these refusals, or want of memory, which may come in its place
abbrev pub IsFirst : {F : Type 0} → Option (Reject F) → Reject F → Type 0
IsFirst first Memory = Unit {0}
IsFirst first r = first ≡ Some r
