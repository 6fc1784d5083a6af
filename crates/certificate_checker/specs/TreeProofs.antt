-- What each leaf of a tree is to show, over any rows, goal and limit; and lists of nodes that are whole trees for boxes.
use Rattle.std.specs.Prelude.{◌≡◌, ◌⊎◌, List, [], ◌∷◌, true, Option, None, Some}
use Rattle.rational_theory.specs.Rational.{ℚ, ◌≤ℚ◌}
use Rattle.progression.specs.Speeds.{number}
use Rattle.linear_theory.specs.Boxes.{Area}
use Rattle.named_row.specs.Sheets.{Sheet, blank}
use Rattle.named_row.specs.Covering.{Covers, Refutes}
use Rattle.named_row.specs.Refusals.{sum_refusal}
use Rattle.named_row.specs.declared.leaves.Weight.{Weight}
use Rattle.loop_rows.specs.Weights.{Source, with_weight, total_of}
use Rattle.search_box.specs.Places.{IsPlace, low_part, high_part}
use Rattle.certificate_model.specs.Warrants.{Node, SplitAt, LeafOf}
use Rattle.certificate_checker.specs.declared.leaves.Aim.{Aim}

-- ---- leaves
-- the rows are there, and no multiplier is negative
abbrev pub AreRows : Source → List Weight → Type 0
AreRows rows [] = Unit {0}
AreRows rows (w ∷ ws) = (rows.has w.row ≡ true) × (number 0 ≤ℚ w.by) × AreRows rows ws

-- no operation of the sum leaves 128 bits, from this sum on
abbrev pub FitAlong : Source → Sheet → List Weight → Type 0
FitAlong rows sum [] = Unit {0}
FitAlong rows sum (w ∷ ws) = (sum_refusal w.by (rows.row w.row) sum ≡ None) × FitAlong rows (with_weight rows sum w) ws

-- no point meets the sum, or it keeps the goal down to the limit
abbrev pub Keeps : Sheet → Option ℚ → Sheet → Type 0
Keeps goal None sum = Refutes sum
Keeps goal (Some limit) sum = Covers sum goal limit ⊎ Refutes sum

pub record IsLeafProof (rows : Source) (aim : Aim) (ws : List Weight) : Type 0 where
  pub there : AreRows rows ws
  pub fits : FitAlong rows (blank rows.width) ws
  pub keeps : Keeps aim.goal aim.limit (total_of rows ws)

-- ---- trees
-- the nodes, read in their order, are whole trees for these boxes: each split's place lies in its box, and its two parts
-- are the next boxes; of each leaf and its box P holds
abbrev pub ProveAll : (Area → List Weight → Type 0) → List Area → List Node → Type 0
ProveAll P [] [] = Unit {0}
ProveAll P [] (n ∷ ns) = ⊥
ProveAll P (box ∷ boxes) [] = ⊥
ProveAll P (box ∷ boxes) (SplitAt at ∷ ns) = IsPlace box at × ProveAll P (low_part box at ∷ high_part box at ∷ boxes) ns
ProveAll P (box ∷ boxes) (LeafOf ws ∷ ns) = P box ws × ProveAll P boxes ns

-- each leaf with the rows of its box
abbrev pub IsTreeProof : (Area → Source) → Aim → List Area → List Node → Type 0
IsTreeProof rows aim = ProveAll (λ box ws. IsLeafProof (rows box) aim ws)
