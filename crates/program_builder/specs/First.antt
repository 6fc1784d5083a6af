-- The tableau that the steps of a box begin from, by the boxes above it: the opening at the top, and below it the entry of the basic
-- variables that the box above ended with, or the opening where the entry's pivots leave 128 bits.
use Rattle.std.proofs.Common.{◌≡◌, ℕ, cond, List, [], ◌∷◌}
use Rattle.std.specs.Prelude.{is_none}
use Rattle.progression.specs.Street.{Street, count}
use Rattle.linear_theory.specs.Places as places
use Rattle.linear_theory.specs.Boxes.{Area}
use Rattle.simplex_theory.specs.Tableau.{Tableau, width}
use Rattle.simplex_theory.specs.DualSteps.{IsDual}
use Rattle.simplex_theory.specs.StepCounts.{after, steps_to_end}
use Rattle.simplex_theory.specs.RowLists.{StandsForRows}
use Rattle.entry_theory.specs.Entry.{entry}
use Rattle.entry_theory.specs.Basics.{basics_of}
use Rattle.program_builder.specs.EntryRefusals.{entry_refusal}
use Rattle.program_builder.specs.Opening.{box_rows, goal_of, loaded, opening}

abbrev pub last_of : Tableau → Tableau
last_of t = after t (steps_to_end t)

unfoldable pub entry_or_opening : Street → Area → List ℕ → Tableau
entry_or_opening a box vs = cond (is_none (entry_refusal vs (loaded a box))) (entry vs (loaded a box)) (opening a box)

-- the boxes above, the nearest first
unfoldable pub first_of : Street → Area → List Area → Tableau
first_of a box [] = opening a box
first_of a box (b ∷ bs) = entry_or_opening a box (basics_of (last_of (first_of a b bs)))

-- what a search needs of it
pub record IsFirstFor (a : Street) (box : Area) (t : Tableau) : Type 0 where
  pub columns : width t ≡ places.width (count a)
  pub dual : IsDual t
  pub stands : StandsForRows t (box_rows a box) (goal_of a)
