-- Along a line of splits every box is of a kind that the root is of and that parts keep.
use Rattle.std.specs.Prelude.{◌≡◌}
use Rattle.linear_theory.specs.Boxes.{Area}
use Rattle.search_box.specs.declared.span.At.{At}
use Rattle.search_box.specs.Places.{low_part, high_part}
use Rattle.branch_and_bound.specs.Lines.{BoxLine}
use Rattle.branch_and_bound.specs.Lineages.{Ending, Cuts, IsLineage, at_top, at_low, at_high}

module _ (S : Type 0) (root : Area) (ending : BoxLine → Ending) where
  pub sound_along : (line : BoxLine) → IsLineage S root ending line → S
  sound_along _ (at_top s) = s
  sound_along _ (at_low line place l e) = sound_along line l
  sound_along _ (at_high line place l e) = sound_along line l

  module _ (IsFor : Area → Type 0) (top : S → IsFor root) (parts : (line : BoxLine) (place : At) → S → IsFor line.area → ending line ≡ Cuts place → IsFor (low_part line.area place) × IsFor (high_part line.area place)) where
    pub boxed_along : (line : BoxLine) → IsLineage S root ending line → IsFor line.area
    boxed_along _ (at_top s) = top s
    boxed_along _ (at_low line place l e) = (parts line place (sound_along line l) (boxed_along line l) e).0
    boxed_along _ (at_high line place l e) = (parts line place (sound_along line l) (boxed_along line l) e).1
