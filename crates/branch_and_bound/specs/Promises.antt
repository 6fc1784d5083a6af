-- What the words for boxes promise.
use Rattle.std.specs.Prelude.{◌≡◌, ◌+◌, ◌<◌}
use Rattle.linear_theory.specs.Boxes.{Area}
use Rattle.search_box.specs.declared.span.At.{At}
use Rattle.search_box.specs.Places.{IsPlace, low_part, high_part}
use Rattle.branch_and_bound.specs.Choices.{choices, HasNumbers}

-- a box has a choice where each of its spans has a number, and the choices of a box are those of its two parts
pub record ChoicesAreShared : Type 0 where
  pub some : (box : Area) → HasNumbers box → 0 < choices box
  pub parts : (box : Area) (place : At) → IsPlace box place → choices (low_part box place) + choices (high_part box place) ≡ choices box
