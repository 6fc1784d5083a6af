-- When the boxes of an artery can be searched.
use Rattle.progression.specs.Street.{Street}
use Rattle.artery_model.specs.Valid.{IsValid}
use Rattle.linear_theory.specs.Boxes.{IsBoxOf, root_box}

-- a valid artery whose root box is a box of it: each of its signals has a shift
pub record IsSearchable (a : Street) : Type 0 where
  pub valid : IsValid a
  pub root : IsBoxOf a (root_box a)
