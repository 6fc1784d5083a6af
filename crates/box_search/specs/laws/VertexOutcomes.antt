-- Only a vertex that splits its box splits it to the program.
use Rattle.std.proofs.Common.{◌≡◌, ap}
use Rattle.search_box.specs.declared.span.At.{At}
use Rattle.offset_recovery.specs.Outcomes as vertices
use Rattle.box_search.specs.Program as program
use Rattle.box_search.specs.VertexOutcomes.{outcome_of}

module _ {T : Type 0} where
  pub only_splits : (o : vertices.Outcome T) (place : At) → outcome_of o ≡ program.Splits place → o ≡ vertices.Splits place
  only_splits (vertices.Refused wide) place e = cc
  only_splits (vertices.Splits other) place e = let f : other ≡ place = cc in ap vertices.Splits f
  only_splits (vertices.Gives other) place e = cc
