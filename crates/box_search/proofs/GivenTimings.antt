-- Only a vertex that gives a timing gives it to the program.
use Rattle.std.proofs.Common.{◌≡◌, ap}
use Rattle.offset_recovery.specs.Outcomes as vertices
use Rattle.box_search.specs.Program as program
use Rattle.box_search.specs.VertexOutcomes.{outcome_of}

module _ {T : Type 0} where
  pub only_gives : (o : vertices.Outcome T) (timing : T) → outcome_of o ≡ program.Gives timing → o ≡ vertices.Gives timing
  only_gives (vertices.Refused wide) timing e = cc
  only_gives (vertices.Splits place) timing e = cc
  only_gives (vertices.Gives other) timing e = let f : other ≡ timing = cc in ap vertices.Gives f
