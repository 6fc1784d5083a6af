-- The certificate of what a search of links found: its claim, its link timing and its tree, without the vertices.
use Rattle.progression.specs.Street.{Street}
use Rattle.link_theory.specs.BestLinks.{link_value}
use Rattle.link_proof.specs.LinkWarrants.{LinkWarrant}
use Rattle.box_search.specs.Certified.{warrant_by}
use Rattle.multi_band.specs.LinkTold.{LinkFound}

abbrev pub link_warrant_of : Street → LinkFound → LinkWarrant
link_warrant_of a = warrant_by (link_value a)
