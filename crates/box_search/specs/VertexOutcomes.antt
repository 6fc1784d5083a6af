-- What a vertex is to a program, as it is to the recovery of offsets.
use Rattle.offset_recovery.specs.Outcomes as vertices
use Rattle.box_search.specs.declared.site.SitePart.{SitePart}
use Rattle.box_search.specs.declared.site.SitePart.TheVariants.{Timing}
use Rattle.box_search.specs.Program.{Outcome, Refused, Splits, Gives}

abbrev pub outcome_of : {T : Type 0} → vertices.Outcome T → Outcome T SitePart
outcome_of (vertices.Refused wide) = Refused (Timing wide)
outcome_of (vertices.Splits place) = Splits place
outcome_of (vertices.Gives timing) = Gives timing
