-- What a search of links answers.
use Rattle.std.specs.Prelude.{ℕ, Option}
use Rattle.progression.specs.Street.{Street}
use Rattle.link_theory.specs.LinkRecord.{LinkRecord}
use Rattle.link_theory.specs.BestLinks.{link_value}
use Rattle.branch_and_bound.specs.declared.incumbent.Incumbent.{Incumbent}
use Rattle.box_search.specs.Told.{valued, IsAnswered}
use Rattle.multi_band.specs.LinkTold.{LinkFound}
use Rattle.multi_band.specs.LinkRules.{link_rules}

-- a link timing with its value
abbrev pub link_incumbent_of : Street → Option LinkRecord → Option (Incumbent LinkRecord)
link_incumbent_of a = valued (link_value a)

-- an accepted tree that was needed, its units, and why the search stopped
abbrev pub IsLinkSearch : Street → Option ℕ → LinkFound → Type 0
IsLinkSearch a = IsAnswered (link_rules a) (link_value a)
