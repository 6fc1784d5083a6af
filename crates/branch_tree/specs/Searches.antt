-- What a search of an artery answers.
use Rattle.std.specs.Prelude.{ℕ, Option}
use Rattle.progression.specs.Street.{Street}
use Rattle.progression.specs.TimingRecord.{TimingRecord}
use Rattle.progression.specs.Best.{weighted_band}
use Rattle.branch_and_bound.specs.declared.incumbent.Incumbent.{Incumbent}
use Rattle.branch_tree.specs.ArteryRules.{rules_of}
use Rattle.box_search.specs.Told.{valued, IsAnswered}
use Rattle.branch_tree.specs.Told.{Found}
-- what this tells besides, by the names that the crates above know
pub use Rattle.branch_tree.specs.Told.{Tells, IsCertifiable}
pub use Rattle.branch_tree.specs.SiteNames.{IsPartOf, HasSite}

-- a timing with its value
abbrev pub incumbent_of : Street → Option TimingRecord → Option (Incumbent TimingRecord)
incumbent_of a = valued (weighted_band a)

-- an accepted tree that was needed, its units, and why the search stopped
abbrev pub IsSearch : Street → Option ℕ → Found → Type 0
IsSearch a = IsAnswered (rules_of a) (weighted_band a)
