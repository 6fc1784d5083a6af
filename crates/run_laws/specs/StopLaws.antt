-- Why a search stopped, and when the statuses of words, of faults and of work come: statements about the definitions of a run, each of which a public call proves.
use Rattle.std.specs.Prelude.{◌≡◌, ◌≢◌, ℕ, ◌<◌, List, All, Option, Some, None}
use Rattle.rational_theory.specs.Rational.{ℚ}
use Rattle.outer_edge.specs.Counts.{Rose}
use Rattle.progression.specs.Street.{Street}
use Rattle.progression.specs.TimingRecord.{TimingRecord}
use Rattle.link_theory.specs.LinkRecord.{LinkRecord}
use Rattle.branch_and_bound.specs.Rules.{Rules}
use Rattle.branch_and_bound.specs.Answer.{IsStoppedAnswer}
use Rattle.branch_and_bound.specs.declared.incumbent.Incumbent.{Incumbent}
use Rattle.branch_and_bound.specs.declared.node.TreeNode.{TreeNode}
use Rattle.branch_and_bound.specs.declared.found.Site.{Site}
use Rattle.branch_and_bound.specs.declared.found.Stop.{Stop}
use Rattle.branch_and_bound.specs.declared.found.Stop.TheVariants.{Work, Wide}
use Rattle.branch_and_bound.specs.declared.found.Verdict.TheVariants as verdict
use Rattle.box_search.specs.declared.site.SitePart.{SitePart}
use Rattle.branch_tree.specs.ArteryRules.{rules_of}
use Rattle.branch_tree.specs.Searches.{incumbent_of}
use Rattle.box_search.specs.SiteNames.{StopsAt}
use Rattle.branch_tree.specs.SiteNames.{IsSiteOf}
use Rattle.branch_tree.specs.Enough.{enough_of}
use Rattle.multi_band.specs.LinkRules.{link_rules}
use Rattle.multi_band.specs.LinkSearches.{link_incumbent_of}
use Rattle.multi_band.specs.LinkSites.{IsLinkSiteOf}
use Rattle.multi_band.specs.LinkEnough.{link_enough_of}
use Rattle.cycle_sweep.specs.declared.row.SweepRow.{SweepRow}
use Rattle.cycle_sweep.specs.declared.row.SweepRow.TheVariants as row
use Rattle.maxband_run.specs.Outside.{Outside}
use Rattle.run_laws.specs.Asked as ask
use Rattle.run_commands.specs.Sought.{Sought, whole_bands, bands_of_links}
use Rattle.run_commands.specs.Checked.{Checked, whole_checked, links_checked}
use Rattle.run_commands.specs.Words.{Request}
use Rattle.run_commands.specs.declared.table.Usage.{Usage}
use Rattle.run_commands.specs.declared.table.Usage.TheVariants as usage
use Rattle.maxband_run.specs.Run.{Question, question, Ends}
use Rattle.run_laws.specs.Laws.{PutsBound}
use Rattle.run_laws.specs.PlanLaws.{PutsTable}
use Rattle.run_inputs.specs.Status.{number_of, IsReached}
use Rattle.run_inputs.specs.declared.cause.Cause.{Cause}
use Rattle.run_inputs.specs.declared.cause.Cause.TheVariants as cause

-- ---- why a search stopped
-- by work: it spent all units of its limit, and fewer than are enough
abbrev pub IsOutOfWork : ℕ → Option ℕ → ℕ → Stop SitePart → Type 0
IsOutOfWork enough limit spent (Work units) = (units ≡ spent) × (limit ≡ Some spent) × (spent < enough)
IsOutOfWork enough limit spent (Wide site) = Unit {0}

-- A search by these rules that stopped so: its tree, of which each box was needed, and the units that it spent. Where it met a refused operation, the steps of the box
-- in which it stands lead to just that site, and the site names what the problem has.
pub record StopsFor {T K : Type 0} (r : Rules T K SitePart) (enough : ℕ) (IsNamed : Site SitePart → Type 0) (limit : Option ℕ) (best : Option (Incumbent T)) (bound : ℚ) (stop : Stop SitePart) : Type 0 where
  pub nodes : List TreeNode
  pub spent : ℕ
  pub answer : IsStoppedAnswer r limit nodes best bound spent stop
  pub by_work : IsOutOfWork enough limit spent stop
  pub named : StopsAt IsNamed stop

abbrev pub SearchStops : Type 0 → Type 1
SearchStops T = Street → Option ℕ → Option T → ℚ → Stop SitePart → Type 0

abbrev pub whole_stops : SearchStops TimingRecord
whole_stops a limit timing bound stop = StopsFor (rules_of a) (enough_of a) (IsSiteOf a) limit (incumbent_of a timing) bound stop

abbrev pub link_stops : SearchStops LinkRecord
link_stops a limit timing bound stop = StopsFor (link_rules a) (link_enough_of a) (IsLinkSiteOf a) limit (link_incumbent_of a timing) bound stop

-- a search with status 2: what it put, and why it stopped with that bound and that timing
abbrev pub StopSays : (k : Sought) → Checked k → SearchStops k.Timing → (List ℕ → List ℕ → Option ℕ → Question) → Type 0
StopSays k s stops asks = (before now : Outside) (artery certificate : List ℕ) (limit : Option ℕ) (c : Cause) → Ends before now (asks artery certificate limit) c
    → number_of c ≡ 2 → (p : PutsBound k s before now artery certificate limit c) × stops p.street limit p.timing p.bound p.stop

abbrev pub SolveStopSays : Type 0
SolveStopSays = StopSays whole_bands whole_checked whole_stops ask.solve

abbrev pub LinksStopSays : Type 0
LinksStopSays = StopSays bands_of_links links_checked link_stops ask.links

-- ---- searches without a limit
abbrev pub Searches : Usage → Type 0
Searches usage.Solve = Unit {0}
Searches usage.Links = Unit {0}
Searches usage.Trial = Unit {0}
Searches usage.Sweep = Unit {0}
Searches usage.Sensitivity = Unit {0}
Searches _ = ⊥

abbrev pub IsUnlimited : Request → Type 0
IsUnlimited r = Searches r.usage × (r.settings.limit ≡ None)

-- a best timing, none, or a named number that left 128 bits; a fault, want of memory, or a description that isn't one of an artery: but no stop by work
abbrev pub EndsOtherThanByWork : Cause → Type 0
EndsOtherThanByWork cause.Done = Unit {0}
EndsOtherThanByWork cause.NoTiming = Unit {0}
EndsOtherThanByWork (cause.Stopped (Wide site)) = Unit {0}
EndsOtherThanByWork (cause.ReadFault file) = Unit {0}
EndsOtherThanByWork cause.WriteFault = Unit {0}
EndsOtherThanByWork cause.Memory = Unit {0}
EndsOtherThanByWork (cause.Refused refusal) = Unit {0}
EndsOtherThanByWork (cause.TooLong file) = Unit {0}
EndsOtherThanByWork _ = ⊥

-- a row of a table whose search didn't stop by work
abbrev pub IsOtherThanByWork : SweepRow → Type 0
IsOtherThanByWork (row.Outside cycle) = Unit {0}
IsOtherThanByWork (row.Searched cycle found) = (units : ℕ) → found.verdict ≢ verdict.Stopped (Work units)

-- Where the words say `all`, no search is stopped by work, and neither is one of a table.
pub record AllNeverStopsByWork : Type 0 where
  pub ends : (before now : Outside) (asked : Request) (c : Cause) → IsUnlimited asked → Ends before now (question (Some asked)) c → EndsOtherThanByWork c
  pub rows : (before now : Outside) (artery table : List ℕ) (words : List (List ℕ)) (p : PutsTable before now artery table None words) → All IsOtherThanByWork p.rows

-- ---- words
-- Words that are none of the usages are told so, unless a fault or want of memory ends the run, and no others are: also where the files tell nothing.
pub record WordsAreTold : Type 0 where
  pub none : (before now : Outside) (c : Cause) → IsReached c → Ends before now (question None) c → number_of c ≡ 5
  pub only : (before now : Outside) (asked : Option Request) (c : Cause) → Ends before now (question asked) c → number_of c ≡ 5 → asked ≡ None

-- ---- faults
-- Over files and an output of which no count of failed calls rises no run ends by a fault.
abbrev pub FaultsAreCounted : Type 0
FaultsAreCounted = (before now : Outside) (asked : Option Request) (c : Cause)
    → ((name : List ℕ) → ¬ Rose (before.reads name) (now.reads name)) → ((name : List ℕ) → ¬ Rose (before.puts name) (now.puts name)) → ¬ Rose before.writes now.writes
    → Ends before now (question asked) c → (number_of c ≢ 6) × (number_of c ≢ 7)
