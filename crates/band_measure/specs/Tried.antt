-- What the edges that were tried so far give.
use Rattle.std.specs.Prelude.{ℕ, ◌<◌, ◌≤◌, pos, Option, MatchOption}
use Rattle.progression.specs.Street.{Street}
use Rattle.progression.specs.BaseRecord.{BaseRecord, cycle}
use Rattle.progression.specs.declared.parts.Dir.{Dir}
use Rattle.progression.specs.Lines.{RunsOn}
use Rattle.band_measure.specs.Edges.{edge}
use Rattle.band_measure.specs.declared.pair.Widest.{Widest}

-- no band starts at one of the first n edges
abbrev pub NoneAtEdges : Street → BaseRecord → Dir → ℕ → Type 0
NoneAtEdges a t d n = (k b : ℕ) → k < n → ¬ RunsOn a t d (pos (edge a t d k)) b

-- the widest band that starts at one of the first n edges, and the least of them with that band
pub record IsWidestOfEdges (a : Street) (t : BaseRecord) (d : Dir) (n first band : ℕ) : Type 0 where
  pub runs : RunsOn a t d (pos first) band
  pub below : first < cycle a t
  pub widest : (k b : ℕ) → k < n → RunsOn a t d (pos (edge a t d k)) b → b ≤ band
  pub least : (k : ℕ) → k < n → RunsOn a t d (pos (edge a t d k)) band → first ≤ edge a t d k

-- one of the two
abbrev pub FoundOfEdges : Street → BaseRecord → Dir → ℕ → Option Widest → Type 0
FoundOfEdges a t d n found = MatchOption found (NoneAtEdges a t d n) (λ (w : Widest). IsWidestOfEdges a t d n w.first w.band)
