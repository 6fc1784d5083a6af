-- The plan of offsets that are tried, and which of the moves from them is made.
use Rattle.std.specs.Prelude.{◌≡◌, ℕ, List, ◌∷◌, ◌++◌, All, Option, Some, None}
use Rattle.progression.specs.Street.{Street}
use Rattle.progression.specs.BaseRecord.{BaseRecord}
use Rattle.progression.specs.TimingRecord.{TimingRecord}
use Rattle.whole_offsets.specs.Offsets.{AreWithin, IsPlanOf}
use Rattle.whole_offsets.specs.Moves.{IsMoved, IsMove}
use Rattle.whole_offsets.specs.Score.{IsScore, IsSmall, IsBetter, IsBetterPlan}
use Rattle.whole_offsets.specs.declared.moves.Move.{Move}
use Rattle.whole_offsets.specs.declared.plan.Tried.{Tried}
use Rattle.whole_offsets.specs.declared.score.Score.{Score}

pub record IsTried (a : Street) (b : BaseRecord) (k : ℕ) (x : Tried) : Type 0 where
  pub seconds_are : x.rounded.seconds ≡ k
  pub within : AreWithin a k x.rounded.offsets.items
  pub plan : IsPlanOf a b k x.rounded.offsets.items x.timing
  pub score_is : IsScore a x.timing x.score
  pub small : IsSmall a x.timing

-- the plan of the offsets after a move
pub record IsAfter (a : Street) (b : BaseRecord) (there : Tried) (m : Move) (x : Tried) : Type 0 where
  pub moved : IsMoved there.rounded.seconds there.rounded.offsets.items m x.rounded.offsets.items
  pub tried : IsTried a b there.rounded.seconds x

-- the move has a plan, and its score is such
abbrev pub HasPlan : Street → BaseRecord → Tried → (Score → Type 0) → Move → Type 0
HasPlan a b there Such m = (x : Tried) × (IsAfter a b there m x × Such x.score)

-- The best of the moves, of equally good ones the first: its plan is better than those of the moves before it, and none after it has a better one.
pub record IsFirstBest (a : Street) (b : BaseRecord) (there : Tried) (moves : List Move) (best : Tried) : Type 0 where
  pub before : List Move
  pub move : Move
  pub after : List Move
  pub moves_are : moves ≡ before ++ move ∷ after
  pub plan : IsAfter a b there move best
  pub earlier : All (HasPlan a b there (λ s. IsBetter best.score s)) before
  pub later : All (HasPlan a b there (λ s. ¬ IsBetter s best.score)) after

-- what is made of the moves: the best where it is better than what is there, and none where no move is
abbrev pub IsMade : Street → BaseRecord → Tried → List Move → Option Tried → Type 0
IsMade a b there moves None = All (HasPlan a b there (λ s. ¬ IsBetter s there.score)) moves
IsMade a b there moves (Some best) = IsFirstBest a b there moves best × IsBetter best.score there.score

-- what is made with some moves more
abbrev pub IsMadeWith : Street → BaseRecord → Tried → List Move → Option Tried → Option Tried → Type 0
IsMadeWith a b there more before after = (moves : List Move) → IsMade a b there moves before → IsMade a b there (moves ++ more) after

-- no move's plan is better
abbrev pub NoMoveIsBetter : Street → BaseRecord → ℕ → Tried → Type 0
NoMoveIsBetter a b k x = (other : List ℕ) (q : TimingRecord) → IsMove k x.rounded.offsets.items other → IsPlanOf a b k other q → ¬ IsBetterPlan a q x.timing
