-- What the dual simplex method promises, as an outsider reads it.
use Rattle.std.proofs.Common.{◌≡◌, ◌↔◌, ℕ, pos, List, false, ◌+◌, ◌^◌, ◌<◌, ◌≤◌}
use Rattle.rational_theory.specs.Rational.{ℚ, whole, ◌*ℚ◌, ◌≤ℚ◌}
use Rattle.rational_theory.specs.Rows.{Row}
use Rattle.simplex_theory.specs.Tableau.{Tableau, cell, height, width, bound, goal_bound, IsShaped, IsPlace, Meets, goal_gap, exchange}
use Rattle.simplex_theory.specs.DualSteps.{IsPlaced, IsDual, IsChoice}
use Rattle.simplex_theory.specs.BlandRule.{move, Says}
use Rattle.simplex_theory.specs.Paths.{HaveSameBasics}
use Rattle.simplex_theory.specs.StepCounts.{after, is_pivot, steps_to_end}
use Rattle.simplex_theory.specs.Totals.{total}
use Rattle.simplex_theory.specs.Multipliers.{System, StandsFor, goal_weight, row_weight}
use Rattle.simplex_theory.specs.LoadedRows.{HoldsRows}
use Rattle.simplex_theory.specs.RowLists.{StandsForRows, IsOptimalPoint, vertex_point}

-- an exchange keeps which assignments meet the tableau, both ways, and what the goal row says on them
pub record SameAfterExchange (r j : ℕ) (t : Tableau) (x : ℕ → ℚ) (z : ℚ) : Type 0 where
  pub met : Meets t x z ↔ Meets (exchange r j t) x z
  pub goal : (y : ℚ) → Meets t x z → goal_gap (exchange r j t) x z y ≡ goal_gap t x z y

abbrev pub ExchangeKeeps : Type 0
ExchangeKeeps = (r j : ℕ) (t : Tableau) (x : ℕ → ℚ) (z : ℚ) → IsShaped t → IsPlace t r j → SameAfterExchange r j t x z

-- a step at a chosen place keeps the tableau dual feasible, and the goal row's bound does not rise
pub record DualAfterStep (r j : ℕ) (t : Tableau) : Type 0 where
  pub dual : IsDual (exchange r j t)
  pub goal_bound_falls : goal_bound (exchange r j t) ≤ℚ goal_bound t

abbrev pub StepKeeps : Type 0
StepKeeps = (r j : ℕ) (t : Tableau) → IsDual t → IsChoice t r j → DualAfterStep r j t

-- Bland's move is an end exactly as it says, and else a choice
abbrev pub MoveSays : Type 0
MoveSays = (t : Tableau) → Says t (move t)

-- on the way to the end no set of basic variables comes twice, so the end comes after fewer than 2 ^ (rows + width) steps
pub record NoBasisTwice (t : Tableau) : Type 0 where
  pub apart : (i k : ℕ) → i < k → k ≤ steps_to_end t → HaveSameBasics (after t i) (after t k) → ⊥
  pub few : steps_to_end t < 2 ^ (height t + width t)
  pub ended : is_pivot (move (after t (steps_to_end t))) ≡ false

abbrev pub StepsEnd : Type 0
StepsEnd = (t : Tableau) → IsDual t → NoBasisTwice t

-- the goal row's multipliers: none is negative, and the weighted sum of the rows covers the goal with the goal row's bound
pub record GoalCovers (t : Tableau) (s : System) : Type 0 where
  pub not_negative : (v : ℕ) → whole (pos 0) ≤ℚ goal_weight t v
  pub coefs : (c : ℕ) → c < width t → s.goal c ≤ℚ total (λ r. goal_weight t (width t + r) *ℚ s.coef r c) (height t)
  pub limit : total (λ r. goal_weight t (width t + r) *ℚ s.limit r) (height t) ≡ goal_bound t

-- a row's multipliers, where no cell of it is negative: none is negative, no coefficient of the weighted sum is, and the sum's
-- bound is the row's. So a negative bound refutes the rows.
pub record RowRefutes (t : Tableau) (s : System) (i : ℕ) : Type 0 where
  pub not_negative : (v : ℕ) → whole (pos 0) ≤ℚ row_weight t i v
  pub coefs : (c : ℕ) → c < width t → whole (pos 0) ≤ℚ total (λ r. row_weight t i (width t + r) *ℚ s.coef r c) (height t)
  pub limit : total (λ r. row_weight t i (width t + r) *ℚ s.limit r) (height t) ≡ bound t i

abbrev pub GoalRowCovers : Type 0
GoalRowCovers = (t : Tableau) (s : System) → IsDual t → StandsFor t s → GoalCovers t s

abbrev pub NegativeRowRefutes : Type 0
NegativeRowRefutes = (t : Tableau) (s : System) (i : ℕ) → IsDual t → StandsFor t s → i < height t → ((k : ℕ) → k < width t → whole (pos 0) ≤ℚ cell t i k) → RowRefutes t s i

-- where no bound is negative, the vertex is a point of the rows whose goal is the goal row's bound
abbrev pub VertexIsOptimal : Type 0
VertexIsOptimal = (t : Tableau) (rows : List Row) (goal : List ℚ) → IsDual t → StandsForRows t rows goal
    → ((i : ℕ) → i < height t → whole (pos 0) ≤ℚ bound t i) → IsOptimalPoint t rows goal (vertex_point t)

-- a tableau that holds rows and a goal as they were loaded has each variable once, and stands for them
pub record IsStart (t : Tableau) (rows : List Row) (goal : List ℚ) : Type 0 where
  pub placed : IsPlaced t
  pub stands : StandsForRows t rows goal

abbrev pub LoadingStarts : Type 0
LoadingStarts = (t : Tableau) (rows : List Row) (goal : List ℚ) → HoldsRows t rows goal → IsStart t rows goal
