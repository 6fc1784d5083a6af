-- Lemmas on the definitions of `Promises`.
use Rattle.std.proofs.Common.{◌+◌, ◌<◌, subst}
use Rattle.simplex_theory.specs.Tableau.{height, width}
use Rattle.simplex_theory.proofs.Tableau.{meets-exchange, goal-exchange_same}
use Rattle.simplex_theory.proofs.DualSteps.{dual-exchange, goal_bound_falls}
use Rattle.simplex_theory.proofs.BlandRule.{says}
use Rattle.simplex_theory.specs.StepCounts.{steps_to_end}
use Rattle.simplex_theory.proofs.StepCounts.{steps_low, room_is, ended, no_basis_twice}
use Rattle.simplex_theory.proofs.Multipliers.{goal_weight_low, goal_weighed_bound, goal_covers, row_weight_low, row_weighed_bound, row_refutes}
use Rattle.simplex_theory.proofs.LoadedRows.{placed-held, stands-held}
use Rattle.simplex_theory.proofs.RowLists.{optimal_point}
use Rattle.simplex_theory.specs.Promises.{ExchangeKeeps, StepKeeps, MoveSays, StepsEnd, GoalRowCovers, NegativeRowRefutes, VertexIsOptimal, LoadingStarts}

-- ---- all are kept
pub loading_starts : LoadingStarts
loading_starts t rows goal h = record { placed = placed-held t rows goal h; stands = stands-held t rows goal h }

pub exchange_keeps : ExchangeKeeps
exchange_keeps r j t x z s p = record { met = meets-exchange r j t x z s p; goal = λ y m. goal-exchange_same r j t x z y s p m }

pub step_keeps : StepKeeps
step_keeps r j t d c = record { dual = dual-exchange r j t d c; goal_bound_falls = goal_bound_falls r j t d c }

pub move_says : MoveSays
move_says t = says t

pub steps_end : StepsEnd
steps_end t d = record {
  apart = λ i k h l s. no_basis_twice t i k d h l s;
  few = subst (λ n. steps_to_end t < n) (room_is (height t + width t)) (steps_low t d);
  ended = ended t d;
}

pub goal_row_covers : GoalRowCovers
goal_row_covers t s d k = record { not_negative = λ v. goal_weight_low t v d; coefs = λ c h. goal_covers t s c d k h; limit = goal_weighed_bound t s d k }

pub negative_row_refutes : NegativeRowRefutes
negative_row_refutes t s i d k h n =
    record { not_negative = λ v. row_weight_low t i v n; coefs = λ c l. row_refutes t s i c d k h n l; limit = row_weighed_bound t s i d k h }

pub vertex_is_optimal : VertexIsOptimal
vertex_is_optimal t rows goal d s h = optimal_point t rows goal d s h
