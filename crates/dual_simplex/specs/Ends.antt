-- How the steps of a node end, and after how many.
use Rattle.std.proofs.Common.{◌≡◌, ℕ, true, false, Option, Some, None, cond, ◌&&◌, ◌+◌, ◌<◌, ◌≤◌, ◌^◌}
use Rattle.simplex_theory.specs.Tableau.{Tableau, height, width}
use Rattle.simplex_theory.specs.Paths.{HaveSameBasics}
use Rattle.simplex_theory.specs.BlandRule.{move}
use Rattle.simplex_theory.specs.StepCounts.{after, is_pivot}
use Rattle.fraction_tableau.specs.NamedTableaus.{NamedTableau, IsSpentFrom}
use Rattle.dual_simplex.specs.declared.outcome.Step.{Step}
use Rattle.dual_simplex.specs.declared.outcome.Step.TheVariants as steps
use Rattle.work_meter.specs.declared.meter.Meter.{Meter}
use Rattle.work_meter.specs.Work.{capped, metered, is_out}
use Rattle.dual_simplex.specs.declared.outcome.NodeEnd.{NodeEnd}
use Rattle.dual_simplex.specs.declared.outcome.NodeEnd.TheVariants.{Optimal, Infeasible, WorkOut, Wide}
use Rattle.dual_simplex.specs.Steps.{step_of}

-- ---- ends
-- the end that a step comes to, where it makes no pivot
abbrev pub end_by_step : Step → Option NodeEnd
end_by_step steps.Optimal = Some Optimal
end_by_step (steps.Infeasible r) = Some (Infeasible r)
end_by_step (steps.Pivoted r j) = None
end_by_step (steps.Wide b w) = Some (Wide b w)

-- the end at a tableau, where the steps stop there; work is looked at before the ratios
unfoldable pub end_at : Tableau → Meter → Option NodeEnd
end_at t m = cond (is_out m && is_pivot (move t)) (Some WorkOut) (end_by_step (step_of t))

-- k steps further
abbrev pub stepped : NamedTableau → ℕ → NamedTableau
stepped s k = record { table = after s.table k; names = s.names; spent = s.spent }

-- the tableau t at an end that was reached at s: unchanged, but for a refused pivot
abbrev pub IsAfterEnd : NodeEnd → NamedTableau → NamedTableau → Type 0
IsAfterEnd Optimal s t = t ≡ s
IsAfterEnd (Infeasible r) s t = t ≡ s
IsAfterEnd WorkOut s t = t ≡ s
IsAfterEnd (Wide true w) s t = t ≡ s
IsAfterEnd (Wide false w) s t = IsSpentFrom s t

-- From s and m the steps go on k times and then come to the end e, with t and n and the count of pivots q, which was p. On the way no
-- set of basic variables comes twice, so there are fewer steps than such sets, whatever the work that is left.
pub record Solved (e : NodeEnd) (s t : NamedTableau) (m n : Meter) (p q k : ℕ) : Type 0 where
  pub goes_on : (i : ℕ) → i < k → end_at (after s.table i) (metered m i) ≡ None
  pub ends : end_at (after s.table k) (metered m k) ≡ Some e
  pub table : IsAfterEnd e (stepped s k) t
  pub meter : n ≡ metered m k
  pub pivots : q ≡ capped (p + k)
  pub apart : (i j : ℕ) → i < j → j ≤ k → HaveSameBasics (after s.table i) (after s.table j) → ⊥
  pub few : k < 2 ^ (height s.table + width s.table)
