use Rattle.std.proofs.Common.{ℕ, ◌≤◌, ◌<◌}
use Rattle.outer_edge.specs.Replaced.{new_name}
use Rattle.outer_edge.proofs.replacing.new_beside.Given as goal

-- all numbers so far are taken
abbrev pub invariant-numbers : goal.invariant-numbers
invariant-numbers g l = (number : ℕ) → 1 ≤ number → number < l.number-counter → g.P.Place.IsTaken l.place (new_name l.name number)
