-- How many units of work are enough for a program, and when a search of it may stop by work.
use Rattle.std.specs.Prelude.{ℕ, ◌+◌, ◌-◌, ◌*◌, ◌^◌, ◌<◌, max, length, Option, Some, None}
use Rattle.linear_theory.specs.Boxes.{Area}
use Rattle.branch_and_bound.specs.Choices.{choices}
use Rattle.branch_and_bound.specs.declared.found.Verdict.{Verdict}
use Rattle.branch_and_bound.specs.declared.found.Verdict.TheVariants.{Best, NoTiming, Stopped}
use Rattle.branch_and_bound.specs.declared.found.Stop.TheVariants.{Work, Wide}
use Rattle.box_search.specs.Program.{Program}

-- there are at most so many sets of basic variables: 2 to the power of the number of rows and columns
abbrev pub sets_in : {T W : Type 0} → Program T W → ℕ
sets_in p = 2 ^ (length p.names + p.columns)

-- The nodes of the greatest tree, which has a leaf for each choice of block sums and ranks in the root box, or the root alone where there is
-- none; and for each node as many units as there are sets of basic variables.
abbrev pub enough_for : Area → ℕ → ℕ
enough_for root sets = (2 * max 1 (choices root) - 1) * sets

-- there is a limit, and it is less than enough
abbrev pub IsTooLow : ℕ → Option ℕ → Type 0
IsTooLow enough None = ⊥
IsTooLow enough (Some limit) = limit < enough

-- a stop by work comes only where there is such a limit
abbrev pub IsWithin : {W : Type 0} → ℕ → Option ℕ → Verdict W → Type 0
IsWithin enough limit Best = Unit {0}
IsWithin enough limit NoTiming = Unit {0}
IsWithin enough limit (Stopped (Work units)) = IsTooLow enough limit
IsWithin enough limit (Stopped (Wide site)) = Unit {0}
