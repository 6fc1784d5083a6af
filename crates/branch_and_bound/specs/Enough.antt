-- How many units are enough.
use Rattle.std.specs.Prelude.{ℕ, ◌+◌, ◌-◌, ◌*◌, ◌<◌, ◌≤◌, max, List, Option, IfSome}
use Rattle.rational_theory.specs.Rational.{ℚ}
use Rattle.branch_and_bound.specs.Lines.{BoxLine}
use Rattle.branch_and_bound.specs.Choices.{choices}
use Rattle.branch_and_bound.specs.Rules.{Rules, IsMet}
use Rattle.branch_and_bound.specs.Answer.{IsStoppedAnswer}
use Rattle.branch_and_bound.specs.declared.incumbent.Incumbent.{Incumbent}
use Rattle.branch_and_bound.specs.declared.node.TreeNode.{TreeNode}
use Rattle.branch_and_bound.specs.declared.found.Stop.TheVariants.{Work}

-- every box that a search meets is finished within these units, and a pivot is due only before its end
pub record IsShort {T K W : Type 0} (r : Rules T K W) (most : ℕ) : Type 0 where
  pub cost : (line : BoxLine) → IsMet r line → 1 + r.steps line ≤ most
  pub due : (line : BoxLine) (k : ℕ) → IsMet r line → r.IsDue line k → k < r.steps line

-- a search of a sound problem that was stopped by work had a lower limit than the cost of the greatest tree: its root alone where the
-- root box has no choice, and a leaf for each choice otherwise
abbrev pub IsEnough : {T K W : Type 0} → Rules T K W → Type 0
IsEnough {T} {K} {W} r = r.IsSound → (limit : Option ℕ) (nodes : List TreeNode) (best : Option (Incumbent T)) (bound : ℚ) (spent units most : ℕ)
    → IsStoppedAnswer r limit nodes best bound spent (Work units) → IsShort r most → IfSome limit (λ n. n < (2 * max 1 (choices r.root) - 1) * most)
