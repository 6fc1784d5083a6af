-- A search stops by work only under a limit that is less than enough.
use Rattle.std.proofs.Common.{◌≡◌, ℕ, ◌<◌, List, Option, Some, None}
use Rattle.std.specs.Prelude.{IfSome}
use Rattle.rational_theory.specs.Rational.{ℚ}
use Rattle.branch_and_bound.specs.Rules.{Rules}
use Rattle.branch_and_bound.specs.Enough.{IsEnough, IsShort}
use Rattle.branch_and_bound.specs.Answer.{IsAnswer}
use Rattle.branch_and_bound.specs.declared.incumbent.Incumbent.{Incumbent}
use Rattle.branch_and_bound.specs.declared.node.TreeNode.{TreeNode}
use Rattle.branch_and_bound.specs.declared.found.Verdict.{Verdict}
use Rattle.branch_and_bound.specs.declared.found.Verdict.TheVariants.{Best, NoTiming, Stopped}
use Rattle.branch_and_bound.specs.declared.found.Stop.TheVariants.{Work, Wide}
use Rattle.box_search.specs.Enough.{enough_for, IsTooLow, IsWithin}

too_low : (enough : ℕ) (limit : Option ℕ) (spent : ℕ) → limit ≡ Some spent → IfSome limit (λ n. n < enough) → IsTooLow enough limit
too_low enough None spent e h = cc
too_low enough (Some n) spent e h = h

pub within : {T K W : Type 0} (r : Rules T K W) (sets : ℕ) → IsShort r sets → r.IsSound → IsEnough r → (limit : Option ℕ) (nodes : List TreeNode)
    (best : Option (Incumbent T)) (bound : ℚ) (spent : ℕ) (verdict : Verdict W)
    → IsAnswer r limit nodes best bound spent verdict → IsWithin (enough_for r.root sets) limit verdict
within r sets short s enough limit nodes best bound spent Best h = tt
within r sets short s enough limit nodes best bound spent NoTiming h = tt
within r sets short s enough limit nodes best bound spent (Stopped (Work units)) h =
    too_low (enough_for r.root sets) limit spent h.cause.1 (enough s limit nodes best bound spent units sets h short)
within r sets short s enough limit nodes best bound spent (Stopped (Wide site)) h = tt
