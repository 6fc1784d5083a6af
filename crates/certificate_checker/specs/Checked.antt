-- What is accepted and what is refused of a certificate, whatever kind of timing it has: the timing is looked at first, then its value, the bound, and the nodes in
-- their order.
use Rattle.std.specs.Prelude.{◌⊎◌, List, [], ◌∷◌, Option, None, Some, option_map}
use Rattle.rational_theory.specs.Rational.{ℚ}
use Rattle.progression.specs.Objectives.{Objective}
use Rattle.linear_theory.specs.Boxes.{Area}
use Rattle.narrow_fraction.specs.Attempt.{earlier}
use Rattle.named_row.specs.Sheets.{Sheet}
use Rattle.loop_rows.specs.Weights.{Source}
use Rattle.certificate_model.specs.declared.certificate.Claim.{Claim}
use Rattle.certificate_model.specs.Warrants.{Node, WarrantWith}
use Rattle.certificate_checker.specs.Accepted.{value_of, limit_of, IsTimedBy, IsBoundAbove}
use Rattle.certificate_checker.specs.ClaimRefusals.{IfThere, claim_refusal}
use Rattle.certificate_checker.specs.TreeProofs.{IsTreeProof}
use Rattle.certificate_checker.specs.TreeRefusals.{tree_refusal, IsFirst}
use Rattle.certificate_checker.specs.declared.leaves.Aim.{Aim}
use Rattle.certificate_checker.specs.declared.reject.Reject.{Reject}
use Rattle.certificate_checker.specs.declared.reject.Reject.TheVariants.{TimingFails}

-- the timings of a kind, of an artery: which are good and what each is worth, which of its failings is the first, and the box, the rows and the goal that bound what they are worth
pub record Checked (T F : Type 0) : Type 1 where
  pub objective : Objective T
  pub FailsFirst : T → F → Type 0
  pub root : Area
  pub rows : Area → Source
  pub goal : Sheet

-- what each leaf is to show: that its box has no timing, or that none is worth more than the limit
abbrev pub aim_at : {T F : Type 0} → Checked T F → Option ℚ → Aim
aim_at k limit = record { goal = k.goal; limit = limit }

pub record IsAcceptedOf {T F : Type 0} (k : Checked T F) (c : WarrantWith T) : Type 0 where
  pub timing : IsTimedBy k.objective.IsGood k.objective.worth c.timing (value_of c.claim)
  pub bound : IsBoundAbove c.claim
  pub tree : IsTreeProof k.rows (aim_at k (limit_of c.claim)) (k.root ∷ []) c.nodes

-- ---- refusals
-- the timing has another value, or the bound is less than the value
abbrev pub numbers_refusal_of : {T F : Type 0} → Checked T F → Claim → Option T → Option (Reject F)
numbers_refusal_of k c timing = claim_refusal (option_map k.objective.worth timing) c

-- nodes whose leaves show what they are to
abbrev pub nodes_refusal_of : {T F : Type 0} → Checked T F → Option ℚ → List Node → Option (Reject F)
nodes_refusal_of k limit ns = tree_refusal k.rows (aim_at k limit) 0 0 (k.root ∷ []) ns

-- the first refusal of a certificate whose timing, if it has one, is good
abbrev pub first_refusal : {T F : Type 0} → Checked T F → WarrantWith T → Option (Reject F)
first_refusal k c = earlier (numbers_refusal_of k c.claim c.timing) (nodes_refusal_of k (limit_of c.claim) c.nodes)

-- the timing breaks this rule first
abbrev pub TimingFailsFirst : {T F : Type 0} → Checked T F → Option T → Reject F → Type 0
TimingFailsFirst k None r = ⊥
TimingFailsFirst k (Some t) (TimingFails f) = k.FailsFirst t f
TimingFailsFirst k (Some t) r = ⊥

-- the timing breaks a rule and r names the first; or it is good, and r is the first of all others
abbrev pub IsFirstRefusalOf : {T F : Type 0} → Checked T F → WarrantWith T → Reject F → Type 0
IsFirstRefusalOf k c r = TimingFailsFirst k c.timing r ⊎ (IfThere k.objective.IsGood c.timing × IsFirst (first_refusal k c) r)
