-- A certificate is accepted exactly where nothing is refused.
use Rattle.std.proofs.Common.{◌≡◌, not, inr, Option, None, Some, option_map, Result, Ok, Err, OnOk, [], ◌∷◌, refl, sym, ◌∙◌, ap, ap₂}
use Rattle.std.specs.Prelude.{IfErr}
use Rattle.std.specs.Ordering.{eq_by_cmp}
use Rattle.rational_theory.specs.Rational.{ℚ}
use Rattle.rational_theory.specs.Compare.{cmp_ℚ}
use Rattle.rational_theory.proofs.Compare.{lt_false, ne_false, eq_says}
use Rattle.progression.specs.Street.{Street}
use Rattle.linear_theory.specs.Boxes.{root_box}
use Rattle.narrow_fraction.specs.Attempt.{earlier}
use Rattle.narrow_fraction.proofs.Attempt.{neither, not_refused}
use Rattle.certificate_model.specs.declared.certificate.Claim.{Claim}
use Rattle.certificate_model.specs.declared.certificate.Claim.TheVariants.{Best, NoTiming, Stopped}
use Rattle.certificate_model.specs.Warrants.{WarrantWith, Warrant, HasTiming, AreTrees}
use Rattle.loop_rows.proofs.LeafSums.{not_below}
use Rattle.certificate_checker.specs.Accepted.{value_of, limit_of, IsTimedBy, IsBoundAbove, IsAccepted}
use Rattle.certificate_checker.specs.ClaimRefusals.{IfThere, kept_refusal, bound_refusal, claim_refusal}
use Rattle.certificate_checker.specs.TreeRefusals.{IsFirst}
use Rattle.certificate_checker.specs.Checked.{Checked, aim_at, IsAcceptedOf, numbers_refusal_of, nodes_refusal_of, first_refusal, IsFirstRefusalOf}
use Rattle.certificate_checker.specs.Refusals.{one_band}
use Rattle.certificate_checker.specs.declared.reject.Reject.{Reject}
use Rattle.certificate_checker.proofs.NodeRefusals.{tree_in, tree_out, tree_proofs, proofs_tree, is_first, first_moved}

-- ---- the bound
bound_in : {F : Type 0} (claim : Claim) → bound_refusal {F = F} claim ≡ None → IsBoundAbove claim
bound_in (Best value) e = tt
bound_in NoTiming e = tt
bound_in (Stopped bound None) e = tt
bound_in (Stopped bound (Some value)) e = lt_false bound value (sym (not_refused _ _ e))

bound_out : {F : Type 0} (claim : Claim) → IsBoundAbove claim → bound_refusal {F = F} claim ≡ None
bound_out (Best value) h = refl
bound_out NoTiming h = refl
bound_out (Stopped bound None) h = refl
bound_out (Stopped bound (Some value)) h = let above = not_below bound value h in rw above refl

-- ---- the timing, of any kind
module _ {T : Type 0} (good : T → Type 0) (worth : T → ℚ) where
  pub timed_in : {F : Type 0} (claim : Claim) (timing : Option T) → HasTiming claim timing → IfThere good timing → kept_refusal {F = F} (option_map worth timing) (value_of claim) ≡ None
      → IsTimedBy good worth timing (value_of claim)
  timed_in (Best value) None h g e = h
  timed_in (Best value) (Some t) h g e = (g, ne_false (worth t) value (sym (not_refused (not (eq_by_cmp cmp_ℚ (worth t) value)) _ e)))
  timed_in NoTiming None h g e = tt
  timed_in NoTiming (Some t) h g e = h
  timed_in (Stopped bound None) None h g e = tt
  timed_in (Stopped bound None) (Some t) h g e = h
  timed_in (Stopped bound (Some value)) None h g e = h
  timed_in (Stopped bound (Some value)) (Some t) h g e = (g, ne_false (worth t) value (sym (not_refused (not (eq_by_cmp cmp_ℚ (worth t) value)) _ e)))

  pub good_out : (timing : Option T) (value : Option ℚ) → IsTimedBy good worth timing value → IfThere good timing
  good_out None value h = tt
  good_out (Some t) None h = absurd h
  good_out (Some t) (Some value) h = h.0

  kept_out : {F : Type 0} (timing : Option T) (value : Option ℚ) → IsTimedBy good worth timing value → kept_refusal {F = F} (option_map worth timing) value ≡ None
  kept_out None value h = refl
  kept_out (Some t) None h = absurd h
  kept_out (Some t) (Some value) h = let same = (eq_says (worth t) value (eq_by_cmp cmp_ℚ (worth t) value) refl).1 h.1 in rw same refl

  pub claim_out : {F : Type 0} (claim : Claim) (timing : Option T) → IsTimedBy good worth timing (value_of claim) → IsBoundAbove claim → claim_refusal {F = F} (option_map worth timing) claim ≡ None
  claim_out claim timing h k = ap₂ earlier (kept_out timing (value_of claim) h) (bound_out claim k)

-- ---- the whole
module _ {T F : Type 0} (k : Checked T F) (c : WarrantWith T) where
  pub accepted_in : HasTiming c.claim c.timing → AreTrees 1 c.nodes → IfThere k.objective.IsGood c.timing → first_refusal k c ≡ None → IsAcceptedOf k c
  accepted_in h tree g e =
      let p = neither _ _ e in
      let q = neither _ _ p.0 in
      record {
        timing = timed_in k.objective.IsGood k.objective.worth c.claim c.timing h g q.0;
        bound = bound_in c.claim q.1;
        tree = tree_in k.rows (aim_at k (limit_of c.claim)) 0 0 (k.root ∷ []) c.nodes tree p.1;
      }

  pub accepted_good : IsAcceptedOf k c → IfThere k.objective.IsGood c.timing
  accepted_good h = good_out k.objective.IsGood k.objective.worth c.timing (value_of c.claim) h.timing

  pub accepted_out : IsAcceptedOf k c → first_refusal k c ≡ None
  accepted_out h =
      ap₂ earlier (claim_out k.objective.IsGood k.objective.worth c.claim c.timing h.timing h.bound)
      (tree_out k.rows (aim_at k (limit_of c.claim)) 0 0 (k.root ∷ []) c.nodes h.tree)

  -- where the claim's numbers are not refused, the nodes are left
  nodes_alone : numbers_refusal_of k c.claim c.timing ≡ None → first_refusal k c ≡ nodes_refusal_of k (limit_of c.claim) c.nodes
  nodes_alone e = ap (λ o. earlier o (nodes_refusal_of k (limit_of c.claim) c.nodes)) e

  -- a number of the claim that is refused
  pub numbers_first : (r : Reject F) → numbers_refusal_of k c.claim c.timing ≡ Some r → IsFirst (first_refusal k c) r
  numbers_first r e = is_first (first_refusal k c) r (ap (λ o. earlier o (nodes_refusal_of k (limit_of c.claim) c.nodes)) e)

  -- what the check of the nodes says of the whole, where all else is right
  pub checked : HasTiming c.claim c.timing → AreTrees 1 c.nodes → IfThere k.objective.IsGood c.timing → numbers_refusal_of k c.claim c.timing ≡ None → (r : Result (Unit {0}) (Reject F))
      → OnOk r (nodes_refusal_of k (limit_of c.claim) c.nodes ≡ None) → IfErr r (λ x. IsFirst (nodes_refusal_of k (limit_of c.claim) c.nodes) x)
      → OnOk r (IsAcceptedOf k c) × IfErr r (λ x. IsFirstRefusalOf k c x)
  checked h tree g e (Ok x) n f = (accepted_in h tree g (nodes_alone e ∙ n), tt)
  checked h tree g e (Err x) n f = (tt, inr (g, first_moved (nodes_refusal_of k (limit_of c.claim) c.nodes) (first_refusal k c) x (nodes_alone e) f))

-- ---- an ordinary certificate, whose leaves prove what the linear model asks of them
pub accepted_of : (a : Street) (c : Warrant) → IsAcceptedOf (one_band a) c → IsAccepted a c
accepted_of a c h = record { timing = h.timing; bound = h.bound; tree = tree_proofs a (limit_of c.claim) (root_box a ∷ []) c.nodes h.tree }

pub of_accepted : (a : Street) (c : Warrant) → IsAccepted a c → IsAcceptedOf (one_band a) c
of_accepted a c h = record { timing = h.timing; bound = h.bound; tree = proofs_tree a (limit_of c.claim) (root_box a ∷ []) c.nodes h.tree }
