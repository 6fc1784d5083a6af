-- A first refusal leaves no acceptance and no other first refusal.
use Rattle.std.proofs.Common.{◌≡◌, ◌≢◌, ◌↔◌, inl, inr, Option, None, Some, sym, ◌∙◌, ap}
use Rattle.narrow_fraction.proofs.Attempt.{some_not_none}
use Rattle.progression.specs.Street.{Street}
use Rattle.time_space.specs.Failing.{FailsRulesOut}
use Rattle.time_space.specs.FirstFailing.{OneFirst}
use Rattle.certificate_model.specs.Families.{Table, ordinary}
use Rattle.certificate_model.specs.Warrants.{WarrantWith}
use Rattle.certificate_checker.specs.Accepted.{IsAccepted}
use Rattle.certificate_checker.specs.ClaimRefusals.{IfThere}
use Rattle.certificate_checker.specs.Checked.{Checked, IsAcceptedOf, first_refusal, TimingFailsFirst, IsFirstRefusalOf}
use Rattle.certificate_checker.specs.Refusals.{one_band}
use Rattle.certificate_checker.specs.Laws.{AcceptedExactlyOf, RefusedIsNotAcceptedOf, OneFirstRefusalOf}
use Rattle.certificate_checker.specs.declared.reject.Reject.{Reject}
use Rattle.certificate_checker.specs.declared.reject.Reject.TheVariants.{TimingFails, Memory}
use Rattle.certificate_checker.proofs.NodeRefusals.{told}
use Rattle.certificate_checker.proofs.Acceptance.{accepted_in, accepted_out, accepted_good, accepted_of, of_accepted}

-- a failing that is the first rules out that the timing is good
module _ {T F : Type 0} (k : Checked T F) (out : (t : T) (f : F) → k.FailsFirst t f → ¬ k.objective.IsGood t) where
  not_good : (timing : Option T) (r : Reject F) → TimingFailsFirst k timing r → IfThere k.objective.IsGood timing → ⊥
  not_good None r h g = h
  not_good (Some t) (TimingFails f) h g = out t f h g
  not_good (Some t) r h g = h

  refused_by : (c : WarrantWith T) (r : Reject F) → IsFirstRefusalOf k c r → r ≢ Memory → IsAcceptedOf k c → ⊥
  refused_by c r (inl h) n m = not_good c.timing r h (accepted_good k c m)
  refused_by c r (inr h) n m = some_not_none (sym (told (first_refusal k c) r h.1 n) ∙ accepted_out k c m)

  -- and two that are the first are one
  module _ (once : (t : T) (f g : F) → k.FailsFirst t f → k.FailsFirst t g → f ≡ g) where
    same_failing : (timing : Option T) (r s : Reject F) → TimingFailsFirst k timing r → TimingFailsFirst k timing s → r ≡ s
    same_failing None r s h m = absurd h
    same_failing (Some t) (TimingFails f) (TimingFails g) h m = ap TimingFails (once t f g h m)
    same_failing (Some t) (TimingFails f) s h m = absurd m
    same_failing (Some t) r s h m = absurd h

    one_refused : (c : WarrantWith T) (r s : Reject F) → IsFirstRefusalOf k c r → IsFirstRefusalOf k c s → r ≢ Memory → s ≢ Memory → r ≡ s
    one_refused c r s (inl h) (inl m) n p = same_failing c.timing r s h m
    one_refused c r s (inl h) (inr m) n p = absurd (not_good c.timing r h m.0)
    one_refused c r s (inr h) (inl m) n p = absurd (not_good c.timing s m h.0)
    one_refused c r s (inr h) (inr m) n p = let e = told (first_refusal k c) r h.1 n in let f = told (first_refusal k c) s m.1 p in cc

-- ---- of each artery
-- how acceptance and refusals fit together
pub record Fits {T F : Type 0} (kind : Street → Checked T F) (Accepts : Street → WarrantWith T → Type 0) (table : Table) : Type 0 where
  pub accepted : AcceptedExactlyOf kind Accepts table
  pub refused : RefusedIsNotAcceptedOf kind Accepts
  pub once : OneFirstRefusalOf kind

-- where what is accepted is what is of the kind
pub fit : {T F : Type 0} (kind : Street → Checked T F) (Accepts : Street → WarrantWith T → Type 0) (table : Table) → ((a : Street) (c : WarrantWith T) → Accepts a c ↔ IsAcceptedOf (kind a) c)
    → ((a : Street) (t : T) (f : F) → (kind a).FailsFirst t f → ¬ (kind a).objective.IsGood t) → ((a : Street) (t : T) (f g : F) → (kind a).FailsFirst t f → (kind a).FailsFirst t g → f ≡ g)
    → Fits kind Accepts table
fit kind Accepts table same out once = record {
  accepted = λ a c h. (
    (λ m. let by = (same a c).0 m in (accepted_good (kind a) c by, accepted_out (kind a) c by)),
    (λ p. (same a c).1 (accepted_in (kind a) c h.timing h.tree p.0 p.1)),
  );
  refused = λ a c r h n m. refused_by (kind a) (out a) c r h n ((same a c).0 m);
  once = λ a c r s h m n p. one_refused (kind a) (out a) (once a) c r s h m n p;
}

-- ---- an ordinary certificate
pub fits : FailsRulesOut → OneFirst → Fits one_band IsAccepted ordinary
fits out once = fit one_band IsAccepted ordinary (λ a c. (of_accepted a c, accepted_of a c)) (λ a t f e. out a t f e.fails) once
