-- No bytes have two answers.
use Rattle.std.proofs.Common.{◌≡◌, inl, inr, ℕ, List, Option, Some, sym, ◌∙◌, ap}
use Rattle.std.proofs.lemmas.Option.{none-some, same_Some}
use Rattle.toml.specs.Data.{Data, Members, table}
use Rattle.toml.specs.Parse.{parse_document}
use Rattle.artery_model.specs.Faults.{Fault}
use Rattle.description_reader.specs.Streets.{street_in, description_fault}
use Rattle.description_reader.specs.Described.{IsReadBy, IsRefusedBy, OneAnswer}
use Rattle.description_reader.specs.Typed.{typed_in, plan_fault, OneTyped}

same_root : (x : List ℕ) (r s : Members) → parse_document x ≡ Some r → parse_document x ≡ Some s → r ≡ s
same_root x r s p q = same_Some r s (sym p ∙ q)

module _ {V : Type 0} (fault_in : Data → Option Fault) (made_of : Data → V) where
  pub apart_by : (x : List ℕ) (v : V) (f : Fault) → IsReadBy fault_in made_of x v → IsRefusedBy fault_in x f → ⊥
  apart_by x v f d (inl r) = r.0 d.text
  apart_by x v f d (inr (inl r)) = none-some d.root (sym r.1 ∙ d.document)
  apart_by x v f d (inr (inr (text, root, document, fault))) =
      none-some f (sym d.no_fault ∙ ap (λ t. fault_in (table t)) (same_root x d.root root d.document document) ∙ fault)

  pub value_by : (x : List ℕ) (v w : V) → IsReadBy fault_in made_of x v → IsReadBy fault_in made_of x w → v ≡ w
  value_by x v w d e = d.is ∙ ap (λ t. made_of (table t)) (same_root x d.root e.root d.document e.document) ∙ sym e.is

pub fault_by : (fault_in : Data → Option Fault) (x : List ℕ) (f g : Fault) → IsRefusedBy fault_in x f → IsRefusedBy fault_in x g → f ≡ g
fault_by fault_in x f g (inl r) (inl s) = r.1 ∙ sym s.1
fault_by fault_in x f g (inl r) (inr (inl s)) = absurd (r.0 s.0)
fault_by fault_in x f g (inl r) (inr (inr s)) = absurd (r.0 s.0)
fault_by fault_in x f g (inr (inl r)) (inl s) = absurd (s.0 r.0)
fault_by fault_in x f g (inr (inl r)) (inr (inl s)) = r.2 ∙ sym s.2
fault_by fault_in x f g (inr (inl r)) (inr (inr (text, root, document, e))) = absurd (none-some root (sym r.1 ∙ document))
fault_by fault_in x f g (inr (inr r)) (inl s) = absurd (s.0 r.0)
fault_by fault_in x f g (inr (inr (text, root, document, e))) (inr (inl s)) = absurd (none-some root (sym s.1 ∙ document))
fault_by fault_in x f g (inr (inr (text, root, document, e))) (inr (inr (other, start, read, h))) =
    same_Some f g (sym e ∙ ap (λ t. fault_in (table t)) (same_root x root start document read) ∙ h)

pub one_answer : OneAnswer
one_answer = record { apart = apart_by description_fault street_in; artery = value_by description_fault street_in; fault = fault_by description_fault }

pub one_typed : OneTyped
one_typed = record { apart = apart_by plan_fault typed_in; plan = value_by plan_fault typed_in; fault = fault_by plan_fault }
