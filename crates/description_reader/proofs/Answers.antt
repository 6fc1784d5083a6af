-- What a reading's parts say together.
use Rattle.std.proofs.Common.{◌≡◌, inl, inr, ℕ, List, Result, Ok, Err, Option, None, Some, IfOk, IfErr, subst, ◌∙◌, ap}
use Rattle.std.proofs.lemmas.Option.{none-some}
use Rattle.toml.specs.Data.{Data}
use Rattle.artery_model.specs.Faults.{Fault, Names, Judges, fault_of}
use Rattle.artery_model.specs.declared.kind.Flaw.{Flaw}
use Rattle.artery_model.specs.declared.kind.Flaw.TheVariants.{Refused, Memory}
use Rattle.description_reader.specs.Described.{ReadsAs, IsReadBy, IsRefusedBy, RefusesBy, IsNoDocument}

module _ {V : Type 0} (fault_in : Data → Option Fault) (made_of : Data → V) where
  -- what is made of a document without a fault is what its bytes are read as
  pub read_of : (x : List ℕ) (d : Data) (r : Result V Flaw) → ReadsAs x d → IfOk r (λ v. v ≡ made_of d) → Judges r (fault_in d)
      → IfOk r (λ v. IsReadBy fault_in made_of x v)
  read_of x d (Ok v) reads made judged = record {
    text = reads.text;
    root = reads.root;
    document = reads.document;
    no_fault = subst (λ e. fault_in e ≡ None) reads.is judged;
    is = made ∙ ap made_of reads.is;
  }
  read_of x d (Err e) reads made judged = tt

  refused_by : (x : List ℕ) (d : Data) (flaw : Flaw) → ReadsAs x d → Names flaw (fault_in d) → RefusesBy fault_in x flaw
  refused_by x d Memory reads named = tt
  refused_by x d (Refused r) reads named =
      inr (inr (reads.text, reads.root, reads.document, subst (λ e. fault_in e ≡ Some (fault_of r)) reads.is named))

  -- a document with a fault is refused for it
  pub refused_of : (x : List ℕ) (d : Data) (r : Result V Flaw) → ReadsAs x d → Judges r (fault_in d) → IfErr r (λ e. RefusesBy fault_in x e)
  refused_of x d (Ok v) reads judged = tt
  refused_of x d (Err flaw) reads judged = refused_by x d flaw reads judged

-- bytes that are no document are refused whatever the faults of values are
no_document : (fault_in : Data → Option Fault) (x : List ℕ) (f : Fault) → IsRefusedBy (λ d. None) x f → IsRefusedBy fault_in x f
no_document fault_in x f (inl r) = inl r
no_document fault_in x f (inr (inl r)) = inr (inl r)
no_document fault_in x f (inr (inr (text, root, document, e))) = absurd (none-some f e)

pub unread_by : (fault_in : Data → Option Fault) (x : List ℕ) (flaw : Flaw) → IsNoDocument x flaw → RefusesBy fault_in x flaw
unread_by fault_in x Memory h = tt
unread_by fault_in x (Refused r) h = no_document fault_in x (fault_of r) h
