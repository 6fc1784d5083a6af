-- Any bytes describe an artery, or are refused for a fault.
use Rattle.std.proofs.Common.{◌≡◌, ◌⊎◌, inl, inr, ℕ, List, Option, None, Some, Bool, true, false, true≢false, refl, sym, ◌∙◌}
use Rattle.std.specs.Prelude.{IsUtf8}
use Rattle.std.specs.Str.{is_utf8}
use Rattle.std.proofs.lemmas.Str.{IsUtf8-from_is_utf8, is_utf8-from_IsUtf8}
use Rattle.toml.specs.Data.{Data, Members, table}
use Rattle.toml.specs.Parse.{parse_document}
use Rattle.artery_model.specs.Faults.{Fault}
use Rattle.description_reader.specs.Streets.{street_in, description_fault}
use Rattle.description_reader.specs.Described.{IsReadBy, IsRefusedBy}
use Rattle.description_reader.specs.Typed.{typed_in, plan_fault, SomeTyped}
use Rattle.description_reader.specs.Promises.{SomeAnswer}

not_text : (x : List ℕ) → is_utf8 x ≡ false → ¬ (IsUtf8 x)
not_text x e h = true≢false (sym (is_utf8-from_IsUtf8 x h) ∙ e)

module _ {V : Type 0} (fault_in : Data → Option Fault) (made_of : Data → V) where
  abbrev pub Answer : List ℕ → Type 0
  Answer x = ((v : V) × IsReadBy fault_in made_of x v) ⊎ ((f : Fault) × IsRefusedBy fault_in x f)

  by_fault : (x : List ℕ) (text : IsUtf8 x) (root : Members) → parse_document x ≡ Some root → (f : Option Fault) → fault_in (table root) ≡ f → Answer x
  by_fault x text root p None e = inl (made_of (table root), record { text = text; root = root; document = p; no_fault = e; is = refl })
  by_fault x text root p (Some f) e = inr (f, inr (inr (text, root, p, e)))

  by_document : (x : List ℕ) (text : IsUtf8 x) (d : Option Members) → parse_document x ≡ d → Answer x
  by_document x text None e = inr (_, inr (inl (text, e, refl)))
  by_document x text (Some root) e = by_fault x text root e (fault_in (table root)) refl

  by_text : (x : List ℕ) (b : Bool) → is_utf8 x ≡ b → Answer x
  by_text x true e = by_document x (IsUtf8-from_is_utf8 x e) (parse_document x) refl
  by_text x false e = inr (_, inl (not_text x e, refl))

pub some_answer : SomeAnswer
some_answer x = by_text description_fault street_in x (is_utf8 x) refl

pub some_typed : SomeTyped
some_typed x = by_text plan_fault typed_in x (is_utf8 x) refl
