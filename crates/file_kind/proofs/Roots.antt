-- The root of bytes, beside what reading them answers.
use Rattle.std.proofs.Common.{◌≡◌, ℕ, List, None, Some, option_map, inl, inr, sym, ◌∙◌, ap, cond}
use Rattle.std.proofs.lemmas.Bool.{cases_Bool}
use Rattle.std.proofs.lemmas.Str.{IsUtf8-from_is_utf8, is_utf8-from_IsUtf8}
use Rattle.std.specs.Str.{is_utf8}
use Rattle.toml.specs.Data.{Data, table}
use Rattle.toml.specs.Parse.{parse_document}
use Rattle.artery_model.specs.declared.kind.Refusal.{Refusal}
use Rattle.artery_model.specs.declared.kind.Flaw.TheVariants.{Refused}
use Rattle.description_reader.specs.Described.{ReadsAs, IsNoDocument}
use Rattle.file_kind.specs.Kinds.{root_of, root_kind, document_kind}
use Rattle.file_kind.specs.declared.kind.FileKind.TheVariants.{Description}

-- bytes that are read have just this root
root_read : (x : List ℕ) (d : Data) → ReadsAs x d → root_of x ≡ Some d
root_read x d r =
    ap (λ b. cond b (option_map table (parse_document x)) None) (is_utf8-from_IsUtf8 x r.text) ∙ ap (option_map table) r.document ∙ ap Some (sym r.is)

-- and those that are refused have none
root_refused : (x : List ℕ) (r : Refusal) → IsNoDocument x (Refused r) → root_of x ≡ None
root_refused x r (inl bad) =
    elim (cases_Bool (is_utf8 x)) [
      | inl text ↦ absurd (bad.0 (IsUtf8-from_is_utf8 x text))
      | inr un ↦ ap (λ b. cond b (option_map table (parse_document x)) None) un
    ]
root_refused x r (inr (inl bad)) =
    ap (λ b. cond b (option_map table (parse_document x)) None) (is_utf8-from_IsUtf8 x bad.0) ∙ ap (option_map table) bad.1
root_refused x r (inr (inr bad)) = let e = bad.3 in absurd cc

pub kind_read : (x : List ℕ) (d : Data) → ReadsAs x d → document_kind d ≡ root_kind (root_of x)
kind_read x d r = ap root_kind (sym (root_read x d r))

pub kind_refused : (x : List ℕ) (r : Refusal) → IsNoDocument x (Refused r) → Description ≡ root_kind (root_of x)
kind_refused x r bad = ap root_kind (sym (root_refused x r bad))
