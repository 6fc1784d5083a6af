-- The names of rows, as they are printed.
use Rattle.std.proofs.Common.{◌≡◌, ℕ, List, [], ◌∷◌, ◌++◌, false, ap, ◌∙◌}
use Rattle.std.proofs.lemmas.List.{append-nil}
use Rattle.std.specs.Prelude.{if◌then◌else◌}
use Rattle.std.specs.Fmt.{decimal}
use Rattle.named_row.specs.declared.names.RowId.{RowId}
use Rattle.certificate_model.specs.Words.{line_of}
use Rattle.certificate_model.specs.Families.{Table, family_name_in, is_lone_in}
use Rattle.diagram_print.specs.Names.{numbered, row_text_in}

-- a row of a family of several has its family's name, a space and its index
pub indexed : (table : Table) (row : RowId) → is_lone_in table row.family ≡ false → row_text_in table row ≡ numbered (family_name_in table row.family) row.index
indexed table row e =
    ap (λ b. line_of (if b then family_name_in table row.family ∷ [] else family_name_in table row.family ∷ decimal row.index ∷ [])) e
    ∙ ap (λ (t : List ℕ). family_name_in table row.family ++ (32 ∷ t)) (append-nil (decimal row.index))
