-- Any two boxes of an artery are loaded with the same cells.
use Rattle.std.proofs.Common.{◌≡◌, ℕ, pos, List, get_or, ◌<◌, refl, sym, ◌∙◌, ap, subst}
use Rattle.rational_theory.specs.Rational.{ℚ, whole}
use Rattle.progression.specs.Street.{Street}
use Rattle.linear_theory.specs.Boxes.{Area}
use Rattle.linear_theory.specs.Names.{name_of}
use Rattle.named_row.specs.declared.names.RowId.{RowId}
use Rattle.simplex_theory.specs.Tableau.{cell, height, width}
use Rattle.fraction_tableau.specs.NamedTableaus.{name_in}
use Rattle.entry_theory.specs.SameCells.{HaveSameCells}
use Rattle.program_builder.specs.BoxRows.{rows_of}
use Rattle.program_builder.specs.Loading.{loaded_table}
use Rattle.program_builder.specs.Opening.{artery_table, row_for, loaded}
use Rattle.program_builder.proofs.ArteryTables.{artery_is_table}
use Rattle.program_builder.proofs.LoadedTables.{height-loaded, width-loaded, is_loaded, row_at_is}
use Rattle.program_builder.proofs.Entry.{form_coefs}

named_coefs : (a : Street) (box other : Area) (r : RowId) → (row_for a box r).coefs ≡ (row_for a other r).coefs
named_coefs a box other r = form_coefs a box other (name_of r.family r.index)

same_cell : (a : Street) (box other : Area) (i k : ℕ) → i < height (loaded a box) → k < width (loaded a box) → cell (loaded a box) i k ≡ cell (loaded a other) i k
same_cell a box other i k m n =
    let h = subst (λ z. i < z) (height-loaded (artery_table a) box) m in
    (is_loaded (artery_table a) box (artery_is_table a)).cells i k m n
    ∙ ap (λ r. get_or r.coefs k (whole (pos 0))) (row_at_is (artery_table a) box i h)
    ∙ ap (λ (cs : List ℚ). get_or cs k (whole (pos 0))) (named_coefs a box other (name_in (rows_of a) i))
    ∙ sym (ap (λ r. get_or r.coefs k (whole (pos 0))) (row_at_is (artery_table a) other i h))
    ∙ sym ((is_loaded (artery_table a) other (artery_is_table a)).cells i k (subst (λ z. i < z) (sym (height-loaded (artery_table a) other)) h)
    (subst (λ z. k < z) (width-loaded (artery_table a) box ∙ sym (width-loaded (artery_table a) other)) n))

pub loaded_same_cells : (a : Street) (box other : Area) → HaveSameCells (loaded a box) (loaded a other)
unfolding loaded_table
loaded_same_cells a box other = record {
  rows = height-loaded (artery_table a) box ∙ sym (height-loaded (artery_table a) other);
  basic = refl;
  standing = refl;
  cells = λ i k m n. same_cell a box other i k m n;
  goals = λ k n. refl;
}
