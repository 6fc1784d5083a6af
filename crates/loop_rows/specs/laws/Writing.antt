-- Lemmas on the definitions of `Writing`.
use Rattle.std.proofs.Common.{◌≡◌, refl, ap, ◌∙◌}
use Rattle.std.proofs.Math.ListN.{length-set}
use Rattle.std.proofs.lemmas.List.{length-replicate}
use Rattle.rational_theory.specs.Rational.{ℚ, whole}
use Rattle.std.specs.Prelude.{ℕ, pos, false, List, [], ◌∷◌, length}
use Rattle.progression.specs.Street.{Street, count}
use Rattle.linear_theory.specs.Places.{width}
use Rattle.linear_theory.specs.Rows as maths
use Rattle.linear_theory.specs.Rows.{Form, places_of, placed, placed_row, line}
use Rattle.named_row.specs.Sheets.{Sheet, row_of, blank, with_place}
use Rattle.named_row.specs.declared.names.Place.TheVariants.{Cell}
use Rattle.loop_rows.specs.Writing.{with_cells, written_cells, written}

-- ---- cells
with_cells_coefs : (cs : List maths.Cell) (r : Sheet) → (with_cells cs r).coefs ≡ placed r.coefs cs
unfolding with_place
with_cells_coefs [] r = refl
with_cells_coefs (c ∷ cs) r = with_cells_coefs cs (with_place (Cell c.0) c.1 r)

-- the row means that of its cells
pub written_cells_row : (width : ℕ) (cs : List maths.Cell) (bound : ℚ) → row_of (written_cells width cs bound) ≡ placed_row width cs bound
unfolding with_place blank
written_cells_row width cs bound = ap (λ xs. record { coefs = xs; bound = bound }) (with_cells_coefs cs (blank width))

with_cells_unspent : (cs : List maths.Cell) (r : Sheet) → (with_cells cs r).spent ≡ r.spent
unfolding with_place
with_cells_unspent [] r = refl
with_cells_unspent (c ∷ cs) r = with_cells_unspent cs (with_place (Cell c.0) c.1 r)

pub written_cells_unspent : (width : ℕ) (cs : List maths.Cell) (bound : ℚ) → (written_cells width cs bound).spent ≡ false
unfolding with_place blank
written_cells_unspent width cs bound = with_cells_unspent cs (blank width)

with_cells_width : (cs : List maths.Cell) (r : Sheet) → length (with_cells cs r).coefs ≡ length r.coefs
unfolding with_place
with_cells_width [] r = refl
with_cells_width (c ∷ cs) r = with_cells_width cs (with_place (Cell c.0) c.1 r) ∙ length-set r.coefs c.0 c.1

-- and has its width
pub written_cells_width : (width : ℕ) (cs : List maths.Cell) (bound : ℚ) → length (written_cells width cs bound).coefs ≡ width
unfolding with_place blank
written_cells_width width cs bound = with_cells_width cs (blank width) ∙ length-replicate width (whole (pos 0))

-- ---- forms
pub written_row : (a : Street) (f : Form) → row_of (written a f) ≡ line a f
written_row a f = written_cells_row (width (count a)) (places_of (count a) f.entries) f.bound

pub written_unspent : (a : Street) (f : Form) → (written a f).spent ≡ false
written_unspent a f = written_cells_unspent (width (count a)) (places_of (count a) f.entries) f.bound

pub written_width : (a : Street) (f : Form) → length (written a f).coefs ≡ width (count a)
written_width a f = written_cells_width (width (count a)) (places_of (count a) f.entries) f.bound
