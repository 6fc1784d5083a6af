-- The rows of links of a part of a box say at least what those of the box say: a point that meets them meets the box's.
use Rattle.std.proofs.Common.{◌≡◌, ℕ, ◌-◌, ◌*◌, ◌<◌, List, [], ◌∷◌, ◌++◌, replicate, refl, ap}
use Rattle.rational_theory.specs.Rational.{ℚ, ◌+ℚ◌, ◌*ℚ◌}
use Rattle.rational_theory.specs.Rows as maths
use Rattle.rational_theory.specs.Rows.{dot, IsMet}
use Rattle.progression.specs.Street.{Street, count}
use Rattle.progression.specs.Speeds.{number}
use Rattle.linear_theory.specs.Boxes.{Area, IsBoxOf}
use Rattle.linear_theory.specs.Rows.{line, widened}
use Rattle.linear_theory.specs.Names.{form_of}
use Rattle.linear_theory.proofs.PlacedRows.{dot-zeros, narrowed_met}
use Rattle.fraction_tableau.specs.NamedTableaus.{name_in}
use Rattle.search_box.specs.declared.span.At.{At}
use Rattle.search_box.specs.Places.{IsPlace, low_part, high_part}
use Rattle.search_box.proofs.Parts.{parts_of}
use Rattle.link_theory.specs.LinkNames.{LinkName, OfLines, NearRow, FarRow, LinkRatioRow, HasLinkRow, link_row}
use Rattle.link_space.specs.LinkWeights.{link_name_at}
use Rattle.box_search.specs.laws.Duality.{IsPointOf}
use Rattle.box_search.specs.laws.Tightening.{IsWithin, row_wider, low_within, high_within}
use Rattle.multi_band.specs.LinkTables.{names_of_links}
use Rattle.multi_band.specs.LinkProgram.{link_program}
use Rattle.multi_band.specs.laws.LinkTables.{links_there}

-- further columns that are 0 don't matter
zeros_behind : (xs : List ℚ) (k : ℕ) (x : List ℚ) → dot (xs ++ replicate k (number 0)) x ≡ dot xs x
zeros_behind [] k x = dot-zeros k x
zeros_behind (v ∷ xs) k [] = refl
zeros_behind (v ∷ xs) k (y ∷ x) = ap (λ s. v *ℚ y +ℚ s) (zeros_behind xs k x)

met_wide : (k : ℕ) (r : maths.Row) (x : List ℚ) → IsMet x r → IsMet x (widened k r)
met_wide k r x m = record { met = rw (zeros_behind r.coefs k x) m.met }

module _ (a : Street) (inner outer : Area) (parts : 0 < a.head.parts) (b : IsBoxOf a inner) (c : IsBoxOf a outer) (w : IsWithin a inner outer) where
  -- the bands' rows are those of every box
  link_row_wider : (x : List ℚ) (n : LinkName) → HasLinkRow a n → IsMet x (link_row a inner n) → IsMet x (link_row a outer n)
  link_row_wider x (OfLines n) h m =
      met_wide (2 * (count a - 1)) (line a (form_of a outer n)) x (row_wider a inner outer parts b c w x n h.1 (narrowed_met (2 * (count a - 1)) (line a (form_of a inner n)) x m))
  link_row_wider x (NearRow d e i) h m = m
  link_row_wider x (FarRow d e i) h m = m
  link_row_wider x (LinkRatioRow i) h m = m

  link_point_wider : (x : List ℚ) → IsPointOf (link_program a) inner x → IsPointOf (link_program a) outer x
  link_point_wider x v = record {
    columns = v.columns;
    not_negative = v.not_negative;
    rows = λ k h. link_row_wider x (link_name_at (name_in (names_of_links a) k)) (links_there a k h) (v.rows k h);
  }

-- a point of a part is one of the box
module _ (a : Street) (box : Area) (parts : 0 < a.head.parts) (b : IsBoxOf a box) (place : At) (p : IsPlace box place) where
  pub link_low_point : (x : List ℚ) → IsPointOf (link_program a) (low_part box place) x → IsPointOf (link_program a) box x
  link_low_point x v = link_point_wider a (low_part box place) box parts (parts_of a box place b p).low_box b (low_within a box place p) x v

  pub link_high_point : (x : List ℚ) → IsPointOf (link_program a) (high_part box place) x → IsPointOf (link_program a) box x
  link_high_point x v = link_point_wider a (high_part box place) box parts (parts_of a box place b p).high_box b (high_within a box place p) x v
