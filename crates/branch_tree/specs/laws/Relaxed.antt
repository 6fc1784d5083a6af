-- Lemmas on the definitions of `Relaxed`.
use Rattle.std.specs.Prelude.{◌≡◌, Some}
use Rattle.std.proofs.Common.{inl, inr, sym, subst}
use Rattle.rational_theory.specs.Rational.{ℚ, ◌≤ℚ◌}
use Rattle.rational_theory.proofs.Order.{≤ℚ_trans}
use Rattle.rational_theory.specs.Rows as maths
use Rattle.progression.specs.Street.{Street}
use Rattle.linear_theory.specs.Boxes.{Area}
use Rattle.linear_theory.specs.Covering.{RefutesAll}
use Rattle.named_row.specs.declared.leaves.Leaf.{Leaf}
use Rattle.search_box.specs.declared.span.At.{At}
use Rattle.search_box.specs.Places.{IsPlace}
use Rattle.branch_and_bound.specs.Choices.{HasNumbers}
use Rattle.branch_and_bound.specs.Lines.{BoxLine, low_line, high_line}
use Rattle.certificate_checker.specs.Accepted.{Shows}
use Rattle.branch_and_bound.specs.Lineages.{Cuts, IsOptimal}
use Rattle.branch_tree.specs.ArteryProgram.{program_of}
use Rattle.box_search.specs.Ends.{end_bound}
use Rattle.branch_tree.specs.LeafRows.{sum_of}
use Rattle.branch_tree.specs.laws.BoxLaws as laws
use Rattle.branch_tree.specs.laws.Choices.{vertex_numbers}
use Rattle.branch_tree.specs.Lineage.{line_ending}
use Rattle.branch_tree.specs.laws.Lineage.{IsLineOf, searchable, boxed}
use Rattle.box_search.specs.Runs.{IsEndLeaf}
use Rattle.branch_tree.specs.Relaxed.{RefutesBox, CoversBox}

-- ---- laws
shows_more : (a : Street) (r : maths.Row) (value more : ℚ) → Shows a (Some value) r → value ≤ℚ more → Shows a (Some more) r
shows_more a r value more (inl c) h = inl (record { coefs = c.coefs; bound = ≤ℚ_trans _ _ _ c.bound h })
shows_more a r value more (inr q) h = inr q

pub covers_more : (a : Street) (box : Area) (leaf : Leaf) (value more : ℚ) → CoversBox a box leaf value → value ≤ℚ more → CoversBox a box leaf more
covers_more a box leaf value more c h = record { rows = c.rows; fits = c.fits; shows = shows_more a _ value more c.shows h }

pub not_refuted : (a : Street) (line : BoxLine) (leaf : Leaf) → IsLineOf a line → IsOptimal (line_ending a line) → IsEndLeaf (program_of a) line leaf → RefutesBox a line.area leaf → ⊥
not_refuted a line leaf l o e r = laws.not_refuted a line (searchable a line l).valid o (subst (λ ws. RefutesAll a (sum_of a line.area ws)) e r.shows)

pub inside : (a : Street) (line : BoxLine) (place : At) → IsLineOf a line → line_ending a line ≡ Cuts place → IsPlace line.area place
inside a line place l e = laws.cuts_inside a line (searchable a line l).valid (boxed a line l) place e

pub has_numbers : (a : Street) (line : BoxLine) (place : At) → IsLineOf a line → line_ending a line ≡ Cuts place → HasNumbers line.area
has_numbers a line place l e = vertex_numbers a line.area _ (searchable a line l).valid (boxed a line l) (laws.ends_optimal a line (searchable a line l).valid (subst IsOptimal (sym e) tt)).vertex

pub low_falls : (a : Street) (line : BoxLine) (place : At) → IsLineOf a line → line_ending a line ≡ Cuts place → IsOptimal (line_ending a (low_line place line)) → end_bound (program_of a) (low_line place line) ≤ℚ end_bound (program_of a) line
low_falls a line place l e o = laws.low_falls a line (searchable a line l).valid (boxed a line l) place e o

pub high_falls : (a : Street) (line : BoxLine) (place : At) → IsLineOf a line → line_ending a line ≡ Cuts place → IsOptimal (line_ending a (high_line place line)) → end_bound (program_of a) (high_line place line) ≤ℚ end_bound (program_of a) line
high_falls a line place l e o = laws.high_falls a line (searchable a line l).valid (boxed a line l) place e o
