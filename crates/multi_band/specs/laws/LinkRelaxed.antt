-- The laws of the links of an artery as a relaxation.
use Rattle.std.specs.Prelude.{◌≡◌, map}
use Rattle.std.proofs.Common.{subst}
use Rattle.rational_theory.specs.Rational.{ℚ, ◌≤ℚ◌}
use Rattle.progression.specs.Street.{Street}
use Rattle.linear_theory.specs.Boxes.{Area}
use Rattle.named_row.specs.Covering.{Refutes}
use Rattle.named_row.specs.declared.leaves.Leaf.{Leaf}
use Rattle.loop_rows.specs.Weights.{total_of}
use Rattle.search_box.specs.declared.span.At.{At}
use Rattle.search_box.specs.Places.{IsPlace}
use Rattle.branch_and_bound.specs.Choices.{HasNumbers}
use Rattle.branch_and_bound.specs.Lines.{BoxLine, low_line, high_line}
use Rattle.branch_and_bound.specs.Lineages.{Cuts, IsOptimal}
use Rattle.link_space.specs.LinkSheets.{link_goal_sheet}
use Rattle.link_space.specs.LinkWeights.{link_rows, link_named}
use Rattle.box_search.specs.Ends.{end_point, end_bound, end_leaf, ending_of}
use Rattle.box_search.specs.Runs.{IsEndLeaf}
use Rattle.box_search.specs.laws.Endings.{optimal_from}
use Rattle.multi_band.specs.LinkProgram.{link_program}
use Rattle.multi_band.specs.LinkRelaxed.{RefutesLinkBox, CoversLinkBox}
use Rattle.multi_band.specs.laws.LinkWeakDuality.{link_vertex_refutes}
use Rattle.multi_band.specs.laws.LinkLeaves.{keeps_more, link_refutes_sum}
use Rattle.multi_band.specs.laws.LinkLines.{IsLinkLine, link_searchable, link_boxed, link_end_weights, link_end_vertex, link_cuts_inside, link_cuts_numbers, link_part_low, link_part_high}

pub links_cover_more : (a : Street) (box : Area) (leaf : Leaf) (value more : ℚ) → CoversLinkBox a box leaf value → value ≤ℚ more → CoversLinkBox a box leaf more
links_cover_more a box leaf value more c h = record { there = c.there; fits = c.fits; keeps = keeps_more (link_goal_sheet a) (total_of (link_rows a box) leaf.multipliers.items) value more c.keeps h }

pub links_not_refuted : (a : Street) (line : BoxLine) (leaf : Leaf) → IsLinkLine a line → IsOptimal (ending_of (link_program a) line) → IsEndLeaf (link_program a) line leaf → RefutesLinkBox a line.area leaf → ⊥
links_not_refuted a line leaf l o e r =
    let v = (link_searchable a line l).valid in
    link_vertex_refutes a line.area (end_point (link_program a) line) (link_end_vertex a line v (optimal_from (link_program a) line o)) (map link_named (end_leaf (link_program a) line))
    (link_end_weights a line v)
    (link_refutes_sum a line.area v.few (end_leaf (link_program a) line) (subst (λ ws. Refutes (total_of (link_rows a line.area) ws)) e r.keeps))

pub links_inside : (a : Street) (line : BoxLine) (place : At) → IsLinkLine a line → ending_of (link_program a) line ≡ Cuts place → IsPlace line.area place
links_inside a line place l e = link_cuts_inside a line (link_searchable a line l).valid (link_boxed a line l) place e

pub links_have_numbers : (a : Street) (line : BoxLine) (place : At) → IsLinkLine a line → ending_of (link_program a) line ≡ Cuts place → HasNumbers line.area
links_have_numbers a line place l e = link_cuts_numbers a line (link_searchable a line l).valid (link_boxed a line l) place e

pub links_low_falls : (a : Street) (line : BoxLine) (place : At) → IsLinkLine a line → ending_of (link_program a) line ≡ Cuts place → IsOptimal (ending_of (link_program a) (low_line place line))
    → end_bound (link_program a) (low_line place line) ≤ℚ end_bound (link_program a) line
links_low_falls a line place l e o = link_part_low a line (link_searchable a line l).valid (link_boxed a line l) place e o

pub links_high_falls : (a : Street) (line : BoxLine) (place : At) → IsLinkLine a line → ending_of (link_program a) line ≡ Cuts place → IsOptimal (ending_of (link_program a) (high_line place line))
    → end_bound (link_program a) (high_line place line) ≤ℚ end_bound (link_program a) line
links_high_falls a line place l e o = link_part_high a line (link_searchable a line l).valid (link_boxed a line l) place e o
