-- What the end of a line of boxes of links is: its vertex is one of links, whose place lies in the box and whose link timing is good, its leaf covers the goal with
-- the bound, or refutes; and along a line of splits every box is a box of the artery.
use Rattle.std.proofs.Common.{◌≡◌, ℕ, ◌<◌, List, [], ◌∷◌, map, get_or, sym, subst, arith}
use Rattle.rational_theory.specs.Rational.{◌≤ℚ◌}
use Rattle.progression.specs.Street.{Street}
use Rattle.progression.specs.Speeds.{number}
use Rattle.artery_model.specs.Valid.{IsValid}
use Rattle.linear_theory.specs.Boxes.{IsBoxOf, root_box}
use Rattle.named_row.specs.declared.leaves.Weight.{Weight}
use Rattle.simplex_theory.specs.BlandRule.{optimal}
use Rattle.search_box.specs.declared.span.At.{At}
use Rattle.search_box.specs.Places.{IsPlace}
use Rattle.search_box.proofs.Streets.{street_of}
use Rattle.search_box.proofs.Parts.{parts_of}
use Rattle.recovery_theory.proofs.Inside.{span_order}
use Rattle.link_theory.specs.Plain.{plain}
use Rattle.link_theory.specs.LinkTrees.{AreLinkWeights}
use Rattle.link_theory.specs.LinkVertices.{IsLinkVertex}
use Rattle.link_theory.proofs.PlainStreets.{plain_street, plain_box}
use Rattle.link_theory.proofs.LinesOfVertices.{lines_vertex}
use Rattle.link_space.specs.LinkWeights.{link_named}
use Rattle.branch_and_bound.specs.Choices.{HasNumbers}
use Rattle.branch_and_bound.specs.Lines.{BoxLine, low_line, high_line}
use Rattle.branch_and_bound.specs.Lineages.{Cuts, IsOptimal, IsLineage}
use Rattle.box_search.specs.Ends.{table_after, steps_of, end_move, end_point, end_bound, end_leaf, ending_of}
use Rattle.box_search.specs.Searchable.{IsSearchable}
use Rattle.box_search.specs.laws.VertexOutcomes.{only_splits}
use Rattle.box_search.specs.laws.Duality.{AreOver, end_over, end_point_of, bound_falls}
use Rattle.box_search.specs.laws.Endings.{optimal_from, cuts_from}
use Rattle.box_search.specs.laws.Lineage.{sound_along, boxed_along}
use Rattle.box_search.specs.laws.RunLaws as runs
use Rattle.multi_band.specs.LinkRecovered.{link_recovered}
use Rattle.multi_band.specs.LinkTables.{names_of_links}
use Rattle.multi_band.specs.LinkProgram.{link_program}
use Rattle.multi_band.specs.laws.IdleBands.{bands_are_zero}
use Rattle.multi_band.specs.laws.LinkTables.{among_links_is}
use Rattle.multi_band.specs.laws.LinkEnds.{table_vertex}
use Rattle.multi_band.specs.laws.LinkRecoveries.{splits_inside}
use Rattle.multi_band.specs.laws.LinkTightening.{link_low_point, link_high_point}

weights_over : (a : Street) (ws : List Weight) → AreOver (names_of_links a) ws → AreLinkWeights a (map link_named ws)
weights_over a [] h = tt
weights_over a (w ∷ ws) h = ((among_links_is a w.row).0 h.0, h.1, weights_over a ws h.2)

module _ (a : Street) (line : BoxLine) (v : IsValid a) where
  -- ---- the leaf
  pub link_end_weights : AreLinkWeights a (map link_named (end_leaf (link_program a) line))
  link_end_weights = weights_over a (end_leaf (link_program a) line) (end_over (link_program a) line v)

  module _ (e : end_move (link_program a) line ≡ optimal) where
    -- ---- the vertex
    band_zero : (k : ℕ) → k < 2 → get_or (end_point (link_program a) line) k (number 0) ≡ number 0
    unfolding table_after
    band_zero k l =
        bands_are_zero a line.area v k l (steps_of (link_program a) line) (runs.run_dual (link_program a) line v (steps_of (link_program a) line))
        (subst (λ m. k < m) (sym (runs.run_width (link_program a) line v (steps_of (link_program a) line))) (let n = v.few in omega arith))

    pub link_end_vertex : IsLinkVertex a line.area (end_point (link_program a) line)
    link_end_vertex =
        let p = end_point_of (link_program a) line v e in
        table_vertex a line.area (end_point (link_program a) line) p.columns p.not_negative (band_zero 0 (omega arith)) (band_zero 1 (omega arith)) p.rows

module _ (a : Street) (line : BoxLine) (v : IsValid a) (b : IsBoxOf a line.area) where
  vertex : IsOptimal (ending_of (link_program a) line) → IsLinkVertex a line.area (end_point (link_program a) line)
  vertex o = link_end_vertex a line v (optimal_from (link_program a) line o)

  -- the place of a split lies in the box
  pub link_cuts_inside : (place : At) → ending_of (link_program a) line ≡ Cuts place → IsPlace line.area place
  link_cuts_inside place e =
      splits_inside a line.area (end_point (link_program a) line) (street_of a v) b (vertex (subst IsOptimal (sym e) tt)) place
      (only_splits (link_recovered a line.area (end_point (link_program a) line)) place (cuts_from (link_program a) line place e))

  module _ (place : At) (e : ending_of (link_program a) line ≡ Cuts place) where
    -- only a box with a choice of block sums is split
    pub link_cuts_numbers : HasNumbers line.area
    link_cuts_numbers i first last =
        let c = b.loops_count in
        let h = street_of a v in
        span_order (plain a) line.area (end_point (link_program a) line) (plain_street a h) (plain_box a line.area b)
        (lines_vertex a line.area (end_point (link_program a) line) h (vertex (subst IsOptimal (sym e) tt))) i (first, omega arith)

    some_parts : 0 < a.head.parts
    some_parts = let m = v.least_parts in omega arith

    -- no part has a greater bound
    pub link_part_low : IsOptimal (ending_of (link_program a) (low_line place line)) → end_bound (link_program a) (low_line place line) ≤ℚ end_bound (link_program a) line
    link_part_low h =
        bound_falls (link_program a) line (low_line place line) v (optimal_from (link_program a) line (subst IsOptimal (sym e) tt)) (optimal_from (link_program a) (low_line place line) h)
        (link_low_point a line.area some_parts b place (link_cuts_inside place e))

    pub link_part_high : IsOptimal (ending_of (link_program a) (high_line place line)) → end_bound (link_program a) (high_line place line) ≤ℚ end_bound (link_program a) line
    link_part_high h =
        bound_falls (link_program a) line (high_line place line) v (optimal_from (link_program a) line (subst IsOptimal (sym e) tt)) (optimal_from (link_program a) (high_line place line) h)
        (link_high_point a line.area some_parts b place (link_cuts_inside place e))

-- ---- lineages
-- the lines that a search of the artery's links can meet
abbrev pub IsLinkLine : Street → BoxLine → Type 0
IsLinkLine a line = IsLineage (IsSearchable a) (root_box a) (ending_of (link_program a)) line

pub link_searchable : (a : Street) (line : BoxLine) → IsLinkLine a line → IsSearchable a
link_searchable a line l = sound_along (IsSearchable a) (root_box a) (ending_of (link_program a)) line l

pub link_boxed : (a : Street) (line : BoxLine) → IsLinkLine a line → IsBoxOf a line.area
link_boxed a line l =
    boxed_along (IsSearchable a) (root_box a) (ending_of (link_program a)) (IsBoxOf a) (λ s. s.root)
    (λ at place s b e. let p = parts_of a at.area place b (link_cuts_inside a at s.valid b place e) in (p.low_box, p.high_box)) line l
