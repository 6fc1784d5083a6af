-- What the ending of a line of a valid artery promises.
use Rattle.std.proofs.Common.{◌≡◌, ◌<◌, List, sym, ◌∙◌, subst, arith}
use Rattle.rational_theory.specs.Rational.{ℚ, ◌≤ℚ◌}
use Rattle.progression.specs.Street.{Street}
use Rattle.progression.specs.TimingRecord.{TimingRecord}
use Rattle.progression.specs.Good.{Good}
use Rattle.progression.specs.Best.{weighted_band}
use Rattle.artery_model.specs.Valid.{IsValid}
use Rattle.linear_theory.specs.Boxes.{IsBoxOf}
use Rattle.linear_theory.specs.Covering.{RefutesAll}
use Rattle.recovery_theory.specs.Vertices.{IsVertex, goal_at}
use Rattle.search_box.specs.declared.span.At.{At}
use Rattle.search_box.specs.Places.{IsPlace}
use Rattle.search_box.proofs.Streets.{street_of}
use Rattle.offset_recovery.specs.Outcomes.{Gives}
use Rattle.offset_recovery.specs.Recovered.{recovered}
use Rattle.branch_and_bound.specs.Lines.{BoxLine, low_line, high_line}
use Rattle.branch_and_bound.specs.Lineages.{NoEnd, Empty, Reads, Cuts, IsOptimal}
use Rattle.box_search.specs.Ends.{end_point, end_bound, end_leaf, ending_of}
use Rattle.branch_tree.specs.LeafRows.{sum_of}
use Rattle.branch_tree.specs.ArteryProgram.{program_of}
use Rattle.box_search.specs.laws.RunLaws.{end_reached}
use Rattle.branch_tree.specs.laws.EndLaws.{IsOptimalEnd, IsInfeasibleEnd, optimal_end, infeasible_end, optimal_not_refuted, vertex_is_point, point_is_vertex}
use Rattle.box_search.specs.laws.Endings.{optimal_from, cuts_from, empty_from, ends_somehow}
use Rattle.box_search.specs.laws.Duality.{end_greatest, bound_falls}
use Rattle.box_search.specs.laws.Tightening.{low_vertex, high_vertex}
use Rattle.branch_tree.specs.laws.Recoveries.{splits_inside, gives_good}
use Rattle.box_search.specs.laws.VertexOutcomes.{only_splits}

-- ---- ends
module _ (a : Street) (line : BoxLine) (v : IsValid a) where
  -- there is an end
  pub comes_to_an_end : ending_of (program_of a) line ≡ NoEnd → ⊥
  comes_to_an_end e = ends_somehow (program_of a) line (end_reached (program_of a) line v) e

  pub ends_optimal : IsOptimal (ending_of (program_of a) line) → IsOptimalEnd a line
  ends_optimal h = optimal_end a line v (optimal_from (program_of a) line h)

  pub ends_infeasible : ending_of (program_of a) line ≡ Empty → IsInfeasibleEnd a line
  ends_infeasible e = let r = empty_from (program_of a) line e in infeasible_end a line v r.row r.is

  -- the leaf of a last vertex does not refute
  pub not_refuted : IsOptimal (ending_of (program_of a) line) → RefutesAll a (sum_of a line.area (end_leaf (program_of a) line)) → ⊥
  not_refuted h r = optimal_not_refuted a line v (optimal_from (program_of a) line h) r

  -- a point of the box has no greater weighted band than the last vertex
  pub vertex_greatest : (x : List ℚ) → IsOptimal (ending_of (program_of a) line) → IsVertex a line.area x → goal_at a x ≤ℚ end_bound (program_of a) line
  vertex_greatest x h p = end_greatest (program_of a) line v (optimal_from (program_of a) line h) x (vertex_is_point a line.area x p)

module _ (a : Street) (line : BoxLine) (v : IsValid a) (b : IsBoxOf a line.area) where
  -- the place of a split lies in the box
  pub cuts_inside : (place : At) → ending_of (program_of a) line ≡ Cuts place → IsPlace line.area place
  cuts_inside place e =
      splits_inside a line.area (end_point (program_of a) line) (street_of a v) b (ends_optimal a line v (subst IsOptimal (sym e) tt)).vertex place (only_splits (recovered a line.area (end_point (program_of a) line)) place (cuts_from (program_of a) line place e))

  -- a timing that the vertex gives is good, and its weighted band is the bound
  pub reads_good : (t : TimingRecord) → ending_of (program_of a) line ≡ Reads → recovered a line.area (end_point (program_of a) line) ≡ Gives t → Good a t × (weighted_band a t ≡ end_bound (program_of a) line)
  reads_good t e f =
      let o = ends_optimal a line v (subst IsOptimal (sym e) tt) in
      let g = gives_good a line.area (end_point (program_of a) line) (street_of a v) b o.vertex t f in
      (g.0, g.1 ∙ o.goal)

  -- no part has a greater bound
  module _ (place : At) (e : ending_of (program_of a) line ≡ Cuts place) where
    some_parts : 0 < a.head.parts
    some_parts = let m = v.least_parts in omega arith

    under : (part : BoxLine) → IsOptimal (ending_of (program_of a) part) → ((x : List ℚ) → IsVertex a part.area x → IsVertex a line.area x) → end_bound (program_of a) part ≤ℚ end_bound (program_of a) line
    under part h wider =
        bound_falls (program_of a) line part v (optimal_from (program_of a) line (subst IsOptimal (sym e) tt)) (optimal_from (program_of a) part h)
        (λ x q. vertex_is_point a line.area x (wider x (point_is_vertex a part.area x q)))

    pub low_falls : IsOptimal (ending_of (program_of a) (low_line place line)) → end_bound (program_of a) (low_line place line) ≤ℚ end_bound (program_of a) line
    low_falls h = under (low_line place line) h (low_vertex a line.area some_parts b place (cuts_inside place e))

    pub high_falls : IsOptimal (ending_of (program_of a) (high_line place line)) → end_bound (program_of a) (high_line place line) ≤ℚ end_bound (program_of a) line
    high_falls h = under (high_line place line) h (high_vertex a line.area some_parts b place (cuts_inside place e))
