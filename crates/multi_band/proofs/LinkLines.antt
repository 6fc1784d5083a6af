-- What the end of a line of boxes of links proves.
use Rattle.std.proofs.Common.{◌≡◌, map, sym, ◌∙◌, subst}
use Rattle.rational_theory.proofs.Order.{≤ℚ_refl}
use Rattle.rational_theory.specs.Rows as maths
use Rattle.rational_theory.specs.Rows.{dot}
use Rattle.progression.specs.Street.{Street, count}
use Rattle.artery_model.specs.Valid.{IsValid}
use Rattle.linear_theory.specs.Boxes.{IsBoxOf}
use Rattle.simplex_theory.specs.BlandRule.{optimal}
use Rattle.dual_leaf.specs.Leaves.{CoversWith, RefutesAt}
use Rattle.search_box.proofs.Streets.{street_of}
use Rattle.link_theory.specs.LinkRecord.{LinkRecord}
use Rattle.link_theory.specs.GoodLinks.{GoodLinks}
use Rattle.link_theory.specs.BestLinks.{link_value}
use Rattle.link_theory.specs.LinkColumns.{link_width}
use Rattle.link_theory.specs.LinkRows.{link_goal}
use Rattle.link_theory.specs.LinkTrees.{link_sum, CoversLinks, RefutesLinks}
use Rattle.link_space.specs.LinkWeights.{link_named}
use Rattle.branch_and_bound.specs.Lines.{BoxLine}
use Rattle.branch_and_bound.specs.Lineages.{Empty, Reads, IsOptimal}
use Rattle.box_search.specs.Program.{Gives}
use Rattle.box_search.specs.Ends.{end_move, end_point, end_bound, end_leaf, ending_of}
use Rattle.box_search.proofs.GivenTimings.{only_gives}
use Rattle.box_search.specs.laws.Endings.{optimal_from, empty_from}
use Rattle.box_search.specs.laws.RunLaws as runs
use Rattle.multi_band.specs.LinkRecovered.{link_recovered}
use Rattle.multi_band.specs.LinkProgram.{link_program}
use Rattle.multi_band.proofs.LinkEnds.{link_sum_read}
use Rattle.multi_band.proofs.LinkRecoveries.{gives_good}
use Rattle.multi_band.specs.laws.LinkLines.{link_end_vertex}

module _ (a : Street) (line : BoxLine) (v : IsValid a) where
  abbrev end_sum : maths.Row
  end_sum = link_sum a line.area (map link_named (end_leaf (link_program a) line))

  pub link_end_refutes : ending_of (link_program a) line ≡ Empty → RefutesLinks a end_sum
  link_end_refutes e =
      let r = empty_from (link_program a) line e in
      let h = subst (λ s. RefutesAt (link_width (count a)) s) (link_sum_read a line.area (end_leaf (link_program a) line)) (runs.leaf_refutes (link_program a) line v r.row r.is) in
      record { coefs = λ j l. h.coefs j l; bound = h.bound }

  module _ (e : end_move (link_program a) line ≡ optimal) where
    covers_with : CoversWith (link_goal a) (link_width (count a)) (end_bound (link_program a) line) end_sum
    covers_with = subst (λ s. CoversWith (link_goal a) (link_width (count a)) (end_bound (link_program a) line) s) (link_sum_read a line.area (end_leaf (link_program a) line))
        (runs.leaf_covers (link_program a) line v e)

    pub link_end_covers : CoversLinks a (end_bound (link_program a) line) end_sum
    link_end_covers = let c = covers_with in record { coefs = λ j l. c.coefs j l; bound = rw c.bound (≤ℚ_refl _) }

    pub link_end_goal : dot (link_goal a) (end_point (link_program a) line) ≡ end_bound (link_program a) line
    link_end_goal = (runs.optimal_vertex (link_program a) line v e).goal_value

module _ (a : Street) (line : BoxLine) (v : IsValid a) (b : IsBoxOf a line.area) where
  -- a link timing that the vertex gives is good, and its value is the bound
  pub link_reads_good : (t : LinkRecord) → ending_of (link_program a) line ≡ Reads → (link_program a).outcome line.area (end_point (link_program a) line) ≡ Gives t
      → GoodLinks a t × (link_value a t ≡ end_bound (link_program a) line)
  link_reads_good t e f =
      let o = optimal_from (link_program a) line (subst IsOptimal (sym e) tt) in
      let g = gives_good a line.area (end_point (link_program a) line) (street_of a v) b (link_end_vertex a line v o) t
      (only_gives (link_recovered a line.area (end_point (link_program a) line)) t f) in
      (g.0, g.1 ∙ link_end_goal a line v o)
