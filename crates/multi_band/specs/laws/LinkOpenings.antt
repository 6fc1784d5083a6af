-- What the opening of links is: it stands for the box's rows and the goal, it is dual feasible for each ratio, and the columns of the artery's two bands are 0 in it.
use Rattle.std.proofs.Common.{◌≡◌, ℕ, pos, ◌-◌, ◌<◌, sym, ◌∙◌, subst, arith}
use Rattle.std.proofs.lemmas.Int.{ints}
use Rattle.rational_theory.specs.Rational.{ℚ, whole, over, ◌≤ℚ◌}
use Rattle.rational_theory.proofs.Lowest.{over-own}
use Rattle.rational_theory.proofs.Order.{over_≤ℚ}
use Rattle.progression.specs.Street.{Street, count, HasLink, red_parts}
use Rattle.progression.specs.Speeds.{number}
use Rattle.progression.specs.declared.parts.Dir.{Dir}
use Rattle.artery_model.specs.Valid.{IsValid}
use Rattle.linear_theory.specs.Blocks.{green_part}
use Rattle.linear_theory.specs.Boxes.{Area}
use Rattle.linear_theory.proofs.RowNumbers.{green_part_is}
use Rattle.simplex_theory.specs.Tableau as tableau
use Rattle.simplex_theory.specs.Tableau.{height}
use Rattle.simplex_theory.specs.DualSteps.{IsDual}
use Rattle.simplex_theory.proofs.Loaded.{placed-loaded, stands-loaded}
use Rattle.simplex_theory.specs.RowLists.{HasShape, StandsForRows}
use Rattle.program_builder.proofs.LoadedTables.{width-loaded, shaped-loaded, is_loaded, shape_loaded}
use Rattle.program_builder.proofs.RowKinds.{some_green}
use Rattle.program_builder.proofs.StartPivots.{AreUnitPivots, ArePlaces, unit_places, unit_dual, height-pivots, width-pivots, stands_pivots}
use Rattle.link_theory.specs.LinkColumns.{link_width}
use Rattle.link_theory.specs.LinkRows.{link_goal}
use Rattle.multi_band.specs.LinkTables.{link_table, link_box_rows, link_loaded}
use Rattle.multi_band.specs.LinkOpening.{link_pivots, link_opening}
use Rattle.multi_band.specs.laws.LinkTables.{links_are_table}
use Rattle.multi_band.specs.laws.LinkPivots.{halves_units, goal_elsewhere}

-- ---- greens
over_not_negative : (n d : ℕ) → 0 < d → number 0 ≤ℚ over (pos n) d
unfolding whole
over_not_negative n d h = subst (λ (x : ℚ). x ≤ℚ over (pos n) d) (over-own (whole (pos 0))) ((over_≤ℚ (pos 0) (pos n) 1 d (omega arith) h).1 (omega (arith, ints)))

module _ (a : Street) (box : Area) (v : IsValid a) where
  green_not_negative : (d : Dir) (i : ℕ) → HasLink a i → number 0 ≤ℚ green_part a d i
  green_not_negative d i h =
      let n = a.head.parts in
      let p = v.least_parts in
      rw (green_part_is a d i (some_green a v d i (h.0, let l = h.1 in omega arith))) (over_not_negative (n - red_parts a d i) n (omega arith))

  pub link_units : AreUnitPivots (link_loaded a box) (link_pivots a)
  link_units = let n = v.few in halves_units a box v green_not_negative 1 (count a - 1) (omega arith) (omega arith)

  pub link_places : ArePlaces (link_pivots a) (link_loaded a box)
  link_places = let n = v.few in unit_places (link_pivots a) (link_loaded a box) (shaped-loaded (link_table a) box (links_are_table a n)) link_units

  pub width-link_opening : tableau.width (link_opening a box) ≡ link_width (count a)
  unfolding link_opening
  width-link_opening = width-pivots (link_pivots a) (link_loaded a box) ∙ width-loaded (link_table a) box

  -- for each ratio
  pub link_opening_dual : IsDual (link_opening a box)
  unfolding link_opening
  link_opening_dual =
      let w = links_are_table a v.few in
      unit_dual (link_pivots a) (link_loaded a box) (shaped-loaded (link_table a) box w) (placed-loaded (link_loaded a box) _ (is_loaded (link_table a) box w)) link_units
      (λ k l n. goal_elsewhere a box v k (subst (λ m. k < m) (width-loaded (link_table a) box) l) n)

  -- it says of all variables what the box's rows say of the columns and their slacks, and its goal row gives the value of links
  pub link_opening_stands : StandsForRows (link_opening a box) (link_box_rows a box) (link_goal a)
  unfolding link_opening
  link_opening_stands =
      let w = links_are_table a v.few in
      record {
        shape = subst (λ m. HasShape (link_box_rows a box) (link_goal a) m (tableau.width (link_opening a box))) (sym (height-pivots (link_pivots a) (link_loaded a box)))
            (subst (λ n. HasShape (link_box_rows a box) (link_goal a) (height (link_loaded a box)) n) (sym (width-pivots (link_pivots a) (link_loaded a box))) (shape_loaded (link_table a) box w));
        stands = stands_pivots (link_pivots a) (link_loaded a box) _ link_places (shaped-loaded (link_table a) box w) (stands-loaded (link_loaded a box) _ (is_loaded (link_table a) box w));
      }
