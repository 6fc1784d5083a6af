-- Lemmas on the definitions of `OpeningLaws`.
use Rattle.std.proofs.Common.{◌≡◌, ℕ, zero, suc, pos, List, [], ◌∷◌, length, get_or, set, replicate, ◌+◌, ◌<◌, ◌≤◌, ◌⊎◌, inl, inr, refl, sym, ◌∙◌, ap, ap₂, subst, arith}
use Rattle.std.proofs.lemmas.Int.{ints}
use Rattle.std.proofs.lemmas.List.{length-set, length-replicate, get_or-set_same}
use Rattle.rational_theory.specs.Rational.{ℚ, whole, neg_ℚ, ◌+ℚ◌, ◌*ℚ◌, ◌≤ℚ◌}
use Rattle.rational_theory.proofs.Order.{≤ℚ_refl, whole-≤ℤ}
use Rattle.rational_theory.proofs.Linear.{sum_not_negative, product_not_negative}
use Rattle.rational_theory.proofs.Ring.{ring, at, lit, minus, ◌⊕◌, ◌⊗◌}
use Rattle.progression.specs.Street.{Street, count, HasSignal}
use Rattle.progression.specs.Speeds.{number}
use Rattle.progression.specs.Columns.{BandOf, WaitOf}
use Rattle.progression.specs.declared.parts.Dir.{Dir}
use Rattle.progression.specs.declared.parts.Dir.TheVariants.{Outbound, Inbound}
use Rattle.artery_model.specs.Valid.{IsValid}
use Rattle.linear_theory.specs.Places as places
use Rattle.linear_theory.specs.Blocks.{green_part}
use Rattle.linear_theory.specs.Boxes.{Area}
use Rattle.linear_theory.specs.Rows as rows
use Rattle.simplex_theory.specs.Tableau.{Tableau, line, cell, goal_cell, height, width, IsShaped, IsPlace, exchange}
use Rattle.simplex_theory.proofs.Tableau.{height-exchange, width-exchange, shaped-exchange}
use Rattle.simplex_theory.specs.DualSteps.{IsPlaced, IsDual}
use Rattle.simplex_theory.proofs.DualSteps.{placed-exchange}
use Rattle.simplex_theory.proofs.Multipliers.{stands-exchange}
use Rattle.simplex_theory.proofs.Loaded.{placed-loaded, stands-loaded}
use Rattle.simplex_theory.specs.RowLists.{HasShape, StandsForRows}
use Rattle.fraction_tableau.specs.NamedTableaus.{name_in}
use Rattle.program_builder.specs.BoxRows.{rows_of}
use Rattle.program_builder.proofs.FirstRows.{rows_least, outbound_waits, inbound_waits}
use Rattle.program_builder.specs.ProgramTable.{ProgramTable}
use Rattle.program_builder.specs.Loading.{cells_of}
use Rattle.program_builder.specs.StartPivots.{after_pivots}
use Rattle.program_builder.specs.Opening.{row_for, box_rows, goal_of, artery_table, loaded, opening}
use Rattle.program_builder.proofs.LoadedTables.{goal_cells_at, goal_cells_last, height-loaded, width-loaded, line-loaded, goal-loaded, shaped-loaded, is_loaded, shape_loaded}
use Rattle.program_builder.proofs.ArteryTables.{artery_is_table}
use Rattle.program_builder.proofs.LineCells.{line_width, line_each, line_other, line_first, cells_at}
use Rattle.program_builder.proofs.UnitPivots.{unit_place, unit_goal_at, unit_goal_other, cell_kept}
use Rattle.program_builder.specs.OpeningLaws.{wait_row}

module _ (a : Street) (box : Area) where
  abbrev table : ProgramTable
  table = artery_table a

  -- ---- the two rows of the start
  module _ (v : IsValid a) where
    two_rows : (0 < length (rows_of a)) × (count a < length (rows_of a))
    two_rows = let n = v.few in (rows_least a 0 (omega arith), rows_least a (count a) (omega arith))

    pub first_line : line (loaded a box) 0 ≡ wait_row a Outbound
    first_line = line-loaded table box 0 two_rows.0 ∙ ap (λ r. cells_of (row_for a box r)) (outbound_waits a 0 (let n = v.few in omega arith))

    pub second_line : line (loaded a box) (count a) ≡ wait_row a Inbound
    second_line =
        let e : count a + 0 ≡ count a = omega arith in
        line-loaded table box (count a) two_rows.1
        ∙ ap (λ r. cells_of (row_for a box r)) (ap (name_in (rows_of a)) (sym e) ∙ inbound_waits a 0 (let n = v.few in omega arith))

    pub some_signal : HasSignal a 1
    some_signal = (omega arith, let n = v.few in omega arith)

    -- a wait's row has 1 in its band and 0 in the other
    own_band : (d : Dir) → places.place (count a) (BandOf d) < places.width (count a) → get_or (wait_row a d) (places.place (count a) (BandOf d)) (number 0) ≡ number 1
    own_band d h =
        cells_at (rows.line a (rows.wait_form a d 1)) (places.place (count a) (BandOf d)) (let e = line_width a (rows.wait_form a d 1) in omega arith)
        ∙ line_first a (BandOf d, number 1) ((WaitOf d 1, number 1) ∷ []) (green_part a d 1) h (apart d, tt)
      where
        apart : (d : Dir) → places.place (count a) (BandOf d) ≡ places.place (count a) (WaitOf d 1) → ⊥
        apart Outbound e = absurd (omega arith)
        apart Inbound e = absurd (omega arith)

    pub outbound_band : get_or (wait_row a Outbound) 0 (number 0) ≡ number 1
    outbound_band = own_band Outbound (let n = v.few in omega arith)

    pub inbound_band : get_or (wait_row a Inbound) 1 (number 0) ≡ number 1
    inbound_band = own_band Inbound (let n = v.few in omega arith)

    pub outbound_other : get_or (wait_row a Outbound) 1 (number 0) ≡ number 0
    outbound_other =
        cells_at (rows.line a (rows.wait_form a Outbound 1)) 1 (let e = line_width a (rows.wait_form a Outbound 1) in let n = v.few in omega arith)
        ∙ line_other a (rows.wait_form a Outbound 1) 1 ((λ e. absurd (omega arith)), ((λ e. absurd (omega arith)), tt))

    pub inbound_other : get_or (wait_row a Inbound) 0 (number 0) ≡ number 0
    inbound_other =
        cells_at (rows.line a (rows.wait_form a Inbound 1)) 0 (let e = line_width a (rows.wait_form a Inbound 1) in omega arith)
        ∙ line_other a (rows.wait_form a Inbound 1) 0 ((λ e. absurd (omega arith)), ((λ e. absurd (omega arith)), tt))

    one_not_negative : number 0 ≤ℚ number 1
    one_not_negative = whole-≤ℤ (pos 0) (pos 1) (omega (arith, ints))

    -- no cell of it is negative
    wait_not_negative : (d : Dir) (k : ℕ) → k < places.width (count a) → number 0 ≤ℚ get_or (wait_row a d) k (number 0)
    wait_not_negative d k h =
        subst (λ x. number 0 ≤ℚ x) (sym (cells_at (rows.line a (rows.wait_form a d 1)) k (let e = line_width a (rows.wait_form a d 1) in omega arith)))
        (line_each (λ x. number 0 ≤ℚ x) a (rows.wait_form a d 1) k (≤ℚ_refl (number 0)) (one_not_negative, (one_not_negative, tt)))

    -- ---- the goal
    goal_out : get_or (goal_of a) 0 (number 0) ≡ number 1
    goal_out = line_first a (BandOf Outbound, number 1) ((BandOf Inbound, a.head.ratio) ∷ []) (number 0) (omega arith) ((λ e. absurd (omega arith)), tt)

    goal_in : get_or (goal_of a) 1 (number 0) ≡ a.head.ratio
    goal_in =
        let zeros = replicate (places.width (count a)) (number 0) in
        let w = length-replicate (places.width (count a)) (number 0) in
        let l = length-set zeros 0 (number 1) in
        get_or-set_same (set zeros 0 (number 1)) 1 a.head.ratio (number 0) (let n = v.few in omega arith)

    goal_rest : (k : ℕ) → 2 ≤ k → get_or (goal_of a) k (number 0) ≡ number 0
    goal_rest k h = line_other a (rows.goal_form a) k ((λ e. absurd (omega arith)), ((λ e. absurd (omega arith)), tt))

    loaded_goal : (k : ℕ) → k < places.width (count a) → goal_cell (loaded a box) k ≡ neg_ℚ (get_or (goal_of a) k (number 0))
    loaded_goal k h = ap (λ (c : List ℚ). get_or c k (whole (pos 0))) (goal-loaded table box) ∙ goal_cells_at (goal_of a) k (let e = line_width a (rows.goal_form a) in omega arith)

    loaded_rest : (k : ℕ) → 2 ≤ k → k ≤ places.width (count a) → goal_cell (loaded a box) k ≡ number 0
    loaded_rest k h l = pick (cases k (places.width (count a)) l)
      where
        cases : (k n : ℕ) → k ≤ n → (k < n) ⊎ (k ≡ n)
        cases k n h = grind arith

        pick : (k < places.width (count a)) ⊎ (k ≡ places.width (count a)) → goal_cell (loaded a box) k ≡ number 0
        pick (inl m) = loaded_goal k m ∙ ap neg_ℚ (goal_rest k h) ∙ ring (minus (lit (pos 0))) (lit (pos 0)) [] refl
        pick (inr e) =
            ap (λ (c : List ℚ). get_or c k (whole (pos 0))) (goal-loaded table box) ∙ goal_cells_last (goal_of a) k (e ∙ sym (line_width a (rows.goal_form a)))

    -- ---- the first exchange
    abbrev once : Tableau
    once = exchange 0 0 (loaded a box)

    first_cell : (k : ℕ) → cell (loaded a box) 0 k ≡ get_or (wait_row a Outbound) k (number 0)
    first_cell k = ap (λ (c : List ℚ). get_or c k (whole (pos 0))) first_line

    pub first_place : IsPlace (loaded a box) 0 0
    first_place = unit_place (loaded a box) 0 0 (rw (height-loaded table box) two_rows.0) (rw (width-loaded table box) (omega arith)) (first_cell 0 ∙ outbound_band)

    pub shaped_once : IsShaped (exchange 0 0 (loaded a box))
    shaped_once = shaped-exchange 0 0 (loaded a box) (shaped-loaded table box (artery_is_table a)) first_place.row

    pub second_cell : (k : ℕ) → cell (exchange 0 0 (loaded a box)) (count a) k ≡ get_or (wait_row a Inbound) k (number 0)
    second_cell k =
        let own : cell (loaded a box) (count a) 0 ≡ number 0 = ap (λ (c : List ℚ). get_or c 0 (whole (pos 0))) second_line ∙ inbound_other in
        cell_kept 0 0 (count a) k (loaded a box) (shaped-loaded table box (artery_is_table a)) first_place.place (rw (height-loaded table box) two_rows.1)
        (λ e. absurd (let n = v.few in omega arith)) own
        ∙ ap (λ (c : List ℚ). get_or c k (whole (pos 0))) second_line

    pub second_place : IsPlace (exchange 0 0 (loaded a box)) (count a) 1
    second_place = unit_place once (count a) 1 (rw (height-exchange 0 0 (loaded a box), (height-loaded table box)) two_rows.1)
        (rw (width-exchange 0 0 (loaded a box), (width-loaded table box)) (let n = v.few in omega arith)) (second_cell 1 ∙ inbound_band)

    once_first : goal_cell once 0 ≡ number 1
    once_first =
        unit_goal_at 0 0 (loaded a box) (shaped-loaded table box (artery_is_table a)) first_place (first_cell 0 ∙ outbound_band) ∙ ap neg_ℚ (loaded_goal 0 (omega arith) ∙ ap neg_ℚ goal_out)
        ∙ ring (minus (minus (lit (pos 1)))) (lit (pos 1)) [] refl

    once_other : (k : ℕ) → (k ≡ 0 → ⊥) → goal_cell once k ≡ goal_cell (loaded a box) k +ℚ get_or (wait_row a Outbound) k (number 0)
    once_other k n =
        unit_goal_other 0 0 k (loaded a box) first_place (first_cell 0 ∙ outbound_band) n
        ∙ ap₂ (λ x y. goal_cell (loaded a box) k +ℚ neg_ℚ x *ℚ y) (loaded_goal 0 (omega arith) ∙ ap neg_ℚ goal_out) (first_cell k)
        ∙ ring (at 0 ⊕ minus (minus (lit (pos 1))) ⊗ at 1) (at 0 ⊕ at 1) (goal_cell (loaded a box) k ∷ get_or (wait_row a Outbound) k (number 0) ∷ []) refl

    once_second : goal_cell once 1 ≡ neg_ℚ a.head.ratio
    once_second =
        once_other 1 (λ e. absurd (omega arith)) ∙ ap₂ (λ x y. x +ℚ y) (loaded_goal 1 (let n = v.few in omega arith) ∙ ap neg_ℚ goal_in) outbound_other
        ∙ ring (minus (at 0) ⊕ lit (pos 0)) (minus (at 0)) (a.head.ratio ∷ []) refl

    -- ---- the second
    opening_second : goal_cell (opening a box) 1 ≡ a.head.ratio
    unfolding opening after_pivots
    opening_second =
        unit_goal_at (count a) 1 once shaped_once second_place (second_cell 1 ∙ inbound_band) ∙ ap neg_ℚ once_second
        ∙ ring (minus (minus (at 0))) (at 0) (a.head.ratio ∷ []) refl

    opening_other : (k : ℕ) → (k ≡ 1 → ⊥) → goal_cell (opening a box) k ≡ goal_cell once k +ℚ a.head.ratio *ℚ get_or (wait_row a Inbound) k (number 0)
    unfolding opening after_pivots
    opening_other k n =
        unit_goal_other (count a) 1 k once second_place (second_cell 1 ∙ inbound_band) n
        ∙ ap₂ (λ x y. goal_cell once k +ℚ neg_ℚ x *ℚ y) once_second (second_cell k)
        ∙ ring (at 0 ⊕ minus (minus (at 1)) ⊗ at 2) (at 0 ⊕ at 1 ⊗ at 2) (goal_cell once k ∷ a.head.ratio ∷ get_or (wait_row a Inbound) k (number 0) ∷ []) refl

    -- the goal row is the row of signal 1's outbound wait and, so many times as the ratio is, that of its inbound wait
    pub opening_goal : (k : ℕ) → k ≤ places.width (count a) → goal_cell (opening a box) k ≡ get_or (wait_row a Outbound) k (number 0) +ℚ a.head.ratio *ℚ get_or (wait_row a Inbound) k (number 0)
    opening_goal zero h =
        opening_other 0 (λ e. absurd (omega arith)) ∙ ap (λ x. x +ℚ a.head.ratio *ℚ get_or (wait_row a Inbound) 0 (number 0)) (once_first ∙ sym outbound_band)
    opening_goal (suc zero) h =
        opening_second ∙ ring (at 0) (lit (pos 0) ⊕ at 0 ⊗ lit (pos 1)) (a.head.ratio ∷ []) refl
        ∙ ap₂ (λ x y. x +ℚ a.head.ratio *ℚ y) (sym outbound_other) (sym inbound_band)
    opening_goal (suc (suc k)) h =
        opening_other (suc (suc k)) (λ e. absurd (omega arith))
        ∙ ap (λ x. x +ℚ a.head.ratio *ℚ get_or (wait_row a Inbound) (suc (suc k)) (number 0))
        (once_other (suc (suc k)) (λ e. absurd (omega arith)) ∙ ap (λ x. x +ℚ get_or (wait_row a Outbound) (suc (suc k)) (number 0)) (loaded_rest (suc (suc k)) (omega arith) h)
        ∙ ring (lit (pos 0) ⊕ at 0) (at 0) (get_or (wait_row a Outbound) (suc (suc k)) (number 0) ∷ []) refl)

    ratio_not_negative : number 0 ≤ℚ a.head.ratio
    unfolding whole
    ratio_not_negative = record { cross = let l = v.ratio.least in omega (arith, ints, l) }

    pub width-opening : width (opening a box) ≡ places.width (count a)
    unfolding opening after_pivots
    width-opening = width-exchange (count a) 1 once ∙ width-exchange 0 0 (loaded a box) ∙ (width-loaded table box)

    pub height-opening : height (opening a box) ≡ length (rows_of a)
    unfolding opening after_pivots
    height-opening = height-exchange (count a) 1 once ∙ height-exchange 0 0 (loaded a box) ∙ (height-loaded table box)

    placed_opening : IsPlaced (opening a box)
    unfolding opening after_pivots
    placed_opening = placed-exchange (count a) 1 once shaped_once (placed-exchange 0 0 (loaded a box) (shaped-loaded table box (artery_is_table a))
        (placed-loaded (loaded a box) _ (is_loaded table box (artery_is_table a))) first_place) second_place

    pub shaped_opening : IsShaped (opening a box)
    unfolding opening after_pivots
    shaped_opening = shaped-exchange (count a) 1 once shaped_once second_place.row

    -- no cell of the goal row is negative, so the tableau is dual feasible, for each ratio
    pub opening_dual : IsDual (opening a box)
    opening_dual = record {
      shaped = shaped_opening;
      placed = placed_opening;
      goals = λ k l. let h = subst (λ n. k < n) width-opening l in
          subst (λ x. number 0 ≤ℚ x) (sym (opening_goal k (omega arith)))
          (sum_not_negative _ _ (wait_not_negative Outbound k h) (product_not_negative _ _ ratio_not_negative (wait_not_negative Inbound k h)));
    }

    -- it says of all variables what the box's rows say of the columns and their slacks, and its goal row gives the weighted band
    pub opening_stands : StandsForRows (opening a box) (box_rows a box) (goal_of a)
    unfolding opening after_pivots
    opening_stands = record {
      shape = subst (λ m. HasShape (box_rows a box) (goal_of a) m (width (opening a box))) ((height-loaded table box) ∙ sym height-opening)
          (subst (λ w. HasShape (box_rows a box) (goal_of a) (height (loaded a box)) w) ((width-loaded table box) ∙ sym width-opening) (shape_loaded table box (artery_is_table a)));
      stands = stands-exchange (count a) 1 once _ shaped_once second_place (stands-exchange 0 0 (loaded a box) _ (shaped-loaded table box (artery_is_table a))
          first_place (stands-loaded (loaded a box) _ (is_loaded table box (artery_is_table a))));
    }
