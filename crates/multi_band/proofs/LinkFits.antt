-- No pivot of the opening of links leaves 128 bits: the rows that have a cell at a half are a few parts of the cycle, and so is the ratio, over a denominator in
-- common.
use Rattle.std.proofs.Common.{◌≡◌, ℕ, zero, suc, pos, List, [], ◌∷◌, length, get_or, ◌+◌, ◌-◌, ◌*◌, ◌<◌, ◌≤◌, inl, inr, refl, sym, ◌∙◌, ap, subst}
use Rattle.std.proofs.Common.{arith, unsigned_abs, Bool, true, false, if◌then◌else◌}
use Rattle.std.proofs.Math.Nat.{mul_comm}
use Rattle.std.proofs.lemmas.Nat.{mul-le}
use Rattle.std.proofs.lemmas.List.{get_or-append_right}
use Rattle.std.specs.Ordering.{is_lt}
use Rattle.rational_theory.specs.Rational.{ℚ, neg_ℚ, ◌+ℚ◌, ◌*ℚ◌}
use Rattle.rational_theory.specs.Compare.{cmp_ℚ}
use Rattle.rational_theory.proofs.Order.{whole-neg_ℤ}
use Rattle.rational_theory.proofs.Ring.{ring, at, lit, ◌⊕◌, ◌⊗◌}
use Rattle.progression.specs.Street.{Street, count, HasLink, HasSignal, red_parts}
use Rattle.progression.specs.Speeds.{number}
use Rattle.progression.specs.declared.parts.Dir.{Dir}
use Rattle.progression.specs.declared.parts.Dir.TheVariants.{Outbound, Inbound}
use Rattle.artery_model.specs.Valid.{IsValid}
use Rattle.linear_theory.specs.Blocks.{green_part}
use Rattle.linear_theory.specs.Boxes.{Area}
use Rattle.linear_theory.specs.Places.{width}
use Rattle.linear_theory.specs.Rows.{Cell, placed_row, minus_one, line}
use Rattle.linear_theory.specs.Names.{form_of}
use Rattle.linear_theory.proofs.PlacedRows.{get-zeros}
use Rattle.linear_theory.proofs.RowNumbers.{green_part_is}
use Rattle.fraction_tableau.specs.Narrow.{IsNarrow, AreNarrow}
use Rattle.fraction_tableau.specs.NamedTableaus.{name_in}
use Rattle.program_builder.specs.Loading.{cells_of, goal_cells_of}
use Rattle.program_builder.proofs.StartPivots.{AreReady}
use Rattle.program_builder.specs.declared.pivots.StartPivot.{StartPivot}
use Rattle.program_builder.proofs.CommonParts.{IsParts, parts_more, parts_plus, parts_neg, parts_finer, zero_parts, one_parts, own_parts, over_parts}
use Rattle.program_builder.proofs.LineCells.{row_each, cells_at, each_cell, line_width}
use Rattle.program_builder.proofs.LoadedTables.{goal_cells_each, line-loaded, height-loaded, goal-loaded, shaped-loaded}
use Rattle.program_builder.proofs.RowKinds.{some_green}
use Rattle.program_builder.proofs.UnitFits.{Sizes, AtEach, HasParts, IsTouched, IsEither, AreFit, units_ready}
use Rattle.link_theory.specs.declared.ends.LinkEnd.{LinkEnd}
use Rattle.link_theory.specs.declared.ends.LinkEnd.TheVariants.{Here, Next}
use Rattle.link_theory.specs.LinkColumns.{link_width, half_place}
use Rattle.link_theory.specs.LinkRows.{signal_at, link_line, link_below_form, link_above_form, link_goal}
use Rattle.link_theory.specs.LinkNames.{LinkName, OfLines, NearRow, FarRow, LinkRatioRow, HasLinkRow, link_row}
use Rattle.link_space.specs.LinkWeights.{link_name_at}
use Rattle.multi_band.specs.LinkTables.{names_of_links, link_table, link_loaded}
use Rattle.multi_band.specs.LinkOpening.{half_pivot, half_pivots, link_pivots}
use Rattle.multi_band.specs.laws.LinkTables.{links_there, links_are_table, link_row_width}
use Rattle.multi_band.specs.laws.FarRows.{half_low, half_high, far_each, far_line}
use Rattle.multi_band.specs.laws.LinkPivots.{goal_each}
use Rattle.multi_band.specs.laws.LinkOpenings.{link_units}

-- what is true of the pivot of each half
at_halves : (a : Street) (P : StartPivot → Type 0) → ((d : Dir) (i : ℕ) → HasLink a i → P (half_pivot a d i)) → (i k : ℕ) → 1 ≤ i → i + k ≤ count a → AtEach P (half_pivots a i k)
at_halves a P f i zero l m = tt
at_halves a P f i (suc k) l m = let h : HasLink a i = (l, omega arith) in (f Outbound i h, (f Inbound i h, at_halves a P f (i + 1) k (omega arith) (omega arith)))

count_halves : (a : Street) (i k : ℕ) → length (half_pivots a i k) ≡ k + k
count_halves a i zero = refl
count_halves a i (suc k) = ap (λ n. suc (suc n)) (count_halves a (i + 1) k) ∙ omega arith

module _ (a : Street) (v : IsValid a) where
  -- ---- sizes
  abbrev pub parts : ℕ
  parts = a.head.parts

  -- the parts and the ratio's denominator together
  abbrev pub common : ℕ
  common = parts * a.head.ratio.den

  pub some_common : 1 ≤ common
  some_common = let p = v.least_parts in let q = a.head.ratio.positive in let h = mul-le 1 1 parts a.head.ratio.den (omega arith) (omega arith) in omega (arith, h)

  pub few_common : common ≤ 3600 * 1000
  few_common = mul-le parts a.head.ratio.den 3600 1000 v.most_parts v.ratio.den

  some_product : 0 < common * parts
  some_product = let p = v.least_parts in let h = mul-le 1 1 common parts some_common (omega arith) in omega (arith, h)

  few_product : common * parts ≤ 121824000000000
  few_product = let h = mul-le common parts (3600 * 1000) 3600 few_common v.most_parts in omega (arith, h)

  few_numbers : 720000000 * parts + 46 * (720000000 * parts) ≤ 121824000000000
  few_numbers = let p = v.most_parts in omega arith

  abbrev sizes : Sizes
  sizes = record {
    d = common;
    n = 720000000;
    e = parts;
    m = parts;
    steps = 46;
    most = 121824000000000;
    pivot_most = 3600;
    some_d = some_product;
    some_e = let p = v.least_parts in omega arith;
    dens = few_product;
    nums = few_numbers;
    pivot_dens = v.most_parts;
    pivot_nums = v.most_parts;
    pivot_fits = omega arith;
    fits = omega arith;
    product_fits = omega arith;
    difference_fits = omega arith;
  }

  -- ---- numbers
  abbrev IsCell : ℚ → Type 0
  IsCell x = IsParts common 360000000 x

  from_parts : (x : ℚ) → IsParts parts parts x → IsCell x
  from_parts x p = let l = few_common in parts_more common common 360000000 x (omega arith) (parts_finer parts a.head.ratio.den parts x p)

  pub cell_zero : IsCell (number 0)
  cell_zero = zero_parts common 360000000

  cell_one : IsCell (number 1)
  cell_one = from_parts (number 1) (one_parts parts)

  cell_minus : IsCell minus_one
  cell_minus = subst IsCell (sym (whole-neg_ℤ (pos 1))) (parts_neg common 360000000 (number 1) cell_one)

  pub green_own : (d : Dir) (i : ℕ) → HasSignal a i → IsParts parts parts (green_part a d i)
  green_own d i h =
      let p = v.least_parts in
      rw (green_part_is a d i (some_green a v d i h)) (parts_more parts (parts - red_parts a d i) parts _ (omega arith) (over_parts (parts - red_parts a d i) parts (omega arith)))

  cell_green : (d : Dir) (i : ℕ) → HasSignal a i → IsCell (green_part a d i)
  cell_green d i h = from_parts (green_part a d i) (green_own d i h)

  cell_ratio : IsCell a.head.ratio
  cell_ratio =
      let k = a.head.ratio in
      let l = mul-le (unsigned_abs k.num) parts 100000 3600 v.ratio.num v.most_parts in
      subst (λ c. IsParts c 360000000 k) (mul_comm k.den parts) (parts_more (k.den * parts) (unsigned_abs k.num * parts) 360000000 k (omega (arith, l))
      (parts_finer k.den parts (unsigned_abs k.num) k (own_parts k)))

  abbrev IsGoalCell : ℚ → Type 0
  IsGoalCell x = IsParts common 720000000 x

  twice_cell : (x y : ℚ) → x +ℚ x ≡ y → IsCell x → IsGoalCell y
  twice_cell x y e p = subst (IsParts common 720000000) e (parts_plus common 360000000 360000000 x x p p)

  goal_cells : (k : ℕ) → IsGoalCell (get_or (goal_cells_of (link_goal a)) k (number 0))
  goal_cells k =
      let z = zero_parts common 720000000 in
      goal_cells_each IsGoalCell (parts_neg common 720000000) z (link_goal a) k
      (goal_each IsGoalCell a z (twice_cell (number 1) (number 2) (ring (lit (pos 1) ⊕ lit (pos 1)) (lit (pos 2)) [] refl) cell_one)
      (twice_cell a.head.ratio (number 2 *ℚ a.head.ratio) (ring (at 0 ⊕ at 0) (lit (pos 2) ⊗ at 0) (a.head.ratio ∷ []) refl) cell_ratio))

  -- ---- rows
  some_halves : (P : StartPivot → Type 0) → ((d : Dir) (i : ℕ) → HasLink a i → P (half_pivot a d i)) → AtEach P (link_pivots a)
  some_halves P f = let n = v.few in at_halves a P f 1 (count a - 1) (omega arith) (omega arith)

  touched : (c : List ℚ) → HasParts common 720000000 c → IsTouched sizes 0 (link_pivots a) c
  touched c p = record {
    cells = λ j. parts_more (common * parts) (720000000 * parts) _ _ (omega arith) (parts_finer common parts 720000000 _ (p j));
    columns = some_halves _ (λ d i h. p (half_place (count a) d i));
  }

  row_touched : (cs : List Cell) (b : ℚ) → ((j : ℕ) → IsCell (get_or (cells_of (placed_row (link_width (count a)) cs b)) j (number 0)))
      → IsEither sizes 0 (link_pivots a) (cells_of (placed_row (link_width (count a)) cs b))
  row_touched cs b p = inr (touched _ (λ j. parts_more common 360000000 720000000 _ (omega arith) (p j)))

  end_cells_are : (c d : ℕ) (x y b : ℚ) → IsCell x → IsCell y → IsCell b → IsEither sizes 0 (link_pivots a) (cells_of (placed_row (link_width (count a)) ((c, x) ∷ (d, y) ∷ []) b))
  end_cells_are c d x y b p q r =
      row_touched ((c, x) ∷ (d, y) ∷ []) b (λ j. each_cell IsCell (placed_row (link_width (count a)) ((c, x) ∷ (d, y) ∷ []) b) j cell_zero
      (row_each IsCell (link_width (count a)) ((c, x) ∷ (d, y) ∷ []) b j cell_zero (p, (q, tt))) r)

  end_there : (e : LinkEnd) (i : ℕ) → HasLink a i → HasSignal a (signal_at e i)
  end_there Here i h = let l = h.0 in let m = h.1 in (omega arith, omega arith)
  end_there Next i h = let m = h.1 in (omega arith, omega arith)

  module _ (box : Area) where
    -- a row of the lines is 0 at each half
    lines_clear : (n : LinkName) (k : ℕ) → 5 * count a < k → k < link_width (count a) → get_or (cells_of (link_row a box n)) k (number 0) ≡ get_or (link_row a box n).coefs k (number 0)
    lines_clear n k l m = let w = link_row_width a box n v.few in cells_at (link_row a box n) k (omega arith)

    either_row : (n : LinkName) → HasLinkRow a n → IsNarrow (cells_of (link_row a box n)) → IsEither sizes 0 (link_pivots a) (cells_of (link_row a box n))
    either_row (OfLines n) h u = inl (record {
      zeros = some_halves _ (λ d i g.
          let k = half_place (count a) d i in
          let w = line_width a (form_of a box n) in
          let l = half_low a d i g in
          lines_clear (OfLines n) k l (half_high a d i g) ∙ get_or-append_right (line a (form_of a box n)).coefs _ (width (count a)) k (number 0) w (omega arith) ∙ get-zeros _ (k - width (count a)));
      narrow = u;
    })
    either_row (NearRow d e i) h u = end_cells_are _ _ minus_one (number 1) (number 0) cell_minus cell_one cell_zero
    either_row (FarRow d e i) h u = end_cells_are _ _ (number 1) (number 1) (green_part a d (signal_at e i)) cell_one cell_one (cell_green d (signal_at e i) (end_there e i h))
    either_row (LinkRatioRow i) h u = pick (is_lt (cmp_ℚ a.head.ratio (number 1)))
      where
        pick : (b : Bool) → IsEither sizes 0 (link_pivots a) (cells_of (link_line a (if b then link_below_form a i else link_above_form a i)))
        pick true = end_cells_are _ _ a.head.ratio minus_one (number 0) cell_ratio cell_minus cell_zero
        pick false = end_cells_are _ _ (neg_ℚ a.head.ratio) (number 1) (number 0) (parts_neg common 360000000 a.head.ratio cell_ratio) cell_one cell_zero

    link_fit : AreNarrow (link_loaded a box).rows → AreFit sizes 0 (link_loaded a box) (link_pivots a)
    link_fit u = record {
      own = some_halves _ (λ d i h j.
          subst (λ (c : List ℚ). IsParts parts parts (get_or c j (number 0))) (sym (far_line a box d i h))
          (far_each a d i h (IsParts parts parts) (zero_parts parts parts) (one_parts parts) (green_own d i (h.0, let l = h.1 in omega arith)) j));
      rows = λ i l.
          let h = subst (λ n. i < n) (height-loaded (link_table a) box) l in
          let e = line-loaded (link_table a) box i h in
          subst (IsEither sizes 0 (link_pivots a)) (sym e) (either_row (link_name_at (name_in (names_of_links a) i)) (links_there a i h) (subst IsNarrow e (u.narrow i)));
      goal = subst (IsEither sizes 0 (link_pivots a)) (sym (goal-loaded (link_table a) box)) (inr (touched (goal_cells_of (link_goal a)) goal_cells));
    }

    -- so they can be made
    pub links_ready : AreNarrow (link_loaded a box).rows → AreReady (link_pivots a) (link_loaded a box)
    links_ready u =
        let n = v.many in
        let e = count_halves a 1 (count a - 1) in
        units_ready sizes 0 (link_loaded a box) (link_pivots a) (shaped-loaded (link_table a) box (links_are_table a v.few)) (link_units a box v) (link_fit u) (omega arith)
