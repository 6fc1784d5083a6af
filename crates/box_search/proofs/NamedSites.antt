-- What a site names is there: the row, the column and the link are ones of the program's.
use Rattle.std.proofs.Common.{arith, ◌≡◌, ℕ, suc, ◌+◌, ◌-◌, ◌<◌, ◌≤◌, Bool, true, false, not, Option, None, Some, option_map, unwrap_or, List, [], ◌∷◌, length, refl, sym, ◌∙◌, ap, subst}
use Rattle.std.proofs.lemmas.List.{length-replicate}
use Rattle.std.specs.Ordering.{is_lt}
use Rattle.rational_theory.specs.Rational.{ℚ}
use Rattle.rational_theory.specs.Compare.{cmp_ℚ}
use Rattle.rational_theory.specs.Rows.{add, scale}
use Rattle.narrow_fraction.specs.Attempt.{refusal_if, earlier, first_below}
use Rattle.narrow_fraction.specs.Past128.{past_wide}
use Rattle.narrow_fraction.specs.declared.wide.Op.TheVariants.{Mul}
use Rattle.narrow_fraction.specs.declared.wide.Wide.{Wide}
use Rattle.progression.specs.Street.{Street, count}
use Rattle.progression.specs.Speeds.{number}
use Rattle.progression.specs.TimingRecord.{TimingRecord}
use Rattle.progression.specs.Columns.{Column, BandOf, Frequency, WaitOf, RunOf, ShiftOf}
use Rattle.progression.specs.declared.parts.Dir.{Dir}
use Rattle.progression.specs.declared.parts.Dir.TheVariants.{Outbound, Inbound}
use Rattle.artery_model.specs.Valid.{IsValid}
use Rattle.linear_theory.specs.Places.{place, width}
use Rattle.linear_theory.proofs.Places.{IsColumn}
use Rattle.linear_theory.proofs.Points.{place_below}
use Rattle.linear_theory.specs.Boxes.{Area}
use Rattle.named_row.specs.Sheets.{Sheet, blank, with_times}
use Rattle.named_row.specs.Refusals as sums
use Rattle.named_row.specs.Refusals.{at, place_refusal, cell_refusal}
use Rattle.named_row.specs.declared.names.RowId.{RowId}
use Rattle.named_row.specs.declared.names.Place.{Place}
use Rattle.named_row.specs.declared.names.Place.TheVariants.{Cell, Bound}
use Rattle.named_row.specs.declared.wide_at.WideAt.{WideAt}
use Rattle.named_row.specs.declared.leaves.Weight.{Weight}
use Rattle.loop_rows.specs.Totals.{block_wide}
use Rattle.loop_rows.specs.Weights.{Source, wide_fault, first_fault_with, fault_of, fault_with, with_weight}
use Rattle.loop_rows.specs.declared.fault.SumFault.{SumFault}
use Rattle.loop_rows.specs.declared.fault.SumFault.TheVariants as fault
use Rattle.recovery_theory.specs.Placing.{timing_of}
use Rattle.dual_simplex.specs.declared.outcome.Step.{Step}
use Rattle.dual_simplex.specs.declared.outcome.Step.TheVariants as steps
use Rattle.offset_recovery.specs.declared.outcome.WideTiming.TheVariants as wide
use Rattle.offset_recovery.specs.declared.outcome.WideTiming.{WideTiming}
use Rattle.offset_recovery.specs.Outcomes.{Outcome, Refused, Splits, Gives, with_timing}
use Rattle.offset_recovery.specs.Tests.{product_test, unit_test, number_test, column_test, link_test, signal_test}
use Rattle.offset_recovery.specs.Recovered.{recovered_by, link_tests, signal_tests, box_tests, unit_tests, run_tests, line_tests, column_tests, red_tests, placed_tests}
use Rattle.fraction_tableau.specs.declared.wide_cell.WideCell.{WideCell}
use Rattle.box_search.specs.declared.site.SitePart.{SitePart}
use Rattle.box_search.specs.declared.site.SitePart.TheVariants as part
use Rattle.box_search.specs.Program.{Program}
use Rattle.branch_and_bound.specs.Lines.{BoxLine}
use Rattle.box_search.specs.VertexOutcomes.{outcome_of}
use Rattle.box_search.specs.Ends.{end_leaf, end_point}
use Rattle.box_search.specs.Sites.{step_at, sum_refusal, vertex_refusal, leaf_refusal, refusal_by, refusal_at}
use Rattle.box_search.specs.SiteNames.{IsPlaceIn, IsTimingPartIn, IsPartIn}
use Rattle.box_search.proofs.EachRefusal.{Each, each_some, each_none, each_earlier, each_first, each_map, each_if}
use Rattle.box_search.proofs.NamedCells.{IsNamedStep, step_named}

-- ---- the vertex, of so many columns
abbrev pub IsNamedOutcome : {T : Type 0} → Street → ℕ → Outcome T → Type 0
IsNamedOutcome a columns (Refused w) = IsTimingPartIn a columns w
IsNamedOutcome a columns (Splits p) = Unit {0}
IsNamedOutcome a columns (Gives t) = Unit {0}

module _ (a : Street) (v : IsValid a) (columns : ℕ) (enough : width (count a) ≤ columns) (box : Area) (x : List ℚ) where
  abbrev IsThere : WideTiming → Type 0
  IsThere = IsTimingPartIn a columns

  column : (c : Column) → IsColumn (count a) c → place (count a) c < columns
  column c h = let l = place_below (count a) c (let n = v.few in omega arith) h in omega arith

  product_named : (j : ℕ) → j < columns → Each IsThere (product_test a x j)
  product_named j l = each_map IsThere (λ w. wide.Product j w) _ (λ w q. l)

  column_named : (c : Column) → IsColumn (count a) c → Each IsThere (column_test a x c)
  column_named c h = each_if IsThere _ _ (column c h)

  links_named : Each (IsNamedOutcome a columns) (link_tests a x)
  links_named = each_first (IsNamedOutcome a columns) (λ j. link_test a x (j + 1)) (count a - 1) (λ k l.
      each_earlier (IsNamedOutcome a columns) (option_map (λ w. Refused (wide.Sum (k + 1) w)) (block_wide a x (k + 1))) _
      (each_map (IsNamedOutcome a columns) (λ w. Refused (wide.Sum (k + 1) w)) (block_wide a x (k + 1)) (λ w q. (omega arith, omega arith)))
      (each_if (IsNamedOutcome a columns) _ _ tt))

  signals_named : Each (IsNamedOutcome a columns) (signal_tests a box x)
  signals_named = each_first (IsNamedOutcome a columns) (λ j. signal_test a box x (j + 1)) (count a) (λ k l.
      each_earlier (IsNamedOutcome a columns) (option_map Refused (product_test a x (place (count a) (ShiftOf (k + 1))))) _
      (each_map (IsNamedOutcome a columns) Refused (product_test a x (place (count a) (ShiftOf (k + 1)))) (product_named _ (column (ShiftOf (k + 1)) (omega arith, omega arith))))
      (each_if (IsNamedOutcome a columns) _ _ tt))

  pub units_named : length x ≡ columns → Each IsThere (unit_tests a x)
  units_named e =
      each_earlier IsThere (first_below (product_test a x) (length x)) _
      (each_first IsThere (product_test a x) (length x) (λ k l. product_named k (subst (λ n. k < n) e l)))
      (each_first IsThere (unit_test a x) (length x) (λ k l. each_if IsThere _ _ tt))

  runs_named : (d : Dir) → Each IsThere (run_tests a x d)
  runs_named d = each_first IsThere (λ j. column_test a x (RunOf d (j + 1))) (count a - 1) (λ k l. column_named (RunOf d (k + 1)) (omega arith, omega arith))

  pub lines_named : Each IsThere (line_tests a x)
  lines_named =
      each_earlier IsThere (column_test a x Frequency) _ (column_named Frequency tt)
      (each_earlier IsThere (run_tests a x Outbound) _ (runs_named Outbound) (runs_named Inbound))

  pub columns_named : Each IsThere (column_tests a x)
  columns_named =
      each_earlier IsThere (column_test a x (BandOf Outbound)) _ (column_named (BandOf Outbound) tt)
      (each_earlier IsThere (column_test a x (BandOf Inbound)) _ (column_named (BandOf Inbound) tt) lines_named)

  wait_named : (d : Dir) (i ticks : ℕ) → 1 ≤ i → i ≤ count a → Each IsThere (number_test (place (count a) (WaitOf d i)) ticks)
  wait_named d i ticks h l = each_if IsThere _ _ (column (WaitOf d i) (h, l))

  reds_named : Each IsThere (red_tests a x)
  reds_named = each_first IsThere _ (count a - 1) (λ k l. wait_named Outbound (k + 2) _ (omega arith) (omega arith))

  pub placed_named : Each IsThere (placed_tests a x)
  placed_named =
      let n = v.few in
      each_earlier IsThere _ _ (wait_named Outbound 1 _ (omega arith) (omega arith))
      (each_earlier IsThere (red_tests a x) _ reds_named (wait_named Inbound (count a) _ (omega arith) (omega arith)))

  box_named : Each (IsNamedOutcome a columns) (box_tests a box x)
  box_named = each_earlier (IsNamedOutcome a columns) (link_tests a x) (signal_tests a box x) links_named signals_named

  -- by the tests of its numbers
  pub outcome_by_named : (numbers : Option WideTiming) → Each IsThere numbers → (o : Outcome TimingRecord) → recovered_by a box x numbers ≡ o → IsNamedOutcome a columns o
  outcome_by_named numbers named o e = pick (earlier (box_tests a box x) (option_map Refused numbers)) e
      (each_earlier (IsNamedOutcome a columns) (box_tests a box x) _ box_named (each_map (IsNamedOutcome a columns) Refused numbers named))
    where
      pick : (p : Option (Outcome TimingRecord)) → unwrap_or p (Gives (timing_of a x)) ≡ o → Each (IsNamedOutcome a columns) p → IsNamedOutcome a columns o
      pick None q h = subst (IsNamedOutcome a columns) q tt
      pick (Some r) q h = subst (IsNamedOutcome a columns) q (h r refl)

-- a timing made of the one that is given doesn't matter
pub made_named : {S T : Type 0} (a : Street) (columns : ℕ) (f : S → T) (o : Outcome S) → IsNamedOutcome a columns o → IsNamedOutcome a columns (with_timing f o)
made_named a columns f (Refused w) h = h
made_named a columns f (Splits p) h = tt
made_named a columns f (Gives t) h = tt

-- ---- the sum of a leaf, over any rows
add_length : (xs ys : List ℚ) → length ys ≡ length xs → length (add xs ys) ≡ length xs
add_length [] [] e = refl
add_length [] (y ∷ ys) e = absurd (omega arith)
add_length (x ∷ xs) [] e = refl
add_length (x ∷ xs) (y ∷ ys) e = ap suc (add_length xs ys (omega arith))

scale_length : (k : ℚ) (xs : List ℚ) → length (scale k xs) ≡ length xs
scale_length k [] = refl
scale_length k (x ∷ xs) = ap suc (scale_length k xs)

-- a refused operation of the sum is in a row that is there
abbrev pub IsNamedFault : (RowId → Type 0) → ℕ → SumFault → Type 0
IsNamedFault Has columns (fault.NoSuchRow row) = Unit {0}
IsNamedFault Has columns (fault.Negative row) = Unit {0}
IsNamedFault Has columns (fault.Wide row w) = Has row × IsPlaceIn columns w.place
IsNamedFault Has columns fault.Memory = Unit {0}

module _ (rows : Source) (Has : RowId → Type 0) (there : (row : RowId) → rows.has row ≡ true → Has row) (widths : (row : RowId) → length (rows.row row).coefs ≡ rows.width) where
  after_length : (sum : Sheet) (w : Weight) → length sum.coefs ≡ rows.width → length (with_weight rows sum w).coefs ≡ rows.width
  unfolding with_weight with_times
  after_length sum w e = add_length sum.coefs (scale w.by (rows.row w.row).coefs) (scale_length w.by (rows.row w.row).coefs ∙ widths w.row ∙ sym e) ∙ e

  abbrev IsPlaced : WideAt → Type 0
  IsPlaced w = IsPlaceIn rows.width w.place

  at_placed : (p : Place) → IsPlaceIn rows.width p → (o : Option Wide) → Each IsPlaced (at p o)
  at_placed p h None = each_none IsPlaced
  at_placed p h (Some w) = each_some IsPlaced (record { place = p; wide = w }) h

  place_placed : (p : Place) (k y z : ℚ) → IsPlaceIn rows.width p → Each IsPlaced (place_refusal p k y z)
  unfolding place_refusal
  place_placed p k y z h = each_earlier IsPlaced (at p (past_wide Mul k z)) _ (at_placed p h _) (at_placed p h _)

  sum_placed : (k : ℚ) (s r : Sheet) → length r.coefs ≡ rows.width → Each IsPlaced (sums.sum_refusal k s r)
  unfolding sums.sum_refusal
  sum_placed k s r e =
      each_earlier IsPlaced (first_below (cell_refusal k r.coefs s.coefs) (length r.coefs)) _
      (each_first IsPlaced (cell_refusal k r.coefs s.coefs) (length r.coefs) (λ j l. place_placed (Cell j) k _ _ (subst (λ n. j < n) e l)))
      (place_placed Bound k r.bound s.bound tt)

  abbrev IsFaultThere : SumFault → Type 0
  IsFaultThere = IsNamedFault Has rows.width

  wide_named : (row : RowId) → Has row → (o : Option WideAt) → Each IsPlaced o → Each IsFaultThere (wide_fault row o)
  wide_named row h None k = each_none IsFaultThere
  wide_named row h (Some w) k = each_some IsFaultThere (fault.Wide row w) (h, k w refl)

  weight_named : (sum : Sheet) (w : Weight) → length sum.coefs ≡ rows.width → Each IsFaultThere (fault_with rows sum w)
  unfolding fault_with
  weight_named sum w e = pick (rows.has w.row) refl
    where
      pick : (b : Bool) → rows.has w.row ≡ b → Each IsFaultThere (earlier (refusal_if (not b) (fault.NoSuchRow w.row))
          (earlier (refusal_if (is_lt (cmp_ℚ w.by (number 0))) (fault.Negative w.row)) (wide_fault w.row (sums.sum_refusal w.by (rows.row w.row) sum))))
      pick true h =
          each_earlier IsFaultThere (refusal_if (is_lt (cmp_ℚ w.by (number 0))) (fault.Negative w.row)) _ (each_if IsFaultThere _ _ tt)
          (wide_named w.row (there w.row h) _ (sum_placed w.by (rows.row w.row) sum e))
      pick false h = each_some IsFaultThere (fault.NoSuchRow w.row) tt

  weights_named : (sum : Sheet) (ws : List Weight) → length sum.coefs ≡ rows.width → Each IsFaultThere (first_fault_with rows sum ws)
  weights_named sum [] e = each_none IsFaultThere
  weights_named sum (w ∷ ws) e = each_earlier IsFaultThere (fault_with rows sum w) _ (weight_named sum w e) (weights_named (with_weight rows sum w) ws (after_length sum w e))

  pub fault_named : (ws : List Weight) → Each IsFaultThere (fault_of rows ws)
  unfolding fault_of blank
  fault_named ws = weights_named (blank rows.width) ws (length-replicate rows.width _)

-- ---- a part of a site
module _ (a : Street) (rows columns : ℕ) (Has : RowId → Type 0) where
  abbrev IsPart : SitePart → Type 0
  IsPart = IsPartIn a rows columns Has

  -- as programs name one
  sum_named : {T : Type 0} (p : Program T SitePart) → ((row : RowId) (at : WideAt) → p.sum_part row at ≡ part.LeafSum row at) → (o : Option SumFault)
      → Each (IsNamedFault Has columns) o → Each IsPart (sum_refusal p o)
  sum_named p named None h = each_none IsPart
  sum_named p named (Some (fault.Wide row w)) h = each_some IsPart (p.sum_part row w) (subst IsPart (sym (named row w)) (h (fault.Wide row w) refl))
  sum_named p named (Some (fault.NoSuchRow row)) h = each_none IsPart
  sum_named p named (Some (fault.Negative row)) h = each_none IsPart
  sum_named p named (Some fault.Memory) h = each_none IsPart

  pub vertex_named : {T : Type 0} (o : Outcome T) → IsNamedOutcome a columns o → Each IsPart (vertex_refusal (outcome_of o))
  vertex_named (Refused w) h = each_some IsPart (part.Timing w) h
  vertex_named (Splits p) h = each_none IsPart
  vertex_named (Gives t) h = each_none IsPart

-- the refused operation of a run of a program, where those of a leaf's sum and of a vertex are named so
pub refusal_named : {T : Type 0} (a : Street) (Has : RowId → Type 0) (p : Program T SitePart) (line : BoxLine) → p.IsSound
    → ((w : WideCell) → p.ratio_part w ≡ part.Ratio w) → ((w : WideCell) → p.pivot_part w ≡ part.Cell w) → ((row : RowId) (at : WideAt) → p.sum_part row at ≡ part.LeafSum row at)
    → Each (IsNamedFault Has p.columns) (p.leaf_fault line.area (end_leaf p line)) → Each (IsPartIn a (length p.names) p.columns Has) (vertex_refusal (p.outcome line.area (end_point p line)))
    → (k : ℕ) → Each (IsPartIn a (length p.names) p.columns Has) (refusal_at p line k)
unfolding refusal_at
refusal_named a Has p line v ratios cells sums faults vertex k = pick (step_at p line k) (step_named p line v k)
  where
    leaf : Each (IsPartIn a (length p.names) p.columns Has) (leaf_refusal p line)
    leaf = sum_named a (length p.names) p.columns Has p sums (p.leaf_fault line.area (end_leaf p line)) faults

    pick : (s : Step) → IsNamedStep (length p.names) p.columns s → Each (IsPartIn a (length p.names) p.columns Has) (refusal_by p line s)
    pick steps.Optimal h = each_earlier (IsPartIn a (length p.names) p.columns Has) (leaf_refusal p line) _ leaf vertex
    pick (steps.Infeasible r) h = leaf
    pick (steps.Pivoted r j) h = each_none (IsPartIn a (length p.names) p.columns Has)
    pick (steps.Wide true w) h = each_some (IsPartIn a (length p.names) p.columns Has) (p.ratio_part w) (subst (IsPartIn a (length p.names) p.columns Has) (sym (ratios w)) h)
    pick (steps.Wide false w) h = each_some (IsPartIn a (length p.names) p.columns Has) (p.pivot_part w) (subst (IsPartIn a (length p.names) p.columns Has) (sym (cells w)) h)
