-- The columns of the artery's two bands: every row of links is 0 there, so no pivot takes them, and they are 0 at every vertex.
use Rattle.std.proofs.Common.{◌≡◌, ℕ, Option, None, Some, List, [], ◌∷◌, get_or, ◌<◌, ◌≤◌, ◌∙◌, ap, subst, arith}
use Rattle.std.proofs.lemmas.List.{get_or_append_left}
use Rattle.rational_theory.specs.Rational.{ℚ}
use Rattle.rational_theory.specs.Compare.{cmp_ℚ}
use Rattle.std.specs.Ordering.{is_lt}
use Rattle.std.specs.Prelude.{if◌then◌else◌, Bool, true, false}
use Rattle.progression.specs.Street.{Street, count}
use Rattle.progression.specs.Speeds.{number, change}
use Rattle.progression.specs.Columns.{WaitOf}
use Rattle.progression.specs.declared.parts.Pair.{Pair}
use Rattle.progression.specs.declared.parts.Dir.{Dir}
use Rattle.progression.specs.declared.parts.Dir.TheVariants.{Outbound, Inbound}
use Rattle.artery_model.specs.Valid.{IsValid}
use Rattle.linear_theory.specs.Boxes.{Area}
use Rattle.linear_theory.specs.Places.{place}
use Rattle.linear_theory.specs.Rows.{Entry, Form, line, rise_form, drop_form}
use Rattle.linear_theory.specs.Names.{Name, WaitRow, FastRow, SlowRow, RiseRow, DropRow, CycleLowRow, CycleHighRow, RatioRow, LoopLowRow, LoopHighRow, TurnLowRow, TurnHighRow, LeastRow, EqualLowRow, EqualHighRow, NoRow, form_of, limits_form}
use Rattle.simplex_theory.specs.Tableau as tableau
use Rattle.simplex_theory.specs.Tableau.{cell}
use Rattle.simplex_theory.specs.RowLists.{vertex_point}
use Rattle.simplex_theory.specs.StepCounts.{after}
use Rattle.simplex_theory.specs.DualSteps.{IsDual}
use Rattle.simplex_theory.proofs.IdleColumns.{IsIdle, idle_after, idle_point}
use Rattle.fraction_tableau.specs.NamedTableaus.{name_in}
use Rattle.program_builder.proofs.LineCells.{AllEntries, line_other, line_width, row_other, cells_at}
use Rattle.program_builder.proofs.LoadedTables.{line-loaded, height-loaded, width-loaded, standing-loaded}
use Rattle.program_builder.proofs.RowKinds.{HasNoBand}
use Rattle.program_builder.proofs.StartPivots.{idle_pivots}
use Rattle.link_theory.specs.declared.ends.LinkEnd.{LinkEnd}
use Rattle.link_theory.specs.declared.ends.LinkEnd.TheVariants.{Here, Next}
use Rattle.link_theory.specs.LinkColumns.{link_width, half_place}
use Rattle.link_theory.specs.LinkRows.{signal_at, link_line, near_form, far_form, link_below_form, link_above_form}
use Rattle.link_theory.specs.LinkNames.{LinkName, NamesNoBand, OfLines, NearRow, FarRow, LinkRatioRow, HasLinkRow, link_row}
use Rattle.link_space.specs.LinkWeights.{link_name_at}
use Rattle.multi_band.specs.LinkTables.{names_of_links, link_table, link_row_for, link_loaded}
use Rattle.multi_band.specs.LinkOpening.{link_pivots, link_opening}
use Rattle.multi_band.specs.laws.LinkTables.{links_there, link_row_width}
use Rattle.multi_band.specs.laws.LinkOpenings.{link_places}

-- ---- rows of the lines
no_band_limits : (n : ℕ) (f : Pair → Form) (o : Option Pair) → ((c : Pair) → HasNoBand n (f c)) → HasNoBand n (limits_form f o)
no_band_limits n f None h = tt
no_band_limits n f (Some c) h = h c

module _ (a : Street) (box : Area) (few : 2 ≤ count a) where
  no_band_rise : (d : Dir) (i : ℕ) (c : Pair) → HasNoBand (count a) (rise_form a d i c)
  no_band_rise Outbound i c = (omega arith, (omega arith, (omega arith, tt)))
  no_band_rise Inbound i c = (omega arith, (omega arith, (omega arith, tt)))

  no_band_drop : (d : Dir) (i : ℕ) (c : Pair) → HasNoBand (count a) (drop_form a d i c)
  no_band_drop Outbound i c = (omega arith, (omega arith, (omega arith, tt)))
  no_band_drop Inbound i c = (omega arith, (omega arith, (omega arith, tt)))

  lines_no_band : (n : Name) → NamesNoBand n → HasNoBand (count a) (form_of a box n)
  lines_no_band (WaitRow d i) h = absurd h
  lines_no_band (FastRow Outbound i) h = (omega arith, (omega arith, tt))
  lines_no_band (FastRow Inbound i) h = (omega arith, (omega arith, tt))
  lines_no_band (SlowRow Outbound i) h = (omega arith, (omega arith, tt))
  lines_no_band (SlowRow Inbound i) h = (omega arith, (omega arith, tt))
  lines_no_band (RiseRow d i) h = no_band_limits (count a) (rise_form a d i) (change a d i) (no_band_rise d i)
  lines_no_band (DropRow d i) h = no_band_limits (count a) (drop_form a d i) (change a d i) (no_band_drop d i)
  lines_no_band (CycleLowRow i) h = (omega arith, tt)
  lines_no_band (CycleHighRow i) h = (omega arith, tt)
  lines_no_band (RatioRow i) h = absurd h
  lines_no_band (LoopLowRow i) h = (omega arith, (omega arith, (omega arith, (omega arith, (omega arith, (omega arith, (omega arith, (omega arith, tt))))))))
  lines_no_band (LoopHighRow i) h = (omega arith, (omega arith, (omega arith, (omega arith, (omega arith, (omega arith, (omega arith, (omega arith, tt))))))))
  lines_no_band (TurnLowRow i) h = (omega arith, tt)
  lines_no_band (TurnHighRow i) h = (omega arith, tt)
  lines_no_band (LeastRow d i) h = absurd h
  lines_no_band (EqualLowRow i) h = absurd h
  lines_no_band (EqualHighRow i) h = absurd h
  lines_no_band NoRow h = absurd h

  skipped : (k : ℕ) → k < 2 → (es : List Entry) → AllEntries (λ e. 2 ≤ place (count a) e.0) es → AllEntries (λ e. k ≡ place (count a) e.0 → ⊥) es
  skipped k l [] p = tt
  skipped k l (e ∷ es) p = ((λ q. let m = p.0 in absurd (omega arith)), skipped k l es p.1)

  -- ---- rows of links
  wait_past : (d : Dir) (e : LinkEnd) (i : ℕ) → 1 ≤ i → 2 ≤ place (count a) (WaitOf d (signal_at e i))
  wait_past Outbound Here i l = omega arith
  wait_past Outbound Next i l = omega arith
  wait_past Inbound Here i l = omega arith
  wait_past Inbound Next i l = omega arith

  half_past : (d : Dir) (i : ℕ) → 2 ≤ half_place (count a) d i
  half_past Outbound i = omega arith
  half_past Inbound i = omega arith

  -- each is 0 in the first two columns
  row_idle : (k : ℕ) → k < 2 → (n : LinkName) → HasLinkRow a n → get_or (link_row a box n).coefs k (number 0) ≡ number 0
  row_idle k l (OfLines n) h =
      let w = line_width a (form_of a box n) in
      get_or_append_left (line a (form_of a box n)).coefs _ (number 0) k (omega arith) ∙ line_other a (form_of a box n) k (skipped k l (form_of a box n).entries (lines_no_band n h.0))
  row_idle k l (NearRow d e i) h =
      let p = wait_past d e i h.0 in let q = half_past d i in let f = near_form a d e i in
      row_other (link_width (count a)) f.cells f.bound k ((λ z. absurd (omega arith)), ((λ z. absurd (omega arith)), tt))
  row_idle k l (FarRow d e i) h =
      let p = wait_past d e i h.0 in let q = half_past d i in let f = far_form a d e i in
      row_other (link_width (count a)) f.cells f.bound k ((λ z. absurd (omega arith)), ((λ z. absurd (omega arith)), tt))
  row_idle k l (LinkRatioRow i) h = pick (is_lt (cmp_ℚ a.head.ratio (number 1)))
    where
      pick : (b : Bool) → get_or (link_line a (if b then link_below_form a i else link_above_form a i)).coefs k (number 0) ≡ number 0
      pick true = let f = link_below_form a i in row_other (link_width (count a)) f.cells f.bound k ((λ z. absurd (omega arith)), ((λ z. absurd (omega arith)), tt))
      pick false = let f = link_above_form a i in row_other (link_width (count a)) f.cells f.bound k ((λ z. absurd (omega arith)), ((λ z. absurd (omega arith)), tt))

-- ---- the tableaus of links
module _ (a : Street) (box : Area) (v : IsValid a) (k : ℕ) (l : k < 2) where
  idle_loaded : IsIdle (link_loaded a box) k
  idle_loaded = let n = v.few in record {
    place = k;
    inside = rw (width-loaded (link_table a) box) (omega arith);
    stands = standing-loaded (link_table a) box k (omega arith);
    nothing = λ i m.
        let h = subst (λ n. i < n) (height-loaded (link_table a) box) m in
        let r = name_in (names_of_links a) i in
        let w = link_row_width a box (link_name_at r) v.few in
        ap (λ (c : List ℚ). get_or c k (number 0)) (line-loaded (link_table a) box i h) ∙ cells_at (link_row_for a box r) k (omega arith)
        ∙ row_idle a box v.few k l (link_name_at r) (links_there a i h);
  }

  pub idle_opening : IsIdle (link_opening a box) k
  unfolding link_opening
  idle_opening = idle_pivots (link_pivots a) (link_loaded a box) k (link_places a box v) idle_loaded

  -- so it is after any steps
  pub idle_steps : (steps : ℕ) → IsIdle (after (link_opening a box) steps) k
  idle_steps steps = idle_after (link_opening a box) k steps idle_opening

  -- and 0 at their vertex
  pub bands_are_zero : (steps : ℕ) → IsDual (after (link_opening a box) steps) → k < tableau.width (after (link_opening a box) steps) → get_or (vertex_point (after (link_opening a box) steps)) k (number 0) ≡ number 0
  bands_are_zero steps d m = idle_point (after (link_opening a box) steps) k d m (idle_steps steps)
