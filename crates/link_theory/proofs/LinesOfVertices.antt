-- A vertex of links is one of the same box and of the artery without least bands and equal bands, and its bands are 0: what is known of vertices holds of it.
use Rattle.std.proofs.Common.{◌≡◌, ℕ, ◌+◌, ◌-◌, ◌*◌, inl, inr, List, [], ◌∷◌, get_or, refl, subst, arith, true, false, true≢false, sym}
use Rattle.std.specs.Prelude.{if◌then◌else◌}
use Rattle.std.specs.Ordering.{is_lt}
use Rattle.std.proofs.lemmas.Bool.{cases_lt}
use Rattle.rational_theory.specs.Rational.{ℚ, ◌≤ℚ◌}
use Rattle.rational_theory.specs.Compare.{cmp_ℚ}
use Rattle.rational_theory.proofs.Ring.{at, minus, ◌⊕◌, ◌⊗◌}
use Rattle.rational_theory.proofs.Linear.{linear}
use Rattle.rational_theory.specs.Rows.{IsMet}
use Rattle.progression.specs.Street.{Street, count, HasSignal, HasLink}
use Rattle.progression.specs.Speeds.{number}
use Rattle.progression.specs.Columns.{WaitOf}
use Rattle.progression.specs.declared.parts.Dir.{Dir}
use Rattle.progression.specs.declared.parts.Dir.TheVariants.{Outbound, Inbound}
use Rattle.linear_theory.specs.Places.{value_at}
use Rattle.linear_theory.specs.Blocks.{green_part}
use Rattle.linear_theory.specs.Boxes.{Area}
use Rattle.linear_theory.specs.Rows.{line, wait_form, ratio_form, ratio_below_form, ratio_above_form}
use Rattle.linear_theory.specs.Names.{Name, WaitRow, FastRow, SlowRow, RiseRow, DropRow, CycleLowRow, CycleHighRow, RatioRow, LoopLowRow, LoopHighRow}
use Rattle.linear_theory.specs.Names.{TurnLowRow, TurnHighRow, LeastRow, EqualLowRow, EqualHighRow, NoRow, HasRow, form_of}
use Rattle.linear_theory.proofs.Terms.{one, less_one, zero_term}
use Rattle.linear_theory.proofs.SparseSums.{line_total}
use Rattle.linear_theory.proofs.PlacedRows.{narrowed_met, met_placed}
use Rattle.link_theory.specs.LinkColumns.{link_width, half_place}
use Rattle.link_theory.specs.declared.ends.LinkEnd.{LinkEnd}
use Rattle.link_theory.specs.declared.ends.LinkEnd.TheVariants.{Here, Next}
use Rattle.link_theory.specs.LinkRows.{signal_at, end_cells}
use Rattle.link_theory.specs.LinkNames.{OfLines, FarRow, NamesNoBand}
use Rattle.linear_theory.specs.Counts.{IsStreet}
use Rattle.linear_theory.proofs.Ranges.{some_signal}
use Rattle.link_theory.specs.Plain.{plain}
use Rattle.link_theory.proofs.PlainStreets.{same_form, from_plain_has}
use Rattle.link_theory.proofs.LinkRowLaws.{end_rises}
use Rattle.recovery_theory.specs.Vertices.{IsLongVertex}
use Rattle.recovery_theory.proofs.Wholes.{value_not_negative}
use Rattle.link_theory.specs.LinkVertices.{IsLinkVertex}

module _ (a : Street) (box : Area) (x : List ℚ) (h : IsStreet a) (v : IsLinkVertex a box x) where
  -- ---- the waits
  -- at an end of a link
  wait_at_end : (d : Dir) (e : LinkEnd) (i : ℕ) → HasLink a i → value_at (count a) x (WaitOf d (signal_at e i)) ≤ℚ green_part a d (signal_at e i)
  wait_at_end d e i k =
      let far = met_placed (link_width (count a)) (end_cells a d e i (number 1) (number 1)) (green_part a d (signal_at e i)) x (end_rises a d e i (number 1) (number 1) k) (v.rows (FarRow d e i) k) in
      linear (record { count = 1; low = one ⊗ at 0 ⊕ (one ⊗ at 1 ⊕ zero_term); high = at 2 } ∷ record { count = 1; low = zero_term; high = at 1 } ∷ []) 0 (at 0) (at 2)
      (value_at (count a) x (WaitOf d (signal_at e i)) ∷ get_or x (half_place (count a) d i) (number 0) ∷ green_part a d (signal_at e i) ∷ [])
      (far, (value_not_negative x (half_place (count a) d i) v.not_negative, tt)) refl

  -- at each signal, which is an end of a link
  wait_at : (d : Dir) (i : ℕ) → HasSignal a i → value_at (count a) x (WaitOf d i) ≤ℚ green_part a d i
  wait_at d i s = let l = s.0 in let m = s.1 in let two = h.signals in elim (cases_lt i (count a)) [
    | inl w ↦ wait_at_end d Here i (l, w)
    | inr w ↦ let e : i - 1 + 1 ≡ i = omega arith in
        subst (λ j. value_at (count a) x (WaitOf d j) ≤ℚ green_part a d j) e (wait_at_end d Next (i - 1) (omega arith, omega arith))
  ]

  wait_row : (d : Dir) (i : ℕ) → HasSignal a i → IsMet x (line a (wait_form a d i))
  wait_row Outbound i s = record {
    met = rw (line_total a (wait_form a Outbound i) x (some_signal a h) (omega arith, tt, (omega arith, s, tt)), v.no_bands Outbound)
        (linear (record { count = 1; low = at 0; high = at 1 } ∷ []) 0 (one ⊗ zero_term ⊕ (one ⊗ at 0 ⊕ zero_term)) (at 1)
        (value_at (count a) x (WaitOf Outbound i) ∷ green_part a Outbound i ∷ []) (wait_at Outbound i s, tt) refl);
  }
  wait_row Inbound i s = record {
    met = rw (line_total a (wait_form a Inbound i) x (some_signal a h) (omega arith, tt, (omega arith, s, tt)), v.no_bands Inbound)
        (linear (record { count = 1; low = at 0; high = at 1 } ∷ []) 0 (one ⊗ zero_term ⊕ (one ⊗ at 0 ⊕ zero_term)) (at 1)
        (value_at (count a) x (WaitOf Inbound i) ∷ green_part a Inbound i ∷ []) (wait_at Inbound i s, tt) refl);
  }

  -- ---- the ratio
  below_row : IsMet x (line a (ratio_below_form a))
  below_row = record {
    met = rw (line_total a (ratio_below_form a) x (some_signal a h) (omega arith, tt, (omega arith, tt, tt)), v.no_bands Outbound, v.no_bands Inbound)
        (linear [] 0 (at 0 ⊗ zero_term ⊕ (less_one ⊗ zero_term ⊕ zero_term)) zero_term (a.head.ratio ∷ []) tt refl);
  }

  above_row : IsMet x (line a (ratio_above_form a))
  above_row = record {
    met = rw (line_total a (ratio_above_form a) x (some_signal a h) (omega arith, tt, (omega arith, tt, tt)), v.no_bands Outbound, v.no_bands Inbound)
        (linear [] 0 (minus (at 0) ⊗ zero_term ⊕ (one ⊗ zero_term ⊕ zero_term)) zero_term (a.head.ratio ∷ []) tt refl);
  }

  ratio_row : IsMet x (line a (ratio_form a))
  ratio_row = elim (is_lt (cmp_ℚ a.head.ratio (number 1))) as (λ b. IsMet x (line a (if b then ratio_below_form a else ratio_above_form a))) [ true ↦ below_row | false ↦ above_row ]

  -- ---- all rows
  of_lines : (n : Name) → NamesNoBand n → HasRow (plain a) n → IsMet x (line a (form_of (plain a) box n))
  of_lines n b k =
      subst (λ f. IsMet x (line a f)) (sym (same_form a box n b)) (narrowed_met (2 * (count a - 1)) (line a (form_of a box n)) x (v.rows (OfLines n) (b, from_plain_has a n b k)))

  row_met : (n : Name) → HasRow (plain a) n → IsMet x (line a (form_of (plain a) box n))
  row_met (WaitRow Outbound i) k = wait_row Outbound i k
  row_met (WaitRow Inbound i) k = wait_row Inbound i k
  row_met (FastRow d i) k = of_lines (FastRow d i) tt k
  row_met (SlowRow d i) k = of_lines (SlowRow d i) tt k
  row_met (RiseRow d i) k = of_lines (RiseRow d i) tt k
  row_met (DropRow d i) k = of_lines (DropRow d i) tt k
  row_met (CycleLowRow i) k = of_lines (CycleLowRow i) tt k
  row_met (CycleHighRow i) k = of_lines (CycleHighRow i) tt k
  row_met (RatioRow i) k = ratio_row
  row_met (LoopLowRow i) k = of_lines (LoopLowRow i) tt k
  row_met (LoopHighRow i) k = of_lines (LoopHighRow i) tt k
  row_met (TurnLowRow i) k = of_lines (TurnLowRow i) tt k
  row_met (TurnHighRow i) k = of_lines (TurnHighRow i) tt k
  row_met (LeastRow Outbound i) k = absurd (k.1 refl)
  row_met (LeastRow Inbound i) k = absurd (k.1 refl)
  row_met (EqualLowRow i) k = absurd (true≢false (sym k.1))
  row_met (EqualHighRow i) k = absurd (true≢false (sym k.1))
  row_met NoRow k = absurd k

  pub lines_vertex : IsLongVertex (plain a) box x
  lines_vertex = record {
    columns = let two = h.signals in let w = v.columns in omega arith;
    not_negative = v.not_negative;
    rows = row_met;
  }
