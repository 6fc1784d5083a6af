-- The point of a recovered link timing is the vertex; so the timing is good, and its value is the vertex's goal.
use Rattle.std.proofs.Common.{◌≡◌, ℕ, ◌-◌, ◌*◌, ◌<◌, inl, inr, pos, List, length, get_or, unsigned_abs, sym, ◌∙◌, ap, subst, arith}
use Rattle.std.proofs.lemmas.Bool.{cases_lt}
use Rattle.rational_theory.specs.Rational.{ℚ, ◌*ℚ◌}
use Rattle.rational_theory.specs.Floor.{floor_ℚ}
use Rattle.rational_theory.proofs.Ring.{zero-*ℚ}
use Rattle.rational_theory.specs.Rows.{dot, IsMet}
use Rattle.progression.specs.Street.{Street, count, HasLink}
use Rattle.progression.specs.TimingRecord.{base}
use Rattle.progression.specs.Speeds.{number}
use Rattle.progression.specs.Good.{Good, IsBase}
use Rattle.progression.specs.Columns.{Column, BandOf, ticks}
use Rattle.progression.specs.declared.parts.Dir.{Dir}
use Rattle.progression.specs.declared.parts.Dir.TheVariants.{Outbound, Inbound}
use Rattle.linear_theory.specs.Places.{place, width}
use Rattle.linear_theory.proofs.Places.{IsColumn}
use Rattle.linear_theory.proofs.Points.{share, length-numbered, get-numbered}
use Rattle.linear_theory.specs.Boxes.{Area}
use Rattle.linear_theory.proofs.Ranges.{parts_above}
use Rattle.link_theory.specs.LinkRecord.{LinkRecord, IsLinkRecord, link_base, lines, half}
use Rattle.link_theory.specs.GoodLinks.{GoodLinks, IsGreenAround}
use Rattle.link_theory.specs.BestLinks.{link_value}
use Rattle.link_theory.specs.LinkColumns.{half_place, link_point}
use Rattle.link_theory.specs.declared.ends.LinkEnd.{LinkEnd}
use Rattle.link_theory.specs.declared.ends.LinkEnd.TheVariants.{Here, Next}
use Rattle.link_theory.specs.LinkRows.{signal_at, link_goal}
use Rattle.link_theory.specs.LinkNames.{LinkName, NearRow, FarRow, LinkRatioRow, HasLinkRow, link_row}
use Rattle.linear_theory.specs.Counts.{IsStreet}
use Rattle.link_theory.proofs.LinkPoints.{link_point_width, line_column_at, half_at}
use Rattle.link_theory.proofs.LinkRowLaws.{end_law, link_ratio_law}
use Rattle.link_theory.proofs.LinkGoals.{link_goal_value}
use Rattle.recovery_theory.specs.Ticks.{ticks_in, ticks_of, unit_of}
use Rattle.recovery_theory.specs.Placing.{timing_of}
use Rattle.recovery_theory.specs.Vertices.{IsLongVertex, IsWhole}
use Rattle.recovery_theory.proofs.Wholes.{floor_whole, value_is}
use Rattle.recovery_theory.proofs.Shown.{column_shown}
use Rattle.recovery_theory.proofs.Rules.{timing_good}
use Rattle.link_theory.specs.LinkVertices.{IsLinkVertex, half_ticks, link_timing_of}
use Rattle.link_theory.specs.Plain.{plain}
use Rattle.link_theory.proofs.Halves.{lines_of}
use Rattle.link_theory.proofs.PlainStreets.{same_ticks, plain_street, from_plain_base}
use Rattle.link_theory.proofs.PlainVertices.{same_timing, plain_whole}
use Rattle.link_theory.proofs.LinesOfVertices.{lines_vertex}
use Rattle.link_theory.proofs.Agreeing.{column_at, same_lists}

module _ (a : Street) (box : Area) (x : List ℚ) (h : IsStreet a) (v : IsLinkVertex a box x) (w : IsWhole a x) where
  abbrev timing : LinkRecord
  timing = link_timing_of a x

  vertex : IsLongVertex (plain a) box x
  vertex = lines_vertex a box x h v

  -- ---- the lines
  -- no ticks of a band
  no_ticks : (d : Dir) → ticks_of a x (BandOf d) ≡ 0
  unfolding ticks_in
  no_ticks d =
      let c = number (a.head.parts * unit_of a x) in
      ap (λ y. unsigned_abs (floor_ℚ (y *ℚ c))) (v.no_bands d) ∙ ap (λ y. unsigned_abs (floor_ℚ y)) (zero-*ℚ c) ∙ ap unsigned_abs (floor_whole (pos 0))

  pub same_lines : lines timing ≡ timing_of a x
  same_lines = sym (lines_of (timing_of a x) timing.half_out timing.half_in (no_ticks Outbound) (no_ticks Inbound))

  good_lines : Good (plain a) (lines timing)
  good_lines = subst (Good (plain a)) (same_timing a x ∙ sym same_lines) (timing_good (plain a) box x (plain_street a h) vertex (plain_whole a x w))

  base_there : IsBase a (link_base timing)
  base_there = from_plain_base a (link_base timing) good_lines.base

  -- ---- the halves
  half_is : (d : Dir) (i : ℕ) → HasLink a i → half timing d i ≡ half_ticks a x d i
  half_is Outbound i k = let l = k.0 in let m = k.1 in get-numbered (count a - 1) 1 (i - 1) (half_ticks a x Outbound) 0 (omega arith) ∙ ap (half_ticks a x Outbound) (omega arith)
  half_is Inbound i k = let l = k.0 in let m = k.1 in get-numbered (count a - 1) 1 (i - 1) (half_ticks a x Inbound) 0 (omega arith) ∙ ap (half_ticks a x Inbound) (omega arith)

  formed : IsLinkRecord timing
  formed =
      let s = base_there.shape in let two = h.signals in
      let o = length-numbered (count a - 1) 1 (half_ticks a x Outbound) in
      let b = length-numbered (count a - 1) 1 (half_ticks a x Inbound) in
      record { base = base_there.formed; half_out = omega arith; half_in = omega arith }

  -- ---- the point
  half_below : (d : Dir) (i : ℕ) → HasLink a i → half_place (count a) d i < length x
  half_below Outbound i k = let l = k.0 in let m = k.1 in omega (arith, v.columns)
  half_below Inbound i k = let l = k.0 in let m = k.1 in omega (arith, v.columns)

  half_shown : (d : Dir) (i : ℕ) → HasLink a i → get_or (link_point a timing) (half_place (count a) d i) (number 0) ≡ get_or x (half_place (count a) d i) (number 0)
  half_shown d i k =
      half_at a timing formed base_there.shape h.signals d i k
      ∙ ap (share a (lines timing)) (half_is d i k)
      ∙ sym (value_is a x (parts_above a h) v.not_negative (half_place (count a) d i) (half_below d i k))

  line_shown : (c : Column) → IsColumn (count a) c → get_or (link_point a timing) (place (count a) c) (number 0) ≡ get_or x (place (count a) c) (number 0)
  line_shown c k =
      line_column_at a timing formed base_there.shape h.signals c k
      ∙ ap (λ s. share a s (ticks a s c)) (same_lines ∙ sym (same_timing a x))
      ∙ ap (share a (timing_of (plain a) x)) (sym (same_ticks a (timing_of (plain a) x) c))
      ∙ sym (column_shown (plain a) box x (plain_street a h) vertex (plain_whole a x w) c k)

  pub point_is : link_point a timing ≡ x
  point_is =
      let two = h.signals in let n = link_point_width a timing formed base_there.shape h.signals in
      same_lists (link_point a timing) x (number 0) (n ∙ sym v.columns)
      (λ j l. elim (cases_lt j (width (count a))) [
        | inl b ↦ let c = column_at (count a) j (omega arith) b in
            subst (λ m. get_or (link_point a timing) m (number 0) ≡ get_or x m (number 0)) c.is (line_shown c.column c.there)
        | inr r ↦ elim (cases_lt j (6 * count a)) [
          | inl b ↦ let e : half_place (count a) Outbound (j - 5 * count a) ≡ j = omega arith in
              subst (λ m. get_or (link_point a timing) m (number 0) ≡ get_or x m (number 0)) e (half_shown Outbound (j - 5 * count a) (omega arith, omega arith))
          | inr b ↦ let e : half_place (count a) Inbound (j - (6 * count a - 1)) ≡ j = omega arith in
              subst (λ m. get_or (link_point a timing) m (number 0) ≡ get_or x m (number 0)) e (half_shown Inbound (j - (6 * count a - 1)) (omega arith, omega arith))
        ]
      ])

  -- so it meets the vertex's rows
  row_shown : (n : LinkName) → HasLinkRow a n → IsMet (link_point a timing) (link_row a box n)
  row_shown n k = subst (λ y. IsMet y (link_row a box n)) (sym point_is) (v.rows n k)

  -- ---- the rules
  green_shown : (d : Dir) (e : LinkEnd) (i : ℕ) → HasLink a i → IsGreenAround a timing d (signal_at e i) (half timing d i)
  green_shown d e i k = (end_law a timing h formed base_there.shape d e i k).1 (row_shown (NearRow d e i) k, row_shown (FarRow d e i) k)

  pub links_good : GoodLinks a timing
  links_good = record {
    formed = formed;
    base = base_there;
    ratio = λ i k. (link_ratio_law a timing h formed base_there.shape i k).1 (λ n. row_shown (LinkRatioRow i) (k, n));
    here = λ d i k. green_shown d Here i k;
    there = λ d i k. green_shown d Next i k;
  }

  -- ---- the value
  pub value_is_goal : link_value a timing ≡ dot (link_goal a) x
  value_is_goal = sym (link_goal_value a timing h links_good) ∙ ap (dot (link_goal a)) point_is
