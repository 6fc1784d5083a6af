-- What is known of the numbers of a vertex of links where its unit fits.
use Rattle.std.proofs.Common.{◌≡◌, ℕ, pos, ◌+◌, ◌-◌, ◌*◌, ◌<◌, ◌≤◌, ◌^◌, List, [], ◌∷◌, length, get_or, refl, sym, subst, arith}
use Rattle.std.proofs.lemmas.Int.{ints}
use Rattle.rational_theory.specs.Rational.{ℚ, ◌*ℚ◌, ◌≤ℚ◌}
use Rattle.rational_theory.proofs.Order.{≤ℚ-*ℚ, ≤ℤ_whole}
use Rattle.rational_theory.proofs.Ring.{at, ◌⊕◌, ◌⊗◌}
use Rattle.rational_theory.proofs.Linear.{linear}
use Rattle.progression.specs.Street.{Street, count, HasSignal, HasLink}
use Rattle.progression.specs.Speeds.{number, run_high}
use Rattle.progression.specs.Columns.{Column, BandOf, Frequency, WaitOf, RunOf}
use Rattle.progression.specs.declared.parts.Dir.{Dir}
use Rattle.progression.specs.declared.parts.Dir.TheVariants.{Outbound, Inbound}
use Rattle.artery_model.specs.Valid.{IsValid}
use Rattle.linear_theory.specs.Places.{place, value_at}
use Rattle.linear_theory.specs.Boxes.{Area}
use Rattle.linear_theory.specs.Rows.{minus_one}
use Rattle.linear_theory.specs.Counts.{IsStreet}
use Rattle.linear_theory.proofs.Places.{IsColumn}
use Rattle.linear_theory.proofs.Points.{place_below}
use Rattle.linear_theory.proofs.Terms.{one, less_one, zero_term}
use Rattle.linear_theory.proofs.PlacedRows.{met_placed}
use Rattle.linear_theory.proofs.Divided.{number_not_negative}
use Rattle.linear_theory.proofs.Ranges.{parts_above, some_signal}
use Rattle.recovery_theory.specs.Ticks.{value_in, unit_of, ticks_in, ticks_of}
use Rattle.recovery_theory.specs.Vertices.{IsWhole}
use Rattle.recovery_theory.proofs.Wholes.{times_cycle}
use Rattle.link_theory.specs.LinkColumns.{link_width, half_place}
use Rattle.link_theory.specs.declared.ends.LinkEnd.TheVariants.{Here}
use Rattle.link_theory.specs.LinkRows.{end_cells}
use Rattle.link_theory.specs.LinkNames.{NearRow}
use Rattle.link_theory.specs.Plain.{plain}
use Rattle.link_theory.specs.LinkVertices.{IsLinkVertex, half_ticks}
use Rattle.link_theory.proofs.PlainStreets.{plain_street}
use Rattle.link_theory.proofs.PlainVertices.{same_unit, same_ticks_in, plain_whole}
use Rattle.link_theory.proofs.LinesOfVertices.{lines_vertex}
use Rattle.link_theory.proofs.LinkRowLaws.{end_rises}
use Rattle.offset_recovery.specs.ByLink.{from_first}
use Rattle.offset_recovery.specs.Numbers.{IsReady, ProductsFit}
use Rattle.offset_recovery.proofs.Making.{ready_from, least_second}
use Rattle.multi_band.specs.LinkReady.{IsLinkReady}

-- ---- its lines
-- what is known of them without least bands and equal bands
module _ (a : Street) (x : List ℚ) (r : IsReady (plain a) x) where
  same_column : (c : Column) → ticks_of (plain a) x c ≡ ticks_of a x c
  same_column c = same_ticks_in a x (place (count a) c)

  runs_there : (d : Dir) (i seconds : ℕ) → HasLink a i → run_high a d i ≤ℚ number seconds → ticks_of (plain a) x (RunOf d i) ≤ seconds * ticks_of (plain a) x Frequency
  runs_there Outbound i seconds k l = r.runs Outbound i seconds k l
  runs_there Inbound i seconds k l = r.runs Inbound i seconds k l

  from_plain_ready : IsReady a x
  from_plain_ready = record {
    parts = r.parts;
    columns = r.columns;
    not_negative = r.not_negative;
    products = r.products;
    unit = subst (λ u. u < 2 ^ 80) (same_unit a x) r.unit;
    cycle = subst (λ u. a.head.parts * u < 2 ^ 92) (same_unit a x) r.cycle;
    some = subst (λ u. 0 < a.head.parts * u) (same_unit a x) r.some;
    waits = λ d i s. subst (λ n. n < 2 ^ 92) (same_column (WaitOf d i)) (r.waits d i s);
    bands = λ d. subst (λ n. n < 2 ^ 92) (same_column (BandOf d)) (r.bands d);
    grid = subst (λ n. n < 2 ^ 93) (same_column Frequency) r.grid;
    second = subst (λ n. 1 ≤ n) (same_column Frequency) r.second;
    runs = λ d i seconds k l.
        subst (λ n. n ≤ seconds * ticks_of a x Frequency) (same_column (RunOf d i))
        (subst (λ n. ticks_of (plain a) x (RunOf d i) ≤ seconds * n) (same_column Frequency) (runs_there d i seconds k l));
  }

module _ (a : Street) (box : Area) (x : List ℚ) (h : IsStreet a) (v : IsLinkVertex a box x) where
  -- ---- the halves
  -- each is at most the wait where its link begins
  half_within : (d : Dir) (i : ℕ) → HasLink a i → get_or x (half_place (count a) d i) (number 0) ≤ℚ value_at (count a) x (WaitOf d i)
  half_within d i k =
      let near = met_placed (link_width (count a)) (end_cells a d Here i minus_one (number 1)) (number 0) x (end_rises a d Here i minus_one (number 1) k) (v.rows (NearRow d Here i) k) in
      linear (record { count = 1; low = less_one ⊗ at 0 ⊕ (one ⊗ at 1 ⊕ zero_term); high = zero_term } ∷ []) 0 (at 1) (at 0)
      (value_at (count a) x (WaitOf d i) ∷ get_or x (half_place (count a) d i) (number 0) ∷ []) (near, tt) refl

  half_below : (d : Dir) (i : ℕ) → HasLink a i → half_place (count a) d i < length x
  half_below Outbound i k = let l = k.0 in let m = k.1 in omega (arith, v.columns)
  half_below Inbound i k = let l = k.0 in let m = k.1 in omega (arith, v.columns)

  of_signal : (d : Dir) (i : ℕ) → HasSignal a i → IsColumn (count a) (WaitOf d i)
  of_signal d i s = s

  wait_below : (d : Dir) (i : ℕ) → HasSignal a i → place (count a) (WaitOf d i) < length x
  wait_below d i s = let l = place_below (count a) (WaitOf d i) (some_signal a h) (of_signal d i s) in let two = h.signals in omega (arith, v.columns)

  begins : (i : ℕ) → HasLink a i → HasSignal a i
  begins i k = let l = k.0 in let m = k.1 in (l, omega arith)

  half_ticks_within : (d : Dir) (i : ℕ) → HasLink a i → half_ticks a x d i ≤ ticks_of a x (WaitOf d i)
  half_ticks_within d i k =
      let c = a.head.parts * unit_of a x in
      let half = value_in x (half_place (count a) d i) in let wait = value_in x (place (count a) (WaitOf d i)) in
      let more : (half *ℚ number c) ≤ℚ (wait *ℚ number c) = ≤ℚ-*ℚ half wait (number c) (half_within d i k) (number_not_negative c) in
      let known : number (half_ticks a x d i) ≤ℚ number (ticks_of a x (WaitOf d i)) =
      rw (
        ← (times_cycle a x (parts_above a h) v.not_negative (half_place (count a) d i) (half_below d i k)),
        ← (times_cycle a x (parts_above a h) v.not_negative (place (count a) (WaitOf d i)) (wait_below d i (begins i k))),
      ) more in
      let e = ≤ℤ_whole (pos (half_ticks a x d i)) (pos (ticks_of a x (WaitOf d i))) known in
      omega (arith, ints, e)

  pub link_ready : IsValid a → IsWhole a x → ProductsFit a x → unit_of a x < 2 ^ 80 → IsLinkReady a x
  link_ready i w p u =
      let r = from_plain_ready a x (ready_from (plain a) box x (plain_street a h) i.most_parts (least_second a i) (lines_vertex a box x h v)
      (plain_whole a x w) p (subst (λ n. n < 2 ^ 80) (sym (same_unit a x)) u)) in
      record {
        lines = r;
        columns = v.columns;
        halves = λ d j k. let l = half_ticks_within d j k in let m = r.waits d j (begins j k) in omega arith;
      }

-- ---- halves side by side
pub halves_placed : (a : Street) (d : Dir) (first : ℕ) → first ≡ half_place (count a) d 1 → (i : ℕ) → HasLink a i → from_first first i ≡ half_place (count a) d i
halves_placed a Outbound first e i k = let l = k.0 in omega arith
halves_placed a Inbound first e i k = let l = k.0 in omega arith

pub halves_few : (a : Street) (x : List ℚ) (d : Dir) (first : ℕ) → IsLinkReady a x → first ≡ half_place (count a) d 1 → (i : ℕ) → HasLink a i → ticks_in a x (from_first first i) < 2 ^ 127
halves_few a x d first r e i k = let l = r.halves d i k in subst (λ j. ticks_in a x j < 2 ^ 127) (sym (halves_placed a d first e i k)) (omega arith)

pub halves_end : (a : Street) (d : Dir) (first : ℕ) → first ≡ half_place (count a) d 1 → 2 ≤ count a → first + count a ≤ link_width (count a) + 1
halves_end a Outbound first e t = omega arith
halves_end a Inbound first e t = omega arith
