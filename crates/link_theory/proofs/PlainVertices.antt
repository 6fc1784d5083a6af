-- What the point of a vertex has in common for an artery and for the same without least bands and equal bands, and the places where a vertex of links splits its box.
use Rattle.std.proofs.Common.{◌≡◌, ℕ, zero, suc, ◌+◌, ◌-◌, ◌*◌, ◌==◌, List, length, refl, ap, ◌∙◌, subst, unsigned_abs, false}
use Rattle.std.specs.Prelude.{if◌then◌else◌, ◌||◌}
use Rattle.std.specs.Ordering.{is_lt, eq_by_cmp}
use Rattle.rational_theory.specs.Compare.{cmp_ℚ}
use Rattle.rational_theory.specs.Gcd.{lcm}
use Rattle.rational_theory.specs.Rational.{ℚ, ◌*ℚ◌, ◌<ℚ◌}
use Rattle.rational_theory.specs.Floor.{floor_ℚ}
use Rattle.progression.specs.Street.{Street, count, HasSignal, HasLink}
use Rattle.progression.specs.Speeds.{number}
use Rattle.progression.specs.Columns.{Column}
use Rattle.linear_theory.specs.Places.{place}
use Rattle.linear_theory.specs.Blocks.{block_sum}
use Rattle.linear_theory.specs.Boxes.{Area, IsBoxOf, turn_span, IsLoopPlace, IsTurnPlace}
use Rattle.linear_theory.specs.Shifts.{shift_at, shift_count}
use Rattle.linear_theory.specs.Counts.{IsStreet}
use Rattle.recovery_theory.specs.Ticks.{value_in, in_parts, common, unit_of, ticks_in, ticks_of}
use Rattle.recovery_theory.specs.Placing.{pattern_at, placed, timing_of}
use Rattle.recovery_theory.specs.Vertices.{IsWhole, HasRankedShift}
use Rattle.recovery_theory.specs.Splitting.{is_whole_number, has_rank, is_ranked, last_below, rank_below, shift_of}
use Rattle.recovery_theory.proofs.Inside.{loop_inside, turn_inside, unranked, least_below}
use Rattle.link_theory.specs.Plain.{plain}
use Rattle.link_theory.specs.LinkVertices.{IsLinkVertex}
use Rattle.link_theory.proofs.PlainStreets.{plain_street, plain_box}
use Rattle.link_theory.proofs.LinesOfVertices.{lines_vertex}

module _ (a : Street) (x : List ℚ) where
  -- ---- ticks
  same_common : (j : ℕ) → common (plain a) x j ≡ common a x j
  unfolding common
  same_common zero = refl
  same_common (suc j) = ap (λ d. lcm d (in_parts a x j).den) (same_common j)

  pub same_unit : unit_of (plain a) x ≡ unit_of a x
  unfolding unit_of
  same_unit = ap (λ d. if d == 1 then 2 else d) (same_common (length x))

  pub same_ticks_in : (j : ℕ) → ticks_in (plain a) x j ≡ ticks_in a x j
  unfolding ticks_in
  same_ticks_in j = ap (λ u. unsigned_abs (floor_ℚ (value_in x j *ℚ number (a.head.parts * u)))) same_unit

  same_pattern : (i : ℕ) → pattern_at (plain a) x i ≡ pattern_at a x i
  unfolding pattern_at
  same_pattern i = refl

  -- ---- the timing
  placed_plain : (unit : ℕ) (ticks : Column → ℕ) (pattern : ℕ → ℕ) → placed (plain a) unit ticks pattern ≡ placed a unit ticks pattern
  placed_plain unit ticks pattern = refl

  pub same_timing : timing_of (plain a) x ≡ timing_of a x
  same_timing =
      placed_plain (unit_of (plain a) x) (λ c. ticks_of (plain a) x c) (λ i. pattern_at (plain a) x i)
      ∙ (λ i. placed a (same_unit i) (λ c. same_ticks_in (place (count a) c) i) (λ k. same_pattern k i))

  -- ---- whole points
  pub plain_whole : IsWhole a x → IsWhole (plain a) x
  plain_whole w = record {
    blocks = λ i k. let b = w.blocks i k in record { turns = b.turns; is = b.is };
    shifts = λ i k. let s = w.shifts i k in record { rank = s.rank; there = s.there; is = s.is };
  }

  -- ---- ranks
  same_has_rank : (i : ℕ) (parts : ℚ) (first n : ℕ) → has_rank (plain a) i parts first n ≡ has_rank a i parts first n
  same_has_rank i parts first zero = refl
  same_has_rank i parts first (suc n) = ap (λ b. b || eq_by_cmp cmp_ℚ (number (shift_at a i (first + n))) parts) (same_has_rank i parts first n)

  same_last_below : (i : ℕ) (parts : ℚ) (n : ℕ) → last_below (plain a) i parts n ≡ last_below a i parts n
  same_last_below i parts zero = refl
  same_last_below i parts (suc n) = ap (λ k. if is_lt (cmp_ℚ (number (shift_at a i n)) parts) then n else k) (same_last_below i parts n)

module _ (a : Street) (box : Area) (x : List ℚ) (h : IsStreet a) (b : IsBoxOf a box) (v : IsLinkVertex a box x) where
  -- a block sum that is not whole splits its link's span
  pub vertex_loops : (i : ℕ) → HasLink a i → is_whole_number (block_sum a x i) ≡ false → IsLoopPlace box i (floor_ℚ (block_sum a x i))
  vertex_loops i k e = loop_inside (plain a) box x (plain_street a h) (plain_box a box b) (lines_vertex a box x h v) i k e

  -- a shift that is none of the box is so without least bands and equal bands too
  plain_unranked : (i : ℕ) → is_ranked a box x i ≡ false → is_ranked (plain a) box x i ≡ false
  plain_unranked i e = same_has_rank a x i (shift_of a x i) (turn_span box i).least ((turn_span box i).most + 1 - (turn_span box i).least) ∙ e

  -- it splits its signal's ranks
  pub vertex_turns : (i : ℕ) → HasSignal a i → is_ranked a box x i ≡ false → IsTurnPlace box i (rank_below a x i)
  vertex_turns i k e =
      subst (IsTurnPlace box i) (same_last_below a x i (shift_of a x i) (shift_count a i))
      (turn_inside (plain a) box x (plain_street a h) (plain_box a box b) (lines_vertex a box x h v) i k (plain_unranked i e))

  -- is none of its signal, and lies above that of the least of them
  pub vertex_unranked : (i : ℕ) → HasSignal a i → is_ranked a box x i ≡ false → HasRankedShift a x i → ⊥
  vertex_unranked i k e s =
      unranked (plain a) box x (plain_street a h) (plain_box a box b) (lines_vertex a box x h v) i k (plain_unranked i e) (record { rank = s.rank; there = s.there; is = s.is })

  pub vertex_least_below : (i : ℕ) → HasSignal a i → is_ranked a box x i ≡ false → number (shift_at a i (turn_span box i).least) <ℚ shift_of a x i
  vertex_least_below i k e = least_below (plain a) box x (plain_street a h) (plain_box a box b) (lines_vertex a box x h v) i k (plain_unranked i e)
