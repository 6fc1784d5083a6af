-- The base on the least grid is as it was typed, and none on a coarser grid is.
use Rattle.std.proofs.Common.{◌≡◌, ◌≢◌, inl, inr, ℕ, zero, suc, ◌+◌, ◌*◌, ◌-◌, ◌/◌, ◌<◌, ◌≤◌, ◌==◌, pos, ℤ, Bool, true, false, map, get_or, refl, sym}
use Rattle.std.proofs.Common.{◌∙◌, ap, ap₂, subst, arith, unsigned_abs, mul-pos}
use Rattle.std.specs.Prelude.{◌*ℤ◌, ◌+ℤ◌, ◌-ℤ◌, ◌≤ℤ◌, neg_ℤ, if◌then◌else◌}
use Rattle.std.proofs.lemmas.Int.{ints}
use Rattle.std.proofs.lemmas.Bool.{cases_eq}
use native.Mathlib.Nat.{eq_of_mul-eq-mul_right, le_of_mul-le-mul_right}
use Rattle.std.proofs.lemmas.Bool.Decides.{nat_tests}
use Rattle.std.proofs.lemmas.List.{length-map}
use Rattle.std.proofs.lemmas.Nat.Gcd.{le_of_dvd}
use Rattle.std.proofs.Math.Nat.{mul-le-mul_left, mul-le-mul_right}
use Prim.Native.Nat.{◌∣◌}
use Rattle.rational_theory.specs.Rational.{ℚ, whole, over}
use Rattle.rational_theory.proofs.Arithmetic.{IsRatio, +ℚ-neg}
use Rattle.rational_theory.proofs.Integers.{+ℤ-*ℤ, neg_ℤ-*ℤ}
use Rattle.rational_theory.proofs.Multiples.{IsMultiple, multiple_on}
use Rattle.linear_theory.proofs.Points.{length-numbered, get-numbered}
use Rattle.progression.specs.Columns.{numbered}
use Rattle.progression.proofs.Remainders.{quot_ℤ, split_ℤ, mod_below, mod_unique}
use Rattle.progression.specs.BaseRecord.{BaseRecord, IsBaseRecord, cycle, common_red, run}
use Rattle.progression.specs.Street.{Street, count, HasSignal, HasLink}
use Rattle.progression.specs.declared.parts.Dir.{Dir}
use Rattle.progression.specs.declared.parts.Dir.TheVariants.{Outbound, Inbound}
use Rattle.description_reader.specs.Typed.{Typed}
use Rattle.typed_plan.specs.Asked.{offset, after, travel, moment, in_seconds, IsAfter, IsAsTyped, IsLeast}
use Rattle.typed_plan.specs.Counts.{HasCounts}
use Rattle.typed_plan.specs.Ends.{StartsAtOnce}
use Rattle.typed_plan.specs.Grid.{time, shared, ticks, doubled, least_grid, size, least_unit, lead, red_tick, least_base}
use Rattle.typed_plan.specs.declared.times.Times.TheVariants.{Part, Run}
use Rattle.typed_plan.proofs.Moments.{moment_is}
use Rattle.typed_plan.proofs.Shared.{over_divides, shared_above, has_part, has_after, has_run, shared_least}
use Rattle.typed_plan.proofs.Ticks.{cross_of, nat_ratio, same_over, over_ticks, ticks_up, cycle_of_parts, part_of_cycle}

-- ---- doubling
-- how many ticks a part has on the shared grid, and that it is what was computed
abbrev pub part_ticks : Street → Typed → ℕ
part_ticks a p = unsigned_abs (ticks (shared a p) (time a p Part 1))

pub part_size : (a : Street) (p : Typed) (grid : ℕ) (x : ℚ) (n : ℕ) → n ≡ unsigned_abs (ticks grid x) → grid ≡ shared a p → x ≡ time a p Part 1 → n ≡ part_ticks a p
part_size a p grid x n e g t = e ∙ ap₂ (λ k y. unsigned_abs (ticks k y)) g t

pub twice_as_fine : (unit grid : ℕ) → (unit ≡ 1 → doubled unit grid ≡ 2 * grid) × (unit ≢ 1 → doubled unit grid ≡ grid)
twice_as_fine unit grid = (λ e. by (unit == 1) refl e, λ n. other (unit == 1) refl n)
  where
    by : (b : Bool) → (unit == 1) ≡ b → unit ≡ 1 → (if b then 2 * grid else grid) ≡ 2 * grid
    by true e h = refl
    by false e h = absurd (grind (arith, nat_tests))

    other : (b : Bool) → (unit == 1) ≡ b → unit ≢ 1 → (if b then 2 * grid else grid) ≡ grid
    other true e n = absurd (grind (arith, nat_tests))
    other false e n = refl

-- the number of ticks is the same multiple of a finer grid's
unit_by : (unit first grid shared : ℕ) → 0 < shared → 1 ≤ first → unit * shared ≡ first * grid → (first ≡ 1 → grid ≡ 2 * shared) → (first ≢ 1 → grid ≡ shared) → 2 ≤ unit
unit_by unit first grid shared h l e f g = elim (cases_eq first 1) [
  | inl one ↦ (
      let k = f one in
      let m : unit * shared ≡ 2 * shared = e ∙ rw (one, k) (omega arith) in
      omega (arith, eq_of_mul-eq-mul_right shared h unit 2 m)
      )
  | inr more ↦ (
      let k = g more in
      let m : unit * shared ≡ first * shared = e ∙ rw k refl in
      omega (arith, eq_of_mul-eq-mul_right shared h unit first m)
      )
]

-- f over s is a number above 0
above_none : (f den u d s : ℕ) → f * den + d * s ≡ 0 * den + u * s → 1 ≤ u → d ≡ 0 → 0 < s → 1 ≤ f
above_none zero den u d s e h n l =
    let m : 0 < u * s = mul-pos h l in
    let none : d * s ≡ 0 * s = ap (λ t. t * s) n in
    absurd (omega (arith, e, m, none))
above_none (suc f) den u d s e h n l = omega arith

-- the lesser multiple has fewer
fewer : (u v g h : ℕ) → u * h ≡ v * g → g ≤ h → 0 < g → u ≤ v
fewer u v g h e l some = le_of_mul-le-mul_right (let m : u * g ≤ u * h = mul-le-mul_left u l in omega (arith, m, e)) some

zero_ticks : (g : ℕ) → ticks g (whole (pos 0)) ≡ pos 0
unfolding whole
zero_ticks g = let none : 0 * (g / 1) ≡ 0 = omega arith in ap pos none

-- ---- lists of a plan's numbers
get_mapped : (n i j : ℕ) (f : ℕ → ℕ) → j < n → get_or (map pos (numbered n i f)) j (pos 0) ≡ pos (f (i + j))
get_mapped zero i j f h = absurd (omega arith)
get_mapped (suc n) i zero f h = ap (λ k. pos (f k)) (omega arith)
get_mapped (suc n) i (suc j) f h = get_mapped n (i + 1) j f (omega arith) ∙ ap (λ k. pos (f k)) (omega arith)

-- how much later one moment is than another, with q and r whole cycles
cycles_apart : (here first late lead_here lead_first c q r : ℤ) → late +ℤ lead_first -ℤ lead_here ≡ q *ℤ c +ℤ here → pos 0 +ℤ lead_first -ℤ lead_first ≡ r *ℤ c +ℤ first
    → (here +ℤ lead_here) -ℤ (first +ℤ lead_first) +ℤ (q -ℤ r) *ℤ c ≡ late
cycles_apart here first late lead_here lead_first c q r e f =
    let k : (q -ℤ r) *ℤ c ≡ q *ℤ c +ℤ neg_ℤ (r *ℤ c) = +ℤ-*ℤ q (neg_ℤ r) c ∙ ap (λ z. q *ℤ c +ℤ z) (neg_ℤ-*ℤ r c) in
    omega (arith, ints, e, f, k)

module _ (a : Street) (p : Typed) (parts : 1 ≤ a.head.parts) (begun : pos 1 ≤ℤ (time a p Part 1).num) where
  -- ticks a part on the coarsest grid on which all times are whole
  abbrev first_unit : ℕ
  first_unit = unsigned_abs (ticks (shared a p) (time a p Part 1))

  over_first : over (pos first_unit) (shared a p) ≡ time a p Part 1
  over_first = ap (λ z. over z (shared a p)) (ticks_up (shared a p) (time a p Part 1) (omega (arith, ints, begun))) ∙ over_ticks (shared a p) (time a p Part 1) (shared_above a p) (has_part a p)

  some_first : 1 ≤ first_unit
  some_first =
      let x = time a p Part 1 in
      let n = unsigned_abs x.num in
      let e : x.num ≡ pos n = omega (arith, ints, begun) in
      let r : IsRatio x n 0 x.den = record { above = x.positive; ratio = rw e (omega arith) } in
      let c = cross_of _ _ _ _ _ _ _ _ (nat_ratio first_unit (shared a p) (shared_above a p)) r over_first in
      above_none first_unit x.den n 0 (shared a p) c (omega (arith, ints, begun)) refl (shared_above a p)

  grid_is : (first_unit ≡ 1 → least_grid a p ≡ 2 * shared a p) × (first_unit ≢ 1 → least_grid a p ≡ shared a p)
  unfolding least_grid
  grid_is = twice_as_fine first_unit (shared a p)

  grid_multiple : IsMultiple (least_grid a p) (shared a p)
  grid_multiple = elim (cases_eq first_unit 1) [
    | inl one ↦ (record { times = 2; is = grid_is.0 one })
    | inr more ↦ (record { times = 1; is = grid_is.1 more ∙ omega arith })
  ]

  pub grid_above : 0 < least_grid a p
  grid_above = elim (cases_eq first_unit 1) [
    | inl one ↦ (let e = grid_is.0 one in let h = shared_above a p in omega (arith, e, h))
    | inr more ↦ (let e = grid_is.1 more in let h = shared_above a p in omega (arith, e, h))
  ]

  over_unit : over (pos (least_unit a p)) (least_grid a p) ≡ time a p Part 1
  over_unit =
      let x = time a p Part 1 in
      ap (λ z. over z (least_grid a p)) (ticks_up (least_grid a p) x (omega (arith, ints, begun))) ∙ over_ticks (least_grid a p) x grid_above (multiple_on grid_multiple (has_part a p))

  pub unit_least : 2 ≤ least_unit a p
  unit_least =
      unit_by (least_unit a p) first_unit (least_grid a p) (shared a p) (shared_above a p) some_first
      (same_over (least_unit a p) (least_grid a p) first_unit (shared a p) grid_above (shared_above a p) (over_unit ∙ sym over_first)) grid_is.0 grid_is.1

  -- ---- no such base is on a coarser grid
  module _ (s : BaseRecord) (h : IsAsTyped a p s) where
    their_part : over (pos s.unit) s.grid ≡ time a p Part 1
    their_part = part_of_cycle p.cycle a.head.parts s.unit s.grid parts h.formed.grid h.cycle

    their_grid : shared a p ≤ s.grid
    their_grid =
        let Divides : ℚ → Type 0 = λ x. x.den ∣ s.grid in
        le_of_dvd h.formed.grid (shared_least a p s.grid
        (subst Divides their_part (over_divides (pos s.unit) s.grid h.formed.grid))
        (λ i l r. subst Divides (h.offsets i (l, r)).later (over_divides _ s.grid h.formed.grid))
        (λ d i l r. subst Divides (h.runs d i (l, r)) (over_divides (pos (run s d i)) s.grid h.formed.grid)))

    pub grid_no_more : least_grid a p ≤ s.grid
    grid_no_more = elim (cases_eq first_unit 1) [
      | inl one ↦ (
          let e = grid_is.0 one in
          let u : first_unit * s.grid ≡ s.unit * shared a p = same_over first_unit (shared a p) s.unit s.grid (shared_above a p) h.formed.grid (over_first ∙ sym their_part) in
          let v : s.grid ≡ s.unit * shared a p = sym (ap (λ n. n * s.grid) one ∙ omega arith) ∙ u in
          let m : 2 * shared a p ≤ s.unit * shared a p = mul-le-mul_right (shared a p) h.formed.unit in
          omega (arith, e, v, m)
          )
      | inr more ↦ (let e = grid_is.1 more in let l = their_grid in omega (arith, e, l))
    ]

    pub unit_no_more : least_unit a p ≤ s.unit
    unit_no_more =
        fewer (least_unit a p) s.unit (least_grid a p) s.grid
        (same_over (least_unit a p) (least_grid a p) s.unit s.grid grid_above h.formed.grid (over_unit ∙ sym their_part)) grid_no_more grid_above

  -- ---- and the one on this grid is as it was typed
  module _ (counts : HasCounts a p) (few : 1 ≤ count a) (forward : (d : Dir) (i : ℕ) → HasLink a i → pos 0 ≤ℤ (travel a p d i).num) where
    abbrev least : BaseRecord
    least = least_base a p

    is_formed : IsBaseRecord least
    is_formed = record {
      grid = grid_above;
      unit = unit_least;
      reds = length-map (numbered (count a) 1 (red_tick a p)) pos ∙ length-numbered (count a) 1 (red_tick a p) ∙ sym counts.patterns;
      run_out = ap (λ n. n + 1) (length-numbered (count a - 1) 1 (size a p (Run Outbound))) ∙ one_back (count a) few ∙ sym counts.patterns;
      run_in = ap (λ n. n + 1) (length-numbered (count a - 1) 1 (size a p (Run Inbound))) ∙ one_back (count a) few ∙ sym counts.patterns;
    }
      where
        one_back : (n : ℕ) → 1 ≤ n → n - 1 + 1 ≡ n
        one_back n h = omega arith

    run_is : (d : Dir) (i : ℕ) → HasLink a i → run least d i ≡ size a p (Run d) i
    run_is Outbound i h = get-numbered (count a - 1) 1 (i - 1) (size a p (Run Outbound)) 0 (omega (arith, h.0, h.1)) ∙ ap (size a p (Run Outbound)) (omega (arith, h.0))
    run_is Inbound i h = get-numbered (count a - 1) 1 (i - 1) (size a p (Run Inbound)) 0 (omega (arith, h.0, h.1)) ∙ ap (size a p (Run Inbound)) (omega (arith, h.0))

    run_seconds : (d : Dir) (i : ℕ) → HasLink a i → in_seconds least (pos (run least d i)) ≡ travel a p d i
    run_seconds d i h =
        ap (λ n. over (pos n) (least_grid a p)) (run_is d i h)
        ∙ ap (λ z. over z (least_grid a p)) (ticks_up (least_grid a p) (travel a p d i) (forward d i h))
        ∙ over_ticks (least_grid a p) (travel a p d i) grid_above (multiple_on grid_multiple (has_run a p d i h.0 h.1))

    red_is : (i : ℕ) → HasSignal a i → common_red least i ≡ pos (red_tick a p i)
    red_is i h = get_mapped (count a) 1 (i - 1) (red_tick a p) (omega (arith, h.0, h.1)) ∙ ap (λ n. pos (red_tick a p n)) (omega (arith, h.0))

    no_ticks : ticks (least_grid a p) (after p 1) ≡ pos 0
    no_ticks = ap (ticks (least_grid a p)) (+ℚ-neg (offset p 1)) ∙ zero_ticks (least_grid a p)

    some_cycle : 0 < cycle a least
    some_cycle = let unit = unit_least in mul-pos parts (omega (arith, unit))

    abbrev turns : ℕ → ℤ
    turns i = quot_ℤ (ticks (least_grid a p) (after p i) +ℤ lead a p 1 -ℤ lead a p i) (cycle a least)

    later_is : (i : ℕ) → HasSignal a i
        → moment a p.reference least i -ℤ moment a p.reference least 1 +ℤ (turns i -ℤ turns 1) *ℤ pos (cycle a least) ≡ ticks (least_grid a p) (after p i)
    later_is i h =
        let some = some_cycle in
        let here = split_ℤ (ticks (least_grid a p) (after p i) +ℤ lead a p 1 -ℤ lead a p i) (cycle a least) some in
        let first = split_ℤ (ticks (least_grid a p) (after p 1) +ℤ lead a p 1 -ℤ lead a p 1) (cycle a least) some in
        ap₂ (λ u v. u -ℤ v +ℤ (turns i -ℤ turns 1) *ℤ pos (cycle a least))
        (moment_is a p.reference least i ∙ ap (λ z. z +ℤ lead a p i) (red_is i h))
        (moment_is a p.reference least 1 ∙ ap (λ z. z +ℤ lead a p 1) (red_is 1 (omega arith, few)))
        ∙ cycles_apart (pos (red_tick a p i)) (pos (red_tick a p 1)) (ticks (least_grid a p) (after p i)) (lead a p i) (lead a p 1) (pos (cycle a least))
        (turns i) (turns 1) here (ap (λ z. z +ℤ lead a p 1 -ℤ lead a p 1) (sym no_ticks) ∙ first)

    pub first_red : common_red least 1 ≡ pos 0
    first_red =
        let e = no_ticks in
        let z = ticks (least_grid a p) (after p 1) +ℤ lead a p 1 -ℤ lead a p 1 in
        let zero : z ≡ pos 0 *ℤ pos (cycle a least) +ℤ pos 0 = omega (arith, ints, e) in
        red_is 1 (omega arith, few) ∙ ap pos (mod_unique z (pos 0) (cycle a least) 0 zero some_cycle)

    pub red_starts : (i : ℕ) → HasSignal a i → StartsAtOnce a least i
    red_starts i h = record {
      tick = red_tick a p i;
      is = red_is i h;
      below = mod_below (ticks (least_grid a p) (after p i) +ℤ lead a p 1 -ℤ lead a p i) (cycle a least) some_cycle;
    }

    offset_is : (i : ℕ) → HasSignal a i → IsAfter a p least i
    offset_is i h = record {
      k = turns i -ℤ turns 1;
      later = ap (λ z. over z (least_grid a p)) (later_is i h) ∙ over_ticks (least_grid a p) (after p i) grid_above (multiple_on grid_multiple (has_after a p i h.0 h.1));
    }

    pub is_least : IsLeast a p least
    is_least = record {
      as_typed = record {
        formed = is_formed;
        cycle = cycle_of_parts p.cycle a.head.parts (least_unit a p) (least_grid a p) parts grid_above over_unit;
        patterns = refl;
        offsets = offset_is;
        runs = run_seconds;
      };
      grid = grid_no_more;
      unit = unit_no_more;
    }
