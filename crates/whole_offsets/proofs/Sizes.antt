-- The numbers of a plan that a timing can hold.
use Rattle.std.proofs.Common.{◌≡◌, ℕ, zero, suc, ◌+◌, ◌-◌, ◌*◌, ◌^◌, ◌<◌, ◌≤◌, refl, sym, ◌∙◌, ap, subst, arith, inl, inr, true, false, zero-add}
use Rattle.std.specs.Prelude.{Bool, Option, None, Some, if◌then◌else◌}
use Rattle.std.specs.Option.{option_or}
use Rattle.std.proofs.lemmas.Bool.{cases_lt}
use Rattle.progression.specs.Street.{Street, count}
use Rattle.progression.specs.BaseRecord.{BaseRecord}
use Rattle.progression.specs.Good.{IsBase}
use Rattle.progression.specs.declared.parts.Dir.{Dir}
use Rattle.progression.specs.declared.parts.Dir.TheVariants.{Outbound, Inbound}
use Rattle.artery_model.specs.Valid.{IsValid}
use Rattle.time_space.proofs.FinerGrids.{mul-le}
use Rattle.second_plan.specs.Grid.{fineness, too_fine}
use Rattle.second_plan.proofs.Fine.{is_fine}
use Rattle.whole_offsets.specs.Scale.{limits_pace, most_run, is_large, multiple, large, large_run, free_large, IsScale}
use Rattle.whole_offsets.proofs.Multiples.{small, multiple_is, growth_above, multiple_above}

-- ---- what isn't found is small
large_by : (b : Bool) (n : ℕ) → is_large n ≡ b → (if b then Some n else None) ≡ None → n < 2 ^ 80
large_by true n e h = absurd (cc)
large_by false n e h = small n e

not_found : (n : ℕ) → large n ≡ None → n < 2 ^ 80
not_found n h = large_by (is_large n) n refl h

neither : (x y : Option ℕ) → option_or x y ≡ None → (x ≡ None) × (y ≡ None)
neither None y h = (refl, h)
neither (Some n) y h = absurd (cc)

pub runs_small : (a : Street) (d : Dir) (grid n : ℕ) → large_run a d grid n ≡ None → (i : ℕ) → 1 ≤ i → i ≤ n → most_run a grid d i < 2 ^ 80
runs_small a d grid zero h i l m = absurd (omega arith)
runs_small a d grid (suc n) h i l m =
    let two = neither (large_run a d grid n) (large (most_run a grid d (suc n))) h in
    elim (cases_lt i (suc n)) [
      | inl k ↦ runs_small a d grid n two.0 i l (omega arith)
      | inr k ↦ let e : suc n ≡ i = omega arith in subst (λ j. most_run a grid d j < 2 ^ 80) e (not_found (most_run a grid d (suc n)) two.1)
    ]

-- what was found stays
pub found_on : (a : Street) (d : Dir) (grid n ticks by : ℕ) → large_run a d grid n ≡ Some ticks → large_run a d grid (by + n) ≡ Some ticks
found_on a d grid n ticks zero h = rw zero-add h
found_on a d grid n ticks (suc by) h =
    let e = found_on a d grid n ticks by h in
    let s : suc by + n ≡ suc (by + n) = omega arith in
    subst (λ m. large_run a d grid m ≡ Some ticks) (sym s) (ap (λ o. option_or o (large (most_run a grid d (suc (by + n))))) e)

is_large_by : (b : Bool) (n : ℕ) → is_large n ≡ b → 2 ^ 80 ≤ n → (if b then Some n else None) ≡ Some n
is_large_by true n e l = refl
is_large_by false n e l = let s = small n e in absurd (omega arith)

-- the first run that is too large is found
pub run_found : (a : Street) (d : Dir) (grid n place ticks : ℕ) → large_run a d grid place ≡ None → ticks ≡ most_run a grid d (place + 1) → 2 ^ 80 ≤ ticks → place < n
    → Some ticks ≡ large_run a d grid n
run_found a d grid n place ticks none e l m =
    let at : place + 1 ≡ suc place = omega arith in
    let here : large (most_run a grid d (suc place)) ≡ Some ticks =
    subst (λ r. large r ≡ Some ticks) (e ∙ ap (most_run a grid d) at) (is_large_by (is_large ticks) ticks refl l) in
    let first : large_run a d grid (suc place) ≡ Some ticks = ap (λ o. option_or o (large (most_run a grid d (suc place)))) none ∙ here in
    let rest : (n - suc place) + suc place ≡ n = omega arith in
    sym (subst (λ k. large_run a d grid k ≡ Some ticks) rest (found_on a d grid (suc place) ticks (n - suc place) first))

-- the numbers of a plan with free runs
pub record AreSmall (a : Street) (grid k : ℕ) : Type 0 where
  pub grid_small : grid < 2 ^ 80
  pub runs_out : large_run a Outbound grid (count a - 1) ≡ None
  pub runs_in : large_run a Inbound grid (count a - 1) ≡ None
  pub cycle_small : grid * k < 2 ^ 80

pub small_of : (a : Street) (grid k : ℕ) → free_large a grid k ≡ None → AreSmall a grid k
small_of a grid k h =
    let n = count a - 1 in
    let out = large_run a Outbound grid n in
    let back = large_run a Inbound grid n in
    let one = neither (large grid) (option_or (option_or out back) (large (grid * k))) h in
    let two = neither (option_or out back) (large (grid * k)) one.1 in
    let three = neither out back two.0 in
    record { grid_small = not_found grid one.0; runs_out = three.0; runs_in = three.1; cycle_small = not_found (grid * k) two.1 }

-- ---- a scale that timings hold
-- a multiple of 1000 that is above 0
at_least : (times m : ℕ) → m ≡ times * 1000 → 0 < m → 1000 ≤ m
at_least zero m e h = absurd (omega arith)
at_least (suc n) m e h = omega arith

pub record IsHeld (a : Street) (k grid unit : ℕ) : Type 0 where
  pub grid_least : 1 ≤ grid
  pub grid_most : grid < 2 ^ 80
  pub unit_least : 2 ≤ unit
  pub unit_most : unit < 2 ^ 80
  pub cycle_is : a.head.parts * unit ≡ k * grid
  pub cycle_most : a.head.parts * unit < 2 ^ 80

module _ (a : Street) (t : BaseRecord) (valid : IsValid a) (base : IsBase a t) (k : ℕ) (some : 1 ≤ k) where
  free_held : (m : ℕ) → m ≡ multiple a → free_large a (a.head.parts * m) k ≡ None → IsHeld a k (a.head.parts * m) (k * m)
  free_held m e h =
      let f = small_of a (a.head.parts * m) k h in
      let g = f.grid_small in
      let c = f.cycle_small in
      let parts = valid.least_parts in
      let common = multiple_is a (growth_above a) (subst (λ n. a.head.parts * n < 2 ^ 80) e g) in
      let least : 1000 ≤ m = let by = common.of_least.is in let above = multiple_above a in at_least common.of_least.times m (omega (arith, by, e)) (omega (arith, above, e)) in
      let one : 1 * 1000 ≤ a.head.parts * m = mul-le {a = 1} {b = a.head.parts} {c = 1000} {d = m} (omega arith) least in
      let two : 1 * 1000 ≤ k * m = mul-le {a = 1} {b = k} {c = 1000} {d = m} some least in
      let three : 1 * (k * m) ≤ a.head.parts * (k * m) = mul-le {a = 1} {b = a.head.parts} {c = k * m} {d = k * m} (omega arith) (omega arith) in
      record {
        grid_least = omega (arith, one);
        grid_most = g;
        unit_least = omega (arith, two);
        unit_most = omega (arith, three, c);
        cycle_is = omega arith;
        cycle_most = omega (arith, c);
      }

  pub pace_held : too_fine a t k ≡ None → IsHeld a k (t.grid * fineness a) (2 * k * t.grid)
  pace_held h =
      let f = is_fine a t k h in
      let g = f.grid in
      let c = f.cycle in
      let parts = valid.least_parts in
      let ticks = base.formed.grid in
      let one : 1 * 1 ≤ t.grid * (2 * a.head.parts) = mul-le {a = 1} {b = t.grid} {c = 1} {d = 2 * a.head.parts} ticks (omega arith) in
      let two : 1 * 1 ≤ k * t.grid = mul-le {a = 1} {b = k} {c = 1} {d = t.grid} some ticks in
      let three : 1 * (2 * k * t.grid) ≤ a.head.parts * (2 * k * t.grid) = mul-le {a = 1} {b = a.head.parts} {c = 2 * k * t.grid} {d = 2 * k * t.grid} (omega arith) (omega arith) in
      record {
        grid_least = omega (arith, one);
        grid_most = g;
        unit_least = omega (arith, two);
        unit_most = omega (arith, three, c);
        cycle_is = omega arith;
        cycle_most = c;
      }

  held_by : (b : Bool) (grid unit : ℕ) → limits_pace a ≡ b → grid ≡ (if b then t.grid * fineness a else a.head.parts * multiple a) → unit ≡ (if b then 2 * k * t.grid else k * multiple a)
      → (if b then too_fine a t k else free_large a (a.head.parts * multiple a) k) ≡ None → IsHeld a k grid unit
  held_by true grid unit p e f h = rw (e, f) (pace_held h)
  held_by false grid unit p e f h = rw (e, f) (free_held (multiple a) refl h)

  pub scale_held : (grid unit : ℕ) → IsScale a t k grid unit → IsHeld a k grid unit
  scale_held grid unit s = held_by (limits_pace a) grid unit refl s.grid_is s.unit_is s.fits
