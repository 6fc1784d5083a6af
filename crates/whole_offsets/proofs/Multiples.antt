-- What the multiple of a grid that isn't large is a multiple of.
use Rattle.std.proofs.Common.{◌≡◌, ℕ, zero, suc, ◌-◌, ◌*◌, ◌^◌, ◌<◌, ◌≤◌, refl, subst, arith, inl, inr, true, false}
use Rattle.std.specs.Prelude.{Bool, if◌then◌else◌}
use Rattle.std.proofs.lemmas.Bool.Decides.{nat_tests}
use Rattle.std.proofs.lemmas.Bool.{cases_lt}
use Rattle.rational_theory.specs.Gcd.{lcm}
use Rattle.rational_theory.proofs.Multiples.{IsMultiple, multiple_on, lcm_first, lcm_second, lcm_above}
use Rattle.progression.specs.Street.{Street, count}
use Rattle.progression.specs.Speeds.{run_low}
use Rattle.progression.specs.declared.parts.Dir.{Dir}
use Rattle.progression.specs.declared.parts.Dir.TheVariants.{Outbound, Inbound}
use Rattle.whole_offsets.specs.Scale.{growth, has_whole_run, is_large, grown, multiple, least_multiple}

pub not_large : (n : ℕ) → n < 2 ^ 80 → is_large n ≡ false
not_large n h = grind (arith, nat_tests)

pub small : (n : ℕ) → is_large n ≡ false → n < 2 ^ 80
small n h = grind (arith, nat_tests)

own : (n : ℕ) → IsMultiple n n
own n = record { times = 1; is = omega arith }

-- one more link, where the grid isn't large after it
record IsMore (parts m before growth : ℕ) : Type 0 where
  pub of_before : IsMultiple m before
  pub of_growth : IsMultiple m growth
  pub small_before : is_large (parts * before) ≡ false

more_by : (b : Bool) (parts before growth : ℕ) → 0 < growth → is_large (parts * before) ≡ b → is_large (parts * (if b then before else lcm before growth)) ≡ false
    → IsMore parts (if b then before else lcm before growth) before growth
more_by true parts before growth p e h = absurd (cc)
more_by false parts before growth p e h = record { of_before = lcm_first before growth p; of_growth = lcm_second before growth; small_before = e }

more : (parts before growth : ℕ) → 0 < growth → is_large (parts * (if is_large (parts * before) then before else lcm before growth)) ≡ false
    → IsMore parts (if is_large (parts * before) then before else lcm before growth) before growth
more parts before growth p h = more_by (is_large (parts * before)) parts before growth p refl h

module _ (a : Street) (above : (d : Dir) (i : ℕ) → 0 < growth a d i) where
  -- of a multiple that isn't large
  pub record IsGrown (d : Dir) (start n m : ℕ) : Type 0 where
    pub of_start : IsMultiple m start
    pub of_each : (i : ℕ) → 1 ≤ i → i ≤ n → IsMultiple m (growth a d i)
    pub small_start : is_large (a.head.parts * start) ≡ false

  grown_each : (d : Dir) (start n : ℕ) → is_large (a.head.parts * grown a d start n) ≡ false → IsGrown d start n (grown a d start n)
  grown_each d start zero h = record { of_start = own start; of_each = λ i l m. absurd (omega arith); small_start = h }
  grown_each d start (suc n) h =
      let s = more a.head.parts (grown a d start n) (growth a d (suc n)) (above d (suc n)) h in
      let r = grown_each d start n s.small_before in
      record {
        of_start = multiple_on s.of_before r.of_start;
        of_each = λ i l m. elim (cases_lt i (suc n)) [
          | inl k ↦ multiple_on s.of_before (r.of_each i l (omega arith))
          | inr k ↦ let e : suc n ≡ i = omega arith in subst (λ j. IsMultiple (grown a d start (suc n)) (growth a d j)) e s.of_growth
        ];
        small_start = r.small_start;
      }

  -- of the whole multiple
  pub record IsCommon : Type 0 where
    pub of_least : IsMultiple (multiple a) least_multiple
    pub of_each : (d : Dir) (i : ℕ) → 1 ≤ i → i ≤ count a - 1 → IsMultiple (multiple a) (growth a d i)

  pub multiple_is : a.head.parts * multiple a < 2 ^ 80 → IsCommon
  multiple_is h =
      let n = count a - 1 in
      let back = grown_each Inbound (grown a Outbound least_multiple n) n (not_large _ h) in
      let out = grown_each Outbound least_multiple n back.small_start in
      record {
        of_least = multiple_on back.of_start out.of_start;
        of_each = λ d i l m. elim d as (λ e. IsMultiple (multiple a) (growth a e i)) [
          | Outbound ↦ multiple_on back.of_start (out.of_each i l m)
          | Inbound ↦ back.of_each i l m
        ];
      }

-- every link's growth is above 0
growth_by : (b : Bool) (d : ℕ) → 0 < d → 0 < (if b then 1 else d)
growth_by true d h = omega arith
growth_by false d h = h

pub growth_above : (a : Street) (d : Dir) (i : ℕ) → 0 < growth a d i
growth_above a d i = growth_by (has_whole_run a (a.head.parts * least_multiple) d i) (run_low a d i).den (run_low a d i).positive

-- so the multiple is above 0
grown_by : (b : Bool) (m g : ℕ) → 0 < m → 0 < g → 0 < (if b then m else lcm m g)
grown_by true m g h k = h
grown_by false m g h k = lcm_above m g h k

grown_above : (a : Street) (d : Dir) (start n : ℕ) → 0 < start → 0 < grown a d start n
grown_above a d start zero h = h
grown_above a d start (suc n) h = grown_by (is_large (a.head.parts * grown a d start n)) (grown a d start n) (growth a d (suc n)) (grown_above a d start n h) (growth_above a d (suc n))

pub multiple_above : (a : Street) → 0 < multiple a
multiple_above a = grown_above a Inbound (grown a Outbound least_multiple (count a - 1)) (count a - 1) (grown_above a Outbound least_multiple (count a - 1) (omega arith))
