-- The timing that is made for a line and a band is built for them.
use Rattle.std.proofs.Common.{◌≡◌, ℕ, zero, suc, ℤ, pos, ◌+ℤ◌, ◌-ℤ◌, neg_ℤ, ◌+◌, ◌-◌, ◌*◌, ◌<◌, get_or, length, map, refl, ap, sym, ◌∙◌, arith}
use Rattle.std.proofs.lemmas.List.{length-map}
use Rattle.std.proofs.lemmas.Int.{ints}
use Rattle.rational_theory.proofs.Integers.{neg_ℤ-*ℤ}
use Rattle.progression.specs.Street.{Street, count, HasSignal}
use Rattle.progression.specs.TimingRecord.{TimingRecord, base}
use Rattle.progression.specs.BaseRecord.{cycle, common_red}
use Rattle.progression.specs.Green.{ahead, red_start, red_ticks}
use Rattle.progression.specs.Columns.{numbered}
use Rattle.progression.proofs.Remainders.{split_ℤ, quot_ℤ}
use Rattle.progression.specs.declared.parts.Dir.TheVariants.{Outbound}
use Rattle.half_integer.specs.HalfPlan.{red_tick, first_out_tick, first_in_tick, half_plan}
use Rattle.mirror_theory.specs.EqualBands.{Keeps}
use Rattle.mirror_theory.proofs.Ways.{ahead_kept}
use Rattle.mirror_theory.specs.Runs.{far}
use Rattle.mirror_theory.proofs.Built.{same_tick}
use Rattle.mirror_theory.specs.Built.{phase_of, mirrored, IsBuilt}

pub length-numbered : (n i : ℕ) (f : ℕ → ℕ) → length (numbered n i f) ≡ n
length-numbered zero i f = refl
length-numbered (suc n) i f = ap suc (length-numbered n (i + 1) f)

get-numbered : (n i j : ℕ) (f : ℕ → ℕ) → j < n → get_or (map pos (numbered n i f)) j (pos 0) ≡ pos (f (i + j))
get-numbered zero i j f h = absurd (omega arith)
get-numbered (suc n) i zero f h = ap (λ k. pos (f k)) (omega arith)
get-numbered (suc n) i (suc j) f h = get-numbered n (i + 1) j f (omega arith) ∙ ap (λ k. pos (f k)) (omega arith)

module _ (a : Street) (t : TimingRecord) (c : 0 < cycle a (base t)) (shape : length t.patterns ≡ count a) (x : ℤ) (b : ℕ) where
  pub half_plan_keeps : Keeps t 2 (half_plan a t x b)
  half_plan_keeps = record {
    grid = refl;
    unit = refl;
    patterns = refl;
    run_out = refl;
    run_in = refl;
    reds = length-map (numbered (count a) 1 (red_tick a t x)) pos ∙ length-numbered (count a) 1 (red_tick a t x) ∙ sym shape;
  }

  red_is : (i : ℕ) → HasSignal a i → common_red (base (half_plan a t x b)) i ≡ pos (red_tick a t x i)
  red_is i h =
      let l = h.0 in
      let k = h.1 in
      let e : 1 + (i - 1) ≡ i = omega arith in
      get-numbered (count a) 1 (i - 1) (red_tick a t x) (omega arith) ∙ ap (λ k. pos (red_tick a t x k)) e

  pub half_plan_built : IsBuilt a t x b (half_plan a t x b)
  half_plan_built = record {
    keeps = half_plan_keeps;
    reds = λ i h.
        let n = cycle a (base t) + cycle a (base t) in
        let z = pos (phase_of a t x i + ahead a (base t) Outbound i * 2) -ℤ pos (red_ticks a (base t) Outbound i) in
        let s = split_ℤ z n (omega arith) in
        let e = red_is i h in
        let f : ahead a (base (half_plan a t x b)) Outbound i ≡ ahead a (base t) Outbound i * 2 = ahead_kept a t 2 (half_plan a t x b) half_plan_keeps Outbound i in
        let g = neg_ℤ-*ℤ (quot_ℤ z n) (pos n) in
        same_tick n (pos (phase_of a t x i) -ℤ pos (red_ticks a (base t) Outbound i)) (red_start a (base (half_plan a t x b)) Outbound i) (neg_ℤ (quot_ℤ z n)) (omega arith)
        (omega (arith, ints, s, e, f, g));
    first_out =
        let n = cycle a (base t) + cycle a (base t) in
        let s = split_ℤ (x -ℤ pos 0) n (omega arith) in
        let g = neg_ℤ-*ℤ (quot_ℤ (x -ℤ pos 0) n) (pos n) in
        same_tick n x (pos (first_out_tick a t x)) (neg_ℤ (quot_ℤ (x -ℤ pos 0) n)) (omega arith) (omega (arith, ints, s, g));
    first_in =
        let n = cycle a (base t) + cycle a (base t) in
        let z = pos 0 -ℤ (x +ℤ far a t (count a) +ℤ pos b) in
        let s = split_ℤ z n (omega arith) in
        let g = neg_ℤ-*ℤ (quot_ℤ z n) (pos n) in
        same_tick n (mirrored a t x b) (pos (first_in_tick a t x b)) (neg_ℤ (quot_ℤ z n)) (omega arith) (omega (arith, ints, s, g));
    band_out = refl;
    band_in = refl;
  }
