-- A finite set of lines is enough: a band that runs can be moved left until it meets the end of a red.
use Rattle.std.proofs.Common.{◌≡◌, ◌⊎◌, inl, inr, ℕ, ℤ, pos, ◌+ℤ◌, ◌-ℤ◌, ◌*ℤ◌, neg_ℤ, ◌+◌, ◌-◌, ◌<◌, ◌≤◌, min, zero, suc, ◌∙◌, ap, arith}
use Rattle.std.proofs.lemmas.Int.{ints}
use Rattle.std.proofs.lemmas.Bool.{cases_lt}
use Rattle.rational_theory.proofs.Integers.{+ℤ-*ℤ, neg_ℤ-*ℤ}
use Rattle.progression.specs.Street.{Street, count, HasSignal}
use Rattle.progression.specs.TimingRecord.{TimingRecord, base}
use Rattle.progression.specs.BaseRecord.{cycle}
use Rattle.progression.specs.Green.{mod_ℤ, red_ticks}
use Rattle.progression.proofs.Remainders.{split_ℤ, mod_below, mod_unique, mod-turns, quot_ℤ}
use Rattle.progression.specs.declared.parts.Dir.TheVariants.{Outbound}
use Rattle.mirror_theory.specs.EqualBands.{travel}
use Rattle.band_measure.specs.Edges.{way}
use Rattle.mirror_theory.specs.Runs.{phase_wait, far, wait_in_phase, taken, Runs, candidate}
use Rattle.mirror_theory.proofs.Widest.{least}

module _ (a : Street) (t : TimingRecord) (c : 0 < cycle a (base t)) where
  -- some ticks and whole cycles earlier, where the wait is no shorter than these ticks
  pub wait_moved : (x y k : ℤ) (d : ℕ) → x ≡ y +ℤ k *ℤ pos (cycle a (base t) + cycle a (base t)) +ℤ pos d → (i phase : ℕ) → d ≤ wait_in_phase a t x i phase
      → wait_in_phase a t y i phase ≡ wait_in_phase a t x i phase - d
  wait_moved x y k d e i phase h =
      let n = cycle a (base t) + cycle a (base t) in
      let z = x +ℤ far a t i -ℤ pos (phase + red_ticks a (base t) Outbound i) in
      let s = split_ℤ z n (omega arith) in
      let b = mod_below z n (omega arith) in
      let l = +ℤ-*ℤ (quot_ℤ z n) (neg_ℤ k) (pos n) in
      let m = neg_ℤ-*ℤ k (pos n) in
      mod_unique (y +ℤ far a t i -ℤ pos (phase + red_ticks a (base t) Outbound i)) (quot_ℤ z n +ℤ neg_ℤ k) n (wait_in_phase a t x i phase - d) (omega (arith, ints, e, s, l, m)) (omega arith)

  -- then no more is taken
  pub taken_moved : (x y k : ℤ) (d : ℕ) → x ≡ y +ℤ k *ℤ pos (cycle a (base t) + cycle a (base t)) +ℤ pos d → (i : ℕ)
      → d ≤ min (wait_in_phase a t x i 0) (wait_in_phase a t x i (cycle a (base t))) → taken a t y i ≤ taken a t x i
  taken_moved x y k d e i h =
      let p = wait_moved x y k d e i 0 (omega arith) in
      let q = wait_moved x y k d e i (cycle a (base t)) (omega arith) in
      omega arith

  -- the wait at signal i in a phase is the way to its candidate
  wait_is : (x : ℤ) (i phase : ℕ)
      → x ≡ candidate a t i phase +ℤ quot_ℤ (x +ℤ far a t i -ℤ pos (phase + red_ticks a (base t) Outbound i)) (cycle a (base t) + cycle a (base t)) *ℤ pos
      (cycle a (base t) + cycle a (base t)) +ℤ pos (wait_in_phase a t x i phase)
  wait_is x i phase = let s = split_ℤ (x +ℤ far a t i -ℤ pos (phase + red_ticks a (base t) Outbound i)) (cycle a (base t) + cycle a (base t)) (omega arith) in omega (arith, ints, s)

  -- so where a band runs, one as wide runs at a candidate
  pub record RunsThere (b : ℕ) : Type 0 where
    pub signal : ℕ
    pub there : HasSignal a signal
    pub runs : Runs a t (candidate a t signal 0) b ⊎ Runs a t (candidate a t signal (cycle a (base t))) b

  pub runs_there : 1 ≤ count a → (x : ℤ) (b : ℕ) → Runs a t x b → RunsThere b
  runs_there n x b h =
      let f : ℕ → ℕ = λ i. min (wait_in_phase a t x i 0) (wait_in_phase a t x i (cycle a (base t))) in
      let e = least (count a - 1) f in
      let there : HasSignal a e.place = (e.first, (let l = e.last in omega arith)) in
      elim (cases_lt (wait_in_phase a t x e.place (cycle a (base t))) (wait_in_phase a t x e.place 0)) [
        | inl w ↦ record {
          signal = e.place;
          there = there;
          runs = inr (λ i s.
              let g = e.beats i s.0 (let l = s.1 in omega arith) in
              let m = taken_moved x (candidate a t e.place (cycle a (base t))) _ (wait_in_phase a t x e.place (cycle a (base t))) (wait_is x e.place (cycle a (base t))) i (omega arith) in
              let r = h i s in omega arith);
        }
        | inr w ↦ record {
          signal = e.place;
          there = there;
          runs = inl (λ i s.
              let g = e.beats i s.0 (let l = s.1 in omega arith) in
              let m = taken_moved x (candidate a t e.place 0) _ (wait_in_phase a t x e.place 0) (wait_is x e.place 0) i (omega arith) in
              let r = h i s in omega arith);
        }
      ]

  -- half a cycle later every signal changes its phase
  pub wait_half_later : (x : ℤ) (i : ℕ) → wait_in_phase a t (x +ℤ pos (cycle a (base t))) i (cycle a (base t)) ≡ wait_in_phase a t x i 0
  wait_half_later x i = ap (λ z. mod_ℤ z (cycle a (base t) + cycle a (base t))) (omega (arith, ints))

  pub wait_in_turn : (x : ℤ) (i : ℕ) → wait_in_phase a t (x +ℤ pos (cycle a (base t))) i 0 ≡ wait_in_phase a t x i (cycle a (base t))
  wait_in_turn x i =
      let n = cycle a (base t) + cycle a (base t) in
      let r = red_ticks a (base t) Outbound i in
      let e : x +ℤ pos (cycle a (base t)) +ℤ far a t i -ℤ pos (0 + r) ≡ x +ℤ far a t i -ℤ pos (cycle a (base t) + r) +ℤ pos 1 *ℤ pos n = omega (arith, ints) in
      ap (λ z. mod_ℤ z n) e ∙ mod-turns (x +ℤ far a t i -ℤ pos (cycle a (base t) + r)) (pos 1) n (omega arith)

  -- and as much is taken
  pub runs_turned : (x : ℤ) (b : ℕ) → Runs a t x b → Runs a t (x +ℤ pos (cycle a (base t))) b
  runs_turned x b h = λ i s. let p = wait_half_later x i in let q = wait_in_turn x i in let e = h i s in omega arith

  -- signal 1 is where the line begins
  pub wait_at_one : (x : ℤ) (phase : ℕ) → wait_in_phase a t x 1 phase ≡ phase_wait (cycle a (base t)) (red_ticks a (base t) Outbound 1) x phase
  wait_at_one x phase = ap (λ z. phase_wait (cycle a (base t)) (red_ticks a (base t) Outbound 1) z phase) (omega (arith, ints))

-- the way to the next signal
way_next : (a : Street) (t : TimingRecord) (i : ℕ) → 1 ≤ i → way a (base t) Outbound i ≡ way a (base t) Outbound (i - 1) +ℤ travel a t Outbound i
way_next a t zero h = absurd (omega arith)
way_next a t (suc i) h =
    let f : i ≡ suc i - 1 = omega arith in
    let g : i + 1 ≡ suc i = omega arith in
    ap (λ k. way a (base t) Outbound i +ℤ travel a t Outbound k) g ∙ ap (λ k. way a (base t) Outbound k +ℤ travel a t Outbound (suc i)) f

twice_sum : (x y z : ℤ) → x ≡ y +ℤ z → x +ℤ x ≡ y +ℤ y +ℤ (z +ℤ z)
twice_sum x y z e = omega (arith, ints, e)

pub far_next : (a : Street) (t : TimingRecord) (i : ℕ) → 1 ≤ i → far a t (i + 1) ≡ far a t i +ℤ (travel a t Outbound i +ℤ travel a t Outbound i)
far_next a t i h =
    let e : i + 1 - 1 ≡ i = omega arith in
    ap (λ k. way a (base t) Outbound k +ℤ way a (base t) Outbound k) e ∙ twice_sum (way a (base t) Outbound i) (way a (base t) Outbound (i - 1)) (travel a t Outbound i) (way_next a t i h)
