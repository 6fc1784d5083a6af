-- A timing that is built from a line and a band that run: its reds are centred at 0 or half a cycle later, its bands green.
use Rattle.std.proofs.Common.{◌≡◌, ◌⊎◌, inl, inr, ℕ, ℤ, pos, ◌+ℤ◌, ◌-ℤ◌, ◌*ℤ◌, neg_ℤ, ◌+◌, ◌-◌, ◌*◌, ◌<◌, ◌≤◌, nat_le, refl, sym, ◌∙◌, ap, arith, subst, true, false}
use Rattle.std.specs.Prelude.{if◌then◌else◌}
use Rattle.std.proofs.lemmas.Int.{ints}
use Rattle.std.proofs.lemmas.Bool.{cases_lt}
use Rattle.std.proofs.lemmas.Bool.Decides.{nat_tests}
use Rattle.rational_theory.proofs.Integers.{+ℤ-*ℤ, neg_ℤ-*ℤ, *ℤ-+ℤ}
use Rattle.progression.specs.Street.{Street, count, HasSignal}
use Rattle.progression.specs.TimingRecord.{TimingRecord, base}
use Rattle.progression.specs.BaseRecord.{cycle}
use Rattle.progression.specs.Green.{mod_ℤ, red_start, red_ticks, BandIsGreen}
use Rattle.progression.specs.Lines.{crossing}
use Rattle.progression.proofs.Remainders.{split_ℤ, mod_unique, mod-turns, quot_ℤ}
use Rattle.progression.specs.declared.parts.Dir.{Dir}
use Rattle.progression.specs.declared.parts.Dir.TheVariants.{Outbound, Inbound}
use Rattle.artery_model.specs.Valid.{IsValid}
use Rattle.linear_theory.proofs.Windows.{wait_after, wait_before, window_after, window_before}
use Rattle.mirror_theory.specs.Built.{IsSameTick, phase_of, mirrored, IsBuilt}
use Rattle.mirror_theory.specs.EqualBands.{IsEven, HasEqualGreenBands, IsCentred, IsHalfCycleBest}
use Rattle.band_measure.specs.Edges.{way}
use Rattle.mirror_theory.specs.Runs.{far, wait_in_phase, taken, Runs, IsWidest}
use Rattle.mirror_theory.proofs.Ways.{crossing_out, crossing_in, cycle_kept, way_kept, red_ticks_kept, even_kept}
use Rattle.mirror_theory.proofs.Carried.{red_fits}
use Rattle.time_space.proofs.FinerGrids.{mul-le}
use Rattle.mirror_theory.proofs.Widest.{no_wider}

pub cycles_from : (c : ℕ) (y z : ℤ) → 0 < c → IsSameTick c y z → z ≡ y +ℤ quot_ℤ (z -ℤ y) c *ℤ pos c
cycles_from c y z h e = let s = split_ℤ (z -ℤ y) c h in omega (arith, ints, s, e)

pub same_tick : (c : ℕ) (y z k : ℤ) → 0 < c → z ≡ y +ℤ k *ℤ pos c → IsSameTick c y z
same_tick c y z k h e = mod_unique (z -ℤ y) k c 0 (omega (arith, ints, e)) h

-- ---- in bare numbers: n the cycle, r half of the red, s where it begins, y where the outbound line would cross an axis at 0
module _ (n r phase b : ℕ) (y s p q k l m : ℤ) (some : 0 < n) (start : s ≡ pos phase -ℤ pos r +ℤ k *ℤ pos n) where
  wait_out_is : p ≡ y +ℤ l *ℤ pos n → wait_after n s (r + r) p ≡ mod_ℤ (y -ℤ pos (phase + r)) n
  wait_out_is e =
      let d = +ℤ-*ℤ l (neg_ℤ k) (pos n) in
      let f = neg_ℤ-*ℤ k (pos n) in
      let g : p -ℤ (s +ℤ pos (r + r)) ≡ y -ℤ pos (phase + r) +ℤ (l +ℤ neg_ℤ k) *ℤ pos n = omega (arith, ints, start, e, d, f) in
      ap (λ z. mod_ℤ z n) g ∙ mod-turns (y -ℤ pos (phase + r)) (l +ℤ neg_ℤ k) n some

  wait_in_is : q ≡ neg_ℤ y -ℤ pos b +ℤ m *ℤ pos n → (phase ≡ 0) ⊎ (phase + phase ≡ n) → wait_before n s q b ≡ mod_ℤ (y -ℤ pos (phase + r)) n
  wait_in_is e w =
      let d = +ℤ-*ℤ k (neg_ℤ m) (pos n) in
      let f = neg_ℤ-*ℤ m (pos n) in
      let o = +ℤ-*ℤ (k +ℤ neg_ℤ m) (pos 1) (pos n) in
      elim w [
        | inl z ↦ let g : s -ℤ q -ℤ pos b ≡ y -ℤ pos (phase + r) +ℤ (k +ℤ neg_ℤ m) *ℤ pos n = omega (arith, ints, start, e, d, f, z) in
            ap (λ z. mod_ℤ z n) g ∙ mod-turns (y -ℤ pos (phase + r)) (k +ℤ neg_ℤ m) n some
        | inr z ↦ let g : s -ℤ q -ℤ pos b ≡ y -ℤ pos (phase + r) +ℤ (k +ℤ neg_ℤ m +ℤ pos 1) *ℤ pos n = omega (arith, ints, start, e, d, f, o, z) in
            ap (λ z. mod_ℤ z n) g ∙ mod-turns (y -ℤ pos (phase + r)) (k +ℤ neg_ℤ m +ℤ pos 1) n some
      ]

-- ---- the better phase
le_true : (p q : ℕ) → p ≤ q → nat_le p q ≡ true
le_true p q h = grind (arith, nat_tests)

le_false : (p q : ℕ) → q < p → nat_le p q ≡ false
le_false p q h = grind (arith, nat_tests)

pub better : (p q c : ℕ) → (((if nat_le p q then 0 else c) ≡ 0) × (p ≤ q)) ⊎ (((if nat_le p q then 0 else c) ≡ c) × (q < p))
better p q c = elim (cases_lt q p) [
  | inl w ↦ inr (rw (le_false p q w) refl, w)
  | inr w ↦ inl (rw (le_true p q w) refl, w)
]

pub taken_is : (a : Street) (t : TimingRecord) (x : ℤ) (i : ℕ) → taken a t x i ≡ wait_in_phase a t x i (phase_of a t x i) + red_ticks a (base t) Outbound i + red_ticks a (base t) Outbound i
taken_is a t x i = elim (better (wait_in_phase a t x i 0) (wait_in_phase a t x i (cycle a (base t))) (cycle a (base t))) [
  | inl w ↦ let l = w.1 in rw w.0 (omega arith)
  | inr w ↦ let l = w.1 in rw w.0 (omega arith)
]

-- it is 0, or half a cycle
pub phase_half : (a : Street) (t : TimingRecord) (x : ℤ) (i : ℕ) → (phase_of a t x i ≡ 0) ⊎ (phase_of a t x i + phase_of a t x i ≡ cycle a (base t) + cycle a (base t))
phase_half a t x i = elim (better (wait_in_phase a t x i 0) (wait_in_phase a t x i (cycle a (base t))) (cycle a (base t))) [
  | inl w ↦ inl w.0
  | inr w ↦ let e = w.0 in inr (omega arith)
]

-- ---- the built timing
module _ (a : Street) (t : TimingRecord) (v : IsValid a) (u : 2 ≤ t.unit) (even : IsEven a t) (x : ℤ) (b : ℕ) (s : TimingRecord) (h : IsBuilt a t x b s) (runs : Runs a t x b) where
  abbrev twice : ℕ
  twice = cycle a (base t) + cycle a (base t)

  cycle_twice : cycle a (base s) ≡ twice
  cycle_twice = let e = cycle_kept a t 2 s h.keeps in omega (arith, e)

  some : 0 < twice
  some = let p = v.least_parts in let e : 2 * 2 ≤ a.head.parts * t.unit = mul-le p u in omega (arith, e)

  red_twice : (d : Dir) (i : ℕ) → HasSignal a i → red_ticks a (base s) d i ≡ red_ticks a (base t) Outbound i + red_ticks a (base t) Outbound i
  red_twice Outbound i at = let e = red_ticks_kept a t 2 s h.keeps Outbound i in omega (arith, e)
  red_twice Inbound i at = let e = red_ticks_kept a t 2 s h.keeps Inbound i in let f = (even.reds i at).length in omega (arith, e, f)

  start_same : (d : Dir) (i : ℕ) → HasSignal a i → red_start a (base s) d i ≡ red_start a (base s) Outbound i
  start_same Outbound i at = refl
  start_same Inbound i at = sym ((even_kept a t 2 s h.keeps even).reds i at).start

  unit_twice : 2 ≤ s.unit
  unit_twice = rw h.keeps.unit (omega arith)

  -- from signal 1 to signal j + 1
  far_kept : (j : ℕ) → way a (base s) Outbound j ≡ far a t (j + 1)
  far_kept j =
      let e = way_kept a t 2 s h.keeps j in
      let one : (j + 1) - 1 ≡ j = omega arith in
      let d = *ℤ-+ℤ (way a (base t) Outbound j) (pos 1) (pos 1) in
      rw one (omega (arith, ints, e, d))

  red_from : (i : ℕ) (at : HasSignal a i) → red_start a (base s) Outbound i ≡ pos (phase_of a t x i) -ℤ pos (red_ticks a (base t) Outbound i) +ℤ quot_ℤ
      (red_start a (base s) Outbound i -ℤ (pos (phase_of a t x i) -ℤ pos (red_ticks a (base t) Outbound i))) twice *ℤ pos twice
  red_from i at = cycles_from twice _ _ some (h.reds i at)

  -- the band fits at signal i
  fits_at : (i : ℕ) → HasSignal a i → wait_in_phase a t x i (phase_of a t x i) + b ≤ twice - (red_ticks a (base t) Outbound i + red_ticks a (base t) Outbound i)
  fits_at i at = let e = taken_is a t x i in let f = runs i at in omega (arith, e, f)

  -- outbound, at signal j + 1
  green_out : (j : ℕ) → j < count a → BandIsGreen (cycle a (base s)) (red_start a (base s) Outbound (j + 1)) (red_ticks a (base s) Outbound (j + 1)) (crossing a s Outbound j) s.band_out
  green_out j l =
      let i = j + 1 in
      let r = red_ticks a (base t) Outbound i in
      let at : HasSignal a i = (omega arith, omega arith) in
      let f = red_fits a s v unit_twice Outbound i at in
      let p = cycles_from twice x s.first_out some h.first_out in
      let c = crossing_out a s j in
      let w = far_kept j in
      let g : crossing a s Outbound j ≡ (x +ℤ far a t i) +ℤ quot_ℤ (s.first_out -ℤ x) twice *ℤ pos twice = omega (arith, ints, p, c, w) in
      let e = wait_out_is twice r (phase_of a t x i) b (x +ℤ far a t i) (red_start a (base s) Outbound i) (crossing a s Outbound j) (crossing a s Outbound j) _ _ (pos 0) some (red_from i at) g in
      let fitting = fits_at i at in
      (window_after (cycle a (base s)) (red_ticks a (base s) Outbound i) (red_start a (base s) Outbound i) (crossing a s Outbound j) s.band_out f.0 f.1).1
      (rw (cycle_twice, red_twice Outbound i at, h.band_out, e) fitting)

  -- inbound, at signal j + 1
  green_in : (j : ℕ) → j < count a → BandIsGreen (cycle a (base s)) (red_start a (base s) Inbound (j + 1)) (red_ticks a (base s) Inbound (j + 1)) (crossing a s Inbound (count a - (j + 1))) s.band_in
  green_in j l =
      let i = j + 1 in
      let r = red_ticks a (base t) Outbound i in
      let q = crossing a s Inbound (count a - i) in
      let at : HasSignal a i = (omega arith, omega arith) in
      let f = red_fits a s v unit_twice Inbound i at in
      let p = cycles_from twice (mirrored a t x b) s.first_in some h.first_in in
      let here = crossing_in a s (even_kept a t 2 s h.keeps even).links j l in
      let back = crossing_in a s (even_kept a t 2 s h.keeps even).links (count a - 1) (omega arith) in
      let whole : count a - 1 + 1 ≡ count a = omega arith in
      let nothing : count a - (count a - 1 + 1) ≡ 0 = omega arith in
      let ends : crossing a s Inbound (count a - (count a - 1 + 1)) ≡ s.first_in = ap (crossing a s Inbound) nothing in
      let w = far_kept j in
      let z : way a (base s) Outbound (count a - 1) ≡ far a t (count a) = far_kept (count a - 1) ∙ ap (far a t) whole in
      let g : q ≡ neg_ℤ (x +ℤ far a t i) -ℤ pos b +ℤ quot_ℤ (s.first_in -ℤ mirrored a t x b) twice *ℤ pos twice = omega (arith, ints, p, here, back, ends, w, z) in
      let e = wait_in_is twice r (phase_of a t x i) b (x +ℤ far a t i) (red_start a (base s) Outbound i) q q _ (pos 0) _ some (red_from i at) g (phase_half a t x i) in
      let fitting = fits_at i at in
      (window_before (cycle a (base s)) (red_ticks a (base s) Inbound i) (red_start a (base s) Inbound i) q s.band_in f.0 f.1).1
      (rw (start_same Inbound i at, cycle_twice, red_twice Inbound i at, h.band_in, e) fitting)

  pub built_bands : HasEqualGreenBands a t 2 s
  built_bands = record {
    keeps = h.keeps;
    equal = h.band_out ∙ sym h.band_in;
    outbound = λ j l. green_out j l;
    inbound = λ j l.
        let n = count a in
        let j' = n - 1 - j in
        let one : n - (j' + 1) ≡ j = omega arith in
        let two : j' + 1 ≡ n - j = omega arith in
        subst (λ i. BandIsGreen (cycle a (base s)) (red_start a (base s) Inbound i) (red_ticks a (base s) Inbound i) (crossing a s Inbound j) s.band_in) two
        (subst (λ k. BandIsGreen (cycle a (base s)) (red_start a (base s) Inbound (j' + 1)) (red_ticks a (base s) Inbound (j' + 1)) (crossing a s Inbound k) s.band_in) one
        (green_in j' (omega arith)));
  }

  pub built_centred : (d : Dir) (i : ℕ) → HasSignal a i → IsCentred a s d i (pos (phase_of a t x i))
  built_centred d i at = record {
    half = red_ticks a (base t) Outbound i;
    halved = sym (red_twice d i at);
    begins = rw (cycle_twice, start_same d i at)
        (let k = quot_ℤ (red_start a (base s) Outbound i -ℤ (pos (phase_of a t x i) -ℤ pos (red_ticks a (base t) Outbound i))) twice in
        let e = red_from i at in let f = neg_ℤ-*ℤ k (pos twice) in
        same_tick twice (red_start a (base s) Outbound i) (pos (phase_of a t x i) -ℤ pos (red_ticks a (base t) Outbound i)) (neg_ℤ k) some (omega (arith, ints, e, f)));
  }

  -- signal 1 is in phase 0, and no band that runs is wider: these are the widest equal bands of all
  pub half_cycle_best : wait_in_phase a t x 1 0 ≤ wait_in_phase a t x 1 (cycle a (base t)) → IsWidest a t b → IsHalfCycleBest a t s
  half_cycle_best upright widest = record {
    has = built_bands;
    first = λ d. let e : phase_of a t x 1 ≡ 0 = rw (le_true _ _ upright) refl in rw e at (built_centred d 1 (omega arith, let f = v.few in omega arith));
    centred = λ d i at. elim (better (wait_in_phase a t x i 0) (wait_in_phase a t x i (cycle a (base t))) (cycle a (base t))) [
      | inl w ↦ let e : phase_of a t x i ≡ 0 = w.0 in inl (rw e at (built_centred d i at))
      | inr w ↦ let e : phase_of a t x i ≡ cycle a (base t) = w.0 in inr (rw e at (built_centred d i at))
    ];
    widest = λ m other o g. rw h.band_out (no_wider a t v u even b widest m other o g);
  }
