-- The window lemma: a band is green exactly where its wait and its width fit into the green. It holds for a band of width 0, and at the start of a red.
use Rattle.std.proofs.Common.{◌≡◌, ◌↔◌, ℕ, ℤ, pos, negsuc, ◌+ℤ◌, ◌-ℤ◌, neg_ℤ, ◌+◌, ◌-◌, ◌<◌, ◌≤◌, inl, inr, arith}
use Rattle.std.proofs.lemmas.Int.{ints}
use Rattle.std.proofs.lemmas.Bool.{cases_lt, cases_eq}
use Rattle.rational_theory.proofs.Integers.{+ℤ-*ℤ, neg_ℤ-*ℤ}
use Rattle.progression.specs.Green.{mod_ℤ, since, BandIsGreen}
use Rattle.progression.proofs.Remainders.{mod_below, quot_ℤ, split_ℤ, mod_unique}
use Rattle.progression.proofs.Fits.{Fits, fits_from_band, band_from_fits}

-- from the end of the red to the band's left edge
abbrev pub wait_after : ℕ → ℤ → ℕ → ℤ → ℕ
wait_after c s red x = mod_ℤ (x -ℤ (s +ℤ pos red)) c

-- from the band's right edge to the start of the red
abbrev pub wait_before : ℕ → ℤ → ℤ → ℕ → ℕ
wait_before c s x b = mod_ℤ (s -ℤ x -ℤ pos b) c

module _ (c red : ℕ) (s x : ℤ) (l : red < c) where
  -- after the red, the wait counts from its end
  wait_past : red ≤ since c s x → wait_after c s red x ≡ since c s x - red
  wait_past h =
      let e = split_ℤ (x -ℤ s) c (omega arith) in
      let b = mod_below (x -ℤ s) c (omega arith) in
      mod_unique (x -ℤ (s +ℤ pos red)) (quot_ℤ (x -ℤ s) c) c (since c s x - red) (omega (arith, ints, e)) (omega arith)

  -- in the red or at its start, it counts from the end of the red before
  wait_in_red : since c s x < red → wait_after c s red x ≡ since c s x + (c - red)
  wait_in_red h =
      let e = split_ℤ (x -ℤ s) c (omega arith) in
      let d = +ℤ-*ℤ (quot_ℤ (x -ℤ s) c) (negsuc 0) (pos c) in
      mod_unique (x -ℤ (s +ℤ pos red)) (quot_ℤ (x -ℤ s) c +ℤ negsuc 0) c (since c s x + (c - red)) (omega (arith, ints, e, d)) (omega arith)

module _ (c red : ℕ) (s x : ℤ) (b : ℕ) (h : 2 ≤ red) (l : red < c) where
  -- a band that fits has room for its wait
  fits_window : Fits c red (since c s x) b → wait_after c s red x + b ≤ c - red
  fits_window f = let room = f.room in elim f.free [
    | inl z ↦ let w = wait_in_red c red s x l (omega arith) in omega arith
    | inr z ↦ let w = wait_past c red s x l z in omega arith
  ]

  -- and back
  window_fits : wait_after c s red x + b ≤ c - red → Fits c red (since c s x) b
  window_fits w = elim (cases_lt (since c s x) red) [
    | inl z ↦ let e = wait_in_red c red s x l z in record { free = inl (omega arith, omega arith); room = omega arith }
    | inr z ↦ let e = wait_past c red s x l z in record { free = inr z; room = omega arith }
  ]

  -- outbound
  pub window_after : BandIsGreen c s red x b ↔ (wait_after c s red x + b ≤ c - red)
  window_after = (
    λ g. fits_window (fits_from_band c red s x b h l g),
    λ w. band_from_fits c red s x b h l (window_fits w),
  )

  -- of a band that fits
  fits_before : Fits c red (since c s x) b → wait_before c s x b ≡ c - red - wait_after c s red x - b
  fits_before f =
      let room = f.room in
      let e = split_ℤ (x -ℤ s) c (omega arith) in
      let n = neg_ℤ-*ℤ (quot_ℤ (x -ℤ s) c) (pos c) in
      elim f.free [
        | inl z ↦ let w = wait_in_red c red s x l (omega arith) in
            mod_unique (s -ℤ x -ℤ pos b) (neg_ℤ (quot_ℤ (x -ℤ s) c)) c (c - red - wait_after c s red x - b) (omega (arith, ints, e, n)) (omega arith)
        | inr z ↦ let w = wait_past c red s x l z in
            let d = +ℤ-*ℤ (neg_ℤ (quot_ℤ (x -ℤ s) c)) (negsuc 0) (pos c) in
            mod_unique (s -ℤ x -ℤ pos b) (neg_ℤ (quot_ℤ (x -ℤ s) c) +ℤ negsuc 0) c (c - red - wait_after c s red x - b) (omega (arith, ints, e, n, d)) (omega arith)
      ]

  -- the wait before the red is what is left of the green
  pub wait_before_is : BandIsGreen c s red x b → wait_before c s x b ≡ c - red - wait_after c s red x - b
  wait_before_is g = fits_before (fits_from_band c red s x b h l g)

  -- where the wait before the red and the band have room, the band fits
  before_fits : wait_before c s x b + b ≤ c - red → Fits c red (since c s x) b
  before_fits w =
      let e = split_ℤ (s -ℤ x -ℤ pos b) c (omega arith) in
      let n = neg_ℤ-*ℤ (quot_ℤ (s -ℤ x -ℤ pos b) c) (pos c) in
      let d = +ℤ-*ℤ (neg_ℤ (quot_ℤ (s -ℤ x -ℤ pos b) c)) (negsuc 0) (pos c) in
      elim (cases_eq (wait_before c s x b + b) 0) [
        | inl z ↦ let r : since c s x ≡ 0 = mod_unique (x -ℤ s) (neg_ℤ (quot_ℤ (s -ℤ x -ℤ pos b) c)) c 0 (omega (arith, ints, e, n)) (omega arith) in
            record { free = inl (r, omega arith); room = omega arith }
        | inr z ↦ let r : since c s x ≡ c - wait_before c s x b - b = mod_unique (x -ℤ s) (neg_ℤ (quot_ℤ (s -ℤ x -ℤ pos b) c) +ℤ negsuc 0) c
            (c - wait_before c s x b - b) (omega (arith, ints, e, n, d)) (omega arith) in
            record { free = inr (omega arith); room = omega arith }
      ]

  -- inbound
  pub window_before : BandIsGreen c s red x b ↔ (wait_before c s x b + b ≤ c - red)
  window_before = (
    λ g. let e = wait_before_is g in let w = window_after.0 g in omega arith,
    λ w. band_from_fits c red s x b h l (before_fits w),
  )
