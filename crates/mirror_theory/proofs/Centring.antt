-- The mirror and the centring, in bare numbers: a red that leaves a band and its mirror image green leaves both green where it
-- is centred at the mirror, or half a cycle later.
use Rattle.std.proofs.Common.{◌≡◌, ◌⊎◌, refl, ℕ, suc, ℤ, pos, negsuc, ◌+ℤ◌, ◌-ℤ◌, ◌*ℤ◌, neg_ℤ, ◌+◌, ◌-◌, ◌*◌, ◌<◌, ◌≤◌, ap, arith, inl, inr}
use Rattle.std.proofs.Math.Nat.{mul-le-mul_left, mul-le-mul_right, lt_of_mul-lt-mul_right}
use Rattle.std.proofs.lemmas.Int.{ints}
use Rattle.std.proofs.lemmas.Bool.{cases_lt}
use Rattle.rational_theory.proofs.Integers.{+ℤ-*ℤ, neg_ℤ-*ℤ, *ℤ_assoc, *ℤ-+ℤ}
use Rattle.progression.specs.Green.{mod_ℤ}
use Rattle.mirror_theory.specs.Runs.{phase_wait}
use Rattle.progression.proofs.Remainders.{split_ℤ, mod_below, mod_unique, quot_ℤ}

-- every integer is twice one, or one more
pub halves : (k : ℤ) → (j : ℤ) × ((k ≡ j +ℤ j) ⊎ (k ≡ j +ℤ j +ℤ pos 1))
halves k =
    let s = split_ℤ k 2 (omega arith) in
    let b = mod_below k 2 (omega arith) in
    elim (cases_lt (mod_ℤ k 2) 1) [
      | inl w ↦ (quot_ℤ k 2, inl (omega (arith, ints, s)))
      | inr w ↦ (quot_ℤ k 2, inr (omega (arith, ints, s)))
    ]

-- what is y times m and some of m more, and not below 0, has a y that isn't below 0
pub natural_part : (y : ℤ) (m part w : ℕ) → part < m → y *ℤ pos m +ℤ pos part ≡ pos w → (n : ℕ) × (y ≡ pos n) × (n * m + part ≡ w)
natural_part (pos n) m part w h e = (n, refl, omega (arith, ints, e))
natural_part (negsuc n) m part w h e = let f : m * 1 ≤ m * suc n = mul-le-mul_left m (omega arith) in absurd (omega (arith, ints, e, f))

-- On the fine grid c is the cycle, r the red's length, s its start, b the width of both bands, p and q their left edges. On the
-- grid that is twice as fine, with its axis where the sum of p, q and b lies, the outbound band begins at p - q - b.
module _ (c r b : ℕ) (s p q : ℤ) (some : 1 ≤ r) (fits : r ≤ c) where
  -- from the end of the red to the bands
  abbrev pub wait_out : ℕ
  wait_out = mod_ℤ (p -ℤ (s +ℤ pos r)) c

  abbrev pub wait_in : ℕ
  wait_in = mod_ℤ (q -ℤ (s +ℤ pos r)) c

  -- the wait after a red of twice the length that is centred at 0 or half a cycle later
  abbrev pub centred_wait : ℕ
  centred_wait = c + wait_out - wait_in - b - r

  -- cycles between the two bands' waits
  abbrev pub cycles_between : ℤ
  cycles_between = quot_ℤ (p -ℤ (s +ℤ pos r)) c +ℤ neg_ℤ (quot_ℤ (q -ℤ (s +ℤ pos r)) c) +ℤ negsuc 0

  -- the mirrored band begins so long after the end of a red that is centred some half cycles (each is c) from the axis
  pub mirrored_band : wait_in + b + r ≤ c → p -ℤ q -ℤ pos b ≡ cycles_between *ℤ pos c +ℤ pos r +ℤ pos centred_wait
  mirrored_band h =
      let e = split_ℤ (p -ℤ (s +ℤ pos r)) c (omega arith) in
      let f = split_ℤ (q -ℤ (s +ℤ pos r)) c (omega arith) in
      let k = +ℤ-*ℤ (quot_ℤ (p -ℤ (s +ℤ pos r)) c) (neg_ℤ (quot_ℤ (q -ℤ (s +ℤ pos r)) c)) (pos c) in
      let l = +ℤ-*ℤ (quot_ℤ (p -ℤ (s +ℤ pos r)) c +ℤ neg_ℤ (quot_ℤ (q -ℤ (s +ℤ pos r)) c)) (negsuc 0) (pos c) in
      let n = neg_ℤ-*ℤ (quot_ℤ (q -ℤ (s +ℤ pos r)) c) (pos c) in
      omega (arith, ints, e, f, k, l, n)

  -- and a band of twice the width fits there
  pub fits_centred : wait_out + b + r ≤ c → wait_in + b + r ≤ c → centred_wait + b + b + r + r ≤ c + c
  fits_centred g h = omega arith

-- The same on a grid that is m times as coarse: c is the coarse cycle, r the coarse length, and the band begins at x.
-- A band that begins at x * m + part on the fine grid has at x on the coarse one the wait w, rounded down.
module _ (c r m part w : ℕ) (x j : ℤ) (l : part < m) (fit : w < (c + c) * m) where
  coarse_wait : (phase : ℕ) → x *ℤ pos m +ℤ pos part ≡ (j +ℤ j) *ℤ pos (c * m) +ℤ pos ((phase + r) * m) +ℤ pos w
      → phase_wait c r x phase * m + part ≡ w
  coarse_wait phase e =
      let y = x -ℤ pos (phase + r) +ℤ neg_ℤ (j *ℤ pos (c + c)) in
      let d1 = +ℤ-*ℤ (x -ℤ pos (phase + r)) (neg_ℤ (j *ℤ pos (c + c))) (pos m) in
      let d2 = +ℤ-*ℤ x (neg_ℤ (pos (phase + r))) (pos m) in
      let d3 = neg_ℤ-*ℤ (pos (phase + r)) (pos m) in
      let d4 = neg_ℤ-*ℤ (j *ℤ pos (c + c)) (pos m) in
      let d5 = *ℤ_assoc j (pos (c + c)) (pos m) in
      let d6 = *ℤ-+ℤ j (pos (c * m)) (pos (c * m)) in
      let d7 = +ℤ-*ℤ j j (pos (c * m)) in
      let twice : (c + c) * m ≡ c * m + c * m = omega arith in
      let d8 : j *ℤ (pos (c + c) *ℤ pos m) ≡ j *ℤ (pos (c * m) +ℤ pos (c * m)) = ap (λ n. j *ℤ pos n) twice in
      let f : y *ℤ pos m +ℤ pos part ≡ pos w = omega (arith, ints, e, d1, d2, d3, d4, d5, d6, d7, d8) in
      let n = natural_part y m part w l f in
      let small : n.0 * m < (c + c) * m = let g = n.2 in omega arith in
      let below : n.0 < c + c = lt_of_mul-lt-mul_right m {m = n.0} {n = c + c} small in
      let is : phase_wait c r x phase ≡ n.0 = mod_unique (x -ℤ pos (phase + r)) j (c + c) n.0 (let g = n.1 in omega (arith, ints, g)) below in
      rw is n.2

-- in this phase the wait, the red and a band of b fine ticks fit into the cycle, the wait in whole coarse ticks
abbrev pub HasPhase : (c r m b : ℕ) → ℤ → ℕ → Type 0
HasPhase c r m b x phase = (phase_wait c r x phase + r + r) * m + b ≤ (c + c) * m

-- The centring: where both bands leave the red green, a red of the same length that is centred at the mirror, or half a cycle
-- later, leaves the mirrored band green, and on the coarse grid too.
module _ (c r m part b : ℕ) (s p q x : ℤ) (some : 1 ≤ r) (fits : r ≤ c) (l : part < m) where
  at_phase : (j : ℤ) (phase w : ℕ) → x *ℤ pos m +ℤ pos part ≡ (j +ℤ j) *ℤ pos (c * m) +ℤ pos ((phase + r) * m) +ℤ pos w
      → w + b + b + r * m + r * m ≤ c * m + c * m → HasPhase c r m (b + b) x phase
  at_phase j phase w e h =
      let one : m * 1 ≤ m * r = mul-le-mul_left m some in
      let f : w < (c + c) * m = omega (arith, h, one) in
      let g = coarse_wait c r m part w x j l f phase e in
      omega (arith, g, h)

  pub centring : p -ℤ q -ℤ pos b ≡ x *ℤ pos m +ℤ pos part
      → mod_ℤ (p -ℤ (s +ℤ pos (r * m))) (c * m) + b + r * m ≤ c * m
      → mod_ℤ (q -ℤ (s +ℤ pos (r * m))) (c * m) + b + r * m ≤ c * m
      → HasPhase c r m (b + b) x 0 ⊎ HasPhase c r m (b + b) x c
  centring e g h =
      let one : m * 1 ≤ m * r = mul-le-mul_left m some in
      let up_to : r * m ≤ c * m = mul-le-mul_right m fits in
      let long : 1 ≤ r * m = omega (arith, one) in
      let w = centred_wait (c * m) (r * m) b s p q long up_to in
      let k = cycles_between (c * m) (r * m) b s p q long up_to in
      let is : p -ℤ q -ℤ pos b ≡ k *ℤ pos (c * m) +ℤ pos (r * m) +ℤ pos w = mirrored_band (c * m) (r * m) b s p q long up_to h in
      let fitting : w + b + b + r * m + r * m ≤ c * m + c * m = fits_centred (c * m) (r * m) b s p q long up_to g h in
      let two = halves k in
      let j = two.0 in
      elim two.1 [
        | inl z ↦ let f = ap (λ y. y *ℤ pos (c * m)) z in inl (at_phase j 0 w (omega (arith, ints, e, is, f)) fitting)
        | inr z ↦ let f = ap (λ y. y *ℤ pos (c * m)) z in let d = +ℤ-*ℤ (j +ℤ j) (pos 1) (pos (c * m)) in
            inr (at_phase j c w (omega (arith, ints, e, is, f, d)) fitting)
      ]
