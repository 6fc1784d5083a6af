-- Products, differences and sums of numbers with a sign: how large they are, and that they fit 128 bits.
use Rattle.std.proofs.Common.{◌≡◌, ℕ, ℤ, pos, ◌+ℤ◌, ◌-ℤ◌, ◌*ℤ◌, ◌≤ℤ◌, ◌<ℤ◌, ◌+◌, ◌*◌, ◌<◌, ◌≤◌, ◌^◌, ◌↔◌, SFits, unsigned_abs, arith, sym}
use Rattle.std.specs.Prelude.{IsTrue}
use Rattle.std.proofs.lemmas.Int.{ints, unsigned_abs-mul}
use Rattle.std.proofs.lemmas.Nat.{mul-lt}
use Rattle.std.specs.Int.{w128}
use lib.Signed.{mag, le_z}
use Rattle.artery_model.specs.Bounds.{most_denominator, most_distance, most_numerator, most_parts}

-- what a call returns
pub returned : (z : ℤ) → mag z < 2 ^ 127 → SFits w128 z
returned z h = record { sfits = h }

pub fits : (z : ℤ) → unsigned_abs z < 2 ^ 127 → SFits w128 z
fits z h = omega (arith, ints)

pub natural_fits : (n : ℕ) → n < 2 ^ 127 → SFits w128 (pos n)
natural_fits n h = record { sfits = h }

pub times_size : (z y : ℤ) (m n : ℕ) → unsigned_abs z < m → unsigned_abs y < n → unsigned_abs (z *ℤ y) < m * n
times_size z y m n h k = rw unsigned_abs-mul (mul-lt (unsigned_abs z) (unsigned_abs y) m n h k)

pub times_fits : (z y : ℤ) (m n : ℕ) → unsigned_abs z < m → unsigned_abs y < n → m * n ≤ 2 ^ 127 → SFits w128 (z *ℤ y)
times_fits z y m n h k l = let s = times_size z y m n h k in fits (z *ℤ y) (omega arith)

pub minus_size : (m n a : ℕ) → m < a → n < a → unsigned_abs (pos m -ℤ pos n) < a
minus_size m n a h k = omega (arith, ints)

pub minus_fits : (m n : ℕ) → m < 2 ^ 127 → n < 2 ^ 127 → SFits w128 (pos m -ℤ pos n)
minus_fits m n h k = omega (arith, ints)

-- the difference of two numbers that are within the limit of ticks
pub within_fits : (x y : ℤ) → unsigned_abs x < 2 ^ 100 → unsigned_abs y < 2 ^ 100 → SFits w128 (x -ℤ y)
within_fits x y h k = omega (arith, ints)

-- a run times a distance
pub length_size : (n d : ℕ) → n < 2 ^ 80 → d ≤ most_distance → n * d < 2 ^ 95
length_size n d h k = let s = mul-lt n d (2 ^ 80) 30001 h (omega arith) in omega arith

-- parts in ticks
pub parts_size : (p u : ℕ) → p < most_parts → u < 2 ^ 80 → p * u < 2 ^ 92
parts_size p u h k = let s = mul-lt p u 3600 (2 ^ 80) h k in omega arith

-- one less a ratio, times its denominator
pub rest_size : (d : ℕ) (z : ℤ) → d ≤ most_denominator → unsigned_abs z ≤ most_numerator → unsigned_abs (pos d -ℤ z) < 2 ^ 17
rest_size d z h k = omega (arith, ints)

pub rest_fits : (d : ℕ) (z : ℤ) → d ≤ most_denominator → unsigned_abs z ≤ most_numerator → SFits w128 (pos d -ℤ z)
rest_fits d z h k = omega (arith, ints)

-- a line at a place and the advance from there
pub next_size : (x y : ℤ) (p : ℕ) → unsigned_abs x ≤ (p + 1) * 2 ^ 93 → unsigned_abs y ≤ 2 ^ 93 → unsigned_abs (x +ℤ y) ≤ (p + 2) * 2 ^ 93
next_size x y p h k = omega (arith, ints)

pub next_fits : (x y : ℤ) (p : ℕ) → unsigned_abs x ≤ (p + 1) * 2 ^ 93 → unsigned_abs y ≤ 2 ^ 93 → p < 2 ^ 32 → SFits w128 (x +ℤ y)
next_fits x y p h k l = omega (arith, ints)

-- a comparison of two numbers that are equal to those of which a law speaks
pub compared : {A : Type 0} (p q r s : ℤ) → p ≡ r → q ≡ s → ((r ≤ℤ s) ↔ A) → IsTrue (le_z p q) ↔ A
compared p q r s e f h =
    let to : IsTrue (le_z p q) → r ≤ℤ s = λ t. omega (arith, ints, e, f) in
    let back : r ≤ℤ s → IsTrue (le_z p q) = λ l. sym (omega (arith, ints, e, f)) in
    ((λ t. h.0 (to t)), (λ a. back (h.1 a)))

-- a first line
pub first_size : (z : ℤ) → pos 0 ≤ℤ z → z <ℤ pos (2 ^ 80) → unsigned_abs z ≤ 2 ^ 93
first_size z h k = omega (arith, ints)

-- a tick so long after a line
pub later_fits : (z : ℤ) (n : ℕ) → unsigned_abs z < 2 ^ 100 → n < 2 ^ 80 → SFits w128 (z +ℤ pos n)
later_fits z n h k = omega (arith, ints)
