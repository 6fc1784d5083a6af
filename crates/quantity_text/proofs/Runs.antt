-- Runs of digits as they are read, and the place where one ends.
use Rattle.std.proofs.Common.{◌≡◌, inl, inr, not, ℕ, ◌+◌, ◌-◌, ◌*◌, ◌^◌, ◌<◌, ◌≤◌, Bool, true, false, List, length, take, get_or, Option, Some, None, arith, refl, ◌∙◌, ap, lit<}
use Rattle.std.specs.Prelude.{nat_lt, nat_le, ◌&&◌, if◌then◌else◌, unwrap_or, SomeIff, IfSome}
use Rattle.std.specs.Char.{digit_value}
use Rattle.std.specs.List.{position, position_or_len}
use Rattle.std.specs.Str.{all_ascii_digits}
use Rattle.std.specs.Str.Parse.{AllDigits, digits_value}
use Rattle.std.proofs.lemmas.Bool.{lt-ltb, le-ltb, cases_lt}
use Rattle.std.proofs.lemmas.Int.Digits.{digits_value-lt, digits_value_more}
use Rattle.std.proofs.lemmas.List.Sums.{prefix_len-le-length}
use Rattle.std.proofs.Math.Nat.{pow-le-pow_right}
use Rattle.quantity_text.specs.Quantity.{run_of}
use Rattle.quantity_text.proofs.RunsLaws.{ascii_digits, run_found, digit_is}

-- 18 digits or fewer write a number below 10 ^ 18
run_below : (ds : List ℕ) → AllDigits 10 ds → length ds ≤ 18 → digits_value 10 ds < 10 ^ 18
run_below ds h most =
    let small = digits_value-lt 10 ds h in
    let far : 10 ^ length ds ≤ 10 ^ 18 = pow-le-pow_right (lit< tt) most in
    omega (arith, small, far)

-- no run, by the last test
run_blocked : (a b c : Bool) (n : ℕ) → c ≡ false → None ≡ (if a && (b && c) then Some n else None)
run_blocked true true c n r = rw r refl
run_blocked true false c n r = refl
run_blocked false b c n r = refl

-- what isn't all digits fails the test of all
not_all : (t : Bool) (ds : List ℕ) → all_ascii_digits ds ≡ t → (AllDigits 10 ds → ⊥) → t ≡ false
not_all false ds e none = refl
not_all true ds e none = absurd (none (ascii_digits.to ds e))

-- of 1 to 18 bytes: what they write where they are digits is the run
pub run_is : (o : Option ℕ) (ds : List ℕ) → 0 < length ds → length ds ≤ 18 → SomeIff o (AllDigits 10 ds × (digits_value 10 ds < 2 ^ 128)) (digits_value 10 ds) → o ≡ run_of ds
run_is None ds least most none =
    run_blocked (nat_lt 0 (length ds)) (nat_le (length ds) 18) (all_ascii_digits ds) (digits_value 10 ds)
    (not_all (all_ascii_digits ds) ds refl (λ h. none (h, omega (arith, run_below ds h most))))
run_is (Some n) ds least most is = ap Some is.1 ∙ run_found ds least most is.0.0

-- which is below 10 ^ 18
pub run_small : (o : Option ℕ) (ds : List ℕ) → length ds ≤ 18 → SomeIff o (AllDigits 10 ds × (digits_value 10 ds < 2 ^ 128)) (digits_value 10 ds) → IfSome o (λ n. n < 10 ^ 18)
run_small None ds most none = tt
run_small (Some n) ds most is = omega (arith, is.1, run_below ds is.0.0 most)

-- one more digit
pub run_more : (ds : List ℕ) (i n d : ℕ) → i < length ds → digit_value (get_or ds i 0) < 10 → n ≡ digits_value 10 (take i ds) → d ≡ get_or ds i 0 - 48 → n * 10 + d ≡ digits_value 10 (take (i + 1) ds)
run_more ds i n d h digit e f = rw (digits_value_more 10 ds i h, digit_is (get_or ds i 0) digit, e, f) refl

-- the first place that passes, or the length
pub place_or_len : (p : ℕ → Bool) (xs : List ℕ) → unwrap_or (position p xs) (length xs) ≡ position_or_len p xs
place_or_len p xs =
    elim (cases_lt (position_or_len p xs) (length xs)) [
      | inl h ↦ rw (lt-ltb (position_or_len p xs) (length xs) h) refl
      | inr h ↦ rw (le-ltb (position_or_len p xs) (length xs) h) (omega (arith, h, prefix_len-le-length (λ x. not (p x)) xs))
    ]
