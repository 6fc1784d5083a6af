-- Words that spell a number in its limits.
use Rattle.std.proofs.Common.{◌≡◌, ℕ, ◌^◌, ◌<◌, ◌≤◌, Bool, true, false, List, [], ◌∷◌, length, Some, None, Ok, Err, inl, inr, refl, ap, subst, arith}
use Rattle.std.specs.Prelude.{◌&&◌, nat_le, if◌then◌else◌}
use Rattle.std.proofs.lemmas.Bool.{cases_lt, leb-true, le-leb, lt-leb, and_parts}
use Rattle.std.specs.Str.{all_ascii_digits}
use Rattle.std.specs.Str.Parse.{digits_value, ParsesUnsigned}
use Rattle.std.proofs.lemmas.Str.Parse.{parse_digits}
use Rattle.plan_text.specs.Numbers.{is_numeral, is_plain}
use Rattle.plan_text.proofs.Digits.{digits_by_test}
use Rattle.run_inputs.specs.Numbers.{number_within}

some : (w : List ℕ) → is_plain w ≡ true → 0 < length w
some [] h = absurd cc
some (b ∷ bs) h = omega arith

-- a number is below one that isn't there
never : (b : Bool) → (b && false) ≡ false
never true = refl
never false = refl

-- ---- what is read
pub none_unless : (least most : ℕ) (w : List ℕ) → is_numeral w ≡ false → None ≡ number_within least most w
unfolding number_within
none_unless least most w e = rw e refl

module _ (least most : ℕ) (w : List ℕ) (e : is_numeral w ≡ true) where
  module _ (n : ℕ) (p : ParsesUnsigned {E = Unit {0}} 64 10 w (Ok n)) where
    value : n ≡ digits_value 10 w
    value = (parse_digits digits_by_test {E = Unit {0}} 64 w (Ok n) p (and_parts (is_plain w) (all_ascii_digits w) e).1).1

    pub some_within : least ≤ n → n ≤ most → Some n ≡ number_within least most w
    unfolding number_within
    some_within low high =
        let from : nat_le least (digits_value 10 w) ≡ true = le-leb _ _ (subst (λ v. least ≤ v) value low) in
        let to : nat_le (digits_value 10 w) most ≡ true = le-leb _ _ (subst (λ v. v ≤ most) value high) in
        rw (e, from, to) (ap (λ v. Some v) value)

    pub none_below : n < least → None ≡ number_within least most w
    unfolding number_within
    none_below low =
        let from : nat_le least (digits_value 10 w) ≡ false = lt-leb _ _ (subst (λ v. v < least) value low) in
        rw (e, from) refl

    pub none_above : most < n → None ≡ number_within least most w
    unfolding number_within
    none_above high =
        let to : nat_le (digits_value 10 w) most ≡ false = lt-leb _ _ (subst (λ v. most < v) value high) in
        rw (e, to, never (nat_le least (digits_value 10 w))) refl

  -- a numeral of more than 64 bits
  pub none_huge : most < 2 ^ 64 → ParsesUnsigned {E = Unit {0}} 64 10 w (Err tt) → None ≡ number_within least most w
  unfolding number_within
  none_huge few p =
      let b = and_parts (is_plain w) (all_ascii_digits w) e in
      let no = parse_digits digits_by_test {E = Unit {0}} 64 w (Err tt) p b.1 in
      let large : 2 ^ 64 ≤ digits_value 10 w = elim (cases_lt (digits_value 10 w) (2 ^ 64)) [ inl lt ↦ absurd (no (some w b.0, lt)) | inr le ↦ le ] in
      let to : nat_le (digits_value 10 w) most ≡ false = lt-leb _ _ (omega arith) in
      rw (e, to, never (nat_le least (digits_value 10 w))) refl

-- ---- what a number that was read keeps
chosen : (a b d : Bool) (v n : ℕ) → (if a && (b && d) then Some v else None) ≡ Some n → (b ≡ true) × (d ≡ true) × (v ≡ n)
chosen true true true v n h = (refl, refl, cc)
chosen true true false v n h = absurd cc
chosen true false d v n h = absurd cc
chosen false b d v n h = absurd cc

pub in_limits : (least most : ℕ) (w : List ℕ) (n : ℕ) → number_within least most w ≡ Some n → (least ≤ n) × (n ≤ most)
unfolding number_within
in_limits least most w n e =
    let t = chosen (is_numeral w) (nat_le least (digits_value 10 w)) (nat_le (digits_value 10 w) most) (digits_value 10 w) n e in
    (subst (λ v. least ≤ v) t.2 (leb-true _ _ t.0), subst (λ v. v ≤ most) t.2 (leb-true _ _ t.1))
