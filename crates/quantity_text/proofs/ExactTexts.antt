-- The parts of an exact spelling: the minus, the numerator's digits, and what stands after them.
use Rattle.std.proofs.Common.{◌≡◌, inl, inr, ◌*ℤ◌, ℕ, ℤ, pos, negsuc, neg_ℤ, ◌^◌, ◌<◌, ◌≤◌, Bool, true, false, List, [], ◌∷◌, ◌++◌, length, take}
use Rattle.std.proofs.Common.{drop, get_or, Option, Some, None, arith, refl, sym, ◌∙◌, ap, ap₂, subst, unsigned_abs, length-drop, ◌-◌}
use Rattle.std.specs.Prelude.{IfNone, nat_eq, if◌then◌else◌}
use Rattle.std.specs.Fmt.{decimal, signed_decimal}
use Rattle.std.specs.List.{position_or_len}
use Rattle.std.specs.Str.Parse.{AllDigits}
use Rattle.rational_theory.proofs.Arithmetic.{same_cross}
use Rattle.std.proofs.lemmas.Bool.{cases_eq, false≢true, eqb-true, eqb-false}
use Rattle.std.proofs.lemmas.Str.Parse.{digit_from_value}
use Rattle.std.proofs.lemmas.List.{take_all}
use Rattle.rational_theory.specs.Rational.{ℚ}
use Rattle.narrow_fraction.specs.Fraction.{signed}
use Rattle.quantity_text.specs.Exact.{denominator_text, SpellsExactly, SpellsSize, SpellsSigned, HasParts}
use Rattle.quantity_text.specs.Quantity.{is_mark}
use Rattle.quantity_text.proofs.Numerals.{decimal_leads, decimal_digits, decimal_injective}
use Rattle.quantity_text.proofs.ExactParts.{wide, numerator_is, denominator_is}

-- what rules out more, where there is no value
pub none_weaker : {A : Type 0} (o : Option A) (P Q : Type 0) → (P → Q) → IfNone o P → IfNone o Q
none_weaker None P Q f h = f h
none_weaker (Some x) P Q f h = tt

-- a slice to the end is the rest
pub rest_all : (k : ℕ) (xs : List ℕ) → take (length xs - k) (drop k xs) ≡ drop k xs
rest_all k xs = take_all (length xs - k) (drop k xs) (omega (arith, length-drop k xs))

-- ---- the denominator
-- what is written after the slash, where something is
tail_rest : (b : Bool) (tail ds : List ℕ) → 1 ≤ length tail → tail ≡ (if b then [] else 47 ∷ ds) → (b ≡ false) × (drop 1 tail ≡ ds)
tail_rest true tail ds h e = absurd (omega (arith, h, ap length e))
tail_rest false tail ds h e = (refl, ap (λ x. drop 1 x) e)

-- after the slash stand the digits of a number other than 1
pub denominator_rest : (tail : List ℕ) (d : ℕ) → 1 ≤ length tail → tail ≡ denominator_text d → (d ≡ 1 → ⊥) × (drop 1 tail ≡ decimal d)
denominator_rest tail d h e =
    let r = tail_rest (nat_eq d 1) tail (decimal d) h e in
    (eqb-false d 1 r.0, r.1)

-- a number of at most 1 is not written after a slash
pub no_small_denominator : (tail : List ℕ) (small d : ℕ) → 1 ≤ length tail → drop 1 tail ≡ decimal small → small ≤ 1 → 0 < d → d < 2 ^ 127 → tail ≡ denominator_text d → ⊥
no_small_denominator tail small d h e le above fits f =
    let r = denominator_rest tail d h f in
    let same : small ≡ d = decimal_injective small d (omega (arith, le)) (wide d fits) (sym e ∙ r.1) in
    r.0 (omega (arith, same, le, above))

-- ---- the two numbers of a text are its own
-- equal texts of denominators are of equal numbers
tail_number : (b c : Bool) (d e : ℕ) → nat_eq d 1 ≡ b → nat_eq e 1 ≡ c → d < 2 ^ 127 → e < 2 ^ 127 → (if b then [] else 47 ∷ decimal d) ≡ (if c then [] else 47 ∷ decimal e) → d ≡ e
tail_number true true d e p q h k f = eqb-true d 1 p ∙ sym (eqb-true e 1 q)
tail_number true false d e p q h k f = absurd (omega (arith, ap length f))
tail_number false true d e p q h k f = absurd (omega (arith, ap length f))
tail_number false false d e p q h k f = decimal_injective d e (wide d h) (wide e k) (ap (λ x. drop 1 x) f)

-- a text spells one pair of numbers
pub same_size : (size : List ℕ) (n d m e : ℕ) → SpellsSize size n d → SpellsSize size m e → (n ≡ m) × (d ≡ e)
same_size size n d m e s t =
    let place = position_or_len is_mark size in (
      decimal_injective n m (wide n s.top_fits) (wide m t.top_fits) (sym (numerator_is size n d place refl s) ∙ numerator_is size m e place refl t),
      tail_number (nat_eq d 1) (nat_eq e 1) d e refl refl s.bottom_fits t.bottom_fits (sym (denominator_is size n d place refl s) ∙ denominator_is size m e place refl t),
    )

-- a spelled number gives the two numbers of its text
size_spelled : (negative : Bool) (size : List ℕ) (x : ℚ) → SpellsSigned negative size x → SpellsSize size (unsigned_abs x.num) x.den
size_spelled negative size x s = record { top_fits = s.fits.num_fits; above = x.positive; bottom_fits = s.fits.den_fits; spelled = s.spelled }

-- the numbers that were read are those of the number that is spelled
pub parts_agree : (negative : Bool) (size : List ℕ) (x : ℚ) (top bottom : ℕ) → SpellsSize size top bottom → SpellsSigned negative size x → HasParts x negative top bottom
parts_agree negative size x top bottom s t =
    let e = same_size size (unsigned_abs x.num) x.den top bottom (size_spelled negative size x t) s in
    record { num_is = t.parts.num_is ∙ ap (λ n. signed negative n) e.0; den_is = e.1; no_minus_zero = λ n. subst (λ k. 0 < k) e.0 (t.parts.no_minus_zero n) }

-- ---- the sign
-- digits do not begin with a minus
first_digit : (ds t : List ℕ) → 0 < length ds → AllDigits 10 ds → get_or (ds ++ t) 0 0 ≡ 45 → ⊥
first_digit [] t h all e = omega (arith, h)
first_digit (c ∷ cs) t h all e = let r = digit_from_value c all.0 in omega (arith, r.0, e)

-- a spelling that begins with a minus is that of a number below 0
minus_out_z : (z : ℤ) (text t : List ℕ) → unsigned_abs z < 2 ^ 127 → get_or text 0 0 ≡ 45 → text ≡ signed_decimal z ++ t
    → (z ≡ neg_ℤ (pos (unsigned_abs z))) × (0 < unsigned_abs z) × (drop 1 text ≡ decimal (unsigned_abs z) ++ t)
minus_out_z (pos n) text t h f e =
    absurd (first_digit (decimal n) t (decimal_leads n (wide n h)).some (decimal_digits n (wide n h)) (ap (λ x. get_or x 0 0) (sym e) ∙ f))
minus_out_z (negsuc n) text t h f e = (refl, omega arith, ap (λ x. drop 1 x) e)

-- so the rest of the text spells it without the sign
pub minus_out : (text : List ℕ) (x : ℚ) → get_or text 0 0 ≡ 45 → SpellsExactly text x → SpellsSigned true (drop 1 text) x
minus_out text x f s =
    let o = minus_out_z x.num text (denominator_text x.den) s.fits.num_fits f s.spelled in
    record { fits = s.fits; parts = record { num_is = o.0; den_is = refl; no_minus_zero = λ n. o.1 }; spelled = o.2 }

-- and one that begins otherwise that of a number of at least 0
plain_out_z : (z : ℤ) (text t : List ℕ) → (get_or text 0 0 ≡ 45 → ⊥) → text ≡ signed_decimal z ++ t → (z ≡ pos (unsigned_abs z)) × (text ≡ decimal (unsigned_abs z) ++ t)
plain_out_z (pos n) text t differs e = (refl, e)
plain_out_z (negsuc n) text t differs e = absurd (differs (ap (λ x. get_or x 0 0) e))

-- so the whole text spells it without a sign
plain_out : (text : List ℕ) (x : ℚ) → (get_or text 0 0 ≡ 45 → ⊥) → SpellsExactly text x → SpellsSigned false text x
plain_out text x differs s =
    let o = plain_out_z x.num text (denominator_text x.den) differs s.spelled in
    record { fits = s.fits; parts = record { num_is = o.0; den_is = refl; no_minus_zero = λ n. absurd (false≢true n) }; spelled = o.1 }

-- with one sign a text spells one number
same_signed : (negative : Bool) (size : List ℕ) (x y : ℚ) → SpellsSigned negative size x → SpellsSigned negative size y → x ≡ y
same_signed negative size x y s t =
    let e = same_size size (unsigned_abs x.num) x.den (unsigned_abs y.num) y.den (size_spelled negative size x s) (size_spelled negative size y t) in
    let num : x.num ≡ y.num = s.parts.num_is ∙ ap (λ n. signed negative n) e.0 ∙ sym t.parts.num_is in
    same_cross x y (ap₂ (λ z d. z *ℤ pos d) num (sym e.1))

-- a text spells one number
pub one_spelling : (text : List ℕ) (x y : ℚ) → SpellsExactly text x → SpellsExactly text y → x ≡ y
one_spelling text x y s t =
    elim (cases_eq (get_or text 0 0) 45) [
      | inl minus ↦ same_signed true (drop 1 text) x y (minus_out text x minus s) (minus_out text y minus t)
      | inr plain ↦ same_signed false text x y (plain_out text x plain s) (plain_out text y plain t)
    ]
