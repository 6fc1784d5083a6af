-- Words that spell signed whole numbers and fractions.
use Rattle.std.proofs.Common.{◌≡◌, ℕ, ℤ, pos, negsuc, neg_ℤ, zero, suc, ◌<◌, ◌≤◌, ◌^◌, Bool, true, false, List, [], ◌∷◌, ◌++◌, Option, Some, None}
use Rattle.std.proofs.Common.{ltb, leb, ltb-true, lt-ltb, eqb-true, refl, sym, ap, ◌∙◌, subst, unsigned_abs, append-nil, arith}
use Rattle.std.specs.Prelude.{◌&&◌, ◌==◌, option_and_then, if◌then◌else◌, FitsSigned}
use Rattle.std.specs.Int.{w64}
use Rattle.std.specs.Fmt.{decimal, signed_decimal}
use Rattle.std.specs.Str.{all_ascii_digits}
use Rattle.std.specs.Str.Parse.{digits_value}
use Rattle.std.proofs.lemmas.Bool.{leb-true, le-leb, and_parts}
use Rattle.std.proofs.lemmas.Fmt.{decimal_is_IsNumeral_wide}
use Rattle.std.proofs.lemmas.Int.{ints}
use Rattle.std.proofs.lemmas.Option.{option_and_then_some}
use Rattle.std.proofs.lemmas.Str.Parse.{tells_all_ascii_digits}
use Rattle.rational_theory.specs.Rational.{ℚ, over}
use Rattle.rational_theory.proofs.Lowest.{over-own}
use Rattle.narrow_fraction.specs.Fraction.{FitsFrac}
use Rattle.quantity_text.specs.Exact.{exact_spelling, denominator_text, SpellsExactly}
use Rattle.certificate_model.specs.Words.{cut, is_text}
use Rattle.plan_text.specs.Numbers.{number}
use Rattle.plan_text.specs.Fractions.{from_zero, below_zero, integer, signed_value, quotient_of, is_narrow, exact_if, exact}
use Rattle.plan_text.proofs.Spellings.{decimal-number, number-decimal}
use Rattle.plan_text.proofs.Digits.{digits_by_test}
use Rattle.plan_text.proofs.Pieces.{lacks, lacks_append, lacks_digits, lacks_more, other_byte, same_byte, cut_lacking, cut_again}
use Rattle.plan_text.proofs.Fields.{same_text, text_same, IsKey}

-- ---- numbers of up to 64 digits

digits_wide : (n : ℕ) → n < 10 ^ 64 → all_ascii_digits (decimal n) ≡ true
digits_wide n few = digits_by_test.from (decimal n) (decimal_is_IsNumeral_wide n few).0.1

value_wide : (n : ℕ) → n < 10 ^ 64 → digits_value 10 (decimal n) ≡ n
value_wide n few = (decimal_is_IsNumeral_wide n few).1

pub lacks_wide : (b n : ℕ) → b < 48 → n < 10 ^ 64 → lacks b (decimal n) ≡ true
lacks_wide b n small few = lacks_digits b (decimal n) small (digits_wide n few)

pub lacks_signed : (b : ℕ) (z : ℤ) → b < 48 → (45 == b) ≡ false → unsigned_abs z < 10 ^ 64 → lacks b (signed_decimal z) ≡ true
lacks_signed b (pos n) small other few = lacks_wide b n small few
lacks_signed b (negsuc n) small other few = lacks_more (45 == b) (lacks b (decimal (suc n))) other (lacks_wide b (suc n) small few)

lacks_den : (b : ℕ) (one : Bool) (ds : List ℕ) → (47 == b) ≡ false → lacks b ds ≡ true → lacks b (if one then [] else 47 ∷ ds) ≡ true
lacks_den b true ds other e = refl
lacks_den b false ds other e = lacks_more (47 == b) (lacks b ds) other e

-- numbers of 128 bits have at most 64 digits
narrow : (n : ℕ) → n < 2 ^ 127 → n < 10 ^ 64
narrow n h = omega (arith, h)

lacks_exact : (b : ℕ) (x : ℚ) → b < 48 → (45 == b) ≡ false → (47 == b) ≡ false → FitsFrac x → lacks b (exact_spelling x) ≡ true
lacks_exact b x small minus slash f =
    lacks_append b (signed_decimal x.num) (denominator_text x.den) (lacks_signed b x.num small minus (narrow _ f.num_fits))
    (lacks_den b (x.den == 1) (decimal x.den) slash (lacks_wide b x.den small (narrow _ f.den_fits)))

-- a fraction's spelling is one word
pub exact_word : (x : ℚ) → FitsFrac x → IsKey (exact_spelling x)
exact_word x f = record { spaces = lacks_exact 32 x (omega arith) refl refl f; feeds = lacks_exact 10 x (omega arith) refl refl f }

-- and so is a number's
pub decimal_word : (n : ℕ) → n < 2 ^ 80 → IsKey (decimal n)
decimal_word n few = record { spaces = lacks_wide 32 n (omega arith) (omega arith); feeds = lacks_wide 10 n (omega arith) (omega arith) }

-- ---- fractions

plain_value : (ds : List ℕ) → all_ascii_digits ds ≡ true → signed_value ds ≡ pos (digits_value 10 ds)
plain_value [] e = refl
plain_value (d ∷ ds) e =
    let p = tells_all_ascii_digits.parts d ds e in
    rw (other_byte d 45 (omega arith) p.0.0) refl

value_again : (z : ℤ) → unsigned_abs z < 10 ^ 64 → signed_value (signed_decimal z) ≡ z
value_again (pos n) few = plain_value (decimal n) (digits_wide n few) ∙ ap (λ (m : ℕ). pos m) (value_wide n few)
value_again (negsuc n) few = ap (λ (m : ℕ). neg_ℤ (pos m)) (value_wide (suc n) few)

quotient_by : (w : List ℕ) (z : ℤ) (d : ℕ) (one : Bool) → (one ≡ true → d ≡ 1) → lacks 47 w ≡ true → signed_value w ≡ z → digits_value 10 (decimal d) ≡ d
    → quotient_of (w ++ (if one then [] else 47 ∷ decimal d)) (cut 47 (w ++ (if one then [] else 47 ∷ decimal d))) ≡ over z d
quotient_by w z d true is l v k = rw (append-nil w, cut_lacking 47 w l) (λ i. over (v i) (sym (is refl) i))
quotient_by w z d false is l v k = rw (cut_again 47 w (decimal d) l) (λ i. over (v i) (k i))

quotient_again : (x : ℚ) → FitsFrac x → quotient_of (exact_spelling x) (cut 47 (exact_spelling x)) ≡ x
quotient_again x f =
    quotient_by (signed_decimal x.num) x.num x.den (x.den == 1) (eqb-true x.den 1) (lacks_signed 47 x.num (omega arith) refl (narrow _ f.num_fits))
    (value_again x.num (narrow _ f.num_fits)) (value_wide x.den (narrow _ f.den_fits))
    ∙ over-own x

narrow_by : (a b : Bool) (x : ℚ) → a ≡ true → b ≡ true → (if a && b then Some x else None) ≡ Some x
narrow_by a b x p q = rw (p, q) refl

is_narrow_if : (x : ℚ) → FitsFrac x → is_narrow x ≡ true
is_narrow_if x f = rw (lt-ltb (unsigned_abs x.num) (2 ^ 127) f.num_fits, lt-ltb x.den (2 ^ 127) f.den_fits) refl

pub exact_again : (x : ℚ) → FitsFrac x → exact (exact_spelling x) ≡ Some x
unfolding exact
exact_again x f =
    ap (exact_if (exact_spelling x)) (quotient_again x f)
    ∙ narrow_by (is_text (exact_spelling x) (exact_spelling x)) (is_narrow x) x (text_same (exact_spelling x)) (is_narrow_if x f)

some_if : {A : Type 0} (b : Bool) (x y : A) → (if b then Some x else None) ≡ Some y → (b ≡ true) × (x ≡ y)
some_if true x y e = (refl, cc)
some_if false x y e = absurd cc

takes_if : (w : List ℕ) (x y : ℚ) → exact_if w x ≡ Some y → SpellsExactly w y
takes_if w x y e =
    let g = some_if (is_text w (exact_spelling x) && is_narrow x) x y e in
    let b = and_parts (is_text w (exact_spelling x)) (is_narrow x) g.0 in
    let n = and_parts (ltb (unsigned_abs x.num) (2 ^ 127)) (ltb x.den (2 ^ 127)) b.1 in
    subst (SpellsExactly w) g.1 (record { fits = record { num_fits = ltb-true _ _ n.0; den_fits = ltb-true _ _ n.1 }; spelled = same_text w (exact_spelling x) b.0 })

pub exact_takes : (w : List ℕ) (x : ℚ) → exact w ≡ Some x → SpellsExactly w x
unfolding exact
exact_takes w x e = takes_if w (quotient_of w (cut 47 w)) x e

-- what the code found
pub some_exact : (w : List ℕ) (x : ℚ) → SpellsExactly w x → Some x ≡ exact w
some_exact w x s = sym (ap exact s.spelled ∙ exact_again x s.fits)

none_by : (w : List ℕ) (o : Option ℚ) → exact w ≡ o → ((x : ℚ) → SpellsExactly w x → ⊥) → None ≡ exact w
none_by w None e never = sym e
none_by w (Some x) e never = absurd (never x (exact_takes w x e))

pub none_exact : (w : List ℕ) → ((x : ℚ) → SpellsExactly w x → ⊥) → None ≡ exact w
none_exact w never = none_by w (exact w) refl never

-- ---- signed whole numbers

plain_integer : (ds : List ℕ) → all_ascii_digits ds ≡ true → integer ds ≡ option_and_then from_zero (number ds)
unfolding integer number
plain_integer [] e = refl
plain_integer (d ∷ ds) e =
    let p = tells_all_ascii_digits.parts d ds e in
    rw (other_byte d 45 (omega arith) p.0.0) refl

small_pos : (n : ℕ) → FitsSigned w64 (pos n) → n < 2 ^ 63
small_pos n f = omega (arith, ints, f)

small_neg : (n : ℕ) → FitsSigned w64 (negsuc n) → suc n ≤ 2 ^ 63
small_neg n f = omega (arith, ints, f)

from_again : (n : ℕ) → n < 2 ^ 63 → from_zero n ≡ Some (pos n)
from_again n few = rw (lt-ltb n (2 ^ 63) few) refl

below_again : (n : ℕ) → suc n ≤ 2 ^ 63 → below_zero (suc n) ≡ Some (negsuc n)
below_again n few = rw (le-leb 1 (suc n) (omega arith), le-leb (suc n) (2 ^ 63) few) refl

pub integer_again : (z : ℤ) → FitsSigned w64 z → integer (signed_decimal z) ≡ Some z
unfolding integer
integer_again (pos n) f =
    let few = small_pos n f in
    plain_integer (decimal n) (digits_wide n (omega arith)) ∙ ap (option_and_then from_zero) (number-decimal n (omega arith)) ∙ from_again n few
integer_again (negsuc n) f =
    let few = small_neg n f in
    ap (option_and_then below_zero) (number-decimal (suc n) (omega arith)) ∙ below_again n few

-- a word is the spelling of a number of 64 bits
pub record SpellsInteger (w : List ℕ) (z : ℤ) : Type 0 where
  pub spelled : w ≡ signed_decimal z
  pub fits : FitsSigned w64 z

fits_pos : (n : ℕ) → n < 2 ^ 63 → FitsSigned w64 (pos n)
fits_pos n h = omega (arith, ints, h)

fits_neg : (n : ℕ) → n < 2 ^ 63 → FitsSigned w64 (negsuc n)
fits_neg n h = omega (arith, ints, h)

from_takes : (w : List ℕ) (n : ℕ) (z : ℤ) → number w ≡ Some n → from_zero n ≡ Some z → SpellsInteger w z
from_takes w n z e f =
    let g = some_if (ltb n (2 ^ 63)) (pos n) z f in
    subst (SpellsInteger w) g.1 (record { spelled = (decimal-number w n e).0; fits = fits_pos n (ltb-true _ _ g.0) })

below_takes : (w : List ℕ) (n : ℕ) (z : ℤ) → number w ≡ Some n → below_zero n ≡ Some z → SpellsInteger (45 ∷ w) z
below_takes w zero z e f = absurd cc
below_takes w (suc n) z e f =
    let g = some_if (leb 1 (suc n) && leb (suc n) (2 ^ 63)) (negsuc n) z f in
    let b = and_parts (leb 1 (suc n)) (leb (suc n) (2 ^ 63)) g.0 in
    let few : suc n ≤ 2 ^ 63 = leb-true _ _ b.1 in
    subst (SpellsInteger (45 ∷ w)) g.1 (record { spelled = ap (λ (y : List ℕ). 45 ∷ y) (decimal-number w (suc n) e).0; fits = fits_neg n (omega arith) })

integer_by : (c : ℕ) (cs : List ℕ) (z : ℤ) (b : Bool) → (b ≡ true → c ≡ 45) → (if b then option_and_then below_zero (number cs) else option_and_then from_zero (number (c ∷ cs))) ≡ Some z
    → SpellsInteger (c ∷ cs) z
integer_by c cs z true is e =
    subst (λ (d : ℕ). SpellsInteger (d ∷ cs) z) (sym (is refl)) (option_and_then_some below_zero (number cs) z e (λ n p q. below_takes cs n z p q))
integer_by c cs z false is e = option_and_then_some from_zero (number (c ∷ cs)) z e (λ n p q. from_takes (c ∷ cs) n z p q)

pub integer_takes : (w : List ℕ) (z : ℤ) → integer w ≡ Some z → SpellsInteger w z
unfolding integer
integer_takes [] z e = absurd cc
integer_takes (c ∷ cs) z e = integer_by c cs z (c == 45) (same_byte c 45) e

-- a signed number's spelling is one word
pub integer_word : (z : ℤ) → FitsSigned w64 z → IsKey (signed_decimal z)
integer_word (pos n) f =
    let few = small_pos n f in
    record { spaces = lacks_signed 32 (pos n) (omega arith) refl (omega arith); feeds = lacks_signed 10 (pos n) (omega arith) refl (omega arith) }
integer_word (negsuc n) f =
    let few = small_neg n f in
    record { spaces = lacks_signed 32 (negsuc n) (omega arith) refl (omega arith); feeds = lacks_signed 10 (negsuc n) (omega arith) refl (omega arith) }
