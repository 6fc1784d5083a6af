-- A multiplier that is read is the one that was written, and what was written is read again.
use Rattle.std.proofs.Common.{◌≡◌, ℕ, ℤ, pos, negsuc, zero, suc, ◌+◌, ◌*◌, ◌/◌, ◌<◌, ◌≤◌, ◌^◌, Bool, true, false, List, [], ◌∷◌, ◌++◌, Option, Some}
use Rattle.std.proofs.Common.{None, Ok, eqb-true, lt-ltb, refl, sym, ap, subst, ◌∙◌, unsigned_abs, append-nil, arith}
use Rattle.std.specs.Prelude.{◌==◌, ◌&&◌, ◌*ℤ◌, int_lt, int_div, if◌then◌else◌}
use Rattle.std.specs.List.{AllByRecursion}
use Rattle.std.specs.Fmt.{decimal, signed_decimal}
use Rattle.std.proofs.Math.IntN.{*ℤ_comm}
use Rattle.std.proofs.lemmas.Bool.{eq-eqb}
use Rattle.std.proofs.lemmas.Int.{ints}
use native.Mathlib.Nat.{mul-div_cancel}
use borrow.Author.Differences.{up, down}
use Rattle.rational_theory.specs.Rational.{ℚ, over, whole}
use Rattle.rational_theory.specs.Gcd.{gcd, lcm}
use Rattle.rational_theory.specs.laws.Fractions.{times_part, part_pos}
use Rattle.rational_theory.proofs.Integers.{up-mul, down-mul}
use Rattle.rational_theory.proofs.Fractions.{times-int_div}
use Rattle.rational_theory.proofs.Arithmetic.{same_ratio, over_terms, own_ratio}
use Rattle.rational_theory.proofs.Lowest.{num_size, den_size}
use Rattle.rational_theory.proofs.Multiples.{IsMultiple, multiple_on, lcm_second}
use Rattle.narrow_fraction.specs.Fraction.{FitsFrac}
use Rattle.named_row.specs.declared.leaves.Weight.{Weight}
use Rattle.quantity_text.specs.Exact.{exact_spelling, denominator_text}
use Rattle.plan_text.specs.declared.form.LeafForm.{LeafForm}
use Rattle.plan_text.specs.declared.form.LeafForm.TheVariants.{Over, Plain}
use Rattle.plan_text.specs.Fractions.{exact}
use Rattle.plan_text.specs.Leaves.{denominator_from, times_denominator, multiplier_word}
use Rattle.plan_text.specs.Namings.{IsFormed}
use Rattle.plan_text.specs.CertificateReading.{or_number, over_whole, multiplier_of, above_zero}
use Rattle.plan_text.proofs.Fields.{IsKey}
use Rattle.plan_text.proofs.ExactWords.{exact_takes, exact_again, exact_word}
use Rattle.plan_text.proofs.WordLines.{number_ok}
use Rattle.plan_text.proofs.Denominators.{denominator_multiple}

-- ---- whole numbers

whole_parts : (z : ℤ) → ((whole z).num ≡ z) × ((whole z).den ≡ 1)
unfolding whole
whole_parts z = (refl, refl)

-- a fraction over 1 is spelled as its numerator
whole_spelling : (x : ℚ) → x.den ≡ 1 → exact_spelling x ≡ signed_decimal x.num
whole_spelling x e = ap (λ (d : ℕ). signed_decimal x.num ++ denominator_text d) e ∙ append-nil (signed_decimal x.num)

spelled_whole : (z : ℤ) → exact_spelling (whole z) ≡ signed_decimal z
spelled_whole z = whole_spelling (whole z) (whole_parts z).1 ∙ ap signed_decimal (whole_parts z).0

fits_whole : (z : ℤ) → unsigned_abs z < 2 ^ 127 → FitsFrac (whole z)
fits_whole z few = record { num_fits = subst (λ (y : ℤ). unsigned_abs y < 2 ^ 127) (sym (whole_parts z).0) few; den_fits = subst (λ (d : ℕ). d < 2 ^ 127) (sym (whole_parts z).1) (omega arith) }

pub exact_whole : (z : ℤ) → unsigned_abs z < 2 ^ 127 → exact (signed_decimal z) ≡ Some (whole z)
exact_whole z few = ap exact (sym (spelled_whole z)) ∙ exact_again (whole z) (fits_whole z few)

pub whole_word : (z : ℤ) → unsigned_abs z < 2 ^ 127 → IsKey (signed_decimal z)
whole_word z few = subst IsKey (spelled_whole z) (exact_word (whole z) (fits_whole z few))

-- ---- whole numbers over a denominator

quotient_is : (g n d : ℕ) → 0 < n → g * n ≡ d → d / n ≡ g
quotient_is g n d h e = ap (λ m. m / n) (sym e) ∙ mul-div_cancel g h

-- a number over a denominator, in lowest terms, times the denominator is the number
pub times_over : (d : ℕ) (z : ℤ) → 0 < d → times_denominator d (over z d) ≡ z
unfolding over
times_over zero z above = absurd (omega arith)
times_over (suc d) z above =
    let g = gcd (unsigned_abs z) (suc d) in
    let t = times_part (unsigned_abs z) (suc d) above in
    let again : suc d / (suc d / g) ≡ g = quotient_is g (suc d / g) (suc d) (part_pos (unsigned_abs z) (suc d) above) t.1 in
    ap (λ (n : ℕ). int_div z (pos g) *ℤ pos n) again ∙ *ℤ_comm (int_div z (pos g)) (pos g) ∙ times-int_div z g t.0

-- and the other way round, where a fraction's denominator divides it
pub over_times : (d : ℕ) (x : ℚ) → 0 < d → IsMultiple d x.den → over (times_denominator d x) d ≡ x
over_times d x above m =
    let k = m.times in
    let part : d / x.den ≡ k = quotient_is k x.den d x.positive (sym m.is) in
    let z = x.num *ℤ pos k in
    ap (λ (n : ℕ). over (x.num *ℤ pos n) d) part
    ∙ same_ratio (over z d) x (up x.num * k) (down x.num * k) d (up x.num) (down x.num) x.den (over_terms z (up x.num * k) (down x.num * k) d above
    (omega (arith, ints, up-mul x.num (pos k), down-mul x.num (pos k)))) (own_ratio x)
    (crossed (up x.num) (down x.num) k d x.den m.is)
  where
    crossed : (a b k d e : ℕ) → d ≡ k * e → a * k * e + b * d ≡ b * k * e + a * d
    crossed a b k d e f = rw f (omega arith)

pub fits_over : (d : ℕ) (z : ℤ) → 0 < d → d < 2 ^ 127 → unsigned_abs z < 2 ^ 127 → FitsFrac (over z d)
fits_over d z above small few = record { num_fits = omega (arith, num_size z d above, few); den_fits = omega (arith, den_size z d above, small) }

-- ---- a multiplier

pub record MultiplierOf (form : LeafForm) (w : List ℕ) (x : ℚ) : Type 0 where
  pub spelled : (v : Weight) → v.by ≡ x → w ≡ multiplier_word form v
  pub fits : FitsFrac x

over_ok : (d : ℕ) (o : Option ℚ) (x : ℚ) → over_whole d o ≡ Some x → (y : ℚ) × (o ≡ Some y) × (y.den ≡ 1) × (over y.num d ≡ x)
over_ok d None x e = absurd cc
over_ok d (Some y) x e = whole_by (y.den == 1) (eqb-true y.den 1) e
  where
    whole_by : (b : Bool) → (b ≡ true → y.den ≡ 1) → (if b then Some (over y.num d) else None) ≡ Some x → (u : ℚ) × (Some y ≡ Some u) × (u.den ≡ 1) × (over u.num d ≡ x)
    whole_by true is f = (y, refl, is refl, cc)
    whole_by false is f = absurd cc

pub multiplier_takes : (form : LeafForm) (line : ℕ) (w : List ℕ) (x : ℚ) → IsFormed form → multiplier_of form line w ≡ Ok x → MultiplierOf form w x
unfolding multiplier_of
multiplier_takes Plain line w x formed e =
    let s = exact_takes w x (number_ok line (exact w) x e) in
    record { spelled = λ v is. s.spelled ∙ ap exact_spelling (sym is); fits = s.fits }
multiplier_takes (Over d) line w x formed e =
    let o = over_ok d (exact w) x (number_ok line (over_whole d (exact w)) x e) in
    let s = exact_takes w o.0 o.1 in
    let above : 0 < d = omega (arith, formed.0) in
    let times : times_denominator d x ≡ o.0.num = ap (times_denominator d) (sym o.3) ∙ times_over d o.0.num above in
    record {
      spelled = λ v is. s.spelled ∙ whole_spelling o.0 o.2 ∙ ap signed_decimal (sym times) ∙ ap (λ (y : ℚ). signed_decimal (times_denominator d y)) (sym is);
      fits = subst FitsFrac o.3 (fits_over d o.0.num above formed.1 s.fits.num_fits);
    }

-- a multiplier that can be written in this form
abbrev pub Suits : LeafForm → Weight → Type 0
Suits Plain v = FitsFrac v.by
Suits (Over d) v = (0 < d) × IsMultiple d v.by.den × (unsigned_abs (times_denominator d v.by) < 2 ^ 127)

pub multiplier_again : (form : LeafForm) (line : ℕ) (v : Weight) → Suits form v → multiplier_of form line (multiplier_word form v) ≡ Ok v.by
unfolding multiplier_of
multiplier_again Plain line v suits = rw (exact_again v.by suits) refl
multiplier_again (Over d) line v suits =
    let z = times_denominator d v.by in
    let p = whole_parts z in
    ap (λ (o : Option ℚ). or_number line (over_whole d o)) (exact_whole z suits.2)
    ∙ ap (λ (b : Bool). or_number line (if b then Some (over (whole z).num d) else None)) (eq-eqb (whole z).den 1 p.1)
    ∙ ap (λ (y : ℤ). Ok (over y d)) p.0
    ∙ ap (λ (y : ℚ). Ok y) (over_times d v.by suits.0 suits.1)

pub multiplier_is_word : (form : LeafForm) (v : Weight) → Suits form v → IsKey (multiplier_word form v)
multiplier_is_word Plain v suits = exact_word v.by suits
multiplier_is_word (Over d) v suits = whole_word (times_denominator d v.by) suits.2

-- ---- the denominators of a leaf

pub each_divides : (d : ℕ) (ws : List Weight) → AllByRecursion (λ (w : Weight). IsMultiple (denominator_from d ws) w.by.den) ws
unfolding denominator_from
each_divides d [] = tt
each_divides d (w ∷ ws) = (multiple_on (denominator_multiple (lcm d w.by.den) ws) (lcm_second d w.by.den), each_divides (lcm d w.by.den) ws)

-- ---- the denominator in a leaf's first line

pub record DenominatorOf (w : List ℕ) (d : ℕ) : Type 0 where
  pub spelled : w ≡ decimal d
  pub formed : IsFormed (Over d)

above_ok : (o : Option ℚ) (d : ℕ) → above_zero o ≡ Some d → (y : ℚ) × (o ≡ Some y) × (y.den ≡ 1) × (y.num ≡ pos d) × (1 ≤ d)
above_ok None d e = absurd cc
above_ok (Some y) d e = whole_by y.num refl (y.den == 1) (eqb-true y.den 1) e
  where
    some_by : (n : ℕ) (t : Bool) → (if t then Some (suc n) else None) ≡ Some d → suc n ≡ d
    some_by n true f = cc
    some_by n false f = absurd cc

    whole_by : (z : ℤ) → y.num ≡ z → (b : Bool) → (b ≡ true → y.den ≡ 1) → (if b && int_lt (pos 0) z then Some (unsigned_abs z) else None) ≡ Some d
        → (u : ℚ) × (Some y ≡ Some u) × (u.den ≡ 1) × (u.num ≡ pos d) × (1 ≤ d)
    whole_by z k false is f = absurd cc
    whole_by (pos zero) k true is f = absurd cc
    whole_by (negsuc n) k true is f = absurd cc
    whole_by (pos (suc n)) k true is f =
        let same : suc n ≡ d = some_by n (int_lt (pos 0) (pos (suc n))) f in
        (y, refl, is refl, k ∙ ap (λ (m : ℕ). pos m) same, omega (arith, same))

pub denominator_takes : (line : ℕ) (w : List ℕ) (d : ℕ) → or_number line (above_zero (exact w)) ≡ Ok d → DenominatorOf w d
denominator_takes line w d e =
    let o = above_ok (exact w) d (number_ok line (above_zero (exact w)) d e) in
    let s = exact_takes w o.0 o.1 in
    record {
      spelled = s.spelled ∙ whole_spelling o.0 o.2 ∙ ap signed_decimal o.3;
      formed = (o.4, subst (λ (z : ℤ). unsigned_abs z < 2 ^ 127) o.3 s.fits.num_fits);
    }

above_again : (d : ℕ) → 1 ≤ d → above_zero (Some (whole (pos d))) ≡ Some d
unfolding whole
above_again zero h = absurd (omega arith)
above_again (suc d) h = rw (lt-ltb 0 (suc d) (omega arith)) refl

pub denominator_again : (line d : ℕ) → IsFormed (Over d) → or_number line (above_zero (exact (decimal d))) ≡ Ok d
denominator_again line d formed = ap (λ (o : Option ℚ). or_number line (above_zero o)) (exact_whole (pos d) formed.1) ∙ ap (or_number line) (above_again d formed.0)
