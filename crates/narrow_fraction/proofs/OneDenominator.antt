-- A sum over the least common denominator: its steps, its value, and the short ways to it.
use Rattle.std.proofs.Common.{◌≡◌, refl, ℕ, ℤ, pos, neg_ℤ, ◌+ℤ◌, ◌*ℤ◌, ◌+◌, ◌*◌, ◌/◌, ◌<◌, ◌^◌, sym, ◌∙◌, SFits, ap, subst, unsigned_abs, arith, mul-pos, mul-one}
use Rattle.std.proofs.Math.Nat.{div_self, div-one}
use Rattle.std.proofs.Math.IntN.{+ℤ_comm, zero-*ℤ}
use Rattle.std.proofs.lemmas.Int.{ints, unsigned_abs-mul}
use Prim.Native.Nat.{◌∣◌}
use native.Mathlib.Nat.{dvd-mul_left, dvd-mul_right, eq-one_of_dvd-one}
use borrow.Author.Differences.{up, down, same_in}
use Rattle.std.specs.Prelude.{int_div}
use Rattle.std.specs.Int.{w128, IsGcd}
use Rattle.std.proofs.lemmas.Nat.Gcd.{dvd_trans}
use Rattle.narrow_fraction.proofs.Parts.{coprime_part, coprime_turn, coprime_times}
use Rattle.rational_theory.specs.Gcd.{gcd}
use Rattle.rational_theory.specs.laws.Coprime.{gcd-IsGcd}
use Rattle.rational_theory.proofs.Coprime.{Coprime-cancel}
use Rattle.rational_theory.proofs.Integers.{up-mul, down-mul, up-neg, down-neg, *ℤ-+ℤ}
use Rattle.rational_theory.specs.laws.Fractions.{times_part, part_pos, parts_reduced}
use Rattle.rational_theory.proofs.Fractions.{first_part_pos, times-int_div, IsGcd-one, gcd-is, gcd_comm, gcd-one, gcd-self}
use Rattle.rational_theory.specs.Rational.{ℚ, whole, over, ◌+ℚ◌}
use Rattle.rational_theory.proofs.Arithmetic.{same_ratio, over_terms, own_ratio, sum_ratio, +ℚ-zero}
use Rattle.rational_theory.proofs.Order.{zero_num}
use Rattle.narrow_fraction.specs.Fraction.{FitsFrac}
use Rattle.narrow_fraction.specs.Past128.{SumFits}

sum_cross : (ux vx uy vy x y g b d : ℕ) → g * b ≡ x → g * d ≡ y
    → (ux * d + uy * b) * (x * y) + (vx * y + vy * x) * (x * d) ≡ (vx * d + vy * b) * (x * y) + (ux * y + uy * x) * (x * d)
sum_cross ux vx uy vy x y g b d e f = rw (← e, ← f) (omega arith)

-- the sum, over the least common denominator
pub sum-over : (x y : ℚ) → over (x.num *ℤ pos (y.den / gcd x.den y.den) +ℤ y.num *ℤ pos (x.den / gcd x.den y.den)) (x.den * (y.den / gcd x.den y.den)) ≡ x +ℚ y
sum-over x y =
    let b = x.den / gcd x.den y.den in
    let d = y.den / gcd x.den y.den in
    let t = times_part x.den y.den y.positive in
    same_ratio _ _ _ _ _ _ _ _
    (over_terms (x.num *ℤ pos d +ℤ y.num *ℤ pos b) (up x.num * d + up y.num * b) (down x.num * d + down y.num * b) (x.den * d)
    (mul-pos x.positive (part_pos x.den y.den y.positive)) (omega (arith, ints)))
    (sum_ratio x y _ _ _ _ _ _ (own_ratio x) (own_ratio y))
    (sum_cross (up x.num) (down x.num) (up y.num) (down y.num) x.den y.den (gcd x.den y.den) b d t.0 t.1)

once : (z : ℤ) → z *ℤ pos 1 ≡ z
once z = omega (arith, ints)

-- g divides what is left of a multiple of it when a multiple of it is taken away
shifted : (g b : ℕ) (a t c : ℤ) → pos g *ℤ t ≡ a +ℤ c *ℤ pos (g * b) → a ≡ pos g *ℤ (t +ℤ neg_ℤ (c *ℤ pos b))
shifted g b a t c e =
    let k = c *ℤ pos b in
    let h : c *ℤ pos (g * b) ≡ pos g *ℤ k = same_in _ _ (simp (up-mul, down-mul) (omega arith)) in
    let f : pos g *ℤ t ≡ a +ℤ pos g *ℤ k = e ∙ ap (λ z. a +ℤ z) h in
    let m : pos g *ℤ neg_ℤ k ≡ neg_ℤ (pos g *ℤ k) = same_in _ _ (simp (up-mul, down-mul, up-neg, down-neg) (omega arith)) in
    let f' : a ≡ pos g *ℤ t +ℤ pos g *ℤ neg_ℤ k = rw m (omega (arith, ints)) in
    f' ∙ sym (*ℤ-+ℤ (pos g) t (neg_ℤ k))

rest_divides : (g b : ℕ) (a t c : ℤ) → pos g *ℤ t ≡ a +ℤ c *ℤ pos (g * b) → g ∣ unsigned_abs a
rest_divides g b a t c e =
    let w = t +ℤ neg_ℤ (c *ℤ pos b) in
    subst (λ n. g ∣ n) (sym (ap unsigned_abs (shifted g b a t c e) ∙ unsigned_abs-mul (pos g) w)) (dvd-mul_right g (unsigned_abs w))

-- ---- with a whole number
module _ (x y : ℚ) (e : y.den ≡ 1) where
  whole_gcd : gcd x.den y.den ≡ 1
  whole_gcd = ap (gcd x.den) e ∙ gcd-one x.den

  whole_right : y.den / gcd x.den y.den ≡ 1
  whole_right = rw (whole_gcd, e) (div-one 1)

  whole_left : x.den / gcd x.den y.den ≡ x.den
  whole_left = rw whole_gcd (div-one x.den)

  pub whole_fits : SumFits x y → (unsigned_abs (y.num *ℤ pos x.den) < 2 ^ 127) × (unsigned_abs (x.num +ℤ y.num *ℤ pos x.den) < 2 ^ 127)
  whole_fits f = (rw whole_left at f.right, rw (whole_left, whole_right, once x.num) at f.top)

  pub fits_whole : unsigned_abs x.num < 2 ^ 127 → x.den < 2 ^ 127 → unsigned_abs (y.num *ℤ pos x.den) < 2 ^ 127 → unsigned_abs (x.num +ℤ y.num *ℤ pos x.den) < 2 ^ 127 → SumFits x y
  fits_whole n d p q = record {
    left = rw (whole_right, once x.num) n;
    right = rw whole_left p;
    top = rw (whole_left, whole_right, once x.num) q;
    bottom = rw (whole_right, mul-one x.den) d;
  }

  -- no common divisor is left: what divides the sum and x.den divides x.num too
  pub whole_reduced : gcd (unsigned_abs (x.num +ℤ y.num *ℤ pos x.den)) x.den ≡ 1
  whole_reduced =
      let a = x.num +ℤ y.num *ℤ pos x.den in
      let g = gcd (unsigned_abs a) x.den in
      let t = times_part (unsigned_abs a) x.den x.positive in
      let q : pos g *ℤ int_div a (pos g) ≡ a = times-int_div a g t.0 in
      let r : g ∣ unsigned_abs x.num = rest_divides g (x.den / g) x.num (int_div a (pos g)) y.num (q ∙ ap (λ n. x.num +ℤ y.num *ℤ pos n) (sym t.1)) in
      eq-one_of_dvd-one (subst (λ n. g ∣ n) x.reduced ((gcd-IsGcd (unsigned_abs x.num) x.den).2 g r (gcd-IsGcd (unsigned_abs a) x.den).1))

  pub whole_sum : over (x.num +ℤ y.num *ℤ pos x.den) x.den ≡ x +ℚ y
  whole_sum = rw (whole_left, whole_right, once x.num, mul-one x.den) at (sum-over x y)

-- ---- with 0
whole_den : (z : ℤ) → (whole z).den ≡ 1
unfolding whole
whole_den z = refl

pub zero_sum : (x y : ℚ) → FitsFrac x → unsigned_abs y.num ≡ 0 → SumFits x y × (x ≡ x +ℚ y)
zero_sum x y f e =
    let z : y.num ≡ pos 0 = omega (arith, ints) in
    let w : y ≡ whole (pos 0) = zero_num y z in
    let d : y.den ≡ 1 = ap (λ (t : ℚ). t.den) w ∙ whole_den (pos 0) in
    let m : y.num *ℤ pos x.den ≡ pos 0 = ap (λ n. n *ℤ pos x.den) z ∙ zero-*ℤ (pos x.den) in
    (fits_whole x y d f.num_fits f.den_fits (rw m (omega arith)) (omega (arith, ints, m, f.num_fits)), sym (+ℚ-zero x) ∙ ap (λ t. x +ℚ t) (sym w))

-- ---- over one denominator
module _ (x y : ℚ) (e : x.den ≡ y.den) where
  same_gcd : gcd x.den y.den ≡ y.den
  same_gcd = ap (λ n. gcd n y.den) e ∙ gcd-self y.den

  same_right : y.den / gcd x.den y.den ≡ 1
  same_right = rw same_gcd (div_self y.positive)

  same_left : x.den / gcd x.den y.den ≡ 1
  same_left = rw (same_gcd, e) (div_self y.positive)

  pub same_fits : SumFits x y → unsigned_abs (x.num +ℤ y.num) < 2 ^ 127
  same_fits f = rw (same_left, same_right, once x.num, once y.num) at f.top

  pub fits_same : unsigned_abs x.num < 2 ^ 127 → unsigned_abs y.num < 2 ^ 127 → x.den < 2 ^ 127 → unsigned_abs (x.num +ℤ y.num) < 2 ^ 127 → SumFits x y
  fits_same n m d h = record {
    left = rw (same_right, once x.num) n;
    right = rw (same_left, once y.num) m;
    top = rw (same_left, same_right, once x.num, once y.num) h;
    bottom = rw (same_right, mul-one x.den) d;
  }

  pub same_sum : over (x.num +ℤ y.num) x.den ≡ x +ℚ y
  same_sum = rw (same_left, same_right, once x.num, once y.num, mul-one x.den) at (sum-over x y)

-- ---- the other way round
-- the two numerators over one denominator change places
pub fits_comm : (x y : ℚ) → SumFits x y → SumFits y x
fits_comm x y f =
    let g = gcd_comm y.den x.den in
    let t = times_part x.den y.den y.positive in
    record {
      left = rw g f.right;
      right = rw g f.left;
      top = rw g (subst (λ z. unsigned_abs z < 2 ^ 127) (+ℤ_comm (x.num *ℤ pos (y.den / gcd x.den y.den)) (y.num *ℤ pos (x.den / gcd x.den y.den))) f.top);
      bottom = rw g (subst (λ n. n < 2 ^ 127) (turn x.den y.den (gcd x.den y.den) (x.den / gcd x.den y.den) (y.den / gcd x.den y.den) t.0 t.1) f.bottom);
    }
  where
    turn : (x y g b d : ℕ) → g * b ≡ x → g * d ≡ y → x * d ≡ y * b
    turn x y g b d e f = rw (← e, ← f) (omega arith)

pub fits_i128 : (z : ℤ) → unsigned_abs z < 2 ^ 127 → SFits w128 z
fits_i128 z h = omega (arith, ints)

-- ---- what the sum's numerator shares with its denominator
-- the numerator shares nothing with the left part b of the denominators
top_coprime : (x : ℚ) (c : ℤ) (b d : ℕ) → 0 < b → b ∣ x.den → gcd b d ≡ 1 → gcd (unsigned_abs (x.num *ℤ pos d +ℤ c *ℤ pos b)) b ≡ 1
top_coprime x c b d h p r =
    let top = x.num *ℤ pos d +ℤ c *ℤ pos b in
    let k = gcd (unsigned_abs top) b in
    let t = times_part (unsigned_abs top) b h in
    let q : pos k *ℤ int_div top (pos k) ≡ top = times-int_div top k t.0 in
    let one : k ∣ unsigned_abs (x.num *ℤ pos d) = rest_divides k (b / k) (x.num *ℤ pos d) (int_div top (pos k)) c (q ∙ ap (λ n. x.num *ℤ pos d +ℤ c *ℤ pos n) (sym t.1)) in
    let kb : k ∣ b = (gcd-IsGcd (unsigned_abs top) b).1 in
    let kx : IsGcd k (unsigned_abs x.num) 1 = coprime_turn _ _ (coprime_part (unsigned_abs x.num) x.den k (IsGcd-one (unsigned_abs x.num) x.den x.reduced) (dvd_trans k kb p)) in
    let kd : k ∣ d = Coprime-cancel k (unsigned_abs x.num) d kx (subst (λ n. k ∣ n) (unsigned_abs-mul x.num (pos d)) one) in
    eq-one_of_dvd-one (subst (λ n. k ∣ n) r ((gcd-IsGcd b d).2 k kb kd))

-- so what it shares with the denominator divides the divisor that the denominators share
pub top_gcd : (x y : ℚ) → gcd (unsigned_abs (x.num *ℤ pos (y.den / gcd x.den y.den) +ℤ y.num *ℤ pos (x.den / gcd x.den y.den))) (gcd x.den y.den)
    ≡ gcd (unsigned_abs (x.num *ℤ pos (y.den / gcd x.den y.den) +ℤ y.num *ℤ pos (x.den / gcd x.den y.den))) (x.den * (y.den / gcd x.den y.den))
top_gcd x y =
    let g = gcd x.den y.den in
    let b = x.den / g in
    let d = y.den / g in
    let top = x.num *ℤ pos d +ℤ y.num *ℤ pos b in
    let t = times_part x.den y.den y.positive in
    let bx : b ∣ x.den = subst (λ n. b ∣ n) t.0 (dvd-mul_left b g) in
    let dy : d ∣ y.den = subst (λ n. d ∣ n) t.1 (dvd-mul_left d g) in
    let r : gcd b d ≡ 1 = parts_reduced x.den y.den y.positive in
    let left : gcd (unsigned_abs top) b ≡ 1 = top_coprime x y.num b d (first_part_pos x.den y.den x.positive y.positive) bx r in
    let right : gcd (unsigned_abs top) d ≡ 1 = ap (λ z. gcd (unsigned_abs z) d) (+ℤ_comm (x.num *ℤ pos d) (y.num *ℤ pos b))
    ∙ top_coprime y x.num d b (part_pos x.den y.den y.positive) dy (gcd_comm d b ∙ r) in
    let both : IsGcd (unsigned_abs top) (b * d) 1 = coprime_turn _ _ (coprime_times b d (unsigned_abs top) (coprime_turn _ _ (IsGcd-one _ _ left)) (coprime_turn _ _ (IsGcd-one _ _ right))) in
    let turned : g * b * d ≡ b * d * g = omega arith in
    let parts : x.den * d ≡ b * d * g = ap (λ n. n * d) (sym t.0) ∙ turned in
    let gx : g ∣ x.den * d = subst (λ n. g ∣ n) (sym parts) (dvd-mul_left g (b * d)) in
    let k = gcd (unsigned_abs top) g in
    sym (gcd-is (unsigned_abs top) (x.den * d) k (
      (gcd-IsGcd (unsigned_abs top) g).0,
      dvd_trans k (gcd-IsGcd (unsigned_abs top) g).1 gx,
      λ e p q. (gcd-IsGcd (unsigned_abs top) g).2 e p (Coprime-cancel e (b * d) g (coprime_turn _ _ (coprime_part (b * d) (unsigned_abs top) e (coprime_turn _ _ both) p))
          (subst (λ n. e ∣ n) parts q)),
    ))
