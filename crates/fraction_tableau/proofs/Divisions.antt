-- A narrow row that is divided.
use Rattle.std.proofs.Common.{◌≡◌, ℕ, zero, suc, ℤ, pos, negsuc, neg_ℤ, Bool, true, false, cond, eqb, None, List, length, ◌<◌, ◌≤◌, refl, ◌∙◌, sym, ap, subst, arith, zero-lt-suc, unsigned_abs}
use Rattle.std.specs.Prelude.{int_lt}
use Rattle.std.proofs.lemmas.Int.{ints}
use Rattle.rational_theory.specs.Rational.{ℚ, over, whole, inverse_ℚ, ◌*ℚ◌}
use Rattle.rational_theory.specs.laws.Fractions.{abs-neg_ℤ}
use Rattle.rational_theory.proofs.Integers.{up-neg, down-neg}
use Rattle.rational_theory.proofs.Arithmetic.{same_ratio, over_ratio, product_ratio, whole_ratio, *ℚ_comm, *ℚ_assoc, *ℚ-zero}
use Rattle.rational_theory.proofs.Order.{*ℚ-inverse, *ℚ_cancel, times_den, whole_not_zero}
use Rattle.rational_theory.proofs.Ring.{one-*ℚ}
use Rattle.simplex_theory.specs.Lines.{divided}
use Rattle.narrow_fraction.specs.Fraction.{FitsFrac}
use Rattle.fraction_tableau.specs.KeptCells.{number_in}
use Rattle.fraction_tableau.specs.Refusals.{divide_at}
use Rattle.fraction_tableau.specs.Scales.{numerator, IsOver, IsScaled, IsDividing, pivot_of}
use Rattle.fraction_tableau.specs.declared.scale.Scale.{Scale}
use Rattle.fraction_tableau.specs.declared.whole_dividing.Dividing.{Dividing}
use Rattle.fraction_tableau.proofs.Merges.{divided_number}
use Rattle.fraction_tableau.proofs.Making.{over_fit}
use Rattle.fraction_tableau.proofs.Scales.{is_over}
use Rattle.fraction_tableau.proofs.Small.{scaled_small, quotient_free, other_none}

over_not_zero : (p : ℤ) (d : ℕ) → 0 < d → (p ≡ pos 0 → ⊥) → over p d ≡ whole (pos 0) → ⊥
over_not_zero p d h n e = whole_not_zero p n (sym (times_den p d h) ∙ ap (λ t. t *ℚ whole (pos d)) e ∙ *ℚ_comm _ _ ∙ *ℚ-zero _)

pub pivot_some : (t : Dividing) → IsDividing t → pivot_of t ≡ whole (pos 0) → ⊥
pivot_some t i = over_not_zero t.pivot t.row.denominator i.above i.some

-- n/|p| with p's sign, times p/d, is n/d
back : (p n : ℤ) (d : ℕ) (b : Bool) → 0 < d → (p ≡ pos 0 → ⊥) → int_lt p (pos 0) ≡ b → over (cond b (neg_ℤ n) n) (unsigned_abs p) *ℚ over p d ≡ over n d
back (pos zero) n d b h z e = absurd (z refl)
back (pos (suc a)) n d true h z e = absurd (omega (arith, ints))
back (pos (suc a)) n d false h z e =
    same_ratio _ _ _ _ _ _ _ _ (product_ratio _ _ _ _ _ _ _ _ (over_ratio n (suc a) (zero-lt-suc a)) (over_ratio (pos (suc a)) d h)) (over_ratio n d h) (omega arith)
back (negsuc a) n d true h z e =
    same_ratio _ _ _ _ _ _ _ _ (product_ratio _ _ _ _ _ _ _ _ (over_ratio (neg_ℤ n) (suc a) (zero-lt-suc a)) (over_ratio (negsuc a) d h)) (over_ratio n d h) (simp (up-neg, down-neg) (omega arith))
back (negsuc a) n d false h z e = absurd (omega (arith, ints))

undone : (p x : ℚ) → (p ≡ whole (pos 0) → ⊥) → x *ℚ inverse_ℚ p *ℚ p ≡ x
undone p x n = ap (λ t. t *ℚ p) (*ℚ_comm x (inverse_ℚ p)) ∙ *ℚ_comm _ p ∙ sym (*ℚ_assoc p (inverse_ℚ p) x) ∙ ap (λ t. t *ℚ x) (*ℚ-inverse p n) ∙ one-*ℚ x

divided_over : (p n : ℤ) (d : ℕ) (b : Bool) → 0 < d → (p ≡ pos 0 → ⊥) → int_lt p (pos 0) ≡ b → over (cond b (neg_ℤ n) n) (unsigned_abs p) ≡ over n d *ℚ inverse_ℚ (over p d)
divided_over p n d b h z e = let m = over_not_zero p d h z in *ℚ_cancel _ _ (over p d) m (back p n d b h z e ∙ sym (undone (over p d) (over n d) m))

own_unit : (d : ℕ) → 0 < d → over (pos d) d ≡ whole (pos 1)
own_unit d h = same_ratio _ _ _ _ _ _ _ _ (over_ratio (pos d) d h) (whole_ratio (pos 1)) (omega arith)

pub divided_is : (t : Dividing) (own : Bool) (x : ℚ) → IsDividing t → IsOver t.row.denominator t.row.most x
    → over (cond (int_lt t.pivot (pos 0)) (neg_ℤ (cond own (pos t.row.denominator) (numerator t.row.denominator x))) (cond own (pos t.row.denominator) (numerator t.row.denominator x)))
    (unsigned_abs t.pivot) ≡ cond own (inverse_ℚ (pivot_of t)) (x *ℚ inverse_ℚ (pivot_of t))
divided_is t true x i o = divided_over t.pivot (pos t.row.denominator) t.row.denominator (int_lt t.pivot (pos 0)) i.above i.some refl
    ∙ ap (λ u. u *ℚ inverse_ℚ (pivot_of t)) (own_unit t.row.denominator i.above) ∙ one-*ℚ _
divided_is t false x i o = divided_over t.pivot (numerator t.row.denominator x) t.row.denominator (int_lt t.pivot (pos 0)) i.above i.some refl ∙ ap (λ u. u *ℚ inverse_ℚ (pivot_of t)) o.same

pub own_size : (t : Dividing) (own : Bool) (n : ℤ) → IsDividing t → unsigned_abs n ≤ t.row.most → unsigned_abs (cond own (pos t.row.denominator) n) ≤ t.row.most
own_size t true n i h = i.least
own_size t false n i h = h

signed_size : (b : Bool) (n : ℤ) (m : ℕ) → unsigned_abs n ≤ m → unsigned_abs (cond b (neg_ℤ n) n) ≤ m
signed_size true n m h = rw (abs-neg_ℤ n) h
signed_size false n m h = h

pub size_above : (p : ℤ) → (p ≡ pos 0 → ⊥) → 0 < unsigned_abs p
size_above (pos zero) z = absurd (z refl)
size_above (pos (suc a)) z = zero-lt-suc a
size_above (negsuc a) z = zero-lt-suc a

pub divided_size : (t : Dividing) (own : Bool) (x : ℚ) → IsDividing t → IsOver t.row.denominator t.row.most x
    → unsigned_abs (cond (int_lt t.pivot (pos 0)) (neg_ℤ (cond own (pos t.row.denominator) (numerator t.row.denominator x)))
    (cond own (pos t.row.denominator) (numerator t.row.denominator x))) ≤ t.row.most
divided_size t own x i o = signed_size (int_lt t.pivot (pos 0)) _ t.row.most (own_size t own _ i o.size)

-- ---- the whole row
-- each number of the divided row is over the pivot's size, and none is greater than the greatest before
pub divided_scaled : (t : Dividing) (d : List ℚ) → IsDividing t → IsScaled t.row d → pivot_of t ≡ number_in d t.place → t.place < length d → (k : ℕ)
    → IsOver (unsigned_abs t.pivot) t.row.most (number_in (divided t.place d) k)
divided_scaled t d i s p h k =
    is_over _ (unsigned_abs t.pivot) t.row.most _ (size_above t.pivot i.some)
    (sym (divided_number t.place (inverse_ℚ (number_in d t.place)) d k h refl) ∙ ap (λ u. cond (eqb k t.place) (inverse_ℚ u) (number_in d k *ℚ inverse_ℚ u)) (sym p)
    ∙ sym (divided_is t (eqb k t.place) (number_in d k) i (s.numbers k)))
    (divided_size t (eqb k t.place) (number_in d k) i (s.numbers k))

-- no quotient is refused
pub whole_passes : (i j : ℕ) (s : Dividing) (d : List ℚ) (k : ℕ) → IsScaled s.row d → (number_in d j ≡ whole (pos 0) → ⊥) → divide_at i j d k ≡ None
whole_passes i j s d k h n = let a = scaled_small s.row d h in other_none (eqb k j) _ (quotient_free (number_in d k) (number_in d j) i k n (a.small k) (a.small j))

pub whole_fits : (t : Dividing) (d : List ℚ) (k : ℕ) (own : Bool) (x : ℚ) → IsDividing t → IsOver t.row.denominator t.row.most x
    → FitsFrac (cond own (inverse_ℚ (pivot_of t)) (x *ℚ inverse_ℚ (pivot_of t)))
whole_fits t d k own x i o =
    let z = is_over _ (unsigned_abs t.pivot) t.row.most _ (size_above t.pivot i.some) (sym (divided_is t own x i o)) (divided_size t own x i o) in
    over_fit (unsigned_abs t.pivot) t.row.most _ (size_above t.pivot i.some) i.size (omega (arith, i.short)) z

pub scale_divided : (t : Dividing) (s : Scale) (row : List ℚ) → IsDividing t → s.denominator ≡ unsigned_abs t.pivot → s.most ≡ t.row.most
    → ((k : ℕ) → IsOver (unsigned_abs t.pivot) t.row.most (number_in row k)) → IsScaled s row
scale_divided t s row i d m n = record {
  above = subst (λ x. 0 < x) (sym d) (size_above t.pivot i.some);
  denominator = rw (d, m) i.size;
  short = rw m i.short;
  numbers = λ k. rw (d, m) (n k);
}
