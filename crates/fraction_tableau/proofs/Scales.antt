-- Lemmas on the definitions of `Scales`: numbers over a denominator, and a narrow row that is cleared by another one.
use Rattle.std.proofs.Common.{◌≡◌, ℕ, zero, suc, ℤ, pos, neg_ℤ, Bool, true, false, cond, eqb, Option, Some, None, List, length, take, ◌++◌, ◌*ℤ◌}
use Rattle.std.proofs.Common.{◌+ℤ◌, ◌+◌, ◌*◌, ◌/◌, ◌<◌, ◌≤◌, ◌^◌, ◌⊎◌, inl, inr, refl, sym, ◌∙◌, ap, ap₂, subst, arith, mul-pos, mul-le-mul_right}
use Rattle.std.proofs.Common.{unsigned_abs, SFits}
use Prim.Native.Nat.{◌∣◌}
use native.Mathlib.Nat.{mul-div_cancel', dvd-mul_left}
use Rattle.std.proofs.lemmas.Bool.{cases_eq, cond-true, cond-false, eq-eqb, ne_eqb}
use Rattle.std.proofs.lemmas.Int.{ints, unsigned_abs-mul}
use Rattle.std.specs.Int.{w64}
use Rattle.std.specs.Option.{unwrap_or}
use borrow.Author.Differences.{up, down}
use Rattle.rational_theory.specs.Gcd.{gcd}
use Rattle.rational_theory.specs.laws.Fractions.{times_part}
use lib.IntN.{zero-*ℤ}
use Rattle.rational_theory.specs.Rational.{ℚ, over, whole, neg_ℚ, ◌+ℚ◌, ◌*ℚ◌}
use Rattle.rational_theory.proofs.Arithmetic.{same_ratio, over_ratio, over_terms, own_ratio, sum_ratio, product_ratio, neg_ratio, *ℚ-zero, neg-*ℚ, +ℚ-zero}
use Rattle.rational_theory.proofs.Order.{times_den}
use Rattle.rational_theory.proofs.Ring.{zero-+ℚ}
use Rattle.narrow_fraction.proofs.Parts.{zero_over}
use Rattle.narrow_fraction.specs.Numerators.{IsNumerator}
use Rattle.simplex_theory.specs.Lines.{cleared}
use Rattle.simplex_theory.proofs.Lines.{cleared_at, cleared_other}
use Rattle.fraction_tableau.specs.KeptCells.{number_in, kept_at, kept_below}
use Rattle.fraction_tableau.specs.Scales.{numerator, IsOver, IsScaled, IsRescaled, factor_of, IsJoining, IsJoined}
use Rattle.fraction_tableau.specs.Marks.{AreMarked}
use Rattle.fraction_tableau.specs.declared.kept.Kept.{Kept}
use Rattle.narrow_fraction.proofs.Fitting.{fits_i64}
use Rattle.fraction_tableau.proofs.KeptCells.{at_most_one, kept_more}
use Rattle.fraction_tableau.specs.declared.scale.Rescaling.{Rescaling}
use Rattle.fraction_tableau.specs.declared.joining.Joining.{Joining}

-- ---- a number over a multiple of its denominator
pub over_multiple : (x : ℚ) (d : ℕ) → 0 < d → x.den * (d / x.den) ≡ d → over (numerator d x) d ≡ x
over_multiple x d h e = same_ratio _ _ _ _ _ _ _ _ (over_terms (x.num *ℤ pos (d / x.den)) (up x.num * (d / x.den)) (down x.num * (d / x.den)) d h (omega (arith, ints)))
    (own_ratio x) (spread (up x.num) (down x.num) (d / x.den) x.den d e)
  where
    spread : (u v q n d : ℕ) → n * q ≡ d → u * q * n + v * d ≡ v * q * n + u * d
    spread u v q n d e = rw (← e) (omega arith)

den-over : (z : ℤ) (d : ℕ) → 0 < d → (over z d).den ≡ d / gcd (unsigned_abs z) d
unfolding over
den-over z zero h = absurd (omega arith)
den-over z (suc d) h = refl

over_den : (n : ℤ) (d : ℕ) → 0 < d → (over n d).den ∣ d
over_den n d h =
    let t = (times_part (unsigned_abs n) d h).1 in
    subst (λ m. m ∣ d) (sym (den-over n d h)) (subst (λ m. d / gcd (unsigned_abs n) d ∣ m) t (dvd-mul_left (d / gcd (unsigned_abs n) d) (gcd (unsigned_abs n) d)))

whole_same : (a b : ℤ) → whole a ≡ whole b → a ≡ b
unfolding whole
whole_same a b e = ap (λ (t : ℚ). t.num) e

pub over_same : (a b : ℤ) (d : ℕ) → 0 < d → over a d ≡ over b d → a ≡ b
over_same a b d h e = whole_same a b (sym (times_den a d h) ∙ ap (λ t. t *ℚ whole (pos d)) e ∙ times_den b d h)

pub numerator_is : (n : ℤ) (d : ℕ) (x : ℚ) → 0 < d → x ≡ over n d → numerator d x ≡ n
numerator_is n d x h e = over_same (numerator d x) n d h (over_multiple x d h (mul-div_cancel' x.den (subst (λ (y : ℚ). y.den ∣ d) (sym e) (over_den n d h))) ∙ e)

pub is_over : (n : ℤ) (d b : ℕ) (x : ℚ) → 0 < d → x ≡ over n d → unsigned_abs n ≤ b → IsOver d b x
is_over n d b x h e l = let q = numerator_is n d x h e in record { same = ap (λ z. over z d) q ∙ sym e; size = rw q l }

pub zero_is_over : (d b : ℕ) → 0 < d → IsOver d b (whole (pos 0))
zero_is_over d b h = is_over (pos 0) d b (whole (pos 0)) h (sym (zero_over d h)) (omega arith)

pub some_numerator : (x : ℚ) (d : ℕ) (o : Option ℤ) (n : ℤ) → 0 < d → IsNumerator x d o → o ≡ Some n → n ≡ numerator d x
some_numerator x d (Some m) n h i e = sym (some_same e) ∙ sym (numerator_is m d x h i)
  where
    some_same : {a b : ℤ} → Some a ≡ Some b → a ≡ b
    some_same p = cc
some_numerator x d None n h i e = absurd (none_some e)
  where
    none_some : None ≡ Some n → ⊥
    none_some p = cc

pub numerator_or : (x : ℚ) (d : ℕ) (o : Option ℤ) (m n : ℤ) → IsNumerator x d o → n ≡ unwrap_or o m → (n ≡ m → ⊥) → x ≡ over n d
numerator_or x d (Some a) m n i e k = i ∙ ap (λ z. over z d) (sym e)
numerator_or x d None m n i e k = absurd (k e)

-- the same over more
pub over_part : (n : ℤ) (d g : ℕ) → 0 < d → 0 < g → over n d ≡ over (n *ℤ pos g) (d * g)
over_part n d g h k = same_ratio _ _ _ _ _ _ _ _ (over_ratio n d h) (over_terms (n *ℤ pos g) (up n * g) (down n * g) (d * g) (mul-pos h k) (omega (arith, ints))) (omega arith)

-- ---- one number of a row that is cleared
abbrev pub combined : ℕ → ℤ → ℤ → ℤ → ℤ
combined m f a x = a *ℤ pos m +ℤ neg_ℤ (f *ℤ x)

-- with the row's number a/d, its factor (f g)/d and the divided number x/(m g): a/d - (f g)/d x/(m g) is (a m - f x)/(d m)
cleared_over : (a f x : ℤ) (d m g : ℕ) → 0 < d → 0 < m → 0 < g
    → over a d +ℚ neg_ℚ (over (f *ℤ pos g) d *ℚ over x (m * g)) ≡ over (combined m f a x) (d * m)
cleared_over a f x d m g h k l =
    same_ratio _ _ _ _ _ _ _ _
    (sum_ratio _ _ _ _ _ _ _ _ (over_ratio a d h)
    (neg_ratio _ _ _ _ (product_ratio _ _ _ _ _ _ _ _ (over_terms (f *ℤ pos g) (up f * g) (down f * g) d h (omega (arith, ints))) (over_ratio x (m * g) (mul-pos k l)))))
    (over_terms (combined m f a x) (up a * m + up f * down x + down f * up x) (down a * m + up f * up x + down f * down x) (d * m) (mul-pos h k) (omega (arith, ints)))
    (omega arith)

apart : (x y : ℤ) (u v : ℕ) → unsigned_abs x ≡ u → unsigned_abs y ≡ v → unsigned_abs (x +ℤ neg_ℤ y) ≤ u + v
apart x y u v e f = omega (arith, ints)

at_most : (a m b f x t : ℕ) → a ≤ b → x ≤ t → a * m + f * x ≤ b * m + f * t
at_most a m b f x t h k = let p = mul-le-mul_right m h in let q = mul-le-mul_right f k in omega (arith, p, q)

pub combined_size : (a f x : ℤ) (m b t : ℕ) → unsigned_abs a ≤ b → unsigned_abs x ≤ t → unsigned_abs (combined m f a x) ≤ b * m + unsigned_abs f * t
combined_size a f x m b t h k =
    let p = apart (a *ℤ pos m) (f *ℤ x) _ _ (unsigned_abs-mul a (pos m)) (unsigned_abs-mul f x) in
    let q = at_most (unsigned_abs a) m b (unsigned_abs f) (unsigned_abs x) t h k in
    omega (arith, p, q)

zeroed : (b : Bool) (n : ℤ) (d : ℕ) → 0 < d → over (cond b (pos 0) n) d ≡ cond b (whole (pos 0)) (over n d)
zeroed true n d h = zero_over d h
zeroed false n d h = refl

zeroed_size : (b : Bool) (n : ℤ) (m : ℕ) → unsigned_abs n ≤ m → unsigned_abs (cond b (pos 0) n) ≤ m
zeroed_size true n m h = omega arith
zeroed_size false n m h = h

pub zeroed_fits : (b : Bool) (n : ℤ) → SFits w64 n → SFits w64 (cond b (pos 0) n)
zeroed_fits true n h = fits_i64 (pos 0) (omega arith)
zeroed_fits false n h = h

-- the new number, of the row's number a and the divided row's number t
pub joined_number : (j : Joining) (b : Bool) (n : ℤ) (t : ℚ) → IsJoining j → IsOver j.divided.denominator j.divided.most t
    → over (combined j.rescaling.times j.part (cond b (pos 0) n) (numerator j.divided.denominator t)) j.rescaling.to ≡ cond b (whole (pos 0)) (over n j.row.denominator) +ℚ neg_ℚ (factor_of j *ℚ t)
joined_number j b n t i q =
    let x = numerator j.divided.denominator t in
    let s : over x (j.rescaling.times * j.shared) ≡ t = ap (over x) i.divided ∙ q.same in
    ap (over (combined j.rescaling.times j.part (cond b (pos 0) n) x)) i.to
    ∙ sym (cleared_over (cond b (pos 0) n) j.part x j.row.denominator j.rescaling.times j.shared i.above i.times i.shared)
    ∙ ap₂ (λ u v. u +ℚ neg_ℚ (factor_of j *ℚ v)) (zeroed b n j.row.denominator i.above) s

pub joined_is : (j : Joining) (b : Bool) (a t : ℚ) → IsJoining j → IsOver j.row.denominator j.row.most a → IsOver j.divided.denominator j.divided.most t
    → over (combined j.rescaling.times j.part (cond b (pos 0) (numerator j.row.denominator a)) (numerator j.divided.denominator t)) j.rescaling.to
    ≡ cond b (whole (pos 0)) a +ℚ neg_ℚ (factor_of j *ℚ t)
joined_is j b a t i p q = joined_number j b (numerator j.row.denominator a) t i q ∙ ap (λ u. cond b (whole (pos 0)) u +ℚ neg_ℚ (factor_of j *ℚ t)) p.same

-- 0 has the numerator 0 over anything
pub numerator_zero : (d : ℕ) (x : ℚ) → x ≡ whole (pos 0) → numerator d x ≡ pos 0
unfolding whole
numerator_zero d x e = ap (numerator d) e ∙ zero-*ℤ (pos (d / 1))

pub joined_size : (j : Joining) (b : Bool) (n x : ℤ) → IsJoining j → unsigned_abs n ≤ j.row.most → unsigned_abs x ≤ j.divided.most
    → unsigned_abs (combined j.rescaling.times j.part (cond b (pos 0) n) x) ≤ j.most
joined_size j b n x i p q =
    let s = combined_size (cond b (pos 0) n) j.part x j.rescaling.times j.row.most j.divided.most (zeroed_size b n j.row.most p) q in
    omega (arith, s, i.most)

pub times_short : (j : Joining) → IsJoining j → j.rescaling.times < 2 ^ 62
times_short j i = let l : 1 ≤ j.row.most = omega (arith, i.above, i.least) in let p = mul-le-mul_right j.rescaling.times l in omega (arith, p, i.most, i.short)

pub divided_above : (j : Joining) → IsJoining j → 0 < j.divided.denominator
divided_above j i = subst (λ n. 0 < n) i.divided (mul-pos i.times i.shared)

pub part_short : (j : Joining) → IsJoining j → unsigned_abs j.part < 2 ^ 62
part_short j i = let l : 1 ≤ j.divided.most = omega (arith, divided_above j i, i.divided_least) in let p = mul-le-mul_right (unsigned_abs j.part) l in omega (arith, p, i.most, i.short)

pub joined_bound : (j : Joining) (b : Bool) (n x : ℤ) → IsJoining j → unsigned_abs n ≤ j.row.most → unsigned_abs x ≤ j.divided.most
    → unsigned_abs (cond b (pos 0) n) * unsigned_abs (pos j.rescaling.times) + unsigned_abs j.part * unsigned_abs x < 2 ^ 62
joined_bound j b n x i p q =
    let s = at_most (unsigned_abs (cond b (pos 0) n)) j.rescaling.times j.row.most (unsigned_abs j.part) (unsigned_abs x) j.divided.most (zeroed_size b n j.row.most p) q in
    omega (arith, s, i.most, i.short)

pub to_above : (j : Joining) → IsJoining j → 0 < j.rescaling.to
to_above j i = rw i.to (mul-pos i.above i.times)

pub to_least : (j : Joining) → IsJoining j → j.rescaling.to ≤ j.most
to_least j i = let p = mul-le-mul_right j.rescaling.times i.least in omega (arith, p, i.to, i.most)

pub joined_over : (j : Joining) (b : Bool) (a t : ℚ) → IsJoining j → IsOver j.row.denominator j.row.most a → IsOver j.divided.denominator j.divided.most t
    → IsOver j.rescaling.to j.most (cond b (whole (pos 0)) a +ℚ neg_ℚ (factor_of j *ℚ t))
joined_over j b a t i p q =
    is_over (combined j.rescaling.times j.part (cond b (pos 0) (numerator j.row.denominator a)) (numerator j.divided.denominator t)) j.rescaling.to j.most _ (to_above j i)
    (sym (joined_is j b a t i p q)) (joined_size j b _ _ i p.size q.size)

-- ---- the whole row d, cleared at place j by the divided row e
pub cleared_number : (j k : ℕ) (e d : List ℚ) → j < length d → cond (eqb k j) (whole (pos 0)) (number_in d k) +ℚ neg_ℚ (number_in d j *ℚ number_in e k) ≡ number_in (cleared j e d) k
cleared_number j k e d h = pick (cases_eq k j)
  where
    pick : (k ≡ j) ⊎ (k ≡ j → ⊥) → cond (eqb k j) (whole (pos 0)) (number_in d k) +ℚ neg_ℚ (number_in d j *ℚ number_in e k) ≡ number_in (cleared j e d) k
    pick (inl q) =
        ap (λ t. t +ℚ neg_ℚ (number_in d j *ℚ number_in e k)) (cond-true (eqb k j) (whole (pos 0)) (number_in d k) (eq-eqb k j q))
        ∙ zero-+ℚ _ ∙ sym (neg-*ℚ _ _) ∙ rw q (sym (cleared_at j e d h))
    pick (inr n) =
        ap (λ t. t +ℚ neg_ℚ (number_in d j *ℚ number_in e k)) (cond-false (eqb k j) (whole (pos 0)) (number_in d k) (ne_eqb k j n))
        ∙ ap (λ t. number_in d k +ℚ t) (sym (neg-*ℚ _ _)) ∙ sym (cleared_other j k e d n)

pub cleared_scaled : (j : Joining) (e d : List ℚ) → IsJoining j → IsScaled j.row d → IsScaled j.divided e → factor_of j ≡ number_in d j.place → j.place < length d
    → (k : ℕ) → IsOver j.rescaling.to j.most (number_in (cleared j.place e d) k)
cleared_scaled j e d i p q f h k =
    subst (IsOver j.rescaling.to j.most) (ap (λ t. cond (eqb k j.place) (whole (pos 0)) (number_in d k) +ℚ neg_ℚ (t *ℚ number_in e k)) f ∙ cleared_number j.place k e d h)
    (joined_over j (eqb k j.place) (number_in d k) (number_in e k) i (p.numbers k) (q.numbers k))

-- where the divided row has 0, the number stays
pub quiet_is : (j m : ℕ) (e d : List ℚ) → (number_in e j ≡ whole (pos 0) → ⊥) → number_in e m ≡ whole (pos 0) → number_in (cleared j e d) m ≡ number_in d m
quiet_is j m e d n z = cleared_other j m e d (λ q. n (ap (number_in e) (sym q) ∙ z)) ∙ ap (λ t. number_in d m +ℚ neg_ℚ (number_in d j) *ℚ t) z ∙ ap (λ t. number_in d m +ℚ t) (*ℚ-zero _) ∙ +ℚ-zero _

pub rescaled_times : (r : Rescaling) (x : ℚ) → IsRescaled r x → r.times < 2 ^ 62
rescaled_times r x i = let l : 1 ≤ r.from = i.above in let p = mul-le-mul_right r.times l in omega (arith, p, i.to, i.short)

pub rescaled_size : (r : Rescaling) (x : ℚ) → IsRescaled r x → unsigned_abs (numerator r.from x) < 2 ^ 62
rescaled_size r x i = let l : 1 ≤ r.times = i.times in let p = mul-le-mul_right (unsigned_abs (numerator r.from x)) l in omega (arith, p, i.size)

pub rescaled_word : (r : Rescaling) (x : ℚ) → IsRescaled r x → SFits w64 (numerator r.from x *ℤ pos r.times)
rescaled_word r x i = let e = unsigned_abs-mul (numerator r.from x) (pos r.times) in fits_i64 (numerator r.from x *ℤ pos r.times) (rw e (omega (arith, i.size)))

pub first_above : (m g e : ℕ) → m * g ≡ e → 0 < e → 0 < m
first_above zero g e h k = absurd (omega (arith, h, k))
first_above (suc m) g e h k = omega arith

-- ---- the walk over the divided row's cells

pub joined_next : (target d : List ℚ) (now new : List Kept) (taken made put marks : ℕ) (k : Kept) → length new ≡ length now → k.place < length now
    → taken ≡ length (kept_below (number_in d) (k.place + 1)) → made ≤ k.place
    → take made now ≡ kept_below (number_in target) k.place → k.cell ≡ number_in target k.place → put ≡ made + length (kept_at k.place k.cell) → take put new ≡ take made now ++ kept_at k.place k.cell
    → AreMarked marks (take put new)
    → IsJoined target d new (record { below = k.place + 1; taken = taken; made = put; marks = marks })
joined_next target d now new taken made put marks k n h t l c q a b m =
    let o = at_most_one k.place k.cell in
    record {
      inside = omega arith;
      taken = t;
      made = omega arith;
      joined = b ∙ ap₂ (λ y z. y ++ z) c (ap (kept_at k.place) q) ∙ sym (kept_more (number_in target) k.place);
      marked = m;
    }
