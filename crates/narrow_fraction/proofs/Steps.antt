-- Euclid's steps on two fractions.
use Rattle.std.proofs.Common.{◌≡◌, ℕ, ℤ, pos, ◌*ℤ◌, ◌<ℤ◌, ◌+◌, ◌*◌, ◌/◌, ◌%◌, ◌<◌, ◌≤◌, ◌⊎◌, inl, inr, sym, ◌∙◌, ap, arith, mul-lt-mul_of_pos_right}
use Rattle.std.proofs.Common.{mul-le-mul_right, mul-pos, mul-zero, mod-lt, div-add-mod', Ordering, Less, Equal, Greater}
use Rattle.std.specs.Ordering.{MatchOrdering}
use Rattle.std.proofs.lemmas.Int.{ints}
use Rattle.rational_theory.specs.Rational.{ℚ, ◌<ℚ◌, over}
use Rattle.rational_theory.proofs.Arithmetic.{same_cross, same_ratio, over_ratio}
use Rattle.rational_theory.proofs.Order.{not-≤ℚ, over_≤ℚ}

pub quotients_apart : (a b c d q p r s : ℕ) → 0 < d → a ≡ q * b + r → c ≡ p * d + s → r < b → q < p → a * d < c * b
quotients_apart a b c d q p r s h e f k l =
    let x : r * d < b * d = mul-lt-mul_of_pos_right k h in
    let y : (q + 1) * (b * d) ≤ p * (b * d) = mul-le-mul_right (b * d) (omega arith) in
    rw (e, f) (omega arith)

pub same_quotient : (a b c d q r s : ℕ) → a ≡ q * b + r → c ≡ q * d + s → (a * d ≡ q * (b * d) + d * r) × (c * b ≡ q * (b * d) + b * s)
same_quotient a b c d q r s e f = rw (e, f) (omega arith, omega arith)

-- ---- what an ordering says
pub order_map : {P Q R P' Q' R' : Type 0} (o : Ordering) → (P → P') → (Q → Q') → (R → R') → MatchOrdering o P Q R → MatchOrdering o P' Q' R'
order_map Less f g h m = f m
order_map Equal f g h m = g m
order_map Greater f g h m = h m

pub apart_rank : (o : Ordering) (a b c d : ℕ) → 0 < b → 0 < d → (a / b ≡ c / d → ⊥) → MatchOrdering o (a / b < c / d) (a / b ≡ c / d) (c / d < a / b)
    → MatchOrdering o (a * d < c * b) (a * d ≡ c * b) (c * b < a * d)
apart_rank o a b c d p q n m =
    order_map o
    (λ h. quotients_apart a b c d (a / b) (c / d) (a % b) (c % d) q (sym (div-add-mod' a b)) (sym (div-add-mod' c d)) (mod-lt a p) h)
    (λ e. absurd (n e))
    (λ h. quotients_apart c d a b (c / d) (a / b) (c % d) (a % b) p (sym (div-add-mod' c d)) (sym (div-add-mod' a b)) (mod-lt c q) h)
    m

split : (a b c d : ℕ) → a / b ≡ c / d → (a * d ≡ c / d * (b * d) + d * (a % b)) × (c * b ≡ c / d * (b * d) + b * (c % d))
split a b c d e = same_quotient a b c d (c / d) (a % b) (c % d) (rw (← e) (sym (div-add-mod' a b))) (sym (div-add-mod' c d))

pub step_rank : (o : Ordering) (a b c d : ℕ) → a / b ≡ c / d → MatchOrdering o (d * (a % b) < b * (c % d)) (d * (a % b) ≡ b * (c % d)) (b * (c % d) < d * (a % b))
    → MatchOrdering o (a * d < c * b) (a * d ≡ c * b) (c * b < a * d)
step_rank o a b c d e m =
    let s = split a b c d e in
    order_map o (λ h. omega arith) (λ h. omega arith) (λ h. omega arith) m

rest_of : (o : Ordering) (b d r s : ℕ) → 0 < b → 0 < d → (r ≡ 0) ⊎ (s ≡ 0) → MatchOrdering o (r < s) (r ≡ s) (s < r) → MatchOrdering o (d * r < b * s) (d * r ≡ b * s) (b * s < d * r)
rest_of o b d r s p q (inl z) m =
    let k : d * r ≡ 0 = rw z (mul-zero d) in
    order_map o (λ h. let t : 0 < b * s = mul-pos p (omega arith) in omega arith) (λ h. let t : b * s ≡ 0 = rw (← h, z) (mul-zero b) in omega arith) (λ h. absurd (omega arith)) m
rest_of o b d r s p q (inr z) m =
    let k : b * s ≡ 0 = rw z (mul-zero b) in
    order_map o (λ h. absurd (omega arith)) (λ h. let t : d * r ≡ 0 = ap (λ n. d * n) (h ∙ z) ∙ mul-zero d in omega arith) (λ h. let t : 0 < d * r = mul-pos q (omega arith) in omega arith) m

pub rest_rank : (o : Ordering) (a b c d : ℕ) → 0 < b → 0 < d → a / b ≡ c / d → (a % b ≡ 0) ⊎ (c % d ≡ 0) → MatchOrdering o (a % b < c % d) (a % b ≡ c % d) (c % d < a % b)
    → MatchOrdering o (a * d < c * b) (a * d ≡ c * b) (c * b < a * d)
rest_rank o a b c d p q e z m = step_rank o a b c d e (rest_of o b d (a % b) (c % d) p q z m)

-- ---- at rational numbers

pub rank_ℚ : (o : Ordering) (x y : ℚ) → MatchOrdering o ((x.num *ℤ pos y.den) <ℤ (y.num *ℤ pos x.den)) (x.num *ℤ pos y.den ≡ y.num *ℤ pos x.den) ((y.num *ℤ pos x.den) <ℤ (x.num *ℤ pos y.den))
    → MatchOrdering o (x <ℚ y) (x ≡ y) (y <ℚ x)
rank_ℚ o x y m = order_map o (λ h. record { cross = h }) (λ h. same_cross x y h) (λ h. record { cross = h }) m

-- at quotients in any terms
pub rank_over : (o : Ordering) (a b : ℤ) (d e : ℕ) → 0 < d → 0 < e → MatchOrdering o ((a *ℤ pos e) <ℤ (b *ℤ pos d)) (a *ℤ pos e ≡ b *ℤ pos d) ((b *ℤ pos d) <ℤ (a *ℤ pos e))
    → MatchOrdering o (over a d <ℚ over b e) (over a d ≡ over b e) (over b e <ℚ over a d)
rank_over o a b d e h k m =
    order_map o
    (λ l. not-≤ℚ (over a d) (over b e) (λ q. let t = (over_≤ℚ b a e d k h).0 q in omega (arith, ints, l, t)))
    (λ l. same_ratio _ _ _ _ _ _ _ _ (over_ratio a d h) (over_ratio b e k) (omega (arith, ints, l)))
    (λ l. not-≤ℚ (over b e) (over a d) (λ q. let t = (over_≤ℚ a b d e h k).0 q in omega (arith, ints, l, t)))
    m
