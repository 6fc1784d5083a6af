-- A decision of equations in the rational numbers: both sides as sums of monomials.
use Rattle.std.proofs.Common.{◌≡◌, ℕ, zero, suc, ℤ, pos, negsuc, ◌+ℤ◌, ◌*ℤ◌, Bool, true, false, cond, List, [], ◌∷◌, get_or, Ordering, Less, Equal, Greater, leb, true≢false, refl, sym, ◌∙◌, ap, ap₂}
use Rattle.std.specs.Ordering.{nat_cmp}
use Rattle.std.specs.Cmp.Lexicographic.{slice_cmp}
use Rattle.std.proofs.lemmas.Map.Lookups.{exact_bytes}
use Rattle.rational_theory.specs.Rational.{ℚ, whole, ◌+ℚ◌, ◌*ℚ◌, neg_ℚ}
use Rattle.rational_theory.proofs.Arithmetic.{+ℚ_assoc, +ℚ_comm, +ℚ-zero, *ℚ_assoc, *ℚ_comm, *ℚ-one, *ℚ-zero, *ℚ-+ℚ, neg-*ℚ}
use Rattle.rational_theory.proofs.Order.{whole-+ℤ, whole-*ℤ, whole-neg_ℤ}

-- ---- more laws
pub zero-+ℚ : (x : ℚ) → whole (pos 0) +ℚ x ≡ x
zero-+ℚ x = +ℚ_comm (whole (pos 0)) x ∙ +ℚ-zero x

pub one-*ℚ : (x : ℚ) → whole (pos 1) *ℚ x ≡ x
one-*ℚ x = *ℚ_comm (whole (pos 1)) x ∙ *ℚ-one x

pub zero-*ℚ : (x : ℚ) → whole (pos 0) *ℚ x ≡ whole (pos 0)
zero-*ℚ x = *ℚ_comm (whole (pos 0)) x ∙ *ℚ-zero x

pub +ℚ-*ℚ : (x y z : ℚ) → (x +ℚ y) *ℚ z ≡ x *ℚ z +ℚ y *ℚ z
+ℚ-*ℚ x y z = *ℚ_comm (x +ℚ y) z ∙ *ℚ-+ℚ z x y ∙ ap₂ (λ a b. a +ℚ b) (*ℚ_comm z x) (*ℚ_comm z y)

pub +ℚ_left_comm : (x y z : ℚ) → x +ℚ (y +ℚ z) ≡ y +ℚ (x +ℚ z)
+ℚ_left_comm x y z = sym (+ℚ_assoc x y z) ∙ ap (λ t. t +ℚ z) (+ℚ_comm x y) ∙ +ℚ_assoc y x z

pub *ℚ_left_comm : (x y z : ℚ) → x *ℚ (y *ℚ z) ≡ y *ℚ (x *ℚ z)
*ℚ_left_comm x y z = sym (*ℚ_assoc x y z) ∙ ap (λ t. t *ℚ z) (*ℚ_comm x y) ∙ *ℚ_assoc y x z

pub ruleset products = (*ℚ_assoc, *ℚ_comm, *ℚ_left_comm)

-- ---- terms
pub data Term : Type 0 where
  at : ℕ → Term
  lit : ℤ → Term
  plus : Term → Term → Term
  times : Term → Term → Term
  minus : Term → Term

abbrev pub value : Term → List ℚ → ℚ
value (at i) ρ = get_or ρ i (whole (pos 0))
value (lit c) ρ = whole c
value (plus s t) ρ = value s ρ +ℚ value t ρ
value (times s t) ρ = value s ρ *ℚ value t ρ
value (minus s) ρ = neg_ℚ (value s ρ)

-- ---- sums of monomials
abbrev pub mono_value : List ℕ → List ℚ → ℚ
mono_value [] ρ = whole (pos 1)
mono_value (i ∷ m) ρ = get_or ρ i (whole (pos 0)) *ℚ mono_value m ρ

abbrev pub poly_value : List (ℤ × List ℕ) → List ℚ → ℚ
poly_value [] ρ = whole (pos 0)
poly_value (t ∷ p) ρ = whole t.0 *ℚ mono_value t.1 ρ +ℚ poly_value p ρ

abbrev pub put : ℕ → List ℕ → List ℕ
put i [] = i ∷ []
put i (j ∷ m) = cond (leb i j) (i ∷ j ∷ m) (j ∷ put i m)

abbrev pub joined : List ℕ → List ℕ → List ℕ
joined [] n = n
joined (i ∷ m) n = put i (joined m n)

abbrev pub by_order : Ordering → ℤ → List ℕ → ℤ × List ℕ → List (ℤ × List ℕ) → List (ℤ × List ℕ) → List (ℤ × List ℕ)
by_order Less c m t p r = (c, m) ∷ t ∷ p
by_order Equal c m t p r = (c +ℤ t.0, m) ∷ p
by_order Greater c m t p r = t ∷ r

abbrev pub add_term : ℤ → List ℕ → List (ℤ × List ℕ) → List (ℤ × List ℕ)
add_term c m [] = (c, m) ∷ []
add_term c m (t ∷ p) = by_order (slice_cmp nat_cmp m t.1) c m t p (add_term c m p)

abbrev pub add_poly : List (ℤ × List ℕ) → List (ℤ × List ℕ) → List (ℤ × List ℕ)
add_poly [] q = q
add_poly (t ∷ p) q = add_term t.0 t.1 (add_poly p q)

abbrev pub mul_term : ℤ → List ℕ → List (ℤ × List ℕ) → List (ℤ × List ℕ)
mul_term c m [] = []
mul_term c m (t ∷ p) = add_term (c *ℤ t.0) (joined m t.1) (mul_term c m p)

abbrev pub mul_poly : List (ℤ × List ℕ) → List (ℤ × List ℕ) → List (ℤ × List ℕ)
mul_poly [] q = []
mul_poly (t ∷ p) q = add_poly (mul_term t.0 t.1 q) (mul_poly p q)

abbrev pub is_zero : ℤ → Bool
is_zero (pos zero) = true
is_zero (pos (suc n)) = false
is_zero (negsuc n) = false

abbrev pub clean : List (ℤ × List ℕ) → List (ℤ × List ℕ)
clean [] = []
clean (t ∷ p) = cond (is_zero t.0) (clean p) (t ∷ clean p)

abbrev pub normal : Term → List (ℤ × List ℕ)
normal (at i) = (pos 1, i ∷ []) ∷ []
normal (lit c) = (c, []) ∷ []
normal (plus s t) = add_poly (normal s) (normal t)
normal (times s t) = mul_poly (normal s) (normal t)
normal (minus s) = mul_term (negsuc 0) [] (normal s)

-- ---- what each step keeps
put_test : (i j : ℕ) (m n : List ℕ) (ρ : List ℚ) (b : Bool) → mono_value n ρ ≡ get_or ρ i (whole (pos 0)) *ℚ mono_value m ρ
    → mono_value (cond b (i ∷ j ∷ m) (j ∷ n)) ρ ≡ get_or ρ i (whole (pos 0)) *ℚ (get_or ρ j (whole (pos 0)) *ℚ mono_value m ρ)
put_test i j m n ρ true e = refl
put_test i j m n ρ false e = ap (λ t. get_or ρ j (whole (pos 0)) *ℚ t) e ∙ *ℚ_left_comm _ _ _

put_value : (i : ℕ) (m : List ℕ) (ρ : List ℚ) → mono_value (put i m) ρ ≡ get_or ρ i (whole (pos 0)) *ℚ mono_value m ρ
put_value i [] ρ = refl
put_value i (j ∷ m) ρ = put_test i j m (put i m) ρ (leb i j) (put_value i m ρ)

joined_value : (m n : List ℕ) (ρ : List ℚ) → mono_value (joined m n) ρ ≡ mono_value m ρ *ℚ mono_value n ρ
joined_value [] n ρ = sym (one-*ℚ (mono_value n ρ))
joined_value (i ∷ m) n ρ = put_value i (joined m n) ρ ∙ ap (λ t. get_or ρ i (whole (pos 0)) *ℚ t) (joined_value m n ρ) ∙ sym (*ℚ_assoc _ _ _)

order_value : (o : Ordering) (c : ℤ) (m : List ℕ) (t : ℤ × List ℕ) (p r : List (ℤ × List ℕ)) (ρ : List ℚ) → (o ≡ Equal → m ≡ t.1)
    → poly_value r ρ ≡ whole c *ℚ mono_value m ρ +ℚ poly_value p ρ
    → poly_value (by_order o c m t p r) ρ ≡ whole c *ℚ mono_value m ρ +ℚ (whole t.0 *ℚ mono_value t.1 ρ +ℚ poly_value p ρ)
order_value Less c m t p r ρ e h = refl
order_value Equal c m t p r ρ e h =
    ap (λ x. x +ℚ poly_value p ρ) (ap (λ x. x *ℚ mono_value m ρ) (whole-+ℤ c t.0) ∙ +ℚ-*ℚ _ _ _ ∙ ap (λ n. whole c *ℚ mono_value m ρ +ℚ whole t.0 *ℚ mono_value n ρ) (e refl)) ∙ +ℚ_assoc _ _ _
order_value Greater c m t p r ρ e h = ap (λ x. whole t.0 *ℚ mono_value t.1 ρ +ℚ x) h ∙ +ℚ_left_comm _ _ _

add_term_value : (c : ℤ) (m : List ℕ) (p : List (ℤ × List ℕ)) (ρ : List ℚ) → poly_value (add_term c m p) ρ ≡ whole c *ℚ mono_value m ρ +ℚ poly_value p ρ
add_term_value c m [] ρ = refl
add_term_value c m (t ∷ p) ρ = order_value (slice_cmp nat_cmp m t.1) c m t p (add_term c m p) ρ (exact_bytes m t.1) (add_term_value c m p ρ)

add_poly_value : (p q : List (ℤ × List ℕ)) (ρ : List ℚ) → poly_value (add_poly p q) ρ ≡ poly_value p ρ +ℚ poly_value q ρ
add_poly_value [] q ρ = sym (zero-+ℚ (poly_value q ρ))
add_poly_value (t ∷ p) q ρ = add_term_value t.0 t.1 (add_poly p q) ρ ∙ ap (λ x. whole t.0 *ℚ mono_value t.1 ρ +ℚ x) (add_poly_value p q ρ) ∙ sym (+ℚ_assoc _ _ _)

mul_term_value : (c : ℤ) (m : List ℕ) (p : List (ℤ × List ℕ)) (ρ : List ℚ) → poly_value (mul_term c m p) ρ ≡ whole c *ℚ mono_value m ρ *ℚ poly_value p ρ
mul_term_value c m [] ρ = sym (*ℚ-zero _)
mul_term_value c m (t ∷ p) ρ =
    add_term_value (c *ℤ t.0) (joined m t.1) (mul_term c m p) ρ
    ∙ ap₂ (λ x y. x +ℚ y) (ap₂ (λ x y. x *ℚ y) (whole-*ℤ c t.0) (joined_value m t.1 ρ) ∙ simp products) (mul_term_value c m p ρ)
    ∙ sym (*ℚ-+ℚ _ _ _)

mul_poly_value : (p q : List (ℤ × List ℕ)) (ρ : List ℚ) → poly_value (mul_poly p q) ρ ≡ poly_value p ρ *ℚ poly_value q ρ
mul_poly_value [] q ρ = sym (zero-*ℚ _)
mul_poly_value (t ∷ p) q ρ = add_poly_value (mul_term t.0 t.1 q) (mul_poly p q) ρ ∙ ap₂ (λ x y. x +ℚ y) (mul_term_value t.0 t.1 q ρ) (mul_poly_value p q ρ) ∙ sym (+ℚ-*ℚ _ _ _)

clean_test : (t : ℤ × List ℕ) (p q : List (ℤ × List ℕ)) (ρ : List ℚ) (b : Bool) → (b ≡ true → t.0 ≡ pos 0) → poly_value q ρ ≡ poly_value p ρ
    → poly_value (cond b q (t ∷ q)) ρ ≡ whole t.0 *ℚ mono_value t.1 ρ +ℚ poly_value p ρ
clean_test t p q ρ true z e = e ∙ sym (ap (λ x. x +ℚ poly_value p ρ) (ap (λ c. whole c *ℚ mono_value t.1 ρ) (z refl) ∙ zero-*ℚ _) ∙ zero-+ℚ _)
clean_test t p q ρ false z e = ap (λ x. whole t.0 *ℚ mono_value t.1 ρ +ℚ x) e

zero_is : (c : ℤ) → is_zero c ≡ true → c ≡ pos 0
zero_is (pos zero) e = refl
zero_is (pos (suc n)) e = absurd (true≢false (sym e))
zero_is (negsuc n) e = absurd (true≢false (sym e))

clean_value : (p : List (ℤ × List ℕ)) (ρ : List ℚ) → poly_value (clean p) ρ ≡ poly_value p ρ
clean_value [] ρ = refl
clean_value (t ∷ p) ρ = clean_test t p (clean p) ρ (is_zero t.0) (zero_is t.0) (clean_value p ρ)

pub normal_value : (t : Term) (ρ : List ℚ) → poly_value (normal t) ρ ≡ value t ρ
normal_value (at i) ρ = +ℚ-zero _ ∙ one-*ℚ _ ∙ *ℚ-one _
normal_value (lit c) ρ = +ℚ-zero _ ∙ *ℚ-one _
normal_value (plus s t) ρ = add_poly_value (normal s) (normal t) ρ ∙ ap₂ (λ x y. x +ℚ y) (normal_value s ρ) (normal_value t ρ)
normal_value (times s t) ρ = mul_poly_value (normal s) (normal t) ρ ∙ ap₂ (λ x y. x *ℚ y) (normal_value s ρ) (normal_value t ρ)
normal_value (minus s) ρ =
    mul_term_value (negsuc 0) [] (normal s) ρ ∙ ap₂ (λ x y. x *ℚ y) (*ℚ-one _ ∙ whole-neg_ℤ (pos 1)) (normal_value s ρ) ∙ neg-*ℚ _ _ ∙ ap neg_ℚ (one-*ℚ _)

-- ---- the decision: `ring s t ρ refl`
pub ring : (s t : Term) (ρ : List ℚ) → clean (normal s) ≡ clean (normal t) → value s ρ ≡ value t ρ
ring s t ρ e = sym (clean_value (normal s) ρ ∙ normal_value s ρ) ∙ ap (λ p. poly_value p ρ) e ∙ clean_value (normal t) ρ ∙ normal_value t ρ

-- ---- to write sums and products
infixl 65 ◌⊕◌
infixl 70 ◌⊗◌
abbrev pub ◌⊕◌ : Term → Term → Term
s ⊕ t = plus s t

abbrev pub ◌⊗◌ : Term → Term → Term
s ⊗ t = times s t
