-- Lemmas on the definitions of `Rows`.
use Rattle.std.proofs.Common.{◌≡◌, pos, List, [], ◌∷◌, refl, sym, ◌∙◌, ap, ap₂}
use Rattle.rational_theory.specs.Rational.{ℚ, whole, ◌+ℚ◌, ◌*ℚ◌, neg_ℚ, ◌≤ℚ◌}
use Rattle.rational_theory.proofs.Arithmetic.{+ℚ_comm, +ℚ-zero, *ℚ_assoc, *ℚ_comm, *ℚ-zero, *ℚ-+ℚ}
use Rattle.rational_theory.proofs.Order.{≤ℚ_refl, ≤ℚ_trans, ≤ℚ-+ℚ, ≤ℚ-*ℚ}
use Rattle.rational_theory.proofs.Ring.{zero-+ℚ, ring, at, minus, ◌⊕◌, ◌⊗◌}
use Rattle.rational_theory.specs.Rows.{dot, scale, add, Row, IsMet, combine, AllNonNegative, AllMet}

-- ---- dot
pub dot-scale : (k : ℚ) (a x : List ℚ) → dot (scale k a) x ≡ k *ℚ dot a x
dot-scale k [] x = sym (*ℚ-zero k)
dot-scale k (a ∷ us) [] = sym (*ℚ-zero k)
dot-scale k (a ∷ us) (x ∷ xs) = ap₂ (λ u v. u +ℚ v) (*ℚ_assoc k a x) (dot-scale k us xs) ∙ sym (*ℚ-+ℚ k (a *ℚ x) (dot us xs))

pub dot-add : (a b x : List ℚ) → dot (add a b) x ≡ dot a x +ℚ dot b x
dot-add [] b x = sym (zero-+ℚ (dot b x))
dot-add (a ∷ us) [] x = sym (+ℚ-zero (dot (a ∷ us) x))
dot-add (a ∷ us) (b ∷ bs) [] = sym (+ℚ-zero (whole (pos 0)))
dot-add (a ∷ us) (b ∷ bs) (x ∷ xs) =
    ap (λ t. (a +ℚ b) *ℚ x +ℚ t) (dot-add us bs xs)
    ∙ ring ((at 0 ⊕ at 1) ⊗ at 2 ⊕ (at 3 ⊕ at 4)) ((at 0 ⊗ at 2 ⊕ at 3) ⊕ (at 1 ⊗ at 2 ⊕ at 4)) (a ∷ b ∷ x ∷ dot us xs ∷ dot bs xs ∷ []) refl

-- ---- order
pub ≤ℚ-sum : (a b c d : ℚ) → a ≤ℚ b → c ≤ℚ d → (a +ℚ c) ≤ℚ (b +ℚ d)
≤ℚ-sum a b c d h k = ≤ℚ_trans (a +ℚ c) (b +ℚ c) (b +ℚ d) (≤ℚ-+ℚ a b c h) (rw (+ℚ_comm b c, +ℚ_comm b d) (≤ℚ-+ℚ c d b k))

pub ≤ℚ-left : (k a b : ℚ) → whole (pos 0) ≤ℚ k → a ≤ℚ b → (k *ℚ a) ≤ℚ (k *ℚ b)
≤ℚ-left k a b p h = rw (*ℚ_comm k a, *ℚ_comm k b) (≤ℚ-*ℚ a b k h p)

-- ---- the weighted sum of inequalities that hold
pub combine_met : (ks : List ℚ) (rs : List Row) (x : List ℚ) → AllNonNegative ks → AllMet x rs → IsMet x (combine ks rs)
combine_met [] rs x p h = record { met = ≤ℚ_refl (whole (pos 0)) }
combine_met (k ∷ ks) [] x p h = record { met = ≤ℚ_refl (whole (pos 0)) }
combine_met (k ∷ ks) (r ∷ rs) x p h =
    record { met = rw (dot-add, dot-scale) (≤ℚ-sum _ _ _ _ (≤ℚ-left k _ _ p.0 h.0.met) (combine_met ks rs x p.1 h.1).met) }

-- ---- pivots: an equation stays one, both ways

abbrev pub scaled : ℚ → Row → Row
scaled k r = record { coefs = scale k r.coefs; bound = k *ℚ r.bound }

pub +ℚ_cancel : (a b c : ℚ) → a +ℚ c ≡ b +ℚ c → a ≡ b
+ℚ_cancel a b c e =
    ring (at 0) ((at 0 ⊕ at 1) ⊕ minus (at 1)) (a ∷ c ∷ []) refl ∙ ap (λ t. t +ℚ neg_ℚ c) e ∙ ring ((at 0 ⊕ at 1) ⊕ minus (at 1)) (at 0) (b ∷ c ∷ []) refl
