-- Rows of rational numbers: sums of products, weighted sums of rows, and what follows from inequalities that hold.
use Rattle.std.proofs.Common.{pos, List, [], ◌∷◌}
use Rattle.rational_theory.specs.Rational.{ℚ, whole, ◌+ℚ◌, ◌*ℚ◌, ◌≤ℚ◌}

-- ---- definitions
abbrev pub dot : List ℚ → List ℚ → ℚ
dot [] ys = whole (pos 0)
dot (x ∷ xs) [] = whole (pos 0)
dot (x ∷ xs) (y ∷ ys) = x *ℚ y +ℚ dot xs ys

abbrev pub scale : ℚ → List ℚ → List ℚ
scale k [] = []
scale k (x ∷ xs) = (k *ℚ x) ∷ scale k xs

-- the shorter row counts us filled up with zeros
abbrev pub add : List ℚ → List ℚ → List ℚ
add [] ys = ys
add (x ∷ xs) [] = x ∷ xs
add (x ∷ xs) (y ∷ ys) = (x +ℚ y) ∷ add xs ys

pub record Row : Type 0 where
  pub coefs : List ℚ
  pub bound : ℚ

pub record IsMet (x : List ℚ) (r : Row) : Type 0 where
  pub met : dot r.coefs x ≤ℚ r.bound

-- the weighted sum of rows
abbrev pub combine : List ℚ → List Row → Row
combine [] rs = record { coefs = []; bound = whole (pos 0) }
combine (k ∷ ks) [] = record { coefs = []; bound = whole (pos 0) }
combine (k ∷ ks) (r ∷ rs) = record {
  coefs = add (scale k r.coefs) (combine ks rs).coefs;
  bound = k *ℚ r.bound +ℚ (combine ks rs).bound;
}

abbrev pub AllNonNegative : List ℚ → Type 0
AllNonNegative [] = Unit {0}
AllNonNegative (k ∷ ks) = (whole (pos 0) ≤ℚ k) × AllNonNegative ks

abbrev pub AllMet : List ℚ → List Row → Type 0
AllMet x [] = Unit {0}
AllMet x (r ∷ rs) = IsMet x r × AllMet x rs

abbrev pub added : Row → Row → Row
added r s = record { coefs = add r.coefs s.coefs; bound = r.bound +ℚ s.bound }
