-- What the denominator of a leaf's first line is. Of whole numbers over one number, that number is the least common denominator exactly where the greatest common
-- divisor of all of them is 1.
use Rattle.std.specs.Prelude.{◌≡◌, ◌↔◌, ℕ, ℤ, ◌<◌, List, [], ◌∷◌, map, All, unsigned_abs}
use Prim.Native.Nat.{◌∣◌}
use Rattle.rational_theory.specs.Gcd.{gcd}
use Rattle.rational_theory.specs.Rational.{over}
use Rattle.named_row.specs.declared.leaves.Weight.{Weight}
use Rattle.plan_text.specs.Leaves.{denominator_of, times_denominator}

-- the greatest common divisor of a number and others, without their signs
unfoldable pub divisor_from : ℕ → List ℤ → ℕ
divisor_from d [] = d
divisor_from d (v ∷ vs) = divisor_from (gcd d (unsigned_abs v)) vs

-- the multipliers are these numbers over one number
abbrev pub AreOver : ℕ → List ℤ → List Weight → Type 0
AreOver d vs ws = map (λ (w : Weight). w.by) ws ≡ map (λ v. over v d) vs

pub record DivisorRule : Type 0 where
  -- the least common denominator divides what each denominator divides, and nothing else
  pub least : (ws : List Weight) (k : ℕ) → (denominator_of ws ∣ k) ↔ All (λ (w : Weight). w.by.den ∣ k) ws
  -- the greatest common divisor is a multiple of the common divisors, and of nothing else
  pub greatest : (d : ℕ) (vs : List ℤ) (k : ℕ) → (k ∣ divisor_from d vs) ↔ ((k ∣ d) × All (λ v. k ∣ unsigned_abs v) vs)
  -- the rule of the format
  pub rule : (d : ℕ) (vs : List ℤ) (ws : List Weight) → 0 < d → AreOver d vs ws → (denominator_of ws ≡ d) ↔ (divisor_from d vs ≡ 1)
  -- and the whole numbers of a leaf are the numbers over it
  pub wholes : (d : ℕ) (v : ℤ) → 0 < d → times_denominator d (over v d) ≡ v
