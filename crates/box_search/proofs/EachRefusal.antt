-- What holds of each refusal holds of the first that applies.
use Rattle.std.proofs.Common.{arith, ◌≡◌, ℕ, zero, suc, ◌<◌, Bool, true, false, Option, None, Some, option_map, refl, sym, subst}
use Rattle.narrow_fraction.specs.Attempt.{refusal_if, earlier, first_below}
use Rattle.narrow_fraction.proofs.Attempt.{some_not_none}

pub some_same : {X : Type 0} (x y : X) → Some x ≡ Some y → x ≡ y
some_same x y e = cc

-- P holds of what an option has
abbrev pub Each : {E : Type 0} → (E → Type 0) → Option E → Type 0
Each {E = E} P o = (e : E) → o ≡ Some e → P e

pub each_some : {E : Type 0} (P : E → Type 0) (x : E) → P x → Each P (Some x)
each_some P x h e q = subst P (some_same x e q) h

pub each_none : {E : Type 0} (P : E → Type 0) → Each P None
each_none P e q = some_not_none (sym q)

pub each_earlier : {E : Type 0} (P : E → Type 0) (o p : Option E) → Each P o → Each P p → Each P (earlier o p)
each_earlier P None p f g = g
each_earlier P (Some x) p f g = f

pub each_first : {E : Type 0} (P : E → Type 0) (f : ℕ → Option E) (n : ℕ) → ((k : ℕ) → k < n → Each P (f k)) → Each P (first_below f n)
each_first P f zero h = each_none P
each_first P f (suc n) h = each_earlier P (first_below f n) (f n) (each_first P f n (λ k l. h k (omega arith))) (h n (omega arith))

pub each_map : {D E : Type 0} (P : E → Type 0) (g : D → E) (o : Option D) → Each (λ d. P (g d)) o → Each P (option_map g o)
each_map P g None h = each_none P
each_map P g (Some d) h = each_some P (g d) (h d refl)

pub each_if : {E : Type 0} (P : E → Type 0) (b : Bool) (x : E) → P x → Each P (refusal_if b x)
each_if P true x h = each_some P x h
each_if P false x h = each_none P
