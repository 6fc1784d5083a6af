-- Tests, and what a search of a list finds.
use Rattle.std.proofs.Common.{◌≡◌, List, [], ◌∷◌, map, Bool, true, false, true≢false, cond, ◌&&◌, Option, None, Some, refl, sym, ◌∙◌, subst}
use Rattle.std.specs.Prelude.{find}
use Rattle.std.proofs.lemmas.Option.{none-some, same_Some}
use Rattle.rational_theory.specs.Rational.{ℚ}

pub both_of : (a b : Bool) → (a && b) ≡ true → (a ≡ true) × (b ≡ true)
both_of true true e = (refl, refl)
both_of true false e = absurd (true≢false (sym e))
both_of false b e = absurd (true≢false (sym e))

pub both_is : (a b : Bool) → a ≡ true → b ≡ true → (a && b) ≡ true
both_is a b p q = rw (p, q) refl

abbrev pub Each : (ℚ → Type 0) → List ℚ → Type 0
Each P [] = Unit {0}
Each P (x ∷ xs) = P x × Each P xs

-- what is found among the things that are made of some numbers is made of one of these, and passes the test
pub found : {X : Type 0} (make : ℚ → X) (test : X → Bool) (P : ℚ → Type 0) (Q : X → Type 0) → ((s : ℚ) → P s → test (make s) ≡ true → Q (make s))
    → (ss : List ℚ) → Each P ss → (x : X) → find test (map make ss) ≡ Some x → Q x
found make test P Q h [] each x e = absurd (none-some x e)
found {X} make test P Q h (s ∷ ss) each x e = by (test (make s)) refl (found make test P Q h ss each.1 x) e
  where
    by : (b : Bool) → test (make s) ≡ b → (find test (map make ss) ≡ Some x → Q x) → cond b (Some (make s)) (find test (map make ss)) ≡ Some x → Q x
    by true t rest f = subst Q (same_Some (make s) x f) (h s each.0 t)
    by false t rest f = rest f
