-- The first place that passes a test, or the length.
use Rattle.std.proofs.Common.{◌≡◌, inl, inr, not, ℕ, ◌+◌, ◌-◌, ◌*◌, ◌^◌, ◌<◌, ◌≤◌, Bool, true, false, List, length, take, get_or, Option, Some, None, arith, refl, ◌∙◌, ap, lit<}
use Rattle.std.specs.Prelude.{nat_lt, nat_le, ◌&&◌, if◌then◌else◌, unwrap_or, SomeIff, IfSome}
use Rattle.std.specs.List.{position, position_or_len}
use Rattle.std.proofs.lemmas.Bool.{lt-ltb, le-ltb, cases_lt}
use Rattle.std.proofs.lemmas.List.Sums.{prefix_len-le-length}

pub place_or_len : {X : Type 0} (p : X → Bool) (xs : List X) → unwrap_or (position p xs) (length xs) ≡ position_or_len p xs
place_or_len p xs =
    elim (cases_lt (position_or_len p xs) (length xs)) [
      | inl h ↦ rw (lt-ltb (position_or_len p xs) (length xs) h) refl
      | inr h ↦ rw (le-ltb (position_or_len p xs) (length xs) h) (omega (arith, h, prefix_len-le-length (λ x. not (p x)) xs))
    ]
