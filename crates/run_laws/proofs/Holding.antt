-- What a file has, said of the bytes that it tells.
use Rattle.std.proofs.Common.{ℕ, ◌≤◌, List, length, Some, refl, subst}
use Rattle.run_inputs.specs.Reading.{HasBytes}

module _ (limit : ℕ) (x : List ℕ) (p : List ℕ → Type 0) where
  -- they are within the limit, and it holds of them
  pub has_told : HasBytes limit (Some x) p → (length x ≤ limit) × p x
  has_told h = subst (λ y. (length y ≤ limit) × p y) h.1.told (h.1.few, h.2)

  -- and the other way round
  pub told_has : (length x ≤ limit) × p x → HasBytes limit (Some x) p
  told_has h = (x, record { few = h.0; told = refl }, h.1)
