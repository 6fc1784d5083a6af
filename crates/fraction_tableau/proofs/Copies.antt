-- Rows that are copied one after another from another list.
use Rattle.std.proofs.Common.{◌≡◌, ℕ, List, [], length, get_or, ◌<◌, ◌≤◌, ◌∙◌, arith}
use Rattle.std.proofs.lemmas.List.{ext_get_or}
use Rattle.rational_theory.specs.Rational.{ℚ}

-- the rows below n are those of the other list
pub record IsCopied (old from now : List (List ℚ)) (n : ℕ) : Type 0 where
  pub count : length now ≡ length old
  pub done : (k : ℕ) → k < n → get_or now k [] ≡ get_or from k []
  pub rest : (k : ℕ) → n ≤ k → get_or now k [] ≡ get_or old k []

pub all_copied : (old from now : List (List ℚ)) (n : ℕ) → length old ≡ length from → IsCopied old from now n → length now ≤ n → now ≡ from
all_copied old from now n e o l = ext_get_or [] now from (o.count ∙ e) (λ k h. o.done k (omega arith))
