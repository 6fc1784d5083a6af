-- The cycles among the words: quantities, or whole seconds.
use Rattle.std.specs.Prelude.{◌≡◌, ℕ, nat_le, ◌&&◌, List, length, All, Bool, true, Option, Some, None, is_some, option_and_then, if◌then◌else◌}
use Rattle.std.specs.List.{list_all, AllZip}
use Rattle.rational_theory.specs.Rational.{ℚ, whole}
use Rattle.quantity_text.specs.Quantity.{quantity_of}
use Rattle.artery_model.specs.Bounds.{least_cycle, most_cycle}
use Rattle.artery_model.specs.Limits.{within}
use Rattle.run_inputs.specs.Numbers.{number_within}

-- the cycle that a word spells, in seconds: a quantity in the limits of a street's cycle
abbrev pub cycle_of : List ℕ → Option ℚ
cycle_of word = option_and_then (λ q. if within (whole least_cycle) (whole most_cycle) q then Some q else None) (quantity_of word)

-- the same where it is to be a whole number
abbrev pub seconds_of : List ℕ → Option ℕ
seconds_of word = number_within 1 3600 word

-- ---- words that spell values of one kind
abbrev pub spells : {V : Type 0} → (List ℕ → Option V) → List ℕ → Bool
spells value word = is_some (value word)

-- the most cycles that words may spell
abbrev pub most_cycles : ℕ
most_cycles = 100

-- there are words, no more than that, and each spells a value
abbrev pub are_spelled : {V : Type 0} → (List ℕ → Option V) → List (List ℕ) → Bool
are_spelled value words = nat_le 1 (length words) && (nat_le (length words) most_cycles && list_all (spells value) words)

-- the same of each word, as a fact
abbrev pub Spell : {V : Type 0} → (List ℕ → Option V) → List (List ℕ) → Type 0
Spell value words = All (λ word. spells value word ≡ true) words

-- as many values as words, each spelled by the word at its place
abbrev pub AreSpelled : {V : Type 0} → (List ℕ → Option V) → List (List ℕ) → List V → Type 0
AreSpelled value words values = AllZip (λ word v. value word ≡ Some v) words values
