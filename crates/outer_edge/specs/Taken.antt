-- What an output has taken, where it is told.
use Rattle.std.specs.Prelude.{◌≡◌, ℕ, List, ◌++◌, take, Option, Some, IfSome}

-- these bytes came at the end
abbrev pub Appends : Option (List ℕ) → Option (List ℕ) → List ℕ → Type 0
Appends before now more = IfSome before (λ bytes. now ≡ Some (bytes ++ more))

-- a front of these bytes came at the end
abbrev pub AppendsFront : Option (List ℕ) → Option (List ℕ) → List ℕ → Type 0
AppendsFront before now more = IfSome before (λ bytes. (n : ℕ) × (now ≡ Some (bytes ++ take n more)))
