-- The bytes that are put into a file.
use Rattle.std.specs.Prelude.{◌≡◌, ℕ, List, Option, Some, None, option_map}
use Rattle.run_inputs.specs.declared.found.Found.{Found}

-- the bytes that are to be put into a file
pub record NamedBytes : Type 0 where
  pub name : List ℕ
  pub bytes : List ℕ

abbrev pub named : List ℕ → List ℕ → NamedBytes
named n xs = record { name = n; bytes = xs }

-- there are bytes, and this holds of them
abbrev pub With : (List ℕ → Type 0) → Option (List ℕ) → Type 0
With p put = (bytes : List ℕ) × (put ≡ Some bytes) × p bytes

-- into this file, where there is one, these bytes, where there are any
abbrev pub put_of : Option (List ℕ) → Option (List ℕ) → Option NamedBytes
put_of None bytes = None
put_of (Some name) None = None
put_of (Some name) (Some bytes) = Some (named name bytes)

-- the bytes of what is found, where there are any
abbrev pub bytes_of : Found → Option (List ℕ)
bytes_of f = option_map (λ b. b.items) f.bytes
