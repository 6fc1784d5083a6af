-- What the definitions promise of every list of bytes and of every described artery.
use Rattle.std.specs.Prelude.{◌⊎◌, ℕ, List}
use Rattle.progression.specs.Street.{Street}
use Rattle.artery_model.specs.Faults.{Fault}
use Rattle.artery_model.specs.Valid.{IsValid}
use Rattle.description_reader.specs.Described.{Described, RefusedAs}

-- any bytes describe an artery or are refused
abbrev pub SomeAnswer : Type 0
SomeAnswer = (x : List ℕ) → ((a : Street) × Described x a) ⊎ ((f : Fault) × RefusedAs x f)

-- what the other laws ask of an artery holds of each described one
abbrev pub DescribedIsValid : Type 0
DescribedIsValid = (x : List ℕ) (a : Street) → Described x a → IsValid a
