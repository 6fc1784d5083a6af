-- The file that stays open between two pieces.
use Rattle.std.specs.Prelude.{◌≡◌, ℕ, List, Some, string_bytes}
use Rattle.outer_edge.specs.declared.source.Reading.{Reading}

-- what is open is the file of the name that is kept, and stands where its last piece ended
abbrev pub IsKept : {F : Type 0} → (List ℕ → List ℕ → Type 0) → (F → List ℕ → ℕ → Type 0) → Reading F → Type 0
IsKept {F = F} holds stands r = (f : F) (file : List ℕ) → r.file ≡ Some f → holds (string_bytes r.name) file → stands f file r.at

-- it is a plain file, and its name is a plain file's
abbrev pub IsKeptPlain : {F : Type 0} → (List ℕ → Type 0) → (F → Type 0) → Reading F → Type 0
IsKeptPlain {F = F} named plain r = (f : F) → r.file ≡ Some f → named (string_bytes r.name) × plain f
