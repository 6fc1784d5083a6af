-- Files in memory: a list in which the first of a name is the file of that name.
use Rattle.std.specs.Prelude.{◌≡◌, ◌≢◌, ℕ, List, [], ◌∷◌, Option, Some, None, unwrap_or, if◌then◌else◌}
use Rattle.std.specs.Str.{bytes_eq}

pub record StoredFile : Type 0 where
  pub name : List ℕ
  pub bytes : List ℕ

-- the file of this name, where there is one
abbrev pub found : List StoredFile → List ℕ → Option (List ℕ)
found [] name = None
found (f ∷ fs) name = if bytes_eq f.name name then Some f.bytes else found fs name

-- what is told of a name: its file's bytes, and none where it isn't there
abbrev pub held : List StoredFile → List ℕ → Option (List ℕ)
held files name = Some (unwrap_or (found files name) [])

-- every other name has the file that it had
abbrev pub OthersKept : List StoredFile → List StoredFile → List ℕ → Type 0
OthersKept before now name = (other : List ℕ) → other ≢ name → found now other ≡ found before other
