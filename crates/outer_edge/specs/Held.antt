-- What files hold, as a function of the name: the bytes, where they are told.
use Rattle.std.specs.Prelude.{◌≡◌, ◌≢◌, ◌↔◌, IfSome, ℕ, ◌≤◌, List, ◌++◌, length, take, drop, Option}

-- no file has changed
abbrev pub SameFiles : (List ℕ → Option (List ℕ)) → (List ℕ → Option (List ℕ)) → Type 0
SameFiles before now = (name : List ℕ) → now name ≡ before name

-- every other file is as before
abbrev pub OthersSame : (List ℕ → Option (List ℕ)) → (List ℕ → Option (List ℕ)) → List ℕ → Type 0
OthersSame before now name = (other : List ℕ) → other ≢ name → now other ≡ before other

-- the file holds these bytes, where it is told
abbrev pub HoldsExactly : Option (List ℕ) → List ℕ → Type 0
HoldsExactly told bytes = IfSome told (λ file. file ≡ bytes)

-- the first k places of a buffer hold the file's bytes from `at` on, and k is 0 exactly at its end
pub record ReadsFrom (file : List ℕ) (at k : ℕ) (into : List ℕ) : Type 0 where
  pub bytes : take k into ≡ take k (drop at file)
  pub inside : k ≤ length (drop at file)
  pub ends : (k ≡ 0) ↔ (length file ≤ at)

-- the file begins with these bytes
pub record IsFront (file front : List ℕ) : Type 0 where
  pub bytes : front ≡ take (length front) file
  pub inside : length front ≤ length file

-- there are this many bytes with which the file begins, where it is told
pub record BeginsWith (count : ℕ) (told : Option (List ℕ)) : Type 0 where
  pub front : List ℕ
  pub long : length front ≡ count
  pub begins : IfSome told (λ file. IsFront file front)

-- the next k bytes of the file came after those before, and k is 0 exactly at its end
pub record TakesMore (file before after : List ℕ) (k : ℕ) : Type 0 where
  pub after_is : after ≡ before ++ take k (drop (length before) file)
  pub inside : k ≤ length (drop (length before) file)
  pub ends : (k ≡ 0) ↔ (length file ≤ length before)
