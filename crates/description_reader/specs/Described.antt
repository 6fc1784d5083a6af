-- Which bytes describe which artery, and for which fault all others are refused.
use Rattle.std.specs.Prelude.{◌≡◌, ◌⊎◌, ℕ, List, Option, None, Some, IsUtf8, codes}
use Rattle.toml.specs.Data.{Data, Members, table}
use Rattle.toml.specs.Parse.{parse_document}
use Rattle.progression.specs.Street.{Street}
use Rattle.artery_model.specs.Faults.{Fault, fault_of}
use Rattle.artery_model.specs.declared.kind.Kind.TheVariants.{NotUtf8, NotToml}
use Rattle.artery_model.specs.declared.kind.Flaw.{Flaw}
use Rattle.artery_model.specs.declared.kind.Flaw.TheVariants.{Refused, Memory}
use Rattle.description_reader.specs.Streets.{street_in, description_fault}

-- the bytes are a document with this root
pub record ReadsAs (x : List ℕ) (d : Data) : Type 0 where
  pub text : IsUtf8 x
  pub root : Members
  pub document : parse_document x ≡ Some root
  pub is : d ≡ table root

-- the bytes are a TOML document whose values have no fault, and this is what they make
pub record IsReadBy {V : Type 0} (fault_in : Data → Option Fault) (made_of : Data → V) (x : List ℕ) (v : V) : Type 0 where
  pub text : IsUtf8 x
  pub root : Members
  pub document : parse_document x ≡ Some root
  pub no_fault : fault_in (table root) ≡ None
  pub is : v ≡ made_of (table root)

-- the first fault of the bytes: they aren't UTF-8, or no document, or the document has it
abbrev pub IsRefusedBy : (Data → Option Fault) → List ℕ → Fault → Type 0
IsRefusedBy fault_in x f =
    (¬ IsUtf8 x × (f ≡ record { kind = NotUtf8; place = codes "file" }))
    ⊎ (IsUtf8 x × (parse_document x ≡ None) × (f ≡ record { kind = NotToml; place = codes "file" }))
    ⊎ (IsUtf8 x × (root : Members) × (parse_document x ≡ Some root) × (fault_in (table root) ≡ Some f))

-- a refusal is the first fault of the bytes; want of memory may come in its place
abbrev pub RefusesBy : (Data → Option Fault) → List ℕ → Flaw → Type 0
RefusesBy fault_in x Memory = Unit {0}
RefusesBy fault_in x (Refused r) = IsRefusedBy fault_in x (fault_of r)

-- the bytes are refused, whatever the faults of values are
abbrev pub IsNoDocument : List ℕ → Flaw → Type 0
IsNoDocument x flaw = RefusesBy (λ d. None) x flaw

-- the bytes describe the artery
abbrev pub Described : List ℕ → Street → Type 0
Described x a = IsReadBy description_fault street_in x a

-- and this is the fault of bytes that describe none
abbrev pub RefusedAs : List ℕ → Fault → Type 0
RefusedAs x f = IsRefusedBy description_fault x f

abbrev pub Refuses : List ℕ → Flaw → Type 0
Refuses x flaw = RefusesBy description_fault x flaw

-- no bytes are both described and refused, and for any bytes there is at most one artery and at most one fault
pub record OneAnswer : Type 0 where
  pub apart : (x : List ℕ) (a : Street) (f : Fault) → Described x a → RefusedAs x f → ⊥
  pub artery : (x : List ℕ) (a b : Street) → Described x a → Described x b → a ≡ b
  pub fault : (x : List ℕ) (f g : Fault) → RefusedAs x f → RefusedAs x g → f ≡ g
