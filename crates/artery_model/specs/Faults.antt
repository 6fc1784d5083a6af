-- What is wrong with a description: the first that applies in a list of tests.
use Rattle.std.specs.Prelude.{◌≡◌, ℕ, ◌+◌, ◌++◌, List, [], ◌∷◌, Bool, Option, None, Some, Result, Ok, Err, codes, if◌then◌else◌}
use Rattle.std.specs.Fmt.{decimal}
use Rattle.artery_model.specs.declared.kind.Kind.{Kind}
use Rattle.artery_model.specs.declared.kind.Flaw.{Flaw}
use Rattle.artery_model.specs.declared.kind.Flaw.TheVariants.{Refused, Memory}
use Rattle.artery_model.specs.declared.kind.Refusal.{Refusal}

-- the kind, and the path of the place
pub record Fault : Type 0 where
  pub kind : Kind
  pub place : List ℕ

-- the first fault of a list of tests in their order
abbrev pub first_fault : List (Option Fault) → Option Fault
first_fault [] = None
first_fault (None ∷ tests) = first_fault tests
first_fault (Some f ∷ tests) = Some f

-- this fault, where the test fails
abbrev pub unless : Bool → Kind → List ℕ → Option Fault
unless passes kind place = if passes then None else Some (record { kind = kind; place = place })

-- one test for each item of a list, with the item's number, from i on
abbrev pub each_numbered : {X : Type 0} → (ℕ → X → Option Fault) → ℕ → List X → List (Option Fault)
each_numbered test i [] = []
each_numbered test i (x ∷ xs) = test i x ∷ each_numbered test (i + 1) xs

-- paths as `artery.parts`, `signal[3].red` and `link[1].speed_in[2]`
abbrev pub artery_place : List ℕ → List ℕ
artery_place key = codes "artery." ++ key

abbrev pub signal_place : ℕ → List ℕ → List ℕ
signal_place i key = codes "signal[" ++ (decimal i ++ (codes "]." ++ key))

abbrev pub link_place : ℕ → List ℕ → List ℕ
link_place i key = codes "link[" ++ (decimal i ++ (codes "]." ++ key))

abbrev pub fault_of : Refusal → Fault
fault_of r = record { kind = r.kind; place = r.place }

-- a refusal is this fault; want of memory may come in its place
abbrev pub Names : Flaw → Option Fault → Type 0
Names Memory f = Unit {0}
Names (Refused r) f = f ≡ Some (fault_of r)

-- what passed has no fault, and what was refused has this one
abbrev pub Judges : {X : Type 0} → Result X Flaw → Option Fault → Type 0
Judges (Ok x) f = f ≡ None
Judges (Err flaw) f = Names flaw f
