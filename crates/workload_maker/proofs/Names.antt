-- The names of the signals differ.
use Rattle.std.proofs.Common.{◌≡◌, ℕ, zero, suc, ◌+◌, ◌≤◌, List, [], ◌∷◌, ◌++◌, map, Option, None, Some, Bool, true, false, refl, sym, take}
use Rattle.std.specs.Prelude.{if◌then◌else◌}
use Rattle.std.specs.Fmt.{digits}
use Rattle.std.specs.List.{list_any, range_with_len}
use Rattle.std.proofs.lemmas.List.FromFn.{take-map-range_with_len}
use Rattle.std.proofs.lemmas.Option.{none-some}
use Rattle.progression.specs.declared.parts.Signal.{Signal}
use Rattle.artery_model.specs.Faults.{Fault}
use Rattle.artery_model.specs.Limits.{is_text, first_repeated}
use Rattle.workload_maker.specs.Made.{made_signal}

-- neither this name nor a later one stands twice
record NoneTwice (b : Bool) (later : Option Fault) : Type 0 where
  new : b ≡ false
  rest : later ≡ None

-- what no refusal of a name says
none_twice : (b : Bool) (f : Fault) (later : Option Fault) → (if b then Some f else later) ≡ None → NoneTwice b later
none_twice true f later e = absurd (none-some f (sym e))
none_twice false f later e = record { new = refl; rest = e }

-- names that differ in a list differ in its front
front_differs : (i k : ℕ) (seen : List (List ℕ)) (signals : List Signal) → first_repeated i seen signals ≡ None → first_repeated i seen (take k signals) ≡ None
front_differs i zero seen signals e = refl
front_differs i (suc k) seen [] e = refl
front_differs i (suc k) seen (s ∷ signals) e =
    let both = none_twice (list_any (λ t. is_text s.name t) seen) _ (first_repeated (i + 1) (seen ++ s.name ∷ []) signals) e in
    rw both.new (front_differs (i + 1) k (seen ++ s.name ∷ []) signals both.rest)

-- the names of sixteen signals, whatever the seed
sixteen_differ : (seed : ℕ) → first_repeated 1 [] (map (made_signal seed) (range_with_len 1 16)) ≡ None
unfolding digits
sixteen_differ seed = refl

-- and so those of fewer
pub names_differ : (n seed : ℕ) → n ≤ 16 → first_repeated 1 [] (map (made_signal seed) (range_with_len 1 n)) ≡ None
names_differ n seed le =
    rw (← take-map-range_with_len (made_signal seed) 1 16 n le) (front_differs 1 n [] (map (made_signal seed) (range_with_len 1 16)) (sixteen_differ seed))
