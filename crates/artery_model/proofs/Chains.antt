-- Refusals of a list of tests that are made one after another.
use Rattle.std.proofs.Common.{◌≡◌, List, [], ◌∷◌, Option, None, Some, Result, Bool, true, false, ◌&&◌, ◌∙◌, refl}
use Rattle.artery_model.specs.Faults.{Fault, first_fault, Names, Judges}
use Rattle.artery_model.specs.declared.kind.Flaw.{Flaw}
use Rattle.artery_model.specs.declared.kind.Flaw.TheVariants.{Refused, Memory}

-- what the first test refuses is refused
pub first_named : (flaw : Flaw) (f : Option Fault) (tests : List (Option Fault)) → Names flaw f → Names flaw (first_fault (f ∷ tests))
first_named Memory f tests h = tt
first_named (Refused r) f tests h = rw h refl

-- a test that passed stands in front
pub later_named : (flaw : Flaw) (f : Option Fault) (tests : List (Option Fault)) → f ≡ None → Names flaw (first_fault tests) → Names flaw (first_fault (f ∷ tests))
later_named flaw f tests e h = rw e h

pub later_judged : {X : Type 0} (r : Result X Flaw) (f : Option Fault) (tests : List (Option Fault)) → f ≡ None → Judges r (first_fault tests) → Judges r (first_fault (f ∷ tests))
later_judged r f tests e h = rw e h

last_step : (f : Option Fault) → first_fault (f ∷ []) ≡ f
last_step None = refl
last_step (Some f) = refl

-- the last test decides
pub last_judged : {X : Type 0} (r : Result X Flaw) (f : Option Fault) → Judges r f → Judges r (first_fault (f ∷ []))
last_judged r f h = rw (last_step f) h

-- ---- two tests joined by `&&`, as the code makes them: the second decides where the first holds
pub and_then : (v a b : Bool) → a ≡ true → v ≡ b → v ≡ (a && b)
and_then v a b p e = rw p e

-- and otherwise it isn't made
pub and_else : (v a b : Bool) → a ≡ false → v ≡ a → v ≡ (a && b)
and_else v a b p e = rw p (e ∙ p)
