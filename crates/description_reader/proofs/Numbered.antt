-- A loop over values that stops at the first fault: the tests of the values that are left decide.
use Rattle.std.proofs.Common.{◌≡◌, ℕ, ◌+◌, ◌<◌, ◌≤◌, List, ◌∷◌, length, get_or, drop, Option, None, sym, ap, ◌∙◌, map}
use Rattle.std.proofs.lemmas.List.{at_drop_all, drop_more}
use Rattle.toml.specs.Data.{Data}
use Rattle.toml.specs.View.{view}
use Rattle.toml.specs.declared.value.Value.{Value}
use Rattle.artery_model.specs.Faults.{Fault, first_fault, each_numbered, Names}
use Rattle.artery_model.specs.declared.kind.Flaw.{Flaw}
use Rattle.artery_model.specs.declared.kind.Flaw.TheVariants.{Refused, Memory}

module _ (test : ℕ → Data → Option Fault) (vs : List Value) (i : ℕ) where
  -- the first fault of the values from i on
  abbrev rest : ℕ → Option Fault
  rest k = first_fault (each_numbered test (k + 1) (map view (drop k vs)))

  split : (v : Value) → i < length vs → v ≡ get_or vs i v → rest i ≡ first_fault (test (i + 1) (view v) ∷ each_numbered test (i + 1 + 1) (map view (drop (i + 1) vs)))
  split v h at =
      ap (λ ws. first_fault (each_numbered test (i + 1) (map view ws))) (drop_more vs i v h)
      ∙ ap (λ w. first_fault (test (i + 1) (view w) ∷ each_numbered test (i + 1 + 1) (map view (drop (i + 1) vs)))) (sym at)

  -- one more has none
  pub numbered_more : (v : Value) (f : Option Fault) → i < length vs → v ≡ get_or vs i v → test (i + 1) (view v) ≡ None → f ≡ rest i → f ≡ rest (i + 1)
  numbered_more v f h at none e = e ∙ split v h at ∙ ap (λ o. first_fault (o ∷ each_numbered test (i + 1 + 1) (map view (drop (i + 1) vs)))) none

  -- none is left
  pub numbered_all : (f : Option Fault) → length vs ≤ i → f ≡ rest i → f ≡ None
  numbered_all f h e = e ∙ at_drop_all (λ ws. first_fault (each_numbered test (i + 1) (map view ws))) vs i h

  -- what the next test refuses is refused
  pub named_at : (v : Value) (f : Option Fault) (flaw : Flaw) → i < length vs → v ≡ get_or vs i v → f ≡ rest i → Names flaw (test (i + 1) (view v)) → Names flaw f
  named_at v f Memory h at e n = tt
  named_at v f (Refused r) h at e n = e ∙ split v h at ∙ ap (λ o. first_fault (o ∷ each_numbered test (i + 1 + 1) (map view (drop (i + 1) vs)))) n
