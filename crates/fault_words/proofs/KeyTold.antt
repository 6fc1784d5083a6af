-- The key that is told of a table is its first unknown one, whose fault the path is of.
use Rattle.std.proofs.Common.{◌≡◌, ℕ, List, [], ◌∷◌, map, Bool, true, false, not, cond, Some, Option, refl, sym, ◌∙◌, ap}
use Rattle.std.specs.Prelude.{◌&&◌, ◌||◌, is_some, unwrap_or}
use Rattle.std.specs.List.{find, list_any}
use Rattle.std.proofs.lemmas.Option.{none-some, same_Some}
use Rattle.artery_model.specs.Faults.{Fault, first_fault, unless}
use Rattle.artery_model.specs.Limits.{is_text}
use Rattle.artery_model.specs.declared.kind.Kind.TheVariants.{UnknownKey}
use Rattle.description_reader.specs.KeyTable.{Key, keys_of, is_in}
use Rattle.description_reader.specs.Keys.{may_stand, is_known, printed, unknown_fault}
use Rattle.description_reader.specs.Places.{key_place}
use Rattle.description_reader.specs.Values.{keys_in}
use Rattle.description_reader.specs.declared.place.TableFacts.{TableFacts}
use Rattle.description_reader.specs.declared.place.Section.{Section}
use Rattle.fault_words.specs.Near.{is_here, known_key}
use Rattle.fault_words.specs.Promises.{UnknownIsTold}

-- something is found where some element passes
found_by : (t : Bool) (k : Key) (rest : Option Key) (any : Bool) → is_some rest ≡ any → is_some (cond t (Some k) rest) ≡ (t || any)
found_by true k rest any e = refl
found_by false k rest any e = e

is_found : (p q : Key → Bool) → ((k : Key) → p k ≡ q k) → (ks : List Key) → is_some (find p ks) ≡ list_any q ks
is_found p q same [] = refl
is_found p q same (k ∷ ks) = found_by (p k) k (find p ks) (list_any q ks) (is_found p q same ks) ∙ ap (λ t. t || list_any q ks) (same k)

joined : (a b c : Bool) → (a && (b && c)) ≡ (a && b && c)
joined true b c = refl
joined false b c = refl

module _ (facts : TableFacts) (section : Section) where
  abbrev fault_at : List ℕ → Fault
  fault_at name = record { kind = UnknownKey; place = key_place section (printed name) }

  same : (name : List ℕ) (k : Key) → (is_text name k.name && is_here facts section k) ≡ (is_text name k.name && is_in facts k.when && may_stand facts.links section k.presence)
  same name k = joined (is_text name k.name) (is_in facts k.when) (may_stand facts.links section k.presence)

  known : (name : List ℕ) → is_some (known_key facts section name) ≡ is_known facts section name
  known name =
      is_found (λ k. is_text name k.name && is_here facts section k) (λ k. is_text name k.name && is_in facts k.when && may_stand facts.links section k.presence) (same name) (keys_of section)

  abbrev Tells : List (List ℕ) → Type 0
  Tells names = (key : List ℕ) (f : Fault) → first_fault (map (unknown_fault facts section) names) ≡ Some f
      → f ≡ fault_at (unwrap_or (find (λ name. not (is_some (known_key facts section name))) names) key)

  tells_by : (t : Bool) (name : List ℕ) (names : List (List ℕ)) → Tells names → (key : List ℕ) (f : Fault)
      → first_fault (unless t UnknownKey (key_place section (printed name)) ∷ map (unknown_fault facts section) names) ≡ Some f
      → f ≡ fault_at (unwrap_or (cond (not t) (Some name) (find (λ other. not (is_some (known_key facts section other))) names)) key)
  tells_by true name names rest key f e = rest key f e
  tells_by false name names rest key f e = sym (same_Some _ _ e)

  tells : (names : List (List ℕ)) → Tells names
  tells [] key f e = absurd (none-some f e)
  tells (name ∷ names) key f e = rw (known name) (tells_by (is_known facts section name) name names (tells names) key f e)

pub unknown_is_told : UnknownIsTold
unknown_is_told = record { named = λ facts section d key f e. tells facts section (keys_in d) key f e }
