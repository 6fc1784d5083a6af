-- Tests of a table's values that pass.
use Rattle.std.proofs.Common.{◌≡◌, ℕ, ◌+◌, ℤ, List, [], ◌∷◌, map, Bool, true, false, Option, None, Some, is_some, ◌&&◌, refl, sym, ◌∙◌, ap}
use Rattle.std.specs.Prelude.{unwrap_or, option_map, if◌then◌else◌}
use Rattle.std.specs.List.{All, list_all}
use Rattle.std.proofs.lemmas.Bool.{true≢false}
use Rattle.std.proofs.lemmas.List.Elements.{All-head, All-tail}
use Rattle.toml.specs.Data.{Data, array, no_items, Members, table, get}
use Rattle.artery_model.specs.Faults.{Fault, first_fault, unless, each_numbered}
use Rattle.artery_model.proofs.Validity.{AllNone, each_none}
use Rattle.artery_model.specs.declared.kind.Kind.{Kind}
use Rattle.artery_model.specs.declared.kind.Kind.TheVariants.{Missing, WrongType, BadNumber, OutOfRange}
use Rattle.description_reader.specs.Checks.{meets, numbers_of, missing, value_fault, item_fault, items_fault, demands_fault}
use Rattle.description_reader.specs.Judgement.{kind_fault, key_fault, in_table}
use Rattle.description_reader.specs.Keys.{unknown_key}
use Rattle.description_reader.specs.KeyTable.{Key, key, key_when, keys_of, is_in}
use Rattle.description_reader.specs.Places.{key_place, item_place}
use Rattle.description_reader.specs.Values.{items_in}
use Rattle.description_reader.specs.declared.demand.Demand.{Demand}
use Rattle.description_reader.specs.declared.place.TableFacts.{TableFacts}
use Rattle.description_reader.specs.declared.judge.Stage.{Stage}
use Rattle.description_reader.specs.declared.judge.Stage.TheVariants.{Keys, Needed as NeededKeys, Types, Numbers, Ranges}
use Rattle.description_reader.specs.declared.key_table.Demands.{Demands}
use Rattle.description_reader.specs.declared.key_table.When.{When}
use Rattle.description_reader.specs.declared.key_table.Presence.{Presence}
use Rattle.description_reader.specs.declared.key_table.Presence.TheVariants.{Needed, Optional, NotLast}
use Rattle.description_reader.specs.declared.place.Section.{Section}

-- ---- lists of tests
pub none_of : (tests : List (Option Fault)) → AllNone tests → first_fault tests ≡ None
none_of [] all = refl
none_of (f ∷ tests) all = ap (λ o. first_fault (o ∷ tests)) all.0 ∙ none_of tests all.1

pub both_of : (a b : Bool) → (a && b) ≡ true → (a ≡ true) × (b ≡ true)
both_of true true e = (refl, refl)
both_of true false e = absurd (true≢false (sym e))
both_of false b e = absurd (true≢false (sym e))

-- each item of a list passes a test, where what it was made of passed another
pub each_made : {X : Type 0} (P : X → Type 0) (old : ℕ → X → Option Fault) (new : ℕ → Data → Option Fault) (f : X → Data)
    → ((i : ℕ) (x : X) → P x → old i x ≡ None → new i (f x) ≡ None)
    → (i : ℕ) (xs : List X) → All P xs → first_fault (each_numbered old i xs) ≡ None → first_fault (each_numbered new i (map f xs)) ≡ None
each_made P old new f step i [] all e = refl
each_made P old new f step i (x ∷ xs) all e =
    let tests = each_none (old i x ∷ each_numbered old (i + 1) xs) e in
    ap (λ o. first_fault (o ∷ each_numbered new (i + 1) (map f xs))) (step i x (All-head P x xs all) tests.0)
    ∙ each_made P old new f step (i + 1) xs (All-tail P x xs all) (none_of (each_numbered old (i + 1) xs) tests.1)

-- ---- keys
-- a needed key has a value
abbrev pub Stands : Presence → Option Data → Type 0
Stands Needed o = is_some o ≡ true
Stands _ o = Unit {0}

-- the value at a key, and each of its items, is what it must be
pub record Meet (parts : ℤ) (demands : Demands) (o : Option Data) : Type 0 where
  pub value : unwrap_or (option_map (meets parts demands.value) o) true ≡ true
  pub items : list_all (meets parts demands.item) (items_in (unwrap_or o (array no_items))) ≡ true

-- what stands at a key passes each of its tests
pub record Passes (parts : ℤ) (k : Key) (o : Option Data) : Type 0 where
  pub stands : Stands k.presence o
  pub types : Meet parts k.types o
  pub numbers : Meet parts (numbers_of k.types) o
  pub ranges : Meet parts k.ranges o

module _ (parts : ℤ) (section : Section) (d : Data) (name : List ℕ) (o : Option Data) (is : get name d ≡ o) where
  items_pass : (kind : Kind) (demand : Demand) (i : ℕ) (ds : List Data) → list_all (meets parts demand) ds ≡ true
      → first_fault (each_numbered (item_fault kind parts section demand name) i ds) ≡ None
  items_pass kind demand i [] e = refl
  items_pass kind demand i (x ∷ xs) e =
      let both = both_of (meets parts demand x) (list_all (meets parts demand) xs) e in
      ap (λ b. first_fault (unless b kind (item_place section name i) ∷ each_numbered (item_fault kind parts section demand name) (i + 1) xs)) both.0
      ∙ items_pass kind demand (i + 1) xs both.1

  demands_pass : (kind : Kind) (demands : Demands) → Meet parts demands o → demands_fault kind parts section demands name d ≡ None
  unfolding value_fault items_fault
  demands_pass kind demands m =
      none_of (value_fault kind parts section demands.value name d ∷ items_fault kind parts section demands.item name d ∷ []) (
        ap (λ v. unless (unwrap_or (option_map (meets parts demands.value) v) true) kind (key_place section name)) is ∙ ap (λ b. unless b kind (key_place section name)) m.value,
        (
          ap (λ v. first_fault (each_numbered (item_fault kind parts section demands.item name) 1 (items_in (unwrap_or v (array no_items))))) is
              ∙ items_pass kind demands.item 1 (items_in (unwrap_or o (array no_items))) m.items,
          tt,
        ),
      )

  is_there : (presence : Presence) → Stands presence o → missing presence section name d ≡ None
  is_there Needed s = ap (λ v. unless (is_some v) Missing (key_place section name)) is ∙ ap (λ b. unless b Missing (key_place section name)) s
  is_there Optional s = refl
  is_there NotLast s = refl

kind_passes : (stage : Stage) (parts : ℤ) (section : Section) (d : Data) (k : Key) (o : Option Data) → Passes parts k o → get k.name d ≡ o → kind_fault stage parts section d k ≡ None
kind_passes Keys parts section d k o p is = refl
kind_passes NeededKeys parts section d k o p is = is_there parts section d k.name o is k.presence p.stands
kind_passes Types parts section d k o p is = demands_pass parts section d k.name o is WrongType k.types p.types
kind_passes Numbers parts section d k o p is = demands_pass parts section d k.name o is BadNumber (numbers_of k.types) p.numbers
kind_passes Ranges parts section d k o p is = demands_pass parts section d k.name o is OutOfRange k.ranges p.ranges

where_in : (b : Bool) (f : Option Fault) → (b ≡ true → f ≡ None) → (if b then f else None) ≡ None
where_in true f h = h refl
where_in false f h = refl

-- a key passes whose value passes where such a file has the key
pub key_passes_in : (stage : Stage) (facts : TableFacts) (section : Section) (d : Data) (k : Key) (o : Option Data) → (is_in facts k.when ≡ true → Passes facts.parts k o) → get k.name d ≡ o
    → key_fault stage facts section d k ≡ None
key_passes_in stage facts section d k o p is = where_in (is_in facts k.when) _ (λ e. kind_passes stage facts.parts section d k o (p e) is)

pub key_passes : (stage : Stage) (facts : TableFacts) (section : Section) (d : Data) (k : Key) (o : Option Data) → Passes facts.parts k o → get k.name d ≡ o
    → key_fault stage facts section d k ≡ None
key_passes stage facts section d k o p is = key_passes_in stage facts section d k o (λ e. p) is

-- in whichever files there is a key, its value passes the same tests
pub passes_when : (parts : ℤ) (w : When) (name : List ℕ) (presence : Presence) (types ranges : Demands) (o : Option Data) → Passes parts (key name presence types ranges) o
    → Passes parts (key_when w name presence types ranges) o
passes_when parts w name presence types ranges o p = record { stands = p.stands; types = p.types; numbers = p.numbers; ranges = p.ranges }

-- a table passes where its keys are known and the tests of each key pass
pub table_passes : (facts : TableFacts) (section : Section) (ms : Members) → unknown_key facts section (table ms) ≡ None
    → ((stage : Stage) → first_fault (map (key_fault stage facts section (table ms)) (keys_of section)) ≡ None)
    → (stage : Stage) → in_table stage facts section (table ms) ≡ None
table_passes facts section ms known each Keys = known
table_passes facts section ms known each NeededKeys = each NeededKeys
table_passes facts section ms known each Types = each Types
table_passes facts section ms known each Numbers = each Numbers
table_passes facts section ms known each Ranges = each Ranges
