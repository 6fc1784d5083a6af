-- Values of TOML, seen as data.
use Rattle.std.proofs.Common.{◌≡◌, ℕ, zero, suc, ◌-◌, List, length, map, Option, None, Some, Bor, option_map, slice_get, refl, sym, ◌∙◌, ap, arith, Vec, Global}
use Rattle.std.proofs.lemmas.List.{length-map}
use Rattle.std.proofs.lemmas.Option.{slice_get-map, slice_get_past, slice_get-get_or}
use Rattle.std.specs.Slice.{IsItemAt}
use Rattle.toml.proofs.Views.{view-Array}
use Rattle.toml.specs.Data.{Data}
use Rattle.toml.specs.View.{view}
use Rattle.toml.specs.declared.value.Value.{Value, Array}
use Rattle.description_reader.proofs.Views.{list_of_items}
use Rattle.description_reader.specs.Values.{at_key, items_in}
use Rattle.fault_words.specs.Places.{numbered, value_in}
use Rattle.fault_words.specs.Shown.{item_words, list_size}

-- an item counted from 1
pub seen_at : (vs : List Value) (n : ℕ) → (n ≡ 0 → ⊥) → option_map view (slice_get vs (n - 1)) ≡ numbered n (map view vs)
seen_at vs zero h = absurd (h refl)
seen_at vs (suc i) h = let is : suc i - 1 ≡ i = omega arith in ap (λ k. option_map view (slice_get vs k)) is ∙ sym (slice_get-map view vs i)

-- and as a slice gives it
pub item_at : (vs : List Value) (n : ℕ) (r : Option (Bor Value)) → (n ≡ 0 → ⊥) → IsItemAt vs (n - 1) r → option_map (λ v. view v.now) r ≡ numbered n (map view vs)
item_at vs n None h past = sym (ap (option_map view) (slice_get_past vs (n - 1) past.3)) ∙ seen_at vs n h
item_at vs n (Some x) h here =
    let is : slice_get vs (n - 1) ≡ Some x.now = slice_get-get_or vs (n - 1) x.now here.3.0 ∙ ap Some (sym here.1) in
    sym (ap (option_map view) is) ∙ seen_at vs n h

-- an item of the list at a key
pub value_in_list : (key : List ℕ) (n : ℕ) (d : Data) → (n ≡ 0 → ⊥) → value_in key n d ≡ numbered n (items_in (at_key d key))
value_in_list key zero d h = absurd (h refl)
value_in_list key (suc i) d h = refl

-- how many items an array has
pub array_words : (v : Vec Value Global) → item_words (view (Array v)) ≡ list_size (length v.items)
array_words v = rw view-Array (ap (λ ds. list_size (length ds)) (list_of_items (map view v.items)) ∙ ap list_size (length-map v.items view))
