-- TOML values beside what is read from them.
use Rattle.std.proofs.Common.{◌≡◌, ℕ, ◌+◌, ◌<◌, ◌≤◌, List, [], ◌∷◌, ◌++◌, ◌||◌, length, get_or, drop, refl, sym, ap, ◌∙◌, append_assoc, map, pos, int_eq, String, Global, string_bytes}
use Rattle.std.proofs.lemmas.List.{append-nil, at_drop_all, drop_more}
use Rattle.std.specs.List.{list_any}
use Rattle.std.specs.Map.{keys_of}
use Rattle.std.proofs.Common.{BTreeMap}
use Rattle.toml.proofs.Views.{view-Table}
use Rattle.toml.specs.Data.{Data, table}
use Rattle.toml.specs.View.{view, table_view, members_view, items_of}
use Rattle.toml.specs.declared.value.Value.{Value, Table}
use Rattle.description_reader.specs.Quantity.{integer_in}
use Rattle.description_reader.specs.Streets.{has_number}
use Rattle.description_reader.specs.Values.{keys_of_members, list_of}

-- the keys that a map's iterator gives are those of the table
pub keys_of_view : (es : List (String Global × Value)) → keys_of_members (members_view es) ≡ map string_bytes (keys_of es)
keys_of_view [] = refl
keys_of_view (e ∷ es) = ap (λ ks. string_bytes e.0 ∷ ks) (keys_of_view es)

-- an array's items are those of the list that it was made of
pub list_of_items : (ds : List Data) → list_of (items_of ds) ≡ ds
list_of_items [] = refl
list_of_items (d ∷ ds) = ap (λ xs. d ∷ xs) (list_of_items ds)

-- the data of a table as a value
pub view_of_table : (m : BTreeMap (String Global) Value) → view (Table m) ≡ table (table_view m)
view_of_table m = view-Table m

-- a number stands among values where it stands among their data
pub number_of_views : (vs : List Value) (p : ℕ) → list_any (λ v. int_eq (integer_in (view v)) (pos p)) vs ≡ has_number (map view vs) p
number_of_views [] p = refl
number_of_views (v ∷ vs) p = ap (λ b. int_eq (integer_in (view v)) (pos p) || b) (number_of_views vs p)

-- what is read of each value of a list: that of one more is put to those so far
pub read_more : {Y : Type 0} (f : Data → Y) (vs : List Value) (i : ℕ) (v : Value) (all ys more : List Y) (y : Y) → i < length vs → v ≡ get_or vs i v → y ≡ f (view v)
    → more ≡ ys ++ y ∷ [] → all ≡ ys ++ map f (map view (drop i vs)) → all ≡ more ++ map f (map view (drop (i + 1) vs))
read_more f vs i v all ys more y h at is pushed e =
    let rest = map f (map view (drop (i + 1) vs)) in
    e ∙ ap (λ ws. ys ++ map f (map view ws)) (drop_more vs i v h) ∙ ap (λ x. ys ++ x ∷ rest) (sym (is ∙ ap (λ w. f (view w)) at)) ∙ sym (append_assoc ys (y ∷ []) rest)
    ∙ ap (λ zs. zs ++ rest) (sym pushed)

-- and none is left
pub read_all : {Y : Type 0} (f : Data → Y) (vs : List Value) (i : ℕ) (all ys : List Y) → length vs ≤ i → all ≡ ys ++ map f (map view (drop i vs)) → ys ≡ all
read_all f vs i all ys h e = sym (e ∙ at_drop_all (λ ws. ys ++ map f (map view ws)) vs i h ∙ append-nil ys)
