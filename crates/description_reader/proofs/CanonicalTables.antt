-- The table of a map with one more key, and the numbers of patterns.
use Rattle.std.proofs.Common.{◌≡◌, ℕ, ◌+◌, List, [], ◌∷◌, ◌++◌, length, Bool, true, false, Ordering, Less, Equal, Greater, String, Global}
use Rattle.std.proofs.Common.{string_bytes, ◌<◌, map, take, get_or, refl, sym, ◌∙◌, ap, ap₂, arith}
use Rattle.std.specs.Ordering.{match_ordering}
use Rattle.std.specs.BTreeMap.{insert_entry}
use Rattle.std.specs.String.{string_cmp}
use Rattle.std.specs.Prelude.{if◌then◌else◌}
use Rattle.std.proofs.lemmas.List.{append-nil, map-append, length-take-le, take_more}
use Rattle.toml.specs.Data.{Data}
use Rattle.toml.specs.View.{view, members_view}
use Rattle.toml.specs.declared.value.Value.{Value}
use Rattle.description_reader.specs.Members.{with_member}
use Rattle.description_reader.specs.Canonical.{patterns_from, number_data}

abbrev Entry : Type 0
Entry = String Global × Value

match_members : (o : Ordering) (a b c : List Entry) → members_view (match_ordering o a b c) ≡ match_ordering o (members_view a) (members_view b) (members_view c)
match_members Less a b c = refl
match_members Equal a b c = refl
match_members Greater a b c = refl

-- an insert into a map is one into its members
pub insert_is_with_member : (es : List Entry) (k : String Global) (v : Value) → members_view (insert_entry string_cmp es k v) ≡ with_member (string_bytes k) (view v) (members_view es)
insert_is_with_member [] k v = refl
insert_is_with_member (e ∷ es) k v = match_members (string_cmp k e.0) _ _ _ ∙ rw (insert_is_with_member es k v)

-- the numbers of patterns, with one more pattern at the end
pub patterns_from_last : (i : ℕ) (bs : List Bool) (b : Bool) → patterns_from i (bs ++ b ∷ []) ≡ patterns_from i bs ++ (if b then number_data (i + length bs) ∷ [] else [])
patterns_from_last i [] true = ap (λ n. number_data n ∷ []) (omega arith)
patterns_from_last i [] false = refl
patterns_from_last i (true ∷ bs) b = ap (λ ds. number_data i ∷ ds) (patterns_from_last (i + 1) bs b ∙ ap (λ n. patterns_from (i + 1) bs ++ (if b then number_data n ∷ [] else [])) (omega arith))
patterns_from_last i (false ∷ bs) b = patterns_from_last (i + 1) bs b ∙ ap (λ n. patterns_from (i + 1) bs ++ (if b then number_data n ∷ [] else [])) (omega arith)

-- the numbers of one pattern more
one_longer : (bs : List Bool) (i : ℕ) (b : Bool) → i < length bs → get_or bs i false ≡ b
    → patterns_from 1 (take (i + 1) bs) ≡ patterns_from 1 (take i bs) ++ (if b then number_data (i + 1) ∷ [] else [])
one_longer bs i b h at =
    ap (patterns_from 1) (take_more bs i false h ∙ ap (λ x. take i bs ++ x ∷ []) at) ∙ patterns_from_last 1 (take i bs) b
    ∙ ap (λ n. patterns_from 1 (take i bs) ++ (if b then number_data n ∷ [] else [])) (omega (arith, length-take-le i bs (omega arith)))

-- one more pattern that is allowed, and one that isn't
pub pattern_more : (vs ws : List Value) (v : Value) (bs : List Bool) (i : ℕ) → i < length bs → get_or bs i false ≡ true → ws ≡ vs ++ v ∷ [] → view v ≡ number_data (i + 1)
    → map view vs ≡ patterns_from 1 (take i bs) → map view ws ≡ patterns_from 1 (take (i + 1) bs)
pattern_more vs ws v bs i h at pushed seen e =
    ap (map view) pushed ∙ map-append view vs (v ∷ []) ∙ ap₂ (λ ds d. ds ++ d ∷ []) e seen ∙ sym (one_longer bs i true h at)

pub pattern_less : (vs ws : List Value) (bs : List Bool) (i : ℕ) → i < length bs → get_or bs i false ≡ false → ws ≡ vs
    → map view vs ≡ patterns_from 1 (take i bs) → map view ws ≡ patterns_from 1 (take (i + 1) bs)
pattern_less vs ws bs i h at same e = ap (map view) same ∙ e ∙ sym (append-nil (patterns_from 1 (take i bs))) ∙ sym (one_longer bs i false h at)

-- the data of one more value, beside one more item that it was made of
pub map_view_more : {X : Type 0} (f : X → Data) (vs : List Value) (v : Value) (xs : List X) (i : ℕ) (x : X) → i < length xs → x ≡ get_or xs i x → view v ≡ f x
    → map view vs ≡ map f (take i xs) → map view (vs ++ v ∷ []) ≡ map f (take (i + 1) xs)
map_view_more f vs v xs i x h is seen e =
    map-append view vs (v ∷ []) ∙ ap₂ (λ ds d. ds ++ d ∷ []) e (seen ∙ ap f is)
    ∙ sym (ap (map f) (take_more xs i x h) ∙ map-append f (take i xs) (get_or xs i x ∷ []))
