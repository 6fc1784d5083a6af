-- A text that is written line by line.
use Rattle.std.proofs.lemmas.List.{flat_map_more, take_more, take_all, map-append}
use Rattle.std.proofs.Common.{◌≡◌, ℕ, ◌+◌, ◌<◌, ◌≤◌, length, map, get_or, take, List, [], ◌∷◌, ◌++◌, refl, sym, ap, ◌∙◌, append_assoc, append-nil}
use Rattle.std.specs.Fmt.{decimal}
use Rattle.std.specs.List.{flat_map}
use Rattle.plan_text.specs.Spelling.{spelled, ended}

-- a number after a space
abbrev pub spaced : ℕ → List ℕ
spaced n = 32 ∷ decimal n

pub spelled_flat : (w ns : List ℕ) → spelled w ns ≡ w ++ flat_map spaced ns
spelled_flat w [] = sym (append-nil w)
spelled_flat w (n ∷ ns) = ap (λ (y : List ℕ). w ++ 32 ∷ y) (spelled_flat (decimal n) ns)

-- lines, and lines after them
pub ended-append : (first second : List (List ℕ)) → ended (first ++ second) ≡ ended first ++ ended second
ended-append [] second = refl
ended-append (l ∷ ls) second = ap (λ (y : List ℕ). l ++ 10 ∷ y) (ended-append ls second) ∙ sym (append_assoc l (10 ∷ ended ls) (ended second))

-- more lines
pub more_lines : (old : List ℕ) (lines more : List (List ℕ)) (before after : List ℕ) → before ≡ old ++ ended lines → after ≡ before ++ ended more → after ≡ old ++ ended (lines ++ more)
more_lines old lines more before after e f =
    f ∙ ap (λ (y : List ℕ). y ++ ended more) e ∙ append_assoc old (ended lines) (ended more) ∙ ap (λ (y : List ℕ). old ++ y) (sym (ended-append lines more))

-- one more line
pub one_more : (old : List ℕ) (lines : List (List ℕ)) (line before after : List ℕ) → before ≡ old ++ ended lines → after ≡ before ++ (line ++ 10 ∷ []) → after ≡ old ++ ended (lines ++ line ∷ [])
one_more old lines line before after e f = more_lines old lines (line ∷ []) before after e f

-- a list that is written item by item: one more item
pub map_more : {X Y : Type 0} (f : X → Y) (xs : List X) (i : ℕ) (d x : X) → i < length xs → x ≡ get_or xs i d → map f (take (i + 1) xs) ≡ map f (take i xs) ++ f x ∷ []
map_more {X} f xs i d x lt is = ap (map f) (take_more xs i d lt ∙ ap (λ (y : X). take i xs ++ y ∷ []) (sym is)) ∙ map-append f (take i xs) (x ∷ [])

-- by one line
pub more_mapped : {X : Type 0} (f : X → List ℕ) (old : List ℕ) (xs : List X) (i : ℕ) (d x : X) (before after : List ℕ) → i < length xs → x ≡ get_or xs i d
    → before ≡ old ++ ended (map f (take i xs)) → after ≡ before ++ ended (f x ∷ []) → after ≡ old ++ ended (map f (take (i + 1) xs))
more_mapped f old xs i d x before after lt is e g =
    more_lines old (map f (take i xs)) (f x ∷ []) before after e g
    ∙ ap (λ (y : List (List ℕ)). old ++ ended y) (sym (map_more f xs i d x lt is))

-- by the lines of what it is seen as
pub more_flat : {X Y : Type 0} (view : X → Y) (f : Y → List (List ℕ)) (old : List ℕ) (xs : List X) (i : ℕ) (d x : X) (before after : List ℕ) → i < length xs
    → x ≡ get_or xs i d → before ≡ old ++ ended (flat_map f (map view (take i xs))) → after ≡ before ++ ended (f (view x)) → after ≡ old ++ ended (flat_map f (map view (take (i + 1) xs)))
more_flat view f old xs i d x before after lt is e g =
    more_lines old (flat_map f (map view (take i xs))) (f (view x)) before after e g
    ∙ ap (λ (y : List (List ℕ)). old ++ ended y) (flat_map_more f [] (map view (take i xs)) (view x) ∙ ap (flat_map f) (sym (map_more view xs i d x lt is)))

-- one more number
pub pushed : (front ns : List ℕ) (i : ℕ) (before after : List ℕ) → i < length ns → before ≡ front ++ flat_map spaced (take i ns) → after ≡ before ++ spaced (get_or ns i 0)
    → after ≡ front ++ flat_map spaced (take (i + 1) ns)
pushed front ns i before after lt e f =
    f ∙ ap (λ (y : List ℕ). y ++ spaced (get_or ns i 0)) e ∙ flat_map_more spaced front (take i ns) (get_or ns i 0)
    ∙ ap (λ (y : List ℕ). front ++ flat_map spaced y) (sym (take_more ns i 0 lt))

-- all numbers, and the end of the line
pub whole : (out key ns : List ℕ) (i : ℕ) (before after : List ℕ) → length ns ≤ i → before ≡ (out ++ key) ++ flat_map spaced (take i ns) → after ≡ before ++ 10 ∷ []
    → after ≡ out ++ (spelled key ns ++ 10 ∷ [])
whole out key ns i before after le e f =
    f ∙ ap (λ (y : List ℕ). y ++ 10 ∷ []) (e ∙ ap (λ (y : List ℕ). (out ++ key) ++ flat_map spaced y) (take_all i ns le) ∙ append_assoc out key (flat_map spaced ns)
    ∙ ap (λ (y : List ℕ). out ++ y) (sym (spelled_flat key ns)))
    ∙ append_assoc out (spelled key ns) (10 ∷ [])
