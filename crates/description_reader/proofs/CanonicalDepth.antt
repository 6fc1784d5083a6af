-- A canonical description is not deep, and has no dates.
use Rattle.std.proofs.Common.{◌≡◌, ℕ, ◌+◌, ◌≤◌, List, [], ◌∷◌, map, Bool, true, false, ◌==◌, Option, None, Some, ◌&&◌, refl, ap, ap₂, arith}
use Rattle.toml.specs.Data.{Data, depth, items_depth, members_depth, has_valid_dates, items_have_valid_dates, members_have_valid_dates}
use Rattle.toml.specs.View.{items_of}
use Rattle.artery_model.specs.Bounds.{second_version}
use Rattle.progression.specs.Street.{Street}
use Rattle.progression.specs.declared.parts.Head.{Head}
use Rattle.progression.specs.declared.parts.Signal.{Signal}
use Rattle.progression.specs.declared.parts.Link.{Link}
use Rattle.progression.specs.declared.parts.Pair.{Pair}
use Rattle.description_reader.specs.Canonical.{patterns_from, head_members_in, signal_data, link_data, canonical}

-- ---- depth
items_are_flat : {X : Type 0} (f : X → Data) (most : ℕ) → ((x : X) → depth (f x) ≤ most) → (xs : List X) → items_depth (items_of (map f xs)) ≤ most
items_are_flat f most h [] = omega arith
items_are_flat f most h (x ∷ xs) = omega (arith, h x, items_are_flat f most h xs)

patterns_are_flat : (i : ℕ) (bs : List Bool) → items_depth (items_of (patterns_from i bs)) ≤ 0
patterns_are_flat i [] = omega arith
patterns_are_flat i (true ∷ bs) = omega (arith, patterns_are_flat (i + 1) bs)
patterns_are_flat i (false ∷ bs) = patterns_are_flat (i + 1) bs

head_is_flat : (second : Bool) (name : Option (List ℕ)) (h : Head) → members_depth (head_members_in second (record h { name = name })) ≤ 1
head_is_flat false None h = omega arith
head_is_flat false (Some name) h = omega arith
head_is_flat true None h = omega arith
head_is_flat true (Some name) h = omega arith

signal_is_flat : (s : Signal) → depth (signal_data s) ≤ 2
signal_is_flat s = omega (arith, patterns_are_flat 1 s.patterns)

link_is_flat : (o i : Option Pair) (l : Link) → depth (link_data (record l { change_out = o; change_in = i })) ≤ 2
link_is_flat None None l = omega arith
link_is_flat None (Some i) l = omega arith
link_is_flat (Some o) None l = omega arith
link_is_flat (Some o) (Some i) l = omega arith

pub canonical_is_flat : (a : Street) → members_depth (canonical a) ≤ 3
canonical_is_flat a =
    omega (
      arith,
      head_is_flat (a.head.version == second_version) a.head.name a.head,
      items_are_flat signal_data 2 signal_is_flat a.signals,
      items_are_flat link_data 2 (λ l. link_is_flat l.change_out l.change_in l) a.links,
    )

-- ---- dates
items_are_valid : {X : Type 0} (f : X → Data) → ((x : X) → has_valid_dates (f x) ≡ true) → (xs : List X) → items_have_valid_dates (items_of (map f xs)) ≡ true
items_are_valid f h [] = refl
items_are_valid f h (x ∷ xs) = ap₂ (λ a b. a && b) (h x) (items_are_valid f h xs)

patterns_are_valid : (i : ℕ) (bs : List Bool) → items_have_valid_dates (items_of (patterns_from i bs)) ≡ true
patterns_are_valid i [] = refl
patterns_are_valid i (true ∷ bs) = patterns_are_valid (i + 1) bs
patterns_are_valid i (false ∷ bs) = patterns_are_valid (i + 1) bs

head_is_valid : (second : Bool) (name : Option (List ℕ)) (h : Head) → members_have_valid_dates (head_members_in second (record h { name = name })) ≡ true
head_is_valid false None h = refl
head_is_valid false (Some name) h = refl
head_is_valid true None h = refl
head_is_valid true (Some name) h = refl

signal_is_valid : (s : Signal) → has_valid_dates (signal_data s) ≡ true
signal_is_valid s = rw (patterns_are_valid 1 s.patterns)

link_is_valid : (o i : Option Pair) (l : Link) → has_valid_dates (link_data (record l { change_out = o; change_in = i })) ≡ true
link_is_valid None None l = refl
link_is_valid None (Some i) l = refl
link_is_valid (Some o) None l = refl
link_is_valid (Some o) (Some i) l = refl

pub canonical_is_valid : (a : Street) → members_have_valid_dates (canonical a) ≡ true
canonical_is_valid a =
    let head = head_is_valid (a.head.version == second_version) a.head.name a.head in
    let links = items_are_valid link_data (λ l. link_is_valid l.change_out l.change_in l) a.links in
    let signals = items_are_valid signal_data signal_is_valid a.signals in
    ap₂ (λ x y. x && y) head (ap₂ (λ x y. x && y) links (ap (λ x. x && true) signals))
