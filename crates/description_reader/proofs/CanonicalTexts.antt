-- A table without floats is printed as one text.
use Rattle.std.proofs.Common.{◌≡◌, ℕ, ◌+◌, List, [], ◌∷◌, ◌++◌, map, Bool, true, false, ◌==◌, Option, None, Some, sym, ◌∙◌, ap, ap₂}
use Rattle.std.specs.Prelude.{codes, if◌then◌else◌}
use Rattle.toml.specs.Data.{Data, string, integer, float, boolean, datetime, array, table, Items, no_items, item, Members, no_members, member}
use Rattle.toml.specs.Tables.{Definition, key_value, std_table, array_table, Expression}
use Rattle.toml.specs.Text.{breaks_lines, before_item, after_item, IsValueText, IsItemsText, IsMembersText, are_tables, is_section, pairs}
use Rattle.toml.specs.Text.{needs_header, header_of, sections, section, elements, expressions, IsLineText, IsLinesText, IsDocumentText}
use Rattle.toml.specs.View.{items_of}
use Rattle.artery_model.specs.Bounds.{second_version}
use Rattle.progression.specs.Street.{Street}
use Rattle.progression.specs.declared.parts.Head.{Head}
use Rattle.progression.specs.declared.parts.Signal.{Signal}
use Rattle.progression.specs.declared.parts.Link.{Link}
use Rattle.progression.specs.declared.parts.Pair.{Pair}
use Rattle.description_reader.specs.Canonical.{patterns_from, head_members_in, signal_data, link_data, canonical}
use Rattle.description_reader.specs.Printed.{IsPrinted}

-- no float stands in the data
abbrev mutual
  pub HasNoFloat : Data → Type 0
  HasNoFloat (float x) = ⊥
  HasNoFloat (array ds) = HaveNoFloat ds
  HasNoFloat (table ms) = HoldNoFloat ms
  HasNoFloat _ = Unit {0}

  pub HaveNoFloat : Items → Type 0
  HaveNoFloat no_items = Unit {0}
  HaveNoFloat (item d ds) = HasNoFloat d × HaveNoFloat ds

  pub HoldNoFloat : Members → Type 0
  HoldNoFloat no_members = Unit {0}
  HoldNoFloat (member k d ms) = HasNoFloat d × HoldNoFloat ms

-- ---- values
module _ (pretty : Bool) where
  mutual
    same_value : (d : Data) (x y : List ℕ) → HasNoFloat d → IsValueText pretty d x → IsValueText pretty d y → x ≡ y
    same_value (string s) x y n p q = p ∙ sym q
    same_value (integer z) x y n p q = p.0 ∙ sym q.0
    same_value (float f) x y n p q = absurd n
    same_value (boolean b) x y n p q = p ∙ sym q
    same_value (datetime t) x y n p q = p ∙ sym q
    same_value (array ds) x y n p q = p.1 ∙ ap (λ r. codes "[" ++ r) (same_items (breaks_lines pretty ds) true ds p.0 q.0 n p.2 q.2) ∙ sym q.1
    same_value (table ms) x y n p q = p.1 ∙ ap (λ r. codes "{" ++ r) (same_members true ms p.0 q.0 n p.2 q.2) ∙ sym q.1

    same_items : (lines is_first : Bool) (ds : Items) (x y : List ℕ) → HaveNoFloat ds → IsItemsText pretty lines is_first ds x → IsItemsText pretty lines is_first ds y → x ≡ y
    same_items lines is_first no_items x y n p q = p ∙ sym q
    same_items lines is_first (item d ds) x y n p q =
        p.2 ∙ ap₂ (λ this rest. before_item lines is_first ++ (this ++ (after_item lines ++ rest))) (same_value d p.0 q.0 n.0 p.3 q.3) (same_items lines false ds p.1 q.1 n.1 p.4 q.4) ∙ sym q.2

    same_members : (is_first : Bool) (ms : Members) (x y : List ℕ) → HoldNoFloat ms → IsMembersText pretty is_first ms x → IsMembersText pretty is_first ms y → x ≡ y
    same_members is_first no_members x y n p q = p ∙ sym q
    same_members is_first (member k d ms) x y n p q =
        rw (p.2, q.2, same_value d p.0 q.0 n.0 p.3 q.3, same_members false ms p.1 q.1 n.1 p.4 q.4)

-- ---- lines
abbrev IsWithoutFloat : Definition → Type 0
IsWithoutFloat (key_value d) = HasNoFloat d
IsWithoutFloat _ = Unit {0}

abbrev AreWithoutFloat : List Expression → Type 0
AreWithoutFloat [] = Unit {0}
AreWithoutFloat (e ∷ es) = IsWithoutFloat e.1 × AreWithoutFloat es

module _ (pretty : Bool) where
  same_line : (started : Bool) (e : Expression) (x y : List ℕ) → IsWithoutFloat e.1 → IsLineText pretty started e.0 e.1 x → IsLineText pretty started e.0 e.1 y → x ≡ y
  same_line started (key, key_value d) x y n p q = rw (p.1, q.1, same_value pretty d p.0 q.0 n p.2 q.2)
  same_line started (key, std_table) x y n p q = p ∙ sym q
  same_line started (key, array_table) x y n p q = p ∙ sym q

  same_lines : (started : Bool) (es : List Expression) (x y : List ℕ) → AreWithoutFloat es → IsLinesText pretty started es x → IsLinesText pretty started es y → x ≡ y
  same_lines started [] x y n p q = p ∙ sym q
  same_lines started (e ∷ es) x y n p q = p.2 ∙ ap₂ (λ this rest. this ++ rest) (same_line started e p.0 q.0 n.0 p.3 q.3) (same_lines true es p.1 q.1 n.1 p.4 q.4) ∙ sym q.2

-- ---- the lines of a table without floats
joined : (es fs : List Expression) → AreWithoutFloat es → AreWithoutFloat fs → AreWithoutFloat (es ++ fs)
joined [] fs n m = m
joined (e ∷ es) fs n m = (n.0, joined es fs n.1 m)

picked : (b : Bool) (es fs : List Expression) → AreWithoutFloat es → AreWithoutFloat fs → AreWithoutFloat (if b then es else fs)
picked true es fs n m = n
picked false es fs n m = m

pairs_without : (ms : Members) → HoldNoFloat ms → AreWithoutFloat (pairs ms)
pairs_without no_members n = tt
pairs_without (member k d ms) n = picked (is_section d) (pairs ms) ((([], k), key_value d) ∷ pairs ms) (pairs_without ms n.1) (n.0, pairs_without ms n.1)

header_without : (b : Bool) (e : Expression) → IsWithoutFloat e.1 → AreWithoutFloat (if b then e ∷ [] else [])
header_without b e n = picked b (e ∷ []) [] (n, tt) tt

mutual
  sections_without : (path : List (List ℕ)) (ms : Members) → HoldNoFloat ms → AreWithoutFloat (sections path ms)
  sections_without path no_members n = tt
  sections_without path (member k d ms) n = joined (section (path, k) d) (sections path ms) (section_without (path, k) d n.0) (sections_without path ms n.1)

  section_without : (key : List (List ℕ) × List ℕ) (d : Data) → HasNoFloat d → AreWithoutFloat (section key d)
  section_without key (table ms) n =
      joined (header_of key ms) (pairs ms ++ sections (key.0 ++ key.1 ∷ []) ms) (header_without (needs_header ms) (key, std_table) tt)
      (joined (pairs ms) (sections (key.0 ++ key.1 ∷ []) ms) (pairs_without ms n) (sections_without (key.0 ++ key.1 ∷ []) ms n))
  section_without key (array ds) n = picked (are_tables ds) (elements key ds) [] (elements_without key ds n) tt
  section_without key (string s) n = tt
  section_without key (integer z) n = tt
  section_without key (float x) n = tt
  section_without key (boolean b) n = tt
  section_without key (datetime t) n = tt

  elements_without : (key : List (List ℕ) × List ℕ) (ds : Items) → HaveNoFloat ds → AreWithoutFloat (elements key ds)
  elements_without key no_items n = tt
  elements_without key (item (table ms) ds) n = (
    tt,
    joined (pairs ms ++ sections (key.0 ++ key.1 ∷ []) ms) (elements key ds)
        (joined (pairs ms) (sections (key.0 ++ key.1 ∷ []) ms) (pairs_without ms n.0) (sections_without (key.0 ++ key.1 ∷ []) ms n.0)) (elements_without key ds n.1),
  )
  elements_without key (item (array es) ds) n = elements_without key ds n.1
  elements_without key (item (string s) ds) n = elements_without key ds n.1
  elements_without key (item (integer z) ds) n = elements_without key ds n.1
  elements_without key (item (float x) ds) n = elements_without key ds n.1
  elements_without key (item (boolean b) ds) n = elements_without key ds n.1
  elements_without key (item (datetime t) ds) n = elements_without key ds n.1

same_document : (ms : Members) (x y : List ℕ) → HoldNoFloat ms → IsDocumentText false ms x → IsDocumentText false ms y → x ≡ y
same_document ms x y n p q = same_lines false false (expressions ms) x y (joined (pairs ms) (sections [] ms) (pairs_without ms n) (sections_without [] ms n)) p q

-- ---- a canonical description has no floats
items_without : {X : Type 0} (f : X → Data) → ((x : X) → HasNoFloat (f x)) → (xs : List X) → HaveNoFloat (items_of (map f xs))
items_without f h [] = tt
items_without f h (x ∷ xs) = (h x, items_without f h xs)

patterns_without : (i : ℕ) (bs : List Bool) → HaveNoFloat (items_of (patterns_from i bs))
patterns_without i [] = tt
patterns_without i (true ∷ bs) = (tt, patterns_without (i + 1) bs)
patterns_without i (false ∷ bs) = patterns_without (i + 1) bs

head_without : (second : Bool) (name : Option (List ℕ)) (h : Head) → HoldNoFloat (head_members_in second (record h { name = name }))
head_without false None h = ((tt, (tt, tt)), (tt, (tt, (tt, tt))))
head_without false (Some name) h = ((tt, (tt, tt)), (tt, (tt, (tt, (tt, tt)))))
head_without true None h = ((tt, (tt, tt)), (tt, (tt, (tt, (tt, (tt, (tt, tt)))))))
head_without true (Some name) h = ((tt, (tt, tt)), (tt, (tt, (tt, (tt, (tt, (tt, (tt, tt))))))))

signal_without : (s : Signal) → HasNoFloat (signal_data s)
signal_without s = (tt, (tt, (tt, (tt, (tt, (patterns_without 1 s.patterns, (tt, tt)))))))

-- the keys that each link has
given_without : (l : Link) → HasNoFloat (link_data (record l { change_out = None; change_in = None }))
given_without l = (tt, (tt, ((tt, (tt, tt)), ((tt, (tt, tt)), tt))))

link_without : (o i : Option Pair) (l : Link) → HasNoFloat (link_data (record l { change_out = o; change_in = i }))
link_without None None l = given_without l
link_without None (Some i) l = ((tt, (tt, tt)), given_without l)
link_without (Some o) None l = ((tt, (tt, tt)), given_without l)
link_without (Some o) (Some i) l = ((tt, (tt, tt)), ((tt, (tt, tt)), given_without l))

canonical_without : (a : Street) → HoldNoFloat (canonical a)
canonical_without a = (
  head_without (a.head.version == second_version) a.head.name a.head,
  (
    items_without link_data (λ l. link_without l.change_out l.change_in l) a.links,
    (items_without signal_data signal_without a.signals, (tt, tt)),
  ),
)

-- the texts of one canonical description are equal
pub same_text : (a : Street) (x y : List ℕ) → IsPrinted x a → IsPrinted y a → x ≡ y
same_text a x y p q = same_document (canonical a) x y (canonical_without a) p q
