-- The path of a place names its table, its key and its item.
use Rattle.std.proofs.Common.{◌≡◌, ℕ, ◌+◌, ◌*◌, ◌<◌, ◌≤◌, not, true, false, List, [], ◌∷◌, ◌++◌, length, take, drop, fold, codes}
use Rattle.std.proofs.Common.{refl, sym, ◌∙◌, ap, subst, arith, cond, append_assoc, length-append, eq-eqb}
use Rattle.std.specs.Prelude.{◌==◌, ◌&&◌, nat_lt}
use Rattle.std.specs.Char.{digit_value}
use Rattle.std.specs.Fmt.{decimal}
use Rattle.std.specs.List.{position_or_len}
use Rattle.std.specs.Str.Parse.{AllDigits, digits_value_after}
use Rattle.std.proofs.Math.Seq.{take-append_seam, drop-append-add, take-length}
use Rattle.std.proofs.lemmas.Bool.{and_parts, false≢true, ne_eqb, le-leb, lt-ltb, ltb-true}
use Rattle.std.proofs.lemmas.Fmt.{decimal_is_IsNumeral}
use Rattle.std.proofs.lemmas.List.{drop_all}
use Rattle.std.proofs.lemmas.List.Folds.{list_all-append}
use Rattle.std.proofs.lemmas.List.Sums.{fold-append}
use Rattle.std.proofs.lemmas.Str.Parse.{digit_from_value}
use Rattle.quantity_text.proofs.RunsLaws.{digit_is}
use Rattle.description_reader.specs.Places.{key_place, item_place}
use Rattle.description_reader.specs.declared.place.Section.{Section}
use Rattle.description_reader.specs.declared.place.Section.TheVariants.{Root, Artery, Signal, Link, PlanRoot, Plan}
use Rattle.fault_words.specs.Places.{before, behind, has_table, table_path, key_path, name_of, with_digit, number_of, section_named, section_number}
use Rattle.fault_words.specs.Promises.{lacks, can_stand, is_of, IsToldAs, PlacesAreTold}
use Rattle.fault_words.specs.declared.place.Document.{Document}
use Rattle.fault_words.specs.declared.place.Document.TheVariants as document

-- ---- marks
module _ (mark : ℕ) where
  -- bytes without the mark, and what stands behind it
  place_at : (xs ys : List ℕ) → lacks mark xs ≡ true → position_or_len (λ b. b == mark) (xs ++ mark ∷ ys) ≡ length xs
  place_at [] ys h = rw (eq-eqb mark mark refl) refl
  place_at (x ∷ xs) ys h = let (here, more) = and_parts (not (x == mark)) (lacks mark xs) h in rw (here, place_at xs ys more) (omega arith)

  no_place : (xs : List ℕ) → lacks mark xs ≡ true → position_or_len (λ b. b == mark) xs ≡ length xs
  no_place [] h = refl
  no_place (x ∷ xs) h = let (here, more) = and_parts (not (x == mark)) (lacks mark xs) h in rw (here, no_place xs more) (omega arith)

  before_at : (xs ys : List ℕ) → lacks mark xs ≡ true → before mark (xs ++ mark ∷ ys) ≡ xs
  before_at xs ys h = ap (λ n. take n (xs ++ mark ∷ ys)) (place_at xs ys h) ∙ take-append_seam xs (mark ∷ ys)

  behind_at : (xs ys : List ℕ) → lacks mark xs ≡ true → behind mark (xs ++ mark ∷ ys) ≡ ys
  behind_at xs ys h = ap (λ n. drop (n + 1) (xs ++ mark ∷ ys)) (place_at xs ys h) ∙ drop-append-add xs (mark ∷ ys) 1

  before_none : (xs : List ℕ) → lacks mark xs ≡ true → before mark xs ≡ xs
  before_none xs h = ap (λ n. take n xs) (no_place xs h) ∙ take-length xs

  behind_none : (xs : List ℕ) → lacks mark xs ≡ true → behind mark xs ≡ []
  behind_none xs h = ap (λ n. drop (n + 1) xs) (no_place xs h) ∙ drop_all (length xs + 1) xs (omega arith)

-- ---- numbers
-- more digits write no smaller number
le_value_after : (n : ℕ) (ds : List ℕ) → n ≤ digits_value_after 10 n ds
le_value_after n [] = omega arith
le_value_after n (c ∷ cs) = omega (arith, le_value_after (n * 10 + digit_value c) cs)

digit_more : (n c : ℕ) → n < 1000000 → digit_value c < 10 → with_digit n c ≡ n * 10 + digit_value c
digit_more n c small h =
    let r = digit_from_value c h in
    rw (le-leb 48 c r.0, le-leb c 57 r.1, lt-ltb n 1000000 small, digit_is c h) (omega arith)

digits_more : (n : ℕ) (ds : List ℕ) → AllDigits 10 ds → digits_value_after 10 n ds < 10000000 → fold with_digit n ds ≡ digits_value_after 10 n ds
digits_more n [] d small = refl
digits_more n (c ∷ cs) d small =
    let front : n < 1000000 = omega (arith, le_value_after (n * 10 + digit_value c) cs, small) in
    ap (λ m. fold with_digit m cs) (digit_more n c front d.0) ∙ digits_more (n * 10 + digit_value c) cs d.1 small

dotless : (ds : List ℕ) → AllDigits 10 ds → lacks 46 ds ≡ true
dotless [] d = refl
dotless (c ∷ cs) d =
    let r = digit_from_value c d.0 in
    let apart : c ≡ 46 → ⊥ = λ e. omega (arith, e, r.0) in
    rw (ne_eqb c 46 apart, dotless cs d.1) refl

-- a number in brackets
abbrev in_brackets : ℕ → List ℕ
in_brackets i = codes "[" ++ (decimal i ++ codes "]")

no_dot : (i : ℕ) → i < 10000000 → lacks 46 (in_brackets i) ≡ true
no_dot i h =
    let digits = (decimal_is_IsNumeral i (omega (arith, h))).0.1 in
    list_all-append (λ b. not (b == 46)) (decimal i) (codes "]") ∙ ap (λ t. t && true) (dotless (decimal i) digits)

value_of_decimal : (i : ℕ) → i < 10000000 → fold with_digit 0 (decimal i ++ codes "]") ≡ i
value_of_decimal i h =
    let numeral = decimal_is_IsNumeral i (omega (arith, h)) in
    let is : digits_value_after 10 0 (decimal i) ≡ i = numeral.1 in
    fold-append with_digit 0 (decimal i) (codes "]")
    ∙ ap (λ n. with_digit n 93) (digits_more 0 (decimal i) numeral.0.1 (omega (arith, is, h)) ∙ is)

number_named : (name : List ℕ) (i : ℕ) → i < 10000000 → lacks 91 name ≡ true → number_of (name ++ in_brackets i) ≡ i
number_named name i h l = ap (fold with_digit 0) (behind_at 91 name (decimal i ++ codes "]") l) ∙ value_of_decimal i h

-- ---- the parts of a place
-- with a table the key stands behind the point
with_table : (front rest : List ℕ) → lacks 46 front ≡ true → 0 < length rest → (table_path (front ++ 46 ∷ rest) ≡ front) × (key_path (front ++ 46 ∷ rest) ≡ rest)
with_table front rest l h =
    let path = front ++ 46 ∷ rest in
    let back : behind 46 path ≡ rest = behind_at 46 front rest l in
    let has : has_table path ≡ true = ap (λ (ds : List ℕ). nat_lt 0 (length ds)) back ∙ lt-ltb 0 (length rest) h in (
      ap (λ t. cond t (before 46 path) (codes "")) has ∙ before_at 46 front rest l,
      ap (λ t. cond t (behind 46 path) path) has ∙ back,
    )

without_table : (path : List ℕ) → lacks 46 path ≡ true → (table_path path ≡ []) × (key_path path ≡ path)
without_table path l =
    let none : has_table path ≡ false = ap (λ (ds : List ℕ). nat_lt 0 (length ds)) (behind_none 46 path l) in (
      ap (λ t. cond t (before 46 path) (codes "")) none,
      ap (λ t. cond t (behind 46 path) path) none,
    )

-- what stands behind the table: the key, and the number of an item
record IsRest (rest key : List ℕ) (item : ℕ) : Type 0 where
  no_dot : lacks 46 rest ≡ true
  some : 0 < length rest
  name : name_of rest ≡ key
  number : number_of rest ≡ item

told_of : (document : Document) (path front rest key : List ℕ) (section : Section) (item : ℕ) → (table_path path ≡ front) × (key_path path ≡ rest)
    → section_named document (name_of front) (number_of front) ≡ section → IsRest rest key item → IsToldAs document path section key item
told_of document path front rest key section item parts is r = record {
  table = ap (λ t. section_named document (name_of t) (number_of t)) parts.0 ∙ is;
  name = ap name_of parts.1 ∙ r.name;
  number = ap number_of parts.1 ∙ r.number;
}

at_root : (document : Document) (section : Section) (rest key : List ℕ) (item : ℕ) → section_named document (name_of []) (number_of []) ≡ section → IsRest rest key item
    → IsToldAs document rest section key item
at_root document section rest key item is r = told_of document rest [] rest key section item (without_table rest r.no_dot) is r

at_table : (document : Document) (section : Section) (front rest key : List ℕ) (item : ℕ) → lacks 46 front ≡ true → section_named document (name_of front) (number_of front) ≡ section
    → IsRest rest key item → IsToldAs document (front ++ 46 ∷ rest) section key item
at_table document section front rest key item l is r = told_of document (front ++ 46 ∷ rest) front rest key section item (with_table front rest l r.some) is r

-- a signal or a link
at_signal : (document : Document) (i : ℕ) (rest key : List ℕ) (item : ℕ) → i < 10000000 → IsRest rest key item → IsToldAs document (key_place (Signal i) rest) (Signal i) key item
at_signal document i rest key item h r =
    let front = codes "signal" ++ in_brackets i in
    let is : section_named document (name_of front) (number_of front) ≡ Signal i =
    ap (λ name. section_named document name (number_of front)) (before_at 91 (codes "signal") (decimal i ++ codes "]") refl) ∙ ap Signal (number_named (codes "signal") i h refl) in
    subst (λ path. IsToldAs document path (Signal i) key item) (ap (λ ds. codes "signal[" ++ ds) (append_assoc (decimal i) (codes "]") (46 ∷ rest)))
    (at_table document (Signal i) front rest key item (no_dot i h) is r)

at_link : (document : Document) (i : ℕ) (rest key : List ℕ) (item : ℕ) → i < 10000000 → IsRest rest key item → IsToldAs document (key_place (Link i) rest) (Link i) key item
at_link document i rest key item h r =
    let front = codes "link" ++ in_brackets i in
    let is : section_named document (name_of front) (number_of front) ≡ Link i =
    ap (λ name. section_named document name (number_of front)) (before_at 91 (codes "link") (decimal i ++ codes "]") refl) ∙ ap Link (number_named (codes "link") i h refl) in
    subst (λ path. IsToldAs document path (Link i) key item) (ap (λ ds. codes "link[" ++ ds) (append_assoc (decimal i) (codes "]") (46 ∷ rest)))
    (at_table document (Link i) front rest key item (no_dot i h) is r)

told : (document : Document) (section : Section) (rest key : List ℕ) (item : ℕ) → is_of document section ≡ true → section_number section < 10000000 → IsRest rest key item
    → IsToldAs document (key_place section rest) section key item
told document.Street Root rest key item of h r = at_root document.Street Root rest key item refl r
told document.Plan Root rest key item of h r = absurd (false≢true of)
told document.Street PlanRoot rest key item of h r = absurd (false≢true of)
told document.Plan PlanRoot rest key item of h r = at_root document.Plan PlanRoot rest key item refl r
told document Artery rest key item of h r = at_table document Artery (codes "artery") rest key item refl refl r
told document Plan rest key item of h r = at_table document Plan (codes "plan") rest key item refl refl r
told document (Signal i) rest key item of h r = at_signal document i rest key item h r
told document (Link i) rest key item of h r = at_link document i rest key item h r

-- ---- a key, and an item of its list
record IsPlain (key : List ℕ) : Type 0 where
  some : 0 < length key
  no_dot : lacks 46 key ≡ true
  no_bracket : lacks 91 key ≡ true

plain_by : (key : List ℕ) → can_stand key ≡ true → IsPlain key
plain_by key h =
    let (some, marks) = and_parts (nat_lt 0 (length key)) (lacks 46 key && lacks 91 key) h in
    let (dot, bracket) = and_parts (lacks 46 key) (lacks 91 key) marks in
    record { some = ltb-true 0 (length key) some; no_dot = dot; no_bracket = bracket }

key_rest : (key : List ℕ) → IsPlain key → IsRest key key 0
key_rest key p = record {
  no_dot = p.no_dot;
  some = p.some;
  name = before_none 91 key p.no_bracket;
  number = ap (fold with_digit 0) (behind_none 91 key p.no_bracket);
}

item_rest : (key : List ℕ) (i : ℕ) → i < 10000000 → IsPlain key → IsRest (key ++ in_brackets i) key i
item_rest key i h p = record {
  no_dot = list_all-append (λ b. not (b == 46)) key (in_brackets i) ∙ ap (λ t. t && lacks 46 (in_brackets i)) p.no_dot ∙ no_dot i h;
  some = omega (arith, p.some, length-append key (in_brackets i));
  name = before_at 91 key (decimal i ++ codes "]") p.no_bracket;
  number = number_named key i h p.no_bracket;
}

-- the path of an item is that of a longer key
place_more : (section : Section) (key more : List ℕ) → key_place section (key ++ more) ≡ key_place section key ++ more
place_more Root key more = refl
place_more PlanRoot key more = refl
place_more Artery key more = refl
place_more Plan key more = refl
place_more (Signal i) key more = ap (λ ds. codes "signal[" ++ ds) (sym (append_assoc (decimal i) (codes "]." ++ key) more))
place_more (Link i) key more = ap (λ ds. codes "link[" ++ ds) (sym (append_assoc (decimal i) (codes "]." ++ key) more))

item_told : (document : Document) (section : Section) (key : List ℕ) (i : ℕ) → is_of document section ≡ true → section_number section < 10000000 → can_stand key ≡ true → i < 10000000
    → IsToldAs document (item_place section key i) section key i
item_told document section key i of h stands small =
    subst (λ path. IsToldAs document path section key i) (place_more section key (in_brackets i))
    (told document section (key ++ in_brackets i) key i of h (item_rest key i small (plain_by key stands)))

pub places_are_told : PlacesAreTold
places_are_told = record {
  keys = λ document section key of h stands. told document section key key 0 of h (key_rest key (plain_by key stands));
  items = item_told;
}
