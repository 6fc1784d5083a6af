-- A text is its pieces with what parts them between, and its pieces are found again.
use Rattle.std.proofs.Common.{◌≡◌, ℕ, ◌<◌, ◌≤◌, ◌^◌, Bool, true, false, List, [], ◌∷◌, ◌++◌, map, length, Option, Some, None, refl, sym, ap, ◌∙◌, append-nil, arith}
use Rattle.std.specs.Prelude.{option_map, ◌==◌, if◌then◌else◌}
use Rattle.std.specs.Str.{all_ascii_digits}
use Rattle.std.specs.Fmt.{decimal}
use Rattle.std.specs.List.{AllByRecursion}
use Rattle.std.proofs.lemmas.Bool.Decides.{nat_tests}
use Rattle.std.proofs.lemmas.Str.Parse.{tells_all_ascii_digits}
use Rattle.certificate_model.specs.Words.{cut, words, with_byte, line_of}
use Rattle.plan_text.specs.Spelling.{spelled}
use Rattle.plan_text.proofs.Cuts.{some_is, words_one, words_more}
use Rattle.plan_text.proofs.Spellings.{all_digits_decimal}

-- ---- a cut

uncut_by : (b x : ℕ) (xs front rest : List ℕ) (o : Option (List ℕ × List ℕ)) (c : Bool)
    → (c ≡ true → x ≡ b)
    → ((f r : List ℕ) → o ≡ Some (f, r) → xs ≡ f ++ b ∷ r)
    → if◌then◌else◌ {A = Option (List ℕ × List ℕ)} c (Some ([], xs)) (option_map (λ (p : List ℕ × List ℕ). (x ∷ p.0, p.1)) o) ≡ Some (front, rest)
    → x ∷ xs ≡ front ++ b ∷ rest
uncut_by b x xs front rest o true is h e =
    ap (λ y. y ∷ xs) (is refl) ∙ ap (λ (q : List ℕ × List ℕ). q.0 ++ b ∷ q.1) (some_is ([], xs) (front, rest) e)
uncut_by b x xs front rest None false is h e = absurd cc
uncut_by b x xs front rest (Some p) false is h e =
    ap (λ (y : List ℕ). x ∷ y) (h p.0 p.1 refl) ∙ ap (λ (q : List ℕ × List ℕ). q.0 ++ b ∷ q.1) (some_is (x ∷ p.0, p.1) (front, rest) e)

pub same_byte : (x b : ℕ) → (x == b) ≡ true → x ≡ b
same_byte x b e = grind (arith, nat_tests)

pub other_byte : (x b : ℕ) → b < 48 → 48 ≤ x → (x == b) ≡ false
other_byte x b small large = grind (arith, nat_tests)

equal_byte : (b : ℕ) → (b == b) ≡ true
equal_byte b = grind (arith, nat_tests)

-- what is cut is put together again
pub uncut : (b : ℕ) (xs front rest : List ℕ) → cut b xs ≡ Some (front, rest) → xs ≡ front ++ b ∷ rest
uncut b [] front rest e = absurd cc
uncut b (x ∷ xs) front rest e = uncut_by b x xs front rest (cut b xs) (x == b) (same_byte x b) (uncut b xs) e

-- the byte isn't there
abbrev pub lacks : ℕ → List ℕ → Bool
lacks b [] = true
lacks b (x ∷ xs) = if x == b then false else lacks b xs

lacking : (c l m : Bool) → (if c then false else l) ≡ true → (l ≡ true → m ≡ true) → (if c then false else m) ≡ true
lacking true l m p f = absurd cc
lacking false l m p f = f p

pub lacks_append : (b : ℕ) (xs ys : List ℕ) → lacks b xs ≡ true → lacks b ys ≡ true → lacks b (xs ++ ys) ≡ true
lacks_append b [] ys p q = q
lacks_append b (x ∷ xs) ys p q = lacking (x == b) (lacks b xs) (lacks b (xs ++ ys)) p (λ r. lacks_append b xs ys r q)

uncuttable : (x : ℕ) (xs : List ℕ) (o : Option (List ℕ × List ℕ)) (c l : Bool) → (l ≡ true → o ≡ None) → (if c then false else l) ≡ true
    → if◌then◌else◌ {A = Option (List ℕ × List ℕ)} c (Some ([], xs)) (option_map (λ (p : List ℕ × List ℕ). (x ∷ p.0, p.1)) o) ≡ None
uncuttable x xs o true l h e = absurd cc
uncuttable x xs o false l h e = ap (option_map (λ (p : List ℕ × List ℕ). (x ∷ p.0, p.1))) (h e)

pub cut_lacking : (b : ℕ) (xs : List ℕ) → lacks b xs ≡ true → cut b xs ≡ None
cut_lacking b [] e = refl
cut_lacking b (x ∷ xs) e = uncuttable x xs (cut b xs) (x == b) (lacks b xs) (cut_lacking b xs) e

cuttable : (x : ℕ) (xs front rest : List ℕ) (o : Option (List ℕ × List ℕ)) (c l : Bool) → (l ≡ true → o ≡ Some (front, rest)) → (if c then false else l) ≡ true
    → if◌then◌else◌ {A = Option (List ℕ × List ℕ)} c (Some ([], xs)) (option_map (λ (p : List ℕ × List ℕ). (x ∷ p.0, p.1)) o) ≡ Some (x ∷ front, rest)
cuttable x xs front rest o true l h e = absurd cc
cuttable x xs front rest o false l h e = ap (option_map (λ (p : List ℕ × List ℕ). (x ∷ p.0, p.1))) (h e)

-- the first such byte is found
pub cut_again : (b : ℕ) (front rest : List ℕ) → lacks b front ≡ true → cut b (front ++ b ∷ rest) ≡ Some (front, rest)
cut_again b [] rest e = rw (equal_byte b) refl
cut_again b (x ∷ xs) rest e = cuttable x (xs ++ b ∷ rest) xs rest (cut b (xs ++ b ∷ rest)) (x == b) (lacks b xs) (cut_again b xs rest) e

-- ---- digits

pub lacks_more : (c l : Bool) → c ≡ false → l ≡ true → (if c then false else l) ≡ true
lacks_more c l p q = rw p q

pub lacks_digits : (b : ℕ) (ds : List ℕ) → b < 48 → all_ascii_digits ds ≡ true → lacks b ds ≡ true
lacks_digits b [] small e = refl
lacks_digits b (d ∷ ds) small e =
    let p = tells_all_ascii_digits.parts d ds e in
    lacks_more (d == b) (lacks b ds) (other_byte d b small p.0.0) (lacks_digits b ds small p.1)

pub lacks_decimal : (b n : ℕ) → b < 48 → n < 2 ^ 80 → lacks b (decimal n) ≡ true
lacks_decimal b n small few = lacks_digits b (decimal n) small (all_digits_decimal n few)

-- ---- words

abbrev pub AreBelow : List ℕ → Type 0
AreBelow ns = AllByRecursion (λ n. n < 2 ^ 80) ns

joined_with : (x : ℕ) (ws : List (List ℕ)) → line_of (with_byte x ws) ≡ x ∷ line_of ws
joined_with x [] = refl
joined_with x (w ∷ ws) = refl

joined_after : (ws : List (List ℕ)) → 0 < length ws → line_of ([] ∷ ws) ≡ 32 ∷ line_of ws
joined_after [] some = absurd (omega arith)
joined_after (w ∷ ws) some = refl

some_with : (x : ℕ) (ws : List (List ℕ)) → 0 < length (with_byte x ws)
some_with x [] = omega arith
some_with x (w ∷ ws) = omega arith

some_by : (x : ℕ) (ws : List (List ℕ)) (c : Bool) → 0 < length (if c then [] ∷ ws else with_byte x ws)
some_by x ws true = omega arith
some_by x ws false = some_with x ws

some_words : (xs : List ℕ) → 0 < length (words xs)
some_words [] = omega arith
some_words (x ∷ xs) = some_by x (words xs) (x == 32)

joined_by : (x : ℕ) (xs : List ℕ) (ws : List (List ℕ)) (c : Bool) → (c ≡ true → x ≡ 32) → 0 < length ws → line_of ws ≡ xs → line_of (if c then [] ∷ ws else with_byte x ws) ≡ x ∷ xs
joined_by x xs ws true is some e = joined_after ws some ∙ (λ i. sym (is refl) i ∷ e i)
joined_by x xs ws false is some e = joined_with x ws ∙ ap (λ (y : List ℕ). x ∷ y) e

pub joined_words : (xs : List ℕ) → line_of (words xs) ≡ xs
joined_words [] = refl
joined_words (x ∷ xs) = joined_by x xs (words xs) (x == 32) (same_byte x 32) (some_words xs) (joined_words xs)

joined_spelled : (w : List ℕ) (ns : List ℕ) → line_of (w ∷ map decimal ns) ≡ spelled w ns
joined_spelled w [] = append-nil w
joined_spelled w (n ∷ ns) = ap (λ (y : List ℕ). w ++ 32 ∷ y) (joined_spelled (decimal n) ns)

-- a line whose words are a key and numbers is spelled so
pub respelled : (line key : List ℕ) (ns : List ℕ) → words line ≡ key ∷ map decimal ns → line ≡ spelled key ns
respelled line key ns e = sym (joined_words line) ∙ ap line_of e ∙ joined_spelled key ns

-- the words of what is spelled
pub words_spelled : (w : List ℕ) (ns : List ℕ) → lacks 32 w ≡ true → AreBelow ns → words (spelled w ns) ≡ w ∷ map decimal ns
words_spelled w [] e below = words_one w (cut_lacking 32 w e)
words_spelled w (n ∷ ns) e below =
    words_more (w ++ 32 ∷ spelled (decimal n) ns) w (spelled (decimal n) ns) (cut_again 32 w (spelled (decimal n) ns) e)
    ∙ ap (λ (y : List (List ℕ)). w ∷ y) (words_spelled (decimal n) ns (lacks_decimal 32 n (omega arith) below.0) below.1)

-- no line feed is in it
pub line_spelled : (w : List ℕ) (ns : List ℕ) → lacks 10 w ≡ true → AreBelow ns → lacks 10 (spelled w ns) ≡ true
line_spelled w [] e below = e
line_spelled w (n ∷ ns) e below = lacks_append 10 w (32 ∷ spelled (decimal n) ns) e (line_spelled (decimal n) ns (lacks_decimal 10 n (omega arith) below.0) below.1)
