-- What a cut leaves, and the words of a line that is cut.
use Rattle.std.proofs.lemmas.List.{map-append}
use Rattle.std.proofs.Common.{Bor, map, ◌≡◌, ℕ, suc, ◌<◌, Bool, true, false, List, [], ◌∷◌, ◌++◌, length, Option, Some, None, refl, sym, ◌∙◌, ap, arith, append_assoc}
use Rattle.std.specs.Prelude.{option_map, ◌==◌, if◌then◌else◌}
use Rattle.certificate_model.specs.Words.{cut, words, with_byte}

-- the bytes before, and what a cut of the rest gives
abbrev pub behind : List ℕ → Option (List ℕ × List ℕ) → Option (List ℕ × List ℕ)
behind front None = None
behind front (Some p) = Some (front ++ p.0, p.1)

-- a line without a space is one word
words_by : (x : ℕ) (xs : List ℕ) (o : Option (List ℕ × List ℕ)) (c : Bool)
    → (o ≡ None → words xs ≡ xs ∷ [])
    → if◌then◌else◌ {A = Option (List ℕ × List ℕ)} c (Some ([], xs)) (option_map (λ (p : List ℕ × List ℕ). (x ∷ p.0, p.1)) o) ≡ None
    → (if c then [] ∷ words xs else with_byte x (words xs)) ≡ (x ∷ xs) ∷ []
words_by x xs None true h e = absurd cc
words_by x xs (Some p) true h e = absurd cc
words_by x xs None false h e = ap (with_byte x) (h refl)
words_by x xs (Some p) false h e = absurd cc

pub words_one : (xs : List ℕ) → cut 32 xs ≡ None → words xs ≡ xs ∷ []
words_one [] e = refl
words_one (x ∷ xs) e = words_by x xs (cut 32 xs) (x == 32) (words_one xs) e

pub some_is : (p q : List ℕ × List ℕ) → ◌≡◌ {A = Option (List ℕ × List ℕ)} (Some p) (Some q) → p ≡ q
some_is p q e = cc

-- a line with a space is its first word and the words of the rest
words_after : (x : ℕ) (xs front rest : List ℕ) (o : Option (List ℕ × List ℕ)) (c : Bool)
    → ((f r : List ℕ) → o ≡ Some (f, r) → words xs ≡ f ∷ words r)
    → if◌then◌else◌ {A = Option (List ℕ × List ℕ)} c (Some ([], xs)) (option_map (λ (p : List ℕ × List ℕ). (x ∷ p.0, p.1)) o) ≡ Some (front, rest)
    → (if c then [] ∷ words xs else with_byte x (words xs)) ≡ front ∷ words rest
words_after x xs front rest o true h e =
    let p = some_is ([], xs) (front, rest) e in ap (λ (q : List ℕ × List ℕ). q.0 ∷ words q.1) p
words_after x xs front rest None false h e = absurd cc
words_after x xs front rest (Some p) false h e =
    let q = some_is (x ∷ p.0, p.1) (front, rest) e in ap (with_byte x) (h p.0 p.1 refl) ∙ ap (λ (q : List ℕ × List ℕ). q.0 ∷ words q.1) q

pub words_more : (xs front rest : List ℕ) → cut 32 xs ≡ Some (front, rest) → words xs ≡ front ∷ words rest
words_more [] front rest e = absurd cc
words_more (x ∷ xs) front rest e = words_after x xs front rest (cut 32 xs) (x == 32) (words_more xs) e

-- what follows a cut is shorter
shorter_by : (x : ℕ) (xs front rest : List ℕ) (o : Option (List ℕ × List ℕ)) (c : Bool)
    → ((f r : List ℕ) → o ≡ Some (f, r) → length r < length xs)
    → if◌then◌else◌ {A = Option (List ℕ × List ℕ)} c (Some ([], xs)) (option_map (λ (p : List ℕ × List ℕ). (x ∷ p.0, p.1)) o) ≡ Some (front, rest)
    → length rest < suc (length xs)
shorter_by x xs front rest o true h e = let p = ap (λ (q : List ℕ × List ℕ). length q.1) (some_is ([], xs) (front, rest) e) in omega arith
shorter_by x xs front rest None false h e = absurd cc
shorter_by x xs front rest (Some p) false h e =
    let q = ap (λ (q : List ℕ × List ℕ). length q.1) (some_is (x ∷ p.0, p.1) (front, rest) e) in let l = h p.0 p.1 refl in omega arith

pub cut_shorter : (b : ℕ) (xs front rest : List ℕ) → cut b xs ≡ Some (front, rest) → length rest < length xs
cut_shorter b [] front rest e = absurd cc
cut_shorter b (x ∷ xs) front rest e = shorter_by x xs front rest (cut b xs) (x == b) (cut_shorter b xs) e

-- a reference's cut, as the bytes of its parts
pub cut_is : (o : Option (Bor (List ℕ) × Bor (List ℕ))) (p : Bor (List ℕ) × Bor (List ℕ)) (c : Option (List ℕ × List ℕ))
    → option_map (λ (q : Bor (List ℕ) × Bor (List ℕ)). (q.0.now, q.1.now)) o ≡ c → o ≡ Some p → c ≡ Some (p.0.now, p.1.now)
cut_is o p c e f = sym e ∙ ap (λ r. option_map (λ (q : Bor (List ℕ) × Bor (List ℕ)). (q.0.now, q.1.now)) r) f

-- the words so far, one more, and those of what follows it
pub pushed : (front : List (Bor (List ℕ))) (w : Bor (List ℕ)) (line rest after : List ℕ) → words line ≡ map (λ w. w.now) front ++ words rest → cut 32 rest ≡ Some (w.now, after)
    → words line ≡ map (λ w. w.now) (front ++ w ∷ []) ++ words after
pushed front w line rest after h e =
    h ∙ ap (λ x. map (λ w. w.now) front ++ x) (words_more rest w.now after e)
    ∙ sym (append_assoc (map (λ w. w.now) front) (w.now ∷ []) (words after))
    ∙ ap (λ x. x ++ words after) (sym (map-append (λ (w : Bor (List ℕ)). w.now) front (w ∷ [])))

-- the words so far and the last one
pub last_pushed : (front : List (Bor (List ℕ))) (w : Bor (List ℕ)) (line : List ℕ) → words line ≡ map (λ w. w.now) front ++ words w.now → cut 32 w.now ≡ None
    → map (λ w. w.now) (front ++ w ∷ []) ≡ words line
last_pushed front w line h e =
    map-append (λ (w : Bor (List ℕ)). w.now) front (w ∷ []) ∙ ap (λ x. map (λ w. w.now) front ++ x) (sym (words_one w.now e)) ∙ sym h
