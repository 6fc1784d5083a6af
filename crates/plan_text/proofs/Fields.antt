-- A line that is read is the line that was written, and what was written is read again.
use Rattle.std.proofs.Common.{◌≡◌, Bor, ℕ, ◌+◌, ◌<◌, ◌≤◌, ◌^◌, Bool, true, false, leb, List, [], ◌∷◌, ◌++◌, map, length, All, Option, Some, None, Result, Ok, Err, refl, ap, subst, ◌∙◌, arith}
use Rattle.std.specs.Prelude.{◌&&◌, if◌then◌else◌, IfOk}
use Rattle.std.specs.Cmp.Lexicographic.{bytes_decides}
use Rattle.std.specs.Fmt.{decimal}
use Rattle.std.specs.Global.{Vec}
use Rattle.std.specs.List.{AllByRecursion}
use Rattle.std.proofs.lemmas.Bool.{leb-true, le-leb, and_parts}
use Rattle.std.proofs.lemmas.List.{length-map, length-append}
use Rattle.std.proofs.lemmas.List.Elements.{All-from_recursion}
use Rattle.plan_text.specs.declared.fault.BadText.{BadText}
use Rattle.plan_text.specs.declared.fault.TextFault.{TextFault}
use Rattle.plan_text.specs.declared.fault.TextFault.TheVariants.{Shape, Number}
use Rattle.plan_text.specs.declared.fault.TextEnd.{TextEnd}
use Rattle.plan_text.specs.declared.lines.NumberLine.{NumberLine}
use Rattle.certificate_model.specs.Words.{cut, words, is_text}
use Rattle.plan_text.specs.Numbers.{number}
use Rattle.plan_text.specs.Spelling.{spelled}
use Rattle.plan_text.specs.Lines.{◌>>=◌, Gives, fault, line_or, line_at, fixed_at, nothing_at, ranged, numbers_in, numbers_of, numbers_at}
use Rattle.plan_text.proofs.Spellings.{decimal-number, number-decimal}
use Rattle.plan_text.proofs.Pieces.{uncut, cut_again, lacks, respelled, words_spelled, line_spelled, AreBelow}

-- the value of a step that did not fail
pub bind_ok : {A B : Type 0} (r : Result A BadText) (f : A → Result B BadText) (y : B) → (r >>= f) ≡ Ok y → (x : A) × (r ≡ Ok x) × (f x ≡ Ok y)
bind_ok (Ok x) f y e = (x, refl, e)
bind_ok (Err d) f y e = absurd cc

-- a test that did not fail
pub guard_ok : {A : Type 0} (b : Bool) (line : ℕ) (kind : TextFault) (r : Result A BadText) (y : A) → (if b then r else fault line kind) ≡ Ok y → (b ≡ true) × (r ≡ Ok y)
guard_ok true line kind r y e = (refl, e)
guard_ok false line kind r y e = absurd cc

pub ok_is : {A : Type 0} (x y : A) → ◌≡◌ {A = Result A BadText} (Ok x) (Ok y) → x ≡ y
ok_is x y e = cc

-- a fact of the one value is one of the other
pub moved : {A : Type 0} (P : A → Type 0) (x y : A) → ◌≡◌ {A = Result A BadText} (Ok x) (Ok y) → P x → P y
moved P x y e p = subst P (ok_is x y e) p

-- ---- a line

line_or_ok : (line : ℕ) (o : Option (List ℕ × List ℕ)) (x : List ℕ × List ℕ) → line_or line o ≡ Ok x → o ≡ Some x
line_or_ok line None x e = absurd cc
line_or_ok line (Some p) x e = ap (λ (q : List ℕ × List ℕ). Some q) (ok_is p x e)

pub line_takes : (line : ℕ) (bytes : List ℕ) (x : List ℕ × List ℕ) → line_at line bytes ≡ Ok x → bytes ≡ x.0 ++ 10 ∷ x.1
unfolding line_at
line_takes line bytes x e = uncut 10 bytes x.0 x.1 (line_or_ok line (cut 10 bytes) x e)

pub line_again : (line : ℕ) (text rest : List ℕ) → lacks 10 text ≡ true → line_at line (text ++ 10 ∷ rest) ≡ Ok (text, rest)
unfolding line_at
line_again line text rest e = ap (line_or line) (cut_again 10 text rest e)

-- ---- a fixed line

pub same_text : (x y : List ℕ) → is_text x y ≡ true → x ≡ y
same_text x y e = (bytes_decides x y).0 e

pub text_same : (x : List ℕ) → is_text x x ≡ true
text_same x = (bytes_decides x x).1 refl

pub fixed_takes : (line : ℕ) (text bytes rest : List ℕ) → fixed_at line text bytes ≡ Ok rest → bytes ≡ text ++ 10 ∷ rest
unfolding fixed_at
fixed_takes line text bytes rest e =
    let a = bind_ok (line_at line bytes) (λ l. if is_text l.0 text then Ok l.1 else fault line Shape) rest e in
    let g = guard_ok (is_text a.0.0 text) line Shape (Ok a.0.1) rest a.2 in
    line_takes line bytes a.0 a.1 ∙ (λ i. same_text a.0.0 text g.0 i ++ 10 ∷ ok_is a.0.1 rest g.1 i)

pub fixed_again : (line : ℕ) (text rest : List ℕ) → lacks 10 text ≡ true → fixed_at line text (text ++ 10 ∷ rest) ≡ Ok rest
unfolding fixed_at
fixed_again line text rest e = rw (line_again line text rest e, text_same text) refl

-- what follows is shorter
pub fixed_shorter : (line : ℕ) (text bytes rest : List ℕ) → fixed_at line text bytes ≡ Ok rest → length rest + 1 ≤ length bytes
fixed_shorter line text bytes rest e = omega (arith, ap length (fixed_takes line text bytes rest e), length-append text (10 ∷ rest))

-- ---- the end

pub nothing_takes : (line : ℕ) (bytes : List ℕ) (x : ℕ) → nothing_at line bytes ≡ Ok x → bytes ≡ []
unfolding nothing_at
nothing_takes line [] x e = refl
nothing_takes line (b ∷ bs) x e =
    let a = bind_ok (line_at line (b ∷ bs)) (λ l. fault line Shape) x e in absurd cc

-- ---- numbers

pub record IsWithin (place : NumberLine) (n : ℕ) : Type 0 where
  pub least : place.least ≤ n
  pub greatest : n ≤ place.greatest
  pub limit : n < 2 ^ 80

ranged_ok : (place : NumberLine) (o : Option ℕ) (n : ℕ) → ranged place o ≡ Ok n → (o ≡ Some n) × (place.least ≤ n) × (n ≤ place.greatest)
ranged_ok place None n e = absurd cc
ranged_ok place (Some m) n e =
    let g = guard_ok (leb place.least m && leb m place.greatest) place.line Number (Ok m) n e in
    let is : m ≡ n = ok_is m n g.1 in
    let b = and_parts (leb place.least m) (leb m place.greatest) g.0 in
    (ap (λ (k : ℕ). Some k) is, subst (λ (k : ℕ). place.least ≤ k) is (leb-true _ _ b.0), subst (λ (k : ℕ). k ≤ place.greatest) is (leb-true _ _ b.1))

pub number_takes : (place : NumberLine) (w : List ℕ) (n : ℕ) → ranged place (number w) ≡ Ok n → (w ≡ decimal n) × IsWithin place n
number_takes place w n e =
    let r = ranged_ok place (number w) n e in
    let d = decimal-number w n r.0 in
    (d.0, record { least = r.1; greatest = r.2; limit = d.1 })

pub number_again : (place : NumberLine) (n : ℕ) → IsWithin place n → ranged place (number (decimal n)) ≡ Ok n
number_again place n fits = rw (number-decimal n fits.limit, le-leb place.least n fits.least, le-leb n place.greatest fits.greatest) refl

pub in_takes : (place : NumberLine) (ws : List (List ℕ)) (ns : List ℕ) → numbers_in place ws ≡ Ok ns → (ws ≡ map decimal ns) × AllByRecursion (IsWithin place) ns
unfolding numbers_in
in_takes place [] ns e = subst (λ (x : List ℕ). ([] ≡ map decimal x) × AllByRecursion (IsWithin place) x) (ok_is [] ns e) (refl, tt)
in_takes place (w ∷ ws) ns e =
    let a = bind_ok (ranged place (number w)) (λ n. numbers_in place ws >>= λ more. Ok (n ∷ more)) ns e in
    let b = bind_ok (numbers_in place ws) (λ more. Ok (a.0 ∷ more)) ns a.2 in
    let first = number_takes place w a.0 a.1 in
    let rest = in_takes place ws b.0 b.1 in
    subst (λ (x : List ℕ). ((w ∷ ws) ≡ map decimal x) × AllByRecursion (IsWithin place) x) (ok_is (a.0 ∷ b.0) ns b.2) ((λ i. first.0 i ∷ rest.0 i), (first.1, rest.1))

pub in_again : (place : NumberLine) (ns : List ℕ) → AllByRecursion (IsWithin place) ns → numbers_in place (map decimal ns) ≡ Ok ns
unfolding numbers_in
in_again place [] fits = refl
in_again place (n ∷ ns) fits = rw (number_again place n fits.0, in_again place ns fits.1) refl

-- ---- a line of numbers

-- as many numbers as the place allows, each within its range
pub record Suits (place : NumberLine) (ns : List ℕ) : Type 0 where
  pub fewest : place.fewest ≤ length ns
  pub most : length ns ≤ place.most
  pub each : AllByRecursion (IsWithin place) ns

of_takes : (key : List ℕ) (place : NumberLine) (ws : List (List ℕ)) (ns : List ℕ) → numbers_of key place ws ≡ Ok ns → (ws ≡ key ∷ map decimal ns) × Suits place ns
unfolding numbers_of
of_takes key place [] ns e = absurd cc
of_takes key place (w ∷ ws) ns e =
    let g = guard_ok (is_text w key && leb place.fewest (length ws) && leb (length ws) place.most) place.line Shape (numbers_in place ws) ns e in
    let b = and_parts (is_text w key && leb place.fewest (length ws)) (leb (length ws) place.most) g.0 in
    let d = and_parts (is_text w key) (leb place.fewest (length ws)) b.0 in
    let t = in_takes place ws ns g.1 in
    let len : length ws ≡ length ns = ap length t.0 ∙ length-map ns decimal in
    let most = leb-true _ _ b.1 in
    let fewest = leb-true _ _ d.1 in
    ((λ i. same_text w key d.0 i ∷ t.0 i), record { fewest = omega arith; most = omega arith; each = t.1 })

of_again : (key : List ℕ) (place : NumberLine) (ns : List ℕ) → Suits place ns → numbers_of key place (key ∷ map decimal ns) ≡ Ok ns
unfolding numbers_of
of_again key place ns suits =
    let fewest = le-leb place.fewest (length ns) suits.fewest in
    let most = le-leb (length ns) place.most suits.most in
    rw (text_same key, length-map, fewest, most, in_again place ns suits.each) refl

pub numbers_take : (key : List ℕ) (place : NumberLine) (bytes : List ℕ) (x : List ℕ × List ℕ) → numbers_at key place bytes ≡ Ok x → (bytes ≡ spelled key x.0 ++ 10 ∷ x.1) × Suits place x.0
unfolding numbers_at
numbers_take key place bytes x e =
    let a = bind_ok (line_at place.line bytes) (λ l. numbers_of key place (words l.0) >>= λ ns. Ok (ns, l.1)) x e in
    let b = bind_ok (numbers_of key place (words a.0.0)) (λ ns. Ok (ns, a.0.1)) x a.2 in
    let t = of_takes key place (words a.0.0) b.0 b.1 in
    let line : a.0.0 ≡ spelled key b.0 = respelled a.0.0 key b.0 t.0 in
    subst (λ (y : List ℕ × List ℕ). (bytes ≡ spelled key y.0 ++ 10 ∷ y.1) × Suits place y.0) (ok_is (b.0, a.0.1) x b.2)
    (line_takes place.line bytes a.0 a.1 ∙ ap (λ (y : List ℕ). y ++ 10 ∷ a.0.1) line, t.1)

below : (place : NumberLine) (ns : List ℕ) → AllByRecursion (IsWithin place) ns → AreBelow ns
below place [] fits = tt
below place (n ∷ ns) fits = (fits.0.limit, below place ns fits.1)

-- a key of a line
pub record IsKey (key : List ℕ) : Type 0 where
  pub spaces : lacks 32 key ≡ true
  pub feeds : lacks 10 key ≡ true

pub numbers_again : (key : List ℕ) (place : NumberLine) (ns rest : List ℕ) → IsKey key → Suits place ns → numbers_at key place (spelled key ns ++ 10 ∷ rest) ≡ Ok (ns, rest)
unfolding numbers_at
numbers_again key place ns rest is suits =
    let few = below place ns suits.each in
    rw (line_again place.line (spelled key ns) rest (line_spelled key ns is.feeds few), words_spelled key ns is.spaces few, of_again key place ns suits) refl

-- ---- what the code read

range_of : (place : NumberLine) (ns : List ℕ) → AllByRecursion (IsWithin place) ns → AllByRecursion (λ n. (place.least ≤ n) × (n ≤ place.greatest)) ns
range_of place [] fits = tt
range_of place (n ∷ ns) fits = ((fits.0.least, fits.0.greatest), range_of place ns fits.1)

pub each_in : (place : NumberLine) (ns : List ℕ) → Suits place ns → All (λ n. (place.least ≤ n) × (n ≤ place.greatest)) ns
each_in place ns suits = All-from_recursion (λ n. (place.least ≤ n) × (n ≤ place.greatest)) ns (range_of place ns suits.each)

-- what a function that reads such a line returned
abbrev Given : List ℕ → NumberLine → List ℕ → Result (Vec ℕ × Bor (List ℕ)) TextEnd → Type 0
Given key place bytes r = Gives (λ (x : Vec ℕ × Bor (List ℕ)). (x.0.items, x.1.now)) r (numbers_at key place bytes)

read_has : (key : List ℕ) (place : NumberLine) (bytes : List ℕ) (Q : List ℕ → Type 0) (r : Result (Vec ℕ × Bor (List ℕ)) TextEnd)
    → ((ns : List ℕ) → Suits place ns → Q ns) → Given key place bytes r → IfOk r (λ x. Q x.0.items)
read_has key place bytes Q (Ok x) h given = h x.0.items (numbers_take key place bytes (x.0.items, x.1.now) given).1
read_has key place bytes Q (Err e) h given = tt

pub read_fewest : (key : List ℕ) (place : NumberLine) (bytes : List ℕ) (r : Result (Vec ℕ × Bor (List ℕ)) TextEnd) → Given key place bytes r → IfOk r (λ x. place.fewest ≤ length x.0.items)
read_fewest key place bytes r given = read_has key place bytes (λ ns. place.fewest ≤ length ns) r (λ ns suits. suits.fewest) given

pub read_most : (key : List ℕ) (place : NumberLine) (bytes : List ℕ) (r : Result (Vec ℕ × Bor (List ℕ)) TextEnd) → Given key place bytes r → IfOk r (λ x. length x.0.items ≤ place.most)
read_most key place bytes r given = read_has key place bytes (λ ns. length ns ≤ place.most) r (λ ns suits. suits.most) given

pub read_each : (key : List ℕ) (place : NumberLine) (bytes : List ℕ) (r : Result (Vec ℕ × Bor (List ℕ)) TextEnd) → Given key place bytes r
    → IfOk r (λ x. All (λ n. (place.least ≤ n) × (n ≤ place.greatest)) x.0.items)
read_each key place bytes r given = read_has key place bytes (All (λ n. (place.least ≤ n) × (n ≤ place.greatest))) r (each_in place) given
