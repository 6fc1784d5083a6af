-- A text, and the same text with more bytes: what reading says of the one and of the other.
use Rattle.std.proofs.Common.{◌≡◌, ℕ, suc, ◌+◌, ◌<◌, ◌≤◌, Bool, true, false, List, [], ◌∷◌, ◌++◌, Option, Some, None, Result, Ok, Err, refl, sym, ap, subst, inl, inr, arith}
use Rattle.std.specs.Prelude.{◌⊎◌, ◌==◌, option_map, if◌then◌else◌}
use Rattle.plan_text.specs.declared.fault.TextFault.{TextFault}
use Rattle.plan_text.specs.declared.fault.TextFault.TheVariants.{Ended, Shape, Number, Order}
use Rattle.plan_text.specs.declared.fault.BadText.{BadText}
use Rattle.plan_text.specs.declared.lines.NumberLine.{NumberLine}
use Rattle.certificate_model.specs.Words.{cut, words, is_text}
use Rattle.plan_text.specs.Numbers.{number}
use Rattle.plan_text.specs.Lines.{◌>>=◌, fault, line_or, line_at, words_at, fixed_at, ranged, numbers_in, has_shape, after_key, numbers_of, numbers_at}
use Rattle.plan_text.specs.FirstBad.{lines_in}

-- ---- what two readings have to do with each other

-- of what was read: the number of the next line, what follows, and the same where more bytes follow
pub record Part (X : Type 0) : Type 0 where
  pub next : X → ℕ
  pub rest : X → List ℕ
  pub more : List ℕ → X → X

-- a fault of a line that is there
abbrev pub IsThere : TextFault → Type 0
IsThere Ended = ⊥
IsThere Shape = Unit {0}
IsThere Number = Unit {0}
IsThere Order = Unit {0}

-- this line was reached: it is read, or a fault comes there or later
abbrev pub Reaches : {X : Type 0} → Part X → ℕ → Result X BadText → Type 0
Reaches p line (Ok v) = line < p.next v
Reaches p line (Err b) = line ≤ b.line

-- the last piece of the first text, which has no line feed, has the number `last`
abbrev pub Grows : {X : Type 0} → Part X → ℕ → List ℕ → Result X BadText → Result X BadText → Type 0
Grows p last z (Ok v) s = (p.next v + lines_in (p.rest v) ≡ last) × (s ≡ Ok (p.more z v))
Grows p last z (Err b) s = (IsThere b.kind × (b.line < last) × (s ≡ Err b)) ⊎ ((b ≡ record { line = last; kind = Ended }) × Reaches p last s)

pub reaches_then : {X Y : Type 0} (p : Part X) (q : Part Y) (last : ℕ) (r : Result X BadText) (f : X → Result Y BadText) → Reaches p last r
    → ((v : X) → last < p.next v → Reaches q last (f v)) → Reaches q last (r >>= f)
reaches_then p q last (Ok v) f here next = next v here
reaches_then p q last (Err b) f here next = here

pub grows_by : {X Y : Type 0} (p : Part X) (q : Part Y) (last : ℕ) (z : List ℕ) (r s : Result X BadText) (f g : X → Result Y BadText) → Grows p last z r s
    → ((v : X) → r ≡ Ok v → p.next v + lines_in (p.rest v) ≡ last → Grows q last z (f v) (g (p.more z v))) → ((v : X) → last < p.next v → Reaches q last (g v))
    → Grows q last z (r >>= f) (s >>= g)
grows_by p q last z (Ok v) s f g h same next = subst (λ (y : Result _ BadText). Grows q last z (f v) (y >>= g)) (sym h.1) (same v refl h.0)
grows_by p q last z (Err b) s f g (inl h) same next = inl (h.0, h.1, ap (λ (y : Result _ BadText). y >>= g) h.2)
grows_by p q last z (Err b) s f g (inr h) same next = inr (h.0, reaches_then p q last s g h.1 next)

pub grows_then : {X Y : Type 0} (p : Part X) (q : Part Y) (last : ℕ) (z : List ℕ) (r s : Result X BadText) (f : X → Result Y BadText) → Grows p last z r s
    → ((v : X) → p.next v + lines_in (p.rest v) ≡ last → Grows q last z (f v) (f (p.more z v))) → ((v : X) → last < p.next v → Reaches q last (f v))
    → Grows q last z (r >>= f) (s >>= f)
grows_then p q last z r s f h same next = grows_by p q last z r s f f h (λ v is end. same v end) next

-- ---- a test of a line that was read

-- a fault of just this line, which is there
abbrev pub IsAt : {A : Type 0} → ℕ → Result A BadText → Type 0
IsAt line (Ok x) = Unit {0}
IsAt line (Err b) = (b.line ≡ line) × IsThere b.kind

pub at_then : {A B : Type 0} (line : ℕ) (r : Result A BadText) (f : A → Result B BadText) → IsAt line r → ((x : A) → IsAt line (f x)) → IsAt line (r >>= f)
at_then line (Ok x) f here next = next x
at_then line (Err b) f here next = here

pub at_if : {A : Type 0} (line : ℕ) (c : Bool) (kind : TextFault) (r : Result A BadText) → IsThere kind → IsAt line r → IsAt line (if c then r else fault line kind)
at_if line true kind r is here = here
at_if line false kind r is here = (refl, is)

pub at_choice : {A : Type 0} (line : ℕ) (c : Bool) (r s : Result A BadText) → IsAt line r → IsAt line s → IsAt line (if c then r else s)
at_choice line true r s first second = first
at_choice line false r s first second = second

pub tested : {A Y : Type 0} (q : Part Y) (last line : ℕ) (z : List ℕ) (r : Result A BadText) (f g : A → Result Y BadText) → IsAt line r → line < last
    → ((x : A) → Grows q last z (f x) (g x)) → Grows q last z (r >>= f) (r >>= g)
tested q last line z (Ok x) f g here before next = next x
tested q last line z (Err b) f g here before next = inl (here.1, subst (λ (n : ℕ). n < last) (sym here.0) before, refl)

pub tested_later : {A Y : Type 0} (q : Part Y) (last line : ℕ) (r : Result A BadText) (f : A → Result Y BadText) → IsAt line r → last ≤ line
    → ((x : A) → Reaches q last (f x)) → Reaches q last (r >>= f)
tested_later q last line (Ok x) f here after next = next x
tested_later q last line (Err b) f here after next = subst (λ (n : ℕ). last ≤ n) (sym here.0) after

pub guarded : {Y : Type 0} (q : Part Y) (last line : ℕ) (z : List ℕ) (c : Bool) (kind : TextFault) (r s : Result Y BadText) → IsThere kind → line < last
    → Grows q last z r s → Grows q last z (if c then r else fault line kind) (if c then s else fault line kind)
guarded q last line z true kind r s is before next = next
guarded q last line z false kind r s is before next = inl (is, before, refl)

pub guarded_later : {Y : Type 0} (q : Part Y) (last line : ℕ) (c : Bool) (kind : TextFault) (r : Result Y BadText) → last ≤ line → Reaches q last r → Reaches q last (if c then r else fault line kind)
guarded_later q last line true kind r after next = next
guarded_later q last line false kind r after next = after

pub chosen : {Y : Type 0} (q : Part Y) (last : ℕ) (z : List ℕ) (c : Bool) (r s t u : Result Y BadText) → Grows q last z r s → Grows q last z t u
    → Grows q last z (if c then r else t) (if c then s else u)
chosen q last z true r s t u first second = first
chosen q last z false r s t u first second = second

pub chosen_later : {Y : Type 0} (q : Part Y) (last : ℕ) (c : Bool) (r t : Result Y BadText) → Reaches q last r → Reaches q last t → Reaches q last (if c then r else t)
chosen_later q last true r t first second = first
chosen_later q last false r t first second = second

-- ---- parts

abbrev pub after_line : ℕ → Part (List ℕ)
after_line next = record { next = λ r. next; rest = λ r. r; more = λ z r. r ++ z }

abbrev pub one_and : {A : Type 0} → ℕ → Part (A × List ℕ)
one_and next = record { next = λ x. next; rest = λ x. x.1; more = λ z x. (x.0, x.1 ++ z) }

abbrev pub two_and : {A B : Type 0} → ℕ → Part (A × B × List ℕ)
two_and next = record { next = λ x. next; rest = λ x. x.2; more = λ z x. (x.0, x.1, x.2 ++ z) }

-- what was read has the number of the next line with it
abbrev pub numbered : {A : Type 0} → Part (A × ℕ × List ℕ)
numbered = record { next = λ x. x.1; rest = λ x. x.2; more = λ z x. (x.0, x.1, x.2 ++ z) }

-- ---- a line

abbrev CutOf : List ℕ → List ℕ → Option (List ℕ × List ℕ) → Type 0
CutOf bytes z None = lines_in bytes ≡ 0
CutOf bytes z (Some p) = (cut 10 (bytes ++ z) ≡ Some (p.0, p.1 ++ z)) × (lines_in bytes ≡ suc (lines_in p.1))

cut_by : (x : ℕ) (xs z : List ℕ) (c : Bool) (o : Option (List ℕ × List ℕ)) → (x == 10) ≡ c → CutOf xs z o
    → CutOf (x ∷ xs) z (if◌then◌else◌ {A = Option (List ℕ × List ℕ)} c (Some ([], xs)) (option_map (λ (p : List ℕ × List ℕ). (x ∷ p.0, p.1)) o))
cut_by x xs z true o is h = (rw is refl, rw is refl)
cut_by x xs z false None is h = rw is h
cut_by x xs z false (Some p) is h = (rw (is, h.0) refl, rw is h.1)

cut_of : (bytes z : List ℕ) → CutOf bytes z (cut 10 bytes)
cut_of [] z = refl
cut_of (x ∷ xs) z = cut_by x xs z (x == 10) (cut 10 xs) refl (cut_of xs z)

line_or_later : (last line : ℕ) (o : Option (List ℕ × List ℕ)) → last ≤ line → Reaches (one_and (line + 1)) last (line_or line o)
line_or_later last line None after = after
line_or_later last line (Some p) after = omega arith

line_by : (last line : ℕ) (bytes z : List ℕ) (o : Option (List ℕ × List ℕ)) → line + lines_in bytes ≡ last → CutOf bytes z o
    → Grows (one_and (line + 1)) last z (line_or line o) (line_or line (cut 10 (bytes ++ z)))
line_by last line bytes z None e h =
    let is : line ≡ last = omega arith in
    inr (ap (λ (n : ℕ). record { line = n; kind = Ended }) is, line_or_later last line (cut 10 (bytes ++ z)) (omega arith))
line_by last line bytes z (Some p) e h = (omega (arith, h.1), ap (line_or line) h.0)

pub line_grows : (last line : ℕ) (bytes z : List ℕ) → line + lines_in bytes ≡ last → Grows (one_and (line + 1)) last z (line_at line bytes) (line_at line (bytes ++ z))
unfolding line_at
line_grows last line bytes z e = line_by last line bytes z (cut 10 bytes) e (cut_of bytes z)

pub line_later : (last line : ℕ) (bytes : List ℕ) → last ≤ line → Reaches (one_and (line + 1)) last (line_at line bytes)
unfolding line_at
line_later last line bytes after = line_or_later last line (cut 10 bytes) after

pub words_grow : (last line : ℕ) (bytes z : List ℕ) → line + lines_in bytes ≡ last → Grows (one_and (line + 1)) last z (words_at line bytes) (words_at line (bytes ++ z))
unfolding words_at
words_grow last line bytes z e =
    grows_then (one_and (line + 1)) (one_and (line + 1)) last z (line_at line bytes) (line_at line (bytes ++ z)) (λ l. Ok (words l.0, l.1))
    (line_grows last line bytes z e) (λ l end. (end, refl)) (λ l here. here)

pub words_later : (last line : ℕ) (bytes : List ℕ) → last ≤ line → Reaches (one_and (line + 1)) last (words_at line bytes)
unfolding words_at
words_later last line bytes after = reaches_then (one_and (line + 1)) (one_and (line + 1)) last (line_at line bytes) (λ l. Ok (words l.0, l.1)) (line_later last line bytes after) (λ l here. here)

pub fixed_grows : (last line : ℕ) (text bytes z : List ℕ) → line + lines_in bytes ≡ last → Grows (after_line (line + 1)) last z (fixed_at line text bytes) (fixed_at line text (bytes ++ z))
unfolding fixed_at
fixed_grows last line text bytes z e =
    grows_then (one_and (line + 1)) (after_line (line + 1)) last z (line_at line bytes) (line_at line (bytes ++ z)) (λ l. if is_text l.0 text then Ok l.1 else fault line Shape)
    (line_grows last line bytes z e)
    (λ l end. guarded (after_line (line + 1)) last line z (is_text l.0 text) Shape (Ok l.1) (Ok (l.1 ++ z)) tt (omega arith) (end, refl))
    (λ l here. guarded_later (after_line (line + 1)) last line (is_text l.0 text) Shape (Ok l.1) (omega arith) here)

pub fixed_later : (last line : ℕ) (text bytes : List ℕ) → last ≤ line → Reaches (after_line (line + 1)) last (fixed_at line text bytes)
unfolding fixed_at
fixed_later last line text bytes after =
    reaches_then (one_and (line + 1)) (after_line (line + 1)) last (line_at line bytes) (λ l. if is_text l.0 text then Ok l.1 else fault line Shape) (line_later last line bytes after)
    (λ l here. guarded_later (after_line (line + 1)) last line (is_text l.0 text) Shape (Ok l.1) after here)

-- ---- a line of numbers

pub ranged_here : (place : NumberLine) (o : Option ℕ) → IsAt place.line (ranged place o)
ranged_here place None = (refl, tt)
ranged_here place (Some n) = at_if place.line _ Number (Ok n) tt tt

in_here : (place : NumberLine) (ws : List (List ℕ)) → IsAt place.line (numbers_in place ws)
unfolding numbers_in
in_here place [] = tt
in_here place (w ∷ ws) =
    at_then place.line (ranged place (number w)) (λ n. numbers_in place ws >>= λ ns. Ok (n ∷ ns)) (ranged_here place (number w))
    (λ n. at_then place.line (numbers_in place ws) (λ ns. Ok (n ∷ ns)) (in_here place ws) (λ ns. tt))

of_here : (key : List ℕ) (place : NumberLine) (ws : List (List ℕ)) → IsAt place.line (numbers_of key place ws)
unfolding numbers_of
of_here key place ws = at_if place.line (has_shape key place ws) Shape (numbers_in place (after_key ws)) tt (in_here place (after_key ws))

pub numbers_grow : (last : ℕ) (key : List ℕ) (place : NumberLine) (bytes z : List ℕ) → place.line + lines_in bytes ≡ last
    → Grows (one_and (place.line + 1)) last z (numbers_at key place bytes) (numbers_at key place (bytes ++ z))
unfolding numbers_at
numbers_grow last key place bytes z e =
    grows_then (one_and (place.line + 1)) (one_and (place.line + 1)) last z (line_at place.line bytes) (line_at place.line (bytes ++ z))
    (λ l. numbers_of key place (words l.0) >>= λ ns. Ok (ns, l.1)) (line_grows last place.line bytes z e)
    (λ l end. tested (one_and (place.line + 1)) last place.line z (numbers_of key place (words l.0)) (λ ns. Ok (ns, l.1)) (λ ns. Ok (ns, l.1 ++ z))
    (of_here key place (words l.0)) (omega arith) (λ ns. (end, refl)))
    (λ l here. tested_later (one_and (place.line + 1)) last place.line (numbers_of key place (words l.0)) (λ ns. Ok (ns, l.1)) (of_here key place (words l.0)) (omega arith) (λ ns. here))

pub numbers_later : (last : ℕ) (key : List ℕ) (place : NumberLine) (bytes : List ℕ) → last ≤ place.line → Reaches (one_and (place.line + 1)) last (numbers_at key place bytes)
unfolding numbers_at
numbers_later last key place bytes after =
    reaches_then (one_and (place.line + 1)) (one_and (place.line + 1)) last (line_at place.line bytes) (λ l. numbers_of key place (words l.0) >>= λ ns. Ok (ns, l.1))
    (line_later last place.line bytes after)
    (λ l here. tested_later (one_and (place.line + 1)) last place.line (numbers_of key place (words l.0)) (λ ns. Ok (ns, l.1)) (of_here key place (words l.0)) after (λ ns. here))
