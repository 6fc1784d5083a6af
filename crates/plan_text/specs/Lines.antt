-- Reading a text line by line. Each reader answers what it read and the bytes that follow, or the first fault with its line.
use Rattle.std.specs.Prelude.{◌≡◌, ℕ, nat_le, ◌&&◌, List, [], ◌∷◌, length, Bool, false, Option, None, Some, Result, Ok, Err, if◌then◌else◌}
use Rattle.certificate_model.specs.Words.{cut, words, is_text}
use Rattle.plan_text.specs.Numbers.{number}
use Rattle.plan_text.specs.declared.fault.TextFault.{TextFault}
use Rattle.plan_text.specs.declared.fault.TextFault.TheVariants.{Ended, Shape, Number}
use Rattle.plan_text.specs.declared.fault.BadText.{BadText}
use Rattle.plan_text.specs.declared.fault.TextEnd.{TextEnd}
use Rattle.plan_text.specs.declared.fault.TextEnd.TheVariants as ends
use Rattle.plan_text.specs.declared.lines.NumberLine.{NumberLine}

infixl 10 ◌>>=◌
abbrev pub ◌>>=◌ : {A B : Type 0} → Result A BadText → (A → Result B BadText) → Result B BadText
(Ok x) >>= f = f x
(Err e) >>= f = Err e

abbrev pub fault : {A : Type 0} → ℕ → TextFault → Result A BadText
fault line kind = Err (record { line = line; kind = kind })

-- what a function returned, seen by view, is what reading gives, unless memory ran out
abbrev pub Fails : {Y : Type 0} → TextEnd → Result Y BadText → Type 0
Fails ends.Memory read = Unit {0}
Fails (ends.Bad b) read = read ≡ Err b

abbrev pub Gives : {X Y : Type 0} → (X → Y) → Result X TextEnd → Result Y BadText → Type 0
Gives view (Ok x) read = read ≡ Ok (view x)
Gives view (Err e) read = Fails e read

-- the next line, which has this number, and what follows it
abbrev pub line_or : ℕ → Option (List ℕ × List ℕ) → Result (List ℕ × List ℕ) BadText
line_or line None = fault line Ended
line_or line (Some p) = Ok p

unfoldable pub line_at : ℕ → List ℕ → Result (List ℕ × List ℕ) BadText
line_at line bytes = line_or line (cut 10 bytes)

-- what follows a line with this very text
unfoldable pub fixed_at : ℕ → List ℕ → List ℕ → Result (List ℕ) BadText
fixed_at line text bytes = do
  l ← line_at line bytes
  if is_text l.0 text then Ok l.1 else fault line Shape

-- the words of the next line, and what follows it
unfoldable pub words_at : ℕ → List ℕ → Result (List (List ℕ) × List ℕ) BadText
words_at line bytes = do
  l ← line_at line bytes
  Ok (words l.0, l.1)

-- nothing is left
unfoldable pub nothing_at : ℕ → List ℕ → Result ℕ BadText
nothing_at line [] = Ok 0
nothing_at line (b ∷ bs) = do
  l ← line_at line (b ∷ bs)
  fault line Shape

-- a number in its spelling and its range
abbrev pub ranged : NumberLine → Option ℕ → Result ℕ BadText
ranged place None = fault place.line Number
ranged place (Some n) = if nat_le place.least n && nat_le n place.greatest then Ok n else fault place.line Number

unfoldable pub numbers_in : NumberLine → List (List ℕ) → Result (List ℕ) BadText
numbers_in place [] = Ok []
numbers_in place (w ∷ ws) = do
  n ← ranged place (number w)
  ns ← numbers_in place ws
  Ok (n ∷ ns)

-- a key, and as many words after it as the place allows
abbrev pub has_shape : List ℕ → NumberLine → List (List ℕ) → Bool
has_shape key place [] = false
has_shape key place (w ∷ ws) = is_text w key && nat_le place.fewest (length ws) && nat_le (length ws) place.most

abbrev pub after_key : List (List ℕ) → List (List ℕ)
after_key [] = []
after_key (w ∷ ws) = ws

-- the numbers of a line that begins with a key
unfoldable pub numbers_of : List ℕ → NumberLine → List (List ℕ) → Result (List ℕ) BadText
numbers_of key place ws = if has_shape key place ws then numbers_in place (after_key ws) else fault place.line Shape

unfoldable pub numbers_at : List ℕ → NumberLine → List ℕ → Result (List ℕ × List ℕ) BadText
numbers_at key place bytes = do
  l ← line_at place.line bytes
  ns ← numbers_of key place (words l.0)
  Ok (ns, l.1)
