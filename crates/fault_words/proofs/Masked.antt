-- A line of bytes that are no text is told in ASCII.
use Rattle.std.proofs.Common.{◌≡◌, ℕ, ◌<◌, Bool, true, false, cond, List, [], ◌∷◌, inl, inr, refl, ◌∙◌}
use Rattle.std.specs.Prelude.{◌==◌, ◌||◌, nat_lt}
use Rattle.std.specs.List.{list_all}
use Rattle.std.proofs.lemmas.Bool.{lt-ltb, le-ltb, cases_lt}
use Rattle.std.proofs.lemmas.List.Folds.{list_all-map}
use Rattle.fault_words.specs.TextWords.{line_byte}
use Rattle.fault_words.specs.Promises.{is_ascii, LinesAreAscii}

kept : (t : Bool) (b : ℕ) → b < 128 → is_ascii (cond t 32 b) ≡ true
kept true b h = refl
kept false b h = lt-ltb b 128 h

masked : (b : ℕ) → is_ascii (line_byte false b) ≡ true
masked b =
    elim (cases_lt b 128) [
      | inl h ↦ rw (lt-ltb b 128 h) (kept (nat_lt b 32 || b == 127) b h)
      | inr h ↦ rw (le-ltb b 128 h) refl
    ]

each : (line : List ℕ) → list_all (λ b. is_ascii (line_byte false b)) line ≡ true
each [] = refl
each (b ∷ bs) = rw (masked b, each bs) refl

pub lines_are_ascii : LinesAreAscii
lines_are_ascii line = list_all-map is_ascii (line_byte false) line ∙ each line
