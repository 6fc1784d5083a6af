-- The last line of bytes, byte by byte.
use Rattle.std.proofs.Common.{◌≡◌, ℕ, ◌+◌, ◌<◌, ◌≤◌, true, false, cond, List, [], ◌∷◌, ◌++◌, length, get_or, take, drop, inl, inr, sym, ◌∙◌, ap, arith}
use Rattle.std.proofs.lemmas.Bool.{cases_Bool}
use Rattle.std.proofs.lemmas.List.{take_more, drop-append-le, drop_all}
use Rattle.std.proofs.lemmas.List.Sums.{fold_more}
use Rattle.std.proofs.lemmas.Grind.{common_steps}
use Rattle.fault_words.specs.TextWords.{is_feed, next_line, last_line}

-- the line with one byte more
line_more : (xs : List ℕ) (i b : ℕ) → i < length xs → b ≡ get_or xs i b → last_line (take (i + 1) xs) ≡ next_line (last_line (take i xs)) b
line_more xs i b h at = fold_more next_line [] xs i b h ∙ ap (λ y. next_line (last_line (take i xs)) y) (sym at)

-- behind a line feed the line is empty, and begins there
pub line_fed : (xs : List ℕ) (i b : ℕ) → i < length xs → b ≡ get_or xs i b → is_feed b ≡ true → last_line (take (i + 1) xs) ≡ drop (i + 1) (take (i + 1) xs)
line_fed xs i b h at fed =
    let line = last_line (take i xs) in
    let none : drop (i + 1) (take (i + 1) xs) ≡ [] = drop_all (i + 1) (take (i + 1) xs) (grind (arith, common_steps)) in
    line_more xs i b h at ∙ ap (λ t. cond t [] (line ++ b ∷ [])) fed ∙ sym none

-- behind any other byte it goes on
pub line_goes_on : (xs : List ℕ) (i start b : ℕ) → i < length xs → start ≤ i → b ≡ get_or xs i b → is_feed b ≡ false → last_line (take i xs) ≡ drop start (take i xs)
    → last_line (take (i + 1) xs) ≡ drop start (take (i + 1) xs)
line_goes_on xs i start b h l at fed e =
    let line = last_line (take i xs) in
    let long : start ≤ length (take i xs) = grind (arith, common_steps) in
    let more : take (i + 1) xs ≡ take i xs ++ b ∷ [] = take_more xs i b h ∙ ap (λ y. take i xs ++ y ∷ []) (sym at) in
    line_more xs i b h at ∙ ap (λ t. cond t [] (line ++ b ∷ [])) fed ∙ ap (λ y. y ++ b ∷ []) e ∙ sym (drop-append-le start (take i xs) (b ∷ []) long) ∙ ap (drop start) (sym more)

-- one byte more
pub line_steps : (xs : List ℕ) (i start b next : ℕ) → i < length xs → start ≤ i → b ≡ get_or xs i b → next ≡ cond (is_feed b) (i + 1) start
    → last_line (take i xs) ≡ drop start (take i xs) → last_line (take (i + 1) xs) ≡ drop next (take (i + 1) xs)
line_steps xs i start b next h l at n e =
    elim (cases_Bool (is_feed b)) [
      | inl fed ↦ line_fed xs i b h at fed ∙ ap (λ k. drop k (take (i + 1) xs)) (sym (n ∙ ap (λ t. cond t (i + 1) start) fed))
      | inr other ↦ line_goes_on xs i start b h l at other e ∙ ap (λ k. drop k (take (i + 1) xs)) (sym (n ∙ ap (λ t. cond t (i + 1) start) other))
    ]
