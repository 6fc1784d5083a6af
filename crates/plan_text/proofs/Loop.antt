-- Reading numbers one after the other, as a loop does.
use Rattle.std.proofs.Common.{◌≡◌, ℕ, ◌+◌, ◌≤◌, ◌<◌, Bor, List, [], ◌∷◌, ◌++◌, map, drop, length, get_or, Result, Ok, Err, refl, sym, ap, ◌∙◌, append_assoc}
use Rattle.std.proofs.lemmas.List.{append-nil, drop_more, drop_all}
use Rattle.plan_text.specs.declared.fault.BadText.{BadText}
use Rattle.plan_text.specs.declared.fault.TextEnd.{TextEnd}
use Rattle.plan_text.specs.declared.fault.TextEnd.TheVariants as ends
use Rattle.plan_text.specs.declared.lines.NumberLine.{NumberLine}
use Rattle.plan_text.specs.Lines.{◌>>=◌, Fails, ranged, numbers_in}
use Rattle.plan_text.specs.Numbers.{number}

-- what was read before, and what is still read
abbrev pub with_front : List ℕ → Result (List ℕ) BadText → Result (List ℕ) BadText
with_front front read = read >>= λ ns. Ok (front ++ ns)

pub without_front : (read : Result (List ℕ) BadText) → with_front [] read ≡ read
without_front (Ok ns) = refl
without_front (Err e) = refl

regroup : (front : List ℕ) (n : ℕ) (read : Result (List ℕ) BadText) → with_front front (read >>= λ ns. Ok (n ∷ ns)) ≡ with_front (front ++ n ∷ []) read
regroup front n (Ok ns) = ap (λ (x : List ℕ). Ok x) (simp append_assoc)
regroup front n (Err e) = refl

-- the bytes of words
abbrev pub bytes_of : List (Bor (List ℕ)) → List (List ℕ)
bytes_of words = map (λ w. w.now) words

pub goes_on : (front : List ℕ) (place : NumberLine) (i : ℕ) (words : List (Bor (List ℕ))) (d : Bor (List ℕ)) (n : ℕ) (total : Result (List ℕ) BadText)
    → i < length words → ranged place (number (get_or words i d).now) ≡ Ok n
    → with_front front (numbers_in place (bytes_of (drop i words))) ≡ total → with_front (front ++ n ∷ []) (numbers_in place (bytes_of (drop (i + 1) words))) ≡ total
unfolding numbers_in
goes_on front place i words d n total lt h so_far =
    let next : drop i words ≡ get_or words i d ∷ drop (i + 1) words = drop_more words i d lt in
    let one : with_front front (numbers_in place (bytes_of (drop i words))) ≡ with_front (front ++ n ∷ []) (numbers_in place (bytes_of (drop (i + 1) words)))
    = rw (next, h) (regroup front n (numbers_in place (bytes_of (drop (i + 1) words)))) in
    sym one ∙ so_far

pub stops : (e : TextEnd) (front : List ℕ) (place : NumberLine) (i : ℕ) (words : List (Bor (List ℕ))) (d : Bor (List ℕ)) (total : Result (List ℕ) BadText)
    → i < length words → Fails e (ranged place (number (get_or words i d).now))
    → with_front front (numbers_in place (bytes_of (drop i words))) ≡ total → Fails e total
unfolding numbers_in
stops ends.Memory front place i words d total lt h so_far = tt
stops (ends.Bad b) front place i words d total lt h so_far =
    let next : drop i words ≡ get_or words i d ∷ drop (i + 1) words = drop_more words i d lt in
    let one : with_front front (numbers_in place (bytes_of (drop i words))) ≡ Err b = rw (next, h) refl in
    sym so_far ∙ one

pub is_done : (front : List ℕ) (place : NumberLine) (i : ℕ) (words : List (Bor (List ℕ))) (total : Result (List ℕ) BadText) → length words ≤ i
    → with_front front (numbers_in place (bytes_of (drop i words))) ≡ total → total ≡ Ok front
unfolding numbers_in
is_done front place i words total le so_far =
    let one : with_front front (numbers_in place (bytes_of (drop i words))) ≡ Ok front = rw (drop_all i words le) (ap (λ (ns : List ℕ). Ok ns) (append-nil front)) in
    sym so_far ∙ one
