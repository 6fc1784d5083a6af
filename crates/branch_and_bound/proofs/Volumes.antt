-- Lemmas on the definitions of `Choices` and `Volumes`.
use Rattle.std.proofs.Common.{◌≡◌, ℕ, zero, suc, ℤ, pos, negsuc, ◌+◌, ◌-◌, ◌*◌, ◌<◌, ◌≤◌, ◌+ℤ◌, ◌-ℤ◌, ◌≤ℤ◌, ◌<ℤ◌, List, [], ◌∷◌, length, get_or, refl, subst, ap, arith, mul-pos}
use Rattle.std.proofs.Math.ListN.{set}
use Rattle.std.proofs.lemmas.Int.{ints}
use Rattle.linear_theory.specs.Boxes.{Span, Ranks, Area, no_span, no_ranks}
use Rattle.search_box.specs.declared.span.At.{At}
use Rattle.search_box.specs.declared.span.At.TheVariants.{Loop, Turn}
use Rattle.search_box.specs.Places.{IsPlace, low_part, high_part}
use Rattle.branch_and_bound.specs.Choices.{natural, numbers_count, ranks_count, product, choices, HasNumbers}
use Rattle.branch_and_bound.specs.Volumes.{span_size, volume}

-- ---- products
positive : {X : Type 0} (size : X → ℕ) → ((x : X) → 0 < size x) → (xs : List X) → 0 < product size xs
positive size some [] = omega arith
positive size some (x ∷ xs) = mul-pos (some x) (positive size some xs)

-- an item whose size is that of two others
split_at : {X : Type 0} (size : X → ℕ) (xs : List X) (i : ℕ) (none low high : X) → i < length xs → size low + size high ≡ size (get_or xs i none)
    → product size (set xs i low) + product size (set xs i high) ≡ product size xs
split_at size [] i none low high h e = absurd (omega arith)
split_at size (x ∷ xs) zero none low high h e = omega (arith, ap (λ n. n * product size xs) e)
split_at size (x ∷ xs) (suc i) none low high h e = omega (arith, ap (λ n. size x * n) (split_at size xs i none low high (omega arith) e))

-- no box has none
pub volume_positive : (box : Area) → 0 < volume box
volume_positive box = mul-pos (positive span_size (λ s. omega arith) box.loops) (positive ranks_count (λ r. omega arith) box.turns)

-- ---- parts
natural_is : (z : ℤ) → pos 0 ≤ℤ z → pos (natural z) ≡ z
natural_is (pos n) h = refl
natural_is (negsuc n) h = absurd (omega (arith, ints))

abbrev low_span : Span → ℤ → Span
low_span s at = record { least = s.least; most = at }

abbrev high_span : Span → ℤ → Span
high_span s at = record { least = at +ℤ pos 1; most = s.most }

span_sizes : (s : Span) (at : ℤ) → s.least ≤ℤ at → at <ℤ s.most → span_size (low_span s at) + span_size (high_span s at) ≡ span_size s
span_sizes s at h k =
    let a = natural_is (at -ℤ s.least) (omega (arith, ints)) in
    let b = natural_is (s.most -ℤ (at +ℤ pos 1)) (omega (arith, ints)) in
    let c = natural_is (s.most -ℤ s.least) (omega (arith, ints)) in
    omega (arith, ints, a, b, c)

span_numbers : (s : Span) (at : ℤ) → s.least ≤ℤ at → at <ℤ s.most → numbers_count (low_span s at) + numbers_count (high_span s at) ≡ numbers_count s
span_numbers s at h k =
    let a = natural_is (at -ℤ s.least +ℤ pos 1) (omega (arith, ints)) in
    let b = natural_is (s.most -ℤ (at +ℤ pos 1) +ℤ pos 1) (omega (arith, ints)) in
    let c = natural_is (s.most -ℤ s.least +ℤ pos 1) (omega (arith, ints)) in
    omega (arith, ints, a, b, c)

abbrev low_ranks : Ranks → ℕ → Ranks
low_ranks r rank = record { least = r.least; most = rank }

abbrev high_ranks : Ranks → ℕ → Ranks
high_ranks r rank = record { least = rank + 1; most = r.most }

ranks_shared : (r : Ranks) (rank : ℕ) → r.least ≤ rank → rank < r.most → ranks_count (low_ranks r rank) + ranks_count (high_ranks r rank) ≡ ranks_count r
ranks_shared r rank h k = omega arith

-- what is counted of a box by a size of its spans is that of its parts
abbrev counted : (Span → ℕ) → Area → ℕ
counted size box = product size box.loops * product ranks_count box.turns

parts_share : (size : Span → ℕ) → ((s : Span) (at : ℤ) → s.least ≤ℤ at → at <ℤ s.most → size (low_span s at) + size (high_span s at) ≡ size s)
    → (box : Area) (place : At) → IsPlace box place → counted size (low_part box place) + counted size (high_part box place) ≡ counted size box
parts_share size share box (Loop i at) p =
    let first = p.0 in let last = p.1 in
    let e = split_at size box.loops (i - 1) no_span _ _ (omega arith) (share (get_or box.loops (i - 1) no_span) at p.2 p.3) in
    omega (arith, ap (λ n. n * product ranks_count box.turns) e)
parts_share size share box (Turn i rank) p =
    let first = p.0 in let last = p.1 in
    let e = split_at ranks_count box.turns (i - 1) no_ranks _ _ (omega arith) (ranks_shared (get_or box.turns (i - 1) no_ranks) rank p.2 p.3) in
    omega (arith, ap (λ n. product size box.loops * n) e)

pub volume_split : (box : Area) (place : At) → IsPlace box place → volume (low_part box place) + volume (high_part box place) ≡ volume box
volume_split box place p = parts_share span_size span_sizes box place p

pub choices_split : (box : Area) (place : At) → IsPlace box place → choices (low_part box place) + choices (high_part box place) ≡ choices box
choices_split box place p = parts_share numbers_count span_numbers box place p

-- ---- where each span has a number
one_same : (s : Span) → s.least ≤ℤ s.most → span_size s ≡ numbers_count s
one_same s h =
    let a = natural_is (s.most -ℤ s.least) (omega (arith, ints)) in
    let b = natural_is (s.most -ℤ s.least +ℤ pos 1) (omega (arith, ints)) in
    omega (arith, ints, a, b)

loops_same : (ss : List Span) → ((i : ℕ) → i < length ss → (get_or ss i no_span).least ≤ℤ (get_or ss i no_span).most) → product span_size ss ≡ product numbers_count ss
loops_same [] h = refl
loops_same (s ∷ ss) h =
    let e = one_same s (h 0 (omega arith)) in
    let f = loops_same ss (λ i l. h (suc i) (omega arith)) in
    omega (arith, ap (λ n. n * product span_size ss) e, ap (λ n. numbers_count s * n) f)

-- the measure counts the choices
pub volume_same : (box : Area) → HasNumbers box → volume box ≡ choices box
volume_same box h = ap (λ n. n * product ranks_count box.turns) (loops_same box.loops (λ i l.
    let e : i + 1 - 1 ≡ i = omega arith in
    subst (λ k. (get_or box.loops k no_span).least ≤ℤ (get_or box.loops k no_span).most) e (h (i + 1) (omega arith) (omega arith))))

pub choices_some : (box : Area) → HasNumbers box → 0 < choices box
choices_some box h = let p = volume_positive box in omega (arith, volume_same box h)
