-- The texts of the elements of a list, one after the other.
use Rattle.std.proofs.Common.{◌≡◌, ℕ, ◌+◌, ◌-◌, ◌≤◌, List, [], ◌++◌, length, flat_map, take, slice_index_or, sym, ap, ◌∙◌, arith}
use Rattle.std.proofs.lemmas.List.{take_more, flat_map_more}

-- the text of the next element, counted from 1
pub next_piece : {X : Type 0} (f : X → List ℕ) (xs : List X) (i : ℕ) (d : X) → 1 ≤ i → i ≤ length xs
    → flat_map f (take (i + 1 - 1) xs) ≡ flat_map f (take (i - 1) xs) ++ f (slice_index_or xs (i - 1) d)
next_piece f xs i d least most =
    let here : i + 1 - 1 ≡ i - 1 + 1 = omega arith in
    ap (λ n. flat_map f (take n xs)) here ∙ ap (flat_map f) (take_more xs (i - 1) d (omega arith)) ∙ sym (flat_map_more f [] (take (i - 1) xs) (slice_index_or xs (i - 1) d))
