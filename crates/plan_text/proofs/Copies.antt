-- A list that is copied item by item.
use Rattle.std.proofs.Common.{◌≡◌, ℕ, ◌+◌, ◌<◌, ◌≤◌, List, [], ◌∷◌, ◌++◌, length, get_or, take, sym, ap, ◌∙◌}
use Rattle.std.proofs.lemmas.List.{take_more, take_all}

-- one more item
pub copied_more : (front xs after : List ℕ) (i x : ℕ) → i < length xs → front ≡ take i xs → x ≡ get_or xs i 0 → after ≡ front ++ x ∷ [] → after ≡ take (i + 1) xs
copied_more front xs after i x lt is item more =
    more ∙ ap (λ (y : ℕ). front ++ y ∷ []) item ∙ ap (λ (y : List ℕ). y ++ get_or xs i 0 ∷ []) is ∙ sym (take_more xs i 0 lt)

-- all items
pub copied_all : (front xs : List ℕ) (i : ℕ) → length xs ≤ i → front ≡ take i xs → front ≡ xs
copied_all front xs i le is = is ∙ take_all i xs le
