-- A list each of whose elements is changed by its number, one element more at a time.
use Rattle.std.proofs.Common.{◌≡◌, ℕ, ◌+◌, ◌<◌, ◌≤◌, List, [], ◌∷◌, ◌++◌, length, take, get_or, refl, sym, ◌∙◌, ap, arith}
use Rattle.std.proofs.lemmas.List.{take_more, take_all, length-take-le}
use Rattle.street_changes.specs.Changed.{each_by}

swapped : (i : ℕ) → 1 + i ≡ i + 1
swapped i = omega arith

module _ {X : Type 0} (f : ℕ → X → X) where
  pub each_more : (i : ℕ) (xs : List X) (x : X) → each_by f i (xs ++ x ∷ []) ≡ each_by f i xs ++ f (i + length xs) x ∷ []
  each_more i [] x = ap (λ n. f n x ∷ []) (omega arith)
  each_more i (y ∷ xs) x = ap (λ ys. f i y ∷ ys) (each_more (i + 1) xs x ∙ ap (λ n. each_by f (i + 1) xs ++ f n x ∷ []) (omega arith))

  -- as a loop goes on to the next element
  pub next_more : (xs copy now : List X) (i : ℕ) (d y : X) → i < length xs → now ≡ copy ++ y ∷ [] → copy ≡ each_by f 1 (take i xs) → y ≡ f (i + 1) (get_or xs i d)
      → now ≡ each_by f 1 (take (i + 1) xs)
  next_more xs copy now i d y lt more so one =
      let x = get_or xs i d in
      let taken : length (take i xs) ≡ i = length-take-le i xs (omega arith) in
      let number : f (i + 1) x ≡ f (1 + length (take i xs)) x = ap (λ n. f n x) (sym (ap (λ n. 1 + n) taken ∙ swapped i)) in
      let whole : take i xs ++ x ∷ [] ≡ take (i + 1) xs = sym (take_more xs i d lt) in
      more
      ∙ ap (λ ys. ys ++ y ∷ []) so
      ∙ ap (λ z. each_by f 1 (take i xs) ++ z ∷ []) (one ∙ number)
      ∙ sym (each_more 1 (take i xs) x)
      ∙ ap (each_by f 1) whole

  pub all_taken : (xs : List X) (i : ℕ) → length xs ≤ i → each_by f 1 (take i xs) ≡ each_by f 1 xs
  all_taken xs i h = ap (each_by f 1) (take_all i xs h)
