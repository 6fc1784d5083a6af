-- Lists of numbered items, made one by one.
use Rattle.std.proofs.Common.{◌≡◌, ℕ, zero, suc, ◌+◌, ◌-◌, ◌≤◌, List, [], ◌∷◌, ◌++◌, map, ◌∙◌, ap, arith}
use Rattle.std.proofs.lemmas.List.{map-append}
use Rattle.progression.specs.Columns.{numbered}

numbered-more : {X : Type 0} (n i : ℕ) (f : ℕ → X) → numbered (suc n) i f ≡ numbered n i f ++ f (i + n) ∷ []
numbered-more zero i f = ap (λ k. f k ∷ []) (omega arith)
numbered-more (suc n) i f = ap (λ xs. f i ∷ xs) (numbered-more n (i + 1) f ∙ ap (λ k. numbered n (i + 1) f ++ f k ∷ []) (omega arith))

-- item k behind the items from 1 to k - 1
pub item_more : {X Y : Type 0} (view : X → Y) (xs : List X) (x : X) (f : ℕ → Y) (k : ℕ) → 1 ≤ k → map view xs ≡ numbered (k - 1) 1 f → view x ≡ f k → map view (xs ++ x ∷ []) ≡ numbered (k + 1 - 1) 1 f
item_more view xs x f k h e g =
    let p : k + 1 - 1 ≡ suc (k - 1) = omega arith in
    let q : k ≡ 1 + (k - 1) = omega arith in
    map-append view xs (x ∷ []) ∙ rw (e, g, p, numbered-more (k - 1) 1 f) (ap (λ n. numbered (k - 1) 1 f ++ f n ∷ []) q)
