-- The first number that a timing can't hold.
use Rattle.std.proofs.Common.{◌≡◌, ℕ, zero, suc, ◌+◌, ◌-◌, ◌^◌, ◌<◌, ◌≤◌, List, [], ◌∷◌, ◌++◌, arith, refl, sym, ◌∙◌, ap, true, false}
use Rattle.std.specs.Prelude.{Option, Some, None, Bool, find, nat_le, All, cond}
use Rattle.std.specs.Option.{option_or}
use Rattle.std.proofs.lemmas.Bool.Decides.{nat_tests}
use Rattle.std.proofs.lemmas.List.Folds.{find-append}
use Rattle.std.proofs.lemmas.List.Elements.{All-nil, All-cons, All-append}
use Rattle.progression.specs.Columns.{numbered}
use Rattle.typed_plan.specs.Grid.{told}

abbrev pub large : ℕ → Bool
large n = nat_le (2 ^ 80) n

is_large : (n : ℕ) → 2 ^ 80 ≤ n → large n ≡ true
is_large n h = grind (arith, nat_tests)

is_small : (n : ℕ) → n < 2 ^ 80 → large n ≡ false
is_small n h = grind (arith, nat_tests)

small_of : (n : ℕ) → large n ≡ false → n < 2 ^ 80
small_of n e = grind (arith, nat_tests)

-- what is told of a number is the number itself, where it isn't large
pub told_small : (n : ℕ) → told n < 2 ^ 80 → told n ≡ n
told_small n h = omega (arith, h)

-- ---- lists one after the other
pub skip : (xs ys : List ℕ) → find large xs ≡ None → find large (xs ++ ys) ≡ find large ys
skip xs ys h = find-append large xs ys ∙ ap (λ o. option_or o (find large ys)) h

pub stop : (xs ys : List ℕ) (n : ℕ) → find large xs ≡ Some n → find large (xs ++ ys) ≡ Some n
stop xs ys n h = find-append large xs ys ∙ ap (λ o. option_or o (find large ys)) h

pub skip_one : (n : ℕ) (ns : List ℕ) → n < 2 ^ 80 → find large (n ∷ ns) ≡ find large ns
skip_one n ns h = ap (λ b. cond b (Some n) (find large ns)) (is_small n h)

pub stop_one : (n : ℕ) (ns : List ℕ) → 2 ^ 80 ≤ n → find large (n ∷ ns) ≡ Some n
stop_one n ns h = ap (λ b. cond b (Some n) (find large ns)) (is_large n h)

-- ---- lists of numbered items
pub numbered_split : (k m i : ℕ) (f : ℕ → ℕ) → numbered (k + m) i f ≡ numbered k i f ++ numbered m (i + k) f
numbered_split zero m i f =
    let e : zero + m ≡ m = omega arith in
    let g : i ≡ i + zero = omega arith in
    ap (λ n. numbered n i f) e ∙ ap (λ j. numbered m j f) g
numbered_split (suc k) m i f =
    let e : suc k + m ≡ suc (k + m) = omega arith in
    let g : i + 1 + k ≡ i + suc k = omega arith in
    ap (λ n. numbered n i f) e ∙ ap (λ xs. f i ∷ xs) (numbered_split k m (i + 1) f ∙ ap (λ j. numbered k (i + 1) f ++ numbered m j f) g)

pub numbered_next : (k : ℕ) (f : ℕ → ℕ) → numbered (k + 1) 1 f ≡ numbered k 1 f ++ f (k + 1) ∷ []
numbered_next k f = let g : 1 + k ≡ k + 1 = omega arith in numbered_split k 1 1 f ∙ ap (λ j. numbered k 1 f ++ f j ∷ []) g

-- one more that isn't large
pub none_next : (k : ℕ) (f : ℕ → ℕ) → find large (numbered k 1 f) ≡ None → f (k + 1) < 2 ^ 80 → find large (numbered (k + 1) 1 f) ≡ None
none_next k f h l = ap (find large) (numbered_next k f) ∙ skip (numbered k 1 f) (f (k + 1) ∷ []) h ∙ skip_one (f (k + 1)) [] l

-- and the first that is
pub first_at : (n k : ℕ) (f : ℕ → ℕ) → k < n → find large (numbered k 1 f) ≡ None → 2 ^ 80 ≤ f (k + 1) → find large (numbered n 1 f) ≡ Some (f (k + 1))
first_at n k f l h b =
    let m = n - (k + 1) in
    let e : n ≡ k + 1 + m = omega arith in
    ap (λ j. find large (numbered j 1 f)) e ∙ ap (find large) (numbered_split (k + 1) m 1 f)
    ∙ stop (numbered (k + 1) 1 f) (numbered m (1 + (k + 1)) f) (f (k + 1))
    (ap (find large) (numbered_next k f) ∙ skip (numbered k 1 f) (f (k + 1) ∷ []) h ∙ stop_one (f (k + 1)) [] b)

-- ---- where none is large
past : (x : ℕ) (xs : List ℕ) (b : Bool) → large x ≡ b → cond b (Some x) (find large xs) ≡ None → (large x ≡ false) × (find large xs ≡ None)
past x xs true e h = absurd (cc)
past x xs false e h = (e, h)

pub all_small : (xs : List ℕ) → find large xs ≡ None → All (λ n. n < 2 ^ 80) xs
all_small [] h = All-nil (λ n. n < 2 ^ 80)
all_small (x ∷ xs) h =
    let p = past x xs (large x) refl h in
    All-cons (λ n. n < 2 ^ 80) x xs (small_of x p.0) (all_small xs p.1)

pub head_small : (x : ℕ) (xs : List ℕ) → find large (x ∷ xs) ≡ None → (x < 2 ^ 80) × (find large xs ≡ None)
head_small x xs h = let p = past x xs (large x) refl h in (small_of x p.0, p.1)

pub both_small : (xs ys : List ℕ) → find large (xs ++ ys) ≡ None → (find large xs ≡ None) × (find large ys ≡ None)
both_small xs ys h = neither (find large xs) (find large ys) (sym (find-append large xs ys) ∙ h)
  where
    neither : (a b : Option ℕ) → option_or a b ≡ None → (a ≡ None) × (b ≡ None)
    neither None b h = (refl, h)
    neither (Some n) b h = absurd (cc)

-- all of a list's items, and of one more
pub all_next : (xs : List ℕ) (x : ℕ) → All (λ n. n < 2 ^ 80) xs → x < 2 ^ 80 → All (λ n. n < 2 ^ 80) (xs ++ x ∷ [])
all_next xs x h l = All-append (λ n. n < 2 ^ 80) xs (x ∷ []) h (All-cons (λ n. n < 2 ^ 80) x [] l (All-nil (λ n. n < 2 ^ 80)))
