-- Lists that grow by one item.
use Rattle.std.proofs.Common.{◌≡◌, ℕ, ℤ, zero, suc, ◌+◌, ◌*◌, ◌<◌, ◌^◌, List, [], ◌∷◌, ◌++◌, length, get_or, map, refl, ap, sym, ◌∙◌, arith}
use Rattle.progression.specs.Columns.{numbered}
use Rattle.progression.specs.Street.{Street}
use Rattle.progression.specs.TimingRecord.{TimingRecord, base}
use Rattle.progression.specs.BaseRecord.{cycle}
use Rattle.half_integer.specs.HalfPlan.{red_tick}
use Rattle.half_integer.specs.Fitting.{IsListTo, twice_at}

numbered_next : (k i : ℕ) (f : ℕ → ℕ) → numbered (k + 1) i f ≡ numbered k i f ++ f (i + k) ∷ []
numbered_next zero i f = ap (λ n. f n ∷ []) (omega arith)
numbered_next (suc k) i f =
    let e : suc k + 1 ≡ suc (k + 1) = omega arith in
    let g : i + 1 + k ≡ i + suc k = omega arith in
    ap (λ n. numbered n i f) e ∙ ap (λ xs. f i ∷ xs) (numbered_next k (i + 1) f ∙ ap (λ n. numbered k (i + 1) f ++ f n ∷ []) g)

-- all of a list's items, and of one more
all_next : (xs : List ℕ) (x bound : ℕ) → ((k d : ℕ) → k < length xs → get_or xs k d < bound) → x < bound → (k d : ℕ) → k < length (xs ++ x ∷ []) → get_or (xs ++ x ∷ []) k d < bound
all_next [] x bound h l zero d p = l
all_next [] x bound h l (suc k) d p = absurd (omega arith)
all_next (y ∷ ys) x bound h l zero d p = h 0 d (omega arith)
all_next (y ∷ ys) x bound h l (suc k) d p = all_next ys x bound (λ j e q. h (suc j) e (omega arith)) l k d (omega arith)

pub list_none : (f : ℕ → ℕ) (i : ℕ) → IsListTo f i 0 []
list_none f i = record { value = refl; small = λ k d p. absurd (omega arith) }

pub list_next : (f : ℕ → ℕ) (i k : ℕ) (items more : List ℕ) (item : ℕ) → IsListTo f i k items → more ≡ items ++ item ∷ [] → item ≡ f (i + k) → item < 2 ^ 80
    → IsListTo f i (k + 1) more
list_next f i k items more item h e v l = record {
  value = e ∙ ap (λ xs. xs ++ item ∷ []) h.value ∙ ap (λ n. numbered k i f ++ n ∷ []) v ∙ sym (numbered_next k i f);
  small = rw e (all_next items item (2 ^ 80) h.small l);
}

-- each number twice as large, place by place
twice_from : (xs : List ℕ) (i : ℕ) (f : ℕ → ℕ) → ((j : ℕ) → f (i + j) ≡ get_or xs j 0 * 2) → numbered (length xs) i f ≡ map (λ n. n * 2) xs
twice_from [] i f h = refl
twice_from (x ∷ xs) i f h =
    let here : f i ≡ x * 2 = ap f (omega arith) ∙ h 0 in
    ap (λ n. n ∷ numbered (length xs) (i + 1) f) here
    ∙ ap (λ ys. x * 2 ∷ ys) (twice_from xs (i + 1) f (λ j. let g : i + 1 + j ≡ i + suc j = omega arith in ap f g ∙ h (suc j)))

pub twice_whole : (xs items : List ℕ) → IsListTo (twice_at xs) 0 (length xs) items → items ≡ map (λ n. n * 2) xs
twice_whole xs items h = h.value ∙ twice_from xs 0 (twice_at xs) (λ j. ap (twice_at xs) (omega arith))

-- one more red
pub red_next : (a : Street) (t : TimingRecord) (x : ℤ) (k : ℕ) (items more : List ℕ) (item : ℕ) → IsListTo (red_tick a t x) 1 k items → more ≡ items ++ item ∷ [] → item ≡ red_tick a t x (k + 1)
    → item < cycle a (base t) + cycle a (base t) → cycle a (base t) * 2 < 2 ^ 80 → IsListTo (red_tick a t x) 1 (k + 1) more
red_next a t x k items more item h e v l f =
    let g : k + 1 ≡ 1 + k = omega arith in
    list_next (red_tick a t x) 1 k items more item h e (v ∙ ap (red_tick a t x) g) (omega arith)
