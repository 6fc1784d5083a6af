-- Lists that a loop makes or fills, place by place.
use Rattle.std.proofs.Common.{◌≡◌, ℕ, zero, suc, List, [], ◌∷◌, ◌++◌, replicate, length, get_or, set, take, ◌+◌, ◌<◌, ◌≤◌, ◌⊎◌, inl, inr, add-one, refl, sym, ◌∙◌, ap, ap₂, subst, arith}
use Rattle.std.proofs.Math.ListN.{length-set}
use Rattle.std.specs.List.{range_with_len}
use Rattle.std.proofs.lemmas.List.{ext_get_or, get_or-set_same, get_or-set_other, replicate-append-replicate}
use Rattle.std.proofs.lemmas.List.FromFn.{length-range_with_len, get_or-range_with_len}
use Rattle.rational_theory.specs.Rational.{ℚ}
use Rattle.narrow_fraction.specs.Fraction.{FitsFrac}
use Rattle.fraction_tableau.specs.declared.kept.Kept.{Kept}
use Rattle.fraction_tableau.specs.KeptCells.{kept_at, kept_below}
use Rattle.fraction_tableau.proofs.KeptCells.{at_most_one, kept_more}

-- ---- lists that grow
range_snoc : (a n : ℕ) → range_with_len a (suc n) ≡ range_with_len a n ++ (a + n) ∷ []
range_snoc a zero = let e : a ≡ a + 0 = omega arith in ap (λ x. x ∷ []) e
range_snoc a (suc n) =
    let e : (a + 1) + n ≡ a + suc n = omega arith in
    ap (λ xs. a ∷ xs) (range_snoc (a + 1) n ∙ ap (λ x. range_with_len (a + 1) n ++ x ∷ []) e)

pub range_more : (a n : ℕ) (xs : List ℕ) → xs ≡ range_with_len a n → xs ++ (a + n) ∷ [] ≡ range_with_len a (n + 1)
range_more a n xs e = ap (λ l. l ++ (a + n) ∷ []) e ∙ sym (ap (range_with_len a) (add-one n) ∙ range_snoc a n)

pub replicate_more : {X : Type 0} (x : X) (n : ℕ) (xs : List X) → xs ≡ replicate n x → xs ++ x ∷ [] ≡ replicate (n + 1) x
replicate_more {X = X} x n xs e = ap (λ l. l ++ x ∷ []) e ∙ replicate-append-replicate n 1 x

below_next : (m k : ℕ) → m < k + 1 → (m ≡ k) ⊎ (m < k)
below_next m k l = grind arith

-- ---- lists that are filled: they hold what f says of the places below k, but for zeros, and it fits
pub record Filled (f : ℕ → ℚ) (n : ℕ) (d : List Kept) (k made : ℕ) : Type 0 where
  pub kept : length d ≡ n
  pub fewer : made ≤ k
  pub cells : take made d ≡ kept_below f k
  pub fits : (m : ℕ) → m < k → FitsFrac (f m)

pub filled_next : (f : ℕ → ℚ) (n : ℕ) (d new : List Kept) (k made put : ℕ) (x : ℚ) → Filled f n d k made → length new ≡ length d → x ≡ f k → FitsFrac x
    → put ≡ made + length (kept_at k x) → take put new ≡ take made d ++ kept_at k x → Filled f n new (k + 1) put
filled_next f n d new k made put x s h e u p c =
    let o = at_most_one k x in
    let a = s.fewer in
    record {
      kept = h ∙ s.kept;
      fewer = omega arith;
      cells = c ∙ ap₂ (λ y z. y ++ z) s.cells (ap (kept_at k) e) ∙ sym (kept_more f k);
      fits = λ m l. pick m (below_next m k l);
    }
  where
    pick : (m : ℕ) → (m ≡ k) ⊎ (m < k) → FitsFrac (f m)
    pick m (inl q) = rw q (subst FitsFrac e u)
    pick m (inr q) = s.fits m q

-- ---- numbers from 0 on
pub record Counted (n : ℕ) (d : List ℕ) (k : ℕ) : Type 0 where
  pub kept : length d ≡ n
  pub done : (m : ℕ) → m < k → get_or d m 0 ≡ m

pub counted_none : (d : List ℕ) → Counted (length d) d 0
counted_none d = record { kept = refl; done = λ m h. absurd (omega arith) }

pub counted_next : (n : ℕ) (d : List ℕ) (k : ℕ) → Counted n d k → k < n → Counted n (set d k k) (k + 1)
counted_next n d k f h = record { kept = length-set d k k ∙ f.kept; done = λ m l. cell m (below_next m k l) }
  where
    cell : (m : ℕ) → (m ≡ k) ⊎ (m < k) → get_or (set d k k) m 0 ≡ m
    cell m (inl a) = rw a (get_or-set_same d k k 0 (rw f.kept h))
    cell m (inr a) = get_or-set_other d k m k 0 (λ b. absurd (omega arith)) ∙ f.done m a

pub counted_all : (n : ℕ) (d : List ℕ) (k : ℕ) → Counted n d k → k ≡ n → d ≡ range_with_len 0 n
counted_all n d k f e =
    ext_get_or 0 d (range_with_len 0 n) (f.kept ∙ sym (length-range_with_len 0 n))
    (λ m l. let q : m < n = let c = f.kept in omega arith in f.done m (omega arith) ∙ sym (get_or-range_with_len 0 n m 0 q ∙ zero_plus m))
  where
    zero_plus : (m : ℕ) → 0 + m ≡ m
    zero_plus m = omega arith
