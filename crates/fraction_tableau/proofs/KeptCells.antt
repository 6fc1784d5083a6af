-- Lemmas on the definitions of `KeptCells`.
use Rattle.std.proofs.Common.{◌≡◌, ℕ, zero, suc, pos, Bool, true, false, cond, eqb, List, [], ◌∷◌, ◌++◌, map, length, get_or, set, take, ◌+◌, ◌-◌}
use Rattle.std.proofs.Common.{◌<◌, ◌≤◌, ◌⊎◌, inl, inr, add-one, refl, sym, ◌∙◌, ap, ap₂, subst, arith, length-append}
use Rattle.std.specs.List.{range_with_len}
use Rattle.std.proofs.lemmas.List.{ext_get_or, get_or_default, get_or-set_same, set-set, get_or-map, get_or_append_left, get_or_push, get_or_past, length_push, length-map, append-nil}
use Rattle.std.proofs.lemmas.List.FromFn.{length-range_with_len, get_or-range_with_len}
use Rattle.std.proofs.lemmas.Bool.{cond-true, cond-false, eq-eqb, ne_eqb}
use Rattle.rational_theory.specs.Rational.{ℚ, whole}
use Rattle.rational_theory.proofs.Compare.{eq_says, eq_false}
use Rattle.narrow_fraction.specs.Fraction.{FitsFrac}
use Rattle.narrow_fraction.proofs.Zeros.{zero_fits}
use Rattle.fraction_tableau.specs.Narrow.{IsNarrow}
use Rattle.fraction_tableau.specs.declared.kept.Kept.{Kept}
use Rattle.fraction_tableau.specs.KeptCells.{is_zero, number_in, kept_at, kept_below, cell_in, dense_row, IsSparse}

pub last_or_before : (a b : ℕ) → a ≤ suc b → (a ≡ suc b) ⊎ (a ≤ b)
last_or_before a b h = grind arith

pub below_or_last : (a b : ℕ) → a < suc b → (a ≡ b) ⊎ (a < b)
below_or_last a b h = grind arith

pub clash : {b : Bool} → b ≡ true → b ≡ false → ⊥
clash p q = cc

-- ---- one place
pub zero_or_not : (x : ℚ) → (x ≡ whole (pos 0)) ⊎ (x ≡ whole (pos 0) → ⊥)
zero_or_not x = pick (is_zero x) refl
  where
    pick : (b : Bool) → b ≡ is_zero x → (x ≡ whole (pos 0)) ⊎ (x ≡ whole (pos 0) → ⊥)
    pick true e = inl ((eq_says x (whole (pos 0)) true e).0 refl)
    pick false e = inr (eq_false x (whole (pos 0)) e)

zero_true : (x : ℚ) → x ≡ whole (pos 0) → is_zero x ≡ true
zero_true x e = (eq_says x (whole (pos 0)) (is_zero x) refl).1 e

some_false : (x : ℚ) → (x ≡ whole (pos 0) → ⊥) → is_zero x ≡ false
some_false x n = pick (is_zero x) refl
  where
    pick : (b : Bool) → b ≡ is_zero x → is_zero x ≡ false
    pick true e = absurd (n ((eq_says x (whole (pos 0)) true e).0 refl))
    pick false e = sym e

pub kept_zero : (k : ℕ) (x : ℚ) → x ≡ whole (pos 0) → kept_at k x ≡ []
unfolding kept_at
kept_zero k x e = cond-true (is_zero x) [] (record { place = k; cell = x } ∷ []) (zero_true x e)

pub kept_some : (k : ℕ) (x : ℚ) → (x ≡ whole (pos 0) → ⊥) → kept_at k x ≡ record { place = k; cell = x } ∷ []
unfolding kept_at
kept_some k x n = cond-false (is_zero x) [] (record { place = k; cell = x } ∷ []) (some_false x n)

pub at_most_one : (k : ℕ) (x : ℚ) → length (kept_at k x) ≤ 1
at_most_one k x = pick (zero_or_not x)
  where
    pick : (x ≡ whole (pos 0)) ⊎ (x ≡ whole (pos 0) → ⊥) → length (kept_at k x) ≤ 1
    pick (inl e) = rw (kept_zero k x e) (omega arith)
    pick (inr n) = rw (kept_some k x n) (omega arith)

none_zero : (k : ℕ) (x : ℚ) → length (kept_at k x) ≡ 0 → x ≡ whole (pos 0)
none_zero k x h = pick (zero_or_not x)
  where
    pick : (x ≡ whole (pos 0)) ⊎ (x ≡ whole (pos 0) → ⊥) → x ≡ whole (pos 0)
    pick (inl e) = e
    pick (inr n) = absurd (let q = ap length (kept_some k x n) in omega arith)

-- ---- the places below a number
pub kept_more : (f : ℕ → ℚ) (k : ℕ) → kept_below f (k + 1) ≡ kept_below f k ++ kept_at k (f k)
kept_more f k = ap (kept_below f) (add-one k)

pub kept_same : (f g : ℕ → ℚ) (n : ℕ) → ((m : ℕ) → m < n → f m ≡ g m) → kept_below f n ≡ kept_below g n
kept_same f g zero h = refl
kept_same f g (suc n) h = ap₂ (λ s t. s ++ t) (kept_same f g n (λ m l. h m (omega arith))) (ap (kept_at n) (h n (omega arith)))

pub zeros_skip : (f : ℕ → ℚ) (n p : ℕ) → n ≤ p → ((m : ℕ) → n ≤ m → m < p → f m ≡ whole (pos 0)) → kept_below f p ≡ kept_below f n
zeros_skip f n zero h z = let e : 0 ≡ n = omega arith in ap (kept_below f) e
zeros_skip f n (suc p) h z = pick (last_or_before n p h) (λ q. zeros_skip f n p q (λ m a b. z m a (omega arith)))
  where
    pick : (n ≡ suc p) ⊎ (n ≤ p) → (n ≤ p → kept_below f p ≡ kept_below f n) → kept_below f (suc p) ≡ kept_below f n
    pick (inl q) g = ap (kept_below f) (sym q)
    pick (inr q) g = ap (λ t. kept_below f p ++ t) (kept_zero p (f p) (z p q (omega arith))) ∙ append-nil (kept_below f p) ∙ g q

pub kept_mono : (f : ℕ → ℚ) (n m : ℕ) → n ≤ m → length (kept_below f n) ≤ length (kept_below f m)
kept_mono f n zero h = let e : n ≡ 0 = omega arith in rw e (omega arith)
kept_mono f n (suc m) h = pick (last_or_before n m h) (λ q. kept_mono f n m q)
  where
    pick : (n ≡ suc m) ⊎ (n ≤ m) → (n ≤ m → length (kept_below f n) ≤ length (kept_below f m)) → length (kept_below f n) ≤ length (kept_below f (suc m))
    pick (inl q) g = rw q (omega arith)
    pick (inr q) g = let a = g q in let c = length-append (kept_below f m) (kept_at m (f m)) in omega arith

pub same_count : (f : ℕ → ℚ) (n p : ℕ) → n ≤ p → length (kept_below f p) ≤ length (kept_below f n) → (m : ℕ) → n ≤ m → m < p → f m ≡ whole (pos 0)
same_count f n zero h e m a b = absurd (omega arith)
same_count f n (suc p) h e m a b =
    let l : n ≤ p = omega arith in
    let u = kept_mono f n p l in
    let c = length-append (kept_below f p) (kept_at p (f p)) in
    pick (below_or_last m p b) (none_zero p (f p) (omega arith)) (λ q. same_count f n p l (omega arith) m a q)
  where
    pick : (m ≡ p) ⊎ (m < p) → f p ≡ whole (pos 0) → (m < p → f m ≡ whole (pos 0)) → f m ≡ whole (pos 0)
    pick (inl q) z g = ap f q ∙ z
    pick (inr q) z g = g q

-- the cell that stands behind those of the places below n
pub record IsNext (f : ℕ → ℚ) (n w : ℕ) (k : Kept) : Type 0 where
  pub after : n ≤ k.place
  pub inside : k.place < w
  pub is : f k.place ≡ k.cell
  pub some : k.cell ≡ whole (pos 0) → ⊥
  pub zeros : (m : ℕ) → n ≤ m → m < k.place → f m ≡ whole (pos 0)

later : (f : ℕ → ℚ) (n w : ℕ) (k : Kept) → IsNext f n w k → IsNext f n (suc w) k
later f n w k x = record { after = x.after; inside = let l = x.inside in omega arith; is = x.is; some = x.some; zeros = x.zeros }

pub next_kept : (f : ℕ → ℚ) (n w i : ℕ) (d : Kept) → n ≤ w → i ≡ length (kept_below f n) → i < length (kept_below f w) → IsNext f n w (get_or (kept_below f w) i d)
next_kept f n zero i d h e l = absurd (omega arith)
next_kept f n (suc w) i d h e l = pick (last_or_before n w h) (zero_or_not (f w)) (λ q u. next_kept f n w i d q e u)
  where
    sides : i < length (kept_below f w) + 1 → (i < length (kept_below f w)) ⊎ (length (kept_below f w) ≡ i)
    sides u = grind arith

    put : n ≤ w → (f w ≡ whole (pos 0) → ⊥) → (i < length (kept_below f w)) ⊎ (length (kept_below f w) ≡ i) → (n ≤ w → i < length (kept_below f w) → IsNext f n w (get_or (kept_below f w) i d))
        → IsNext f n (suc w) (get_or (kept_below f w ++ record { place = w; cell = f w } ∷ []) i d)
    put q s (inl u) g = rw (get_or_append_left (kept_below f w) (record { place = w; cell = f w } ∷ []) d i u) (later f n w _ (g q u))
    put q s (inr u) g =
        rw (get_or_push (kept_below f w) (record { place = w; cell = f w }) d i u)
        (record { after = q; inside = omega arith; is = refl; some = s; zeros = same_count f n w q (omega arith) })

    pick : (n ≡ suc w) ⊎ (n ≤ w) → (f w ≡ whole (pos 0)) ⊎ (f w ≡ whole (pos 0) → ⊥) → (n ≤ w → i < length (kept_below f w) → IsNext f n w (get_or (kept_below f w) i d))
        → IsNext f n (suc w) (get_or (kept_below f (suc w)) i d)
    pick (inl q) z g = absurd (let x = ap (λ m. length (kept_below f m)) q in omega arith)
    pick (inr q) (inl z) g =
        let x : kept_below f (suc w) ≡ kept_below f w = ap (λ t. kept_below f w ++ t) (kept_zero w (f w) z) ∙ append-nil (kept_below f w) in
        subst (λ t. IsNext f n (suc w) (get_or t i d)) (sym x) (later f n w _ (g q (subst (λ t. i < length t) x l)))
    pick (inr q) (inr s) g =
        let x : kept_below f (suc w) ≡ kept_below f w ++ record { place = w; cell = f w } ∷ [] = ap (λ t. kept_below f w ++ t) (kept_some w (f w) s) in
        let u : i < length (kept_below f w ++ record { place = w; cell = f w } ∷ []) = subst (λ t. i < length t) x l in
        subst (λ t. IsNext f n (suc w) (get_or t i d)) (sym x) (put q s (sides (subst (λ t. i < t) (length_push (kept_below f w) (record { place = w; cell = f w })) u)) g)

-- ---- the number at a place of such a list
abbrev Lacks : ℕ → List Kept → Type 0
Lacks k [] = Unit {0}
Lacks k (c ∷ cs) = (k ≡ c.place → ⊥) × Lacks k cs

lacks-append : (k : ℕ) (xs ys : List Kept) → Lacks k xs → Lacks k ys → Lacks k (xs ++ ys)
lacks-append k [] ys a b = b
lacks-append k (x ∷ xs) ys a b = (a.0, lacks-append k xs ys a.1 b)

lacks_one : (k n : ℕ) (x : ℚ) → (k ≡ n → ⊥) → Lacks k (kept_at n x)
lacks_one k n x h = pick (zero_or_not x)
  where
    pick : (x ≡ whole (pos 0)) ⊎ (x ≡ whole (pos 0) → ⊥) → Lacks k (kept_at n x)
    pick (inl e) = rw (kept_zero n x e) tt
    pick (inr s) = rw (kept_some n x s) (h, tt)

lacks_below : (f : ℕ → ℚ) (n k : ℕ) → n ≤ k → Lacks k (kept_below f n)
lacks_below f zero k h = tt
lacks_below f (suc n) k h = lacks-append k (kept_below f n) (kept_at n (f n)) (lacks_below f n k (omega arith)) (lacks_one k n (f n) (λ e. absurd (omega arith)))

lacking : (k : ℕ) (xs : List Kept) → Lacks k xs → cell_in xs k ≡ whole (pos 0)
lacking k [] h = refl
lacking k (x ∷ xs) h = cond-false (eqb k x.place) x.cell (cell_in xs k) (ne_eqb k x.place h.0) ∙ lacking k xs h.1

in_right : (k : ℕ) (xs ys : List Kept) → Lacks k xs → cell_in (xs ++ ys) k ≡ cell_in ys k
in_right k [] ys h = refl
in_right k (x ∷ xs) ys h = cond-false (eqb k x.place) x.cell (cell_in (xs ++ ys) k) (ne_eqb k x.place h.0) ∙ in_right k xs ys h.1

pub in_left : (k : ℕ) (xs ys : List Kept) → cell_in ys k ≡ whole (pos 0) → cell_in (xs ++ ys) k ≡ cell_in xs k
in_left k [] ys h = h
in_left k (x ∷ xs) ys h = ap (cond (eqb k x.place) x.cell) (in_left k xs ys h)

pub kept_apart : (k n : ℕ) (x : ℚ) → (k ≡ n → ⊥) → cell_in (kept_at n x) k ≡ whole (pos 0)
kept_apart k n x h = lacking k (kept_at n x) (lacks_one k n x h)

one_same : (n : ℕ) (x : ℚ) → cell_in (kept_at n x) n ≡ x
one_same n x = pick (zero_or_not x)
  where
    pick : (x ≡ whole (pos 0)) ⊎ (x ≡ whole (pos 0) → ⊥) → cell_in (kept_at n x) n ≡ x
    pick (inl e) = ap (λ t. cell_in t n) (kept_zero n x e) ∙ sym e
    pick (inr s) = ap (λ t. cell_in t n) (kept_some n x s) ∙ cond-true (eqb n n) x (whole (pos 0)) (eq-eqb n n refl)

pub cell_kept : (f : ℕ → ℚ) (n k : ℕ) → k < n → cell_in (kept_below f n) k ≡ f k
cell_kept f zero k h = absurd (omega arith)
cell_kept f (suc n) k h = pick (below_or_last k n h) (λ q. cell_kept f n k q)
  where
    pick : (k ≡ n) ⊎ (k < n) → (k < n → cell_in (kept_below f n) k ≡ f k) → cell_in (kept_below f (suc n)) k ≡ f k
    pick (inl q) g = rw q (in_right n (kept_below f n) (kept_at n (f n)) (lacks_below f n n (omega arith)) ∙ one_same n (f n))
    pick (inr q) g = in_left k (kept_below f n) (kept_at n (f n)) (lacking k (kept_at n (f n)) (lacks_one k n (f n) (λ e. absurd (omega arith)))) ∙ g q

-- ---- each cell of such a list is the number at its place
abbrev Tells : (ℕ → ℚ) → List Kept → Type 0
Tells f [] = Unit {0}
Tells f (c ∷ cs) = (f c.place ≡ c.cell) × Tells f cs

tells-append : (f : ℕ → ℚ) (xs ys : List Kept) → Tells f xs → Tells f ys → Tells f (xs ++ ys)
tells-append f [] ys a b = b
tells-append f (x ∷ xs) ys a b = (a.0, tells-append f xs ys a.1 b)

tells_one : (f : ℕ → ℚ) (n : ℕ) → Tells f (kept_at n (f n))
tells_one f n = pick (zero_or_not (f n))
  where
    pick : (f n ≡ whole (pos 0)) ⊎ (f n ≡ whole (pos 0) → ⊥) → Tells f (kept_at n (f n))
    pick (inl e) = rw (kept_zero n (f n) e) tt
    pick (inr s) = rw (kept_some n (f n) s) (refl, tt)

tells_below : (f : ℕ → ℚ) (n : ℕ) → Tells f (kept_below f n)
tells_below f zero = tt
tells_below f (suc n) = tells-append f (kept_below f n) (kept_at n (f n)) (tells_below f n) (tells_one f n)

tells_item : (f : ℕ → ℚ) (xs : List Kept) (i : ℕ) (d : Kept) → Tells f xs → i < length xs → f (get_or xs i d).place ≡ (get_or xs i d).cell
tells_item f [] i d t l = absurd (omega arith)
tells_item f (x ∷ xs) zero d t l = t.0
tells_item f (x ∷ xs) (suc i) d t l = tells_item f xs i d t.1 (omega arith)

pub kept_there : (f : ℕ → ℚ) (w i : ℕ) (ks : List Kept) (k other : Kept) (place : ℕ) → ks ≡ kept_below f w → i < length ks → (get_or ks i k).place ≡ place → (get_or ks i other).cell ≡ f place
kept_there f w i ks k other place e l b =
    let t : Tells f ks = subst (Tells f) (sym e) (tells_below f w) in
    sym (tells_item f ks i other t l) ∙ ap f (ap (λ (c : Kept). c.place) (get_or_default ks i other k l) ∙ b)

-- ---- a row and its list
zero_plus : (m : ℕ) → 0 + m ≡ m
zero_plus m = omega arith

dense_length : (w : ℕ) (cells : List Kept) (b : ℚ) → length (dense_row w cells b) ≡ w + 1
unfolding dense_row
dense_length w cells b = length_push (map (cell_in cells) (range_with_len 0 w)) b ∙ ap (λ n. n + 1) (length-map (range_with_len 0 w) (cell_in cells) ∙ length-range_with_len 0 w)

pub dense_cell : (w : ℕ) (cells : List Kept) (b : ℚ) (m : ℕ) → m < w → number_in (dense_row w cells b) m ≡ cell_in cells m
unfolding dense_row
dense_cell w cells b m h =
    let a = length-range_with_len 0 w in
    let c = length-map (range_with_len 0 w) (cell_in cells) in
    get_or_append_left (map (cell_in cells) (range_with_len 0 w)) (b ∷ []) (whole (pos 0)) m (omega arith)
    ∙ get_or-map (cell_in cells) (range_with_len 0 w) m 0 (whole (pos 0)) (omega arith)
    ∙ ap (cell_in cells) (get_or-range_with_len 0 w m 0 h ∙ zero_plus m)

pub dense_bound : (w : ℕ) (cells : List Kept) (b : ℚ) → number_in (dense_row w cells b) w ≡ b
unfolding dense_row
dense_bound w cells b = get_or_push (map (cell_in cells) (range_with_len 0 w)) b (whole (pos 0)) w (length-map (range_with_len 0 w) (cell_in cells) ∙ length-range_with_len 0 w)

pub row_is : (row : List ℚ) (w : ℕ) (f : ℕ → ℚ) (cells : List Kept) (b : ℚ) → length row ≡ w + 1 → cells ≡ kept_below f w → ((m : ℕ) → m < w → f m ≡ number_in row m)
    → b ≡ number_in row w → dense_row w cells b ≡ row
row_is row w f cells b h c e g =
    ext_get_or (whole (pos 0)) (dense_row w cells b) row (dense_length w cells b ∙ sym h) (λ m k. pick m (below_or_last m w (let n = dense_length w cells b in omega arith)))
  where
    pick : (m : ℕ) → (m ≡ w) ⊎ (m < w) → number_in (dense_row w cells b) m ≡ number_in row m
    pick m (inl q) = rw q (dense_bound w cells b ∙ g)
    pick m (inr q) = dense_cell w cells b m q ∙ ap (λ t. cell_in t m) c ∙ cell_kept f w m q ∙ e m q

pub line_made : (w count : ℕ) (f : ℕ → ℚ) (cells : List Kept) → count ≤ w → cells ≡ kept_below f w → IsSparse w count cells
line_made w count f cells h e = record {
  inside = h;
  ordered = e ∙ kept_same f (cell_in cells) w (λ m l. sym (ap (λ t. cell_in t m) e ∙ cell_kept f w m l));
}

-- what a line says of its row
pub record IsRow (w count : ℕ) (cells : List Kept) (b : ℚ) (row : List ℚ) : Type 0 where
  pub wide : length row ≡ w + 1
  pub inside : count ≤ w
  pub kept : cells ≡ kept_below (number_in row) w
  pub bound : b ≡ number_in row w

pub open_row : (w count : ℕ) (cells : List Kept) (b : ℚ) (row : List ℚ) → IsSparse w count cells → dense_row w cells b ≡ row → IsRow w count cells b row
open_row w count cells b row l e = record {
  wide = ap length (sym e) ∙ dense_length w cells b;
  inside = l.inside;
  kept = l.ordered ∙ kept_same (cell_in cells) (number_in row) w (λ m h. sym (ap (λ t. number_in t m) (sym e) ∙ dense_cell w cells b m h));
  bound = sym (ap (λ t. number_in t w) (sym e) ∙ dense_bound w cells b);
}

-- ---- steps from cell to cell
pub next_in : (f : ℕ → ℚ) (n w i : ℕ) (ks : List Kept) (k : Kept) → ks ≡ kept_below f w → k ≡ get_or ks i k → n ≤ w → i ≡ length (kept_below f n) → i < length ks → IsNext f n w k
next_in f n w i ks k e r h c l =
    subst (IsNext f n w) (sym (r ∙ ap (λ t. get_or t i k) e)) (next_kept f n w i k h c (subst (λ t. i < length t) e l))

pub step_kept : (h : ℕ → ℚ) (n p : ℕ) → n ≤ p → ((m : ℕ) → n ≤ m → m < p → h m ≡ whole (pos 0)) → kept_below h (p + 1) ≡ kept_below h n ++ kept_at p (h p)
step_kept h n p l z = kept_more h p ∙ ap (λ t. t ++ kept_at p (h p)) (zeros_skip h n p l z)

pub step_count : (f : ℕ → ℚ) (n w : ℕ) (k : Kept) → IsNext f n w k → length (kept_below f (k.place + 1)) ≡ length (kept_below f n) + 1
step_count f n w k x =
    ap length (step_kept f n k.place x.after x.zeros ∙ ap (λ t. kept_below f n ++ t) (ap (kept_at k.place) x.is ∙ kept_some k.place k.cell x.some))
    ∙ length_push (kept_below f n) k

-- a walk to a place: i cells stand before it, or before a place before it
pub record Reached (f : ℕ → ℚ) (place i : ℕ) : Type 0 where
  pub at : ℕ
  pub low : at ≤ place
  pub count : i ≡ length (kept_below f at)

pub reached_at : (f : ℕ → ℚ) (place i : ℕ) → i ≡ length (kept_below f place) → Reached f place i
reached_at f place i e = record { at = place; low = omega arith; count = e }

pub reached_next : (f : ℕ → ℚ) (place i w : ℕ) (ks : List Kept) (k : Kept) → Reached f place i → place ≤ w → ks ≡ kept_below f w → k ≡ get_or ks i k
    → i < length ks → k.place < place → Reached f place (i + 1)
reached_next f place i w ks k r h e q l b =
    let x = next_in f r.at w i ks k e q (let a = r.low in omega arith) r.count l in
    record { at = k.place + 1; low = omega arith; count = ap (λ n. n + 1) r.count ∙ sym (step_count f r.at w k x) }

pub reached_here : (f : ℕ → ℚ) (place i w : ℕ) (ks : List Kept) (k : Kept) → Reached f place i → place ≤ w → ks ≡ kept_below f w → k ≡ get_or ks i k
    → i < length ks → k.place ≡ place → k.cell ≡ f place
reached_here f place i w ks k r h e q l b =
    let x = next_in f r.at w i ks k e q (let a = r.low in omega arith) r.count l in
    sym x.is ∙ ap f b

pub reached_past : (f : ℕ → ℚ) (place i w : ℕ) (ks : List Kept) (k : Kept) → Reached f place i → place ≤ w → ks ≡ kept_below f w → k ≡ get_or ks i k
    → i < length ks → place < k.place → whole (pos 0) ≡ f place
reached_past f place i w ks k r h e q l b =
    let x = next_in f r.at w i ks k e q (let a = r.low in omega arith) r.count l in
    sym (x.zeros place r.low b)

pub reached_end : (f : ℕ → ℚ) (place i w : ℕ) (ks : List Kept) → Reached f place i → place < w → ks ≡ kept_below f w → length ks ≤ i → whole (pos 0) ≡ f place
reached_end f place i w ks r h e l =
    let a = r.low in
    let c = r.count in
    let n = ap length e in
    sym (same_count f r.at w (omega arith) (omega arith) place r.low h)

pub other_side : (a b : ℕ) → b ≤ a → (a ≡ b → ⊥) → b < a
other_side a b h n = grind arith

-- no cell more where the place has 0
pub none_more : (f : ℕ → ℚ) (place i : ℕ) → i ≡ length (kept_below f place) → whole (pos 0) ≡ f place → i ≡ length (kept_below f (place + 1))
none_more f place i e z = e ∙ ap length (sym (kept_more f place ∙ ap (λ t. kept_below f place ++ t) (kept_zero place (f place) (sym z)) ∙ append-nil (kept_below f place)))

pub same_width : (a b w : ℕ) → b ≡ w + 1 → a ≡ b → a - 1 ≡ w
same_width a b w h e = omega arith

-- ---- a line that is made
pub empty_row : (w : ℕ) → IsSparse w 0 []
empty_row w = line_made w 0 (λ _. whole (pos 0)) [] (omega arith) (sym (zeros_skip (λ _. whole (pos 0)) 0 w (omega arith) (λ m a b. refl)))

pub length-dense : (w : ℕ) (cells : List Kept) (b : ℚ) → length (dense_row w cells b) ≡ w + 1
length-dense w cells b = dense_length w cells b

pub sparse_new : (target : List ℚ) (items new : List Kept) (w count : ℕ) (f : ℕ → ℚ) (b : ℚ) → items ≡ new → length new ≡ w → length target ≡ w + 1
    → count ≤ w → take count new ≡ kept_below f w → ((m : ℕ) → m < w → f m ≡ number_in target m) → b ≡ number_in target w
    → IsSparse (length items) count (take count items) × (dense_row (length items) (take count items) b ≡ target)
sparse_new target items new w count f b e h l n k g q =
    subst (λ t. IsSparse (length t) count (take count t) × (dense_row (length t) (take count t) b ≡ target)) (sym e)
    (subst (λ m. IsSparse m count (take count new) × (dense_row m (take count new) b ≡ target)) (sym h) (line_made w count f (take count new) n k, row_is target w f (take count new) b l k g q))

pub sparse_narrow : (target : List ℚ) (w : ℕ) (f : ℕ → ℚ) (b : ℚ) → length target ≡ w + 1 → ((m : ℕ) → m < w → f m ≡ number_in target m) → b ≡ number_in target w
    → ((m : ℕ) → m < w → FitsFrac (f m)) → FitsFrac b → IsNarrow target
sparse_narrow target w f b l g q u v = record { fits = λ m. pick m (sides m) }
  where
    sides : (m : ℕ) → (m < w) ⊎ (w ≤ m)
    sides m = grind arith

    more : (m : ℕ) → w ≤ m → (m ≡ w) ⊎ (w + 1 ≤ m)
    more m h = grind arith

    last : (m : ℕ) → (m ≡ w) ⊎ (w + 1 ≤ m) → FitsFrac (number_in target m)
    last m (inl h) = rw h (subst FitsFrac q v)
    last m (inr h) = rw (get_or_past target m (whole (pos 0)) (omega arith)) zero_fits

    pick : (m : ℕ) → (m < w) ⊎ (w ≤ m) → FitsFrac (number_in target m)
    pick m (inl h) = subst FitsFrac (g m h) (u m h)
    pick m (inr h) = last m (more m h)

-- a row that is given by its cells and its bound
pub front_is : (cs : List ℚ) (b : ℚ) (w m : ℕ) → w ≡ length cs → m < w → number_in cs m ≡ number_in (cs ++ b ∷ []) m
front_is cs b w m e h = sym (get_or_append_left cs (b ∷ []) (whole (pos 0)) m (omega arith))

pub last_is : (cs : List ℚ) (b : ℚ) (w : ℕ) → w ≡ length cs → b ≡ number_in (cs ++ b ∷ []) w
last_is cs b w e = sym (get_or_push cs b (whole (pos 0)) w (sym e))

-- what is written so is a line, is that row, and is narrow where its numbers fit
pub record IsFilled (items : List Kept) (count : ℕ) (b : ℚ) (target : List ℚ) : Type 0 where
  pub line : IsSparse (length items) count (take count items)
  pub row : dense_row (length items) (take count items) b ≡ target
  pub narrow : IsNarrow target

pub filled : (cs : List ℚ) (items new : List Kept) (w count : ℕ) (f : ℕ → ℚ) (b z : ℚ) → w ≡ length cs → items ≡ new → length new ≡ w → count ≤ w
    → take count new ≡ kept_below f w → ((m : ℕ) → m < w → f m ≡ number_in cs m) → z ≡ b → ((m : ℕ) → m < w → FitsFrac (f m)) → FitsFrac z
    → IsFilled items count z (cs ++ b ∷ [])
filled cs items new w count f b z c e h n k g q u v =
    let l : length (cs ++ b ∷ []) ≡ w + 1 = length_push cs b ∙ ap (λ n. n + 1) (sym c) in
    let front : (m : ℕ) → m < w → f m ≡ number_in (cs ++ b ∷ []) m = λ m i. g m i ∙ front_is cs b w m c i in
    let last = q ∙ last_is cs b w c in
    let m = sparse_new (cs ++ b ∷ []) items new w count f z e h l n k front last in
    record { line = m.0; row = m.1; narrow = sparse_narrow (cs ++ b ∷ []) w f z l front last u v }

-- ---- a cell whose place and number are written one after the other
pub both_written : (cells : List Kept) (k : ℕ) (a d : Kept) (x : ℚ) → k < length cells
    → set (set cells k a) k (record { place = (get_or (set cells k a) k d).place; cell = x }) ≡ set cells k (record { place = a.place; cell = x })
both_written cells k a d x h = set-set cells k a _ ∙ ap (λ (t : Kept). set cells k (record { place = t.place; cell = x })) (get_or-set_same cells k a d h)
