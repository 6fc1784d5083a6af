-- Lemmas on the definitions of `Totals`.
use Rattle.std.proofs.Common.{◌≡◌, ℕ, zero, suc, pos, cond, eqb, List, [], ◌∷◌, get_or, length, ◌+◌, ◌<◌, ◌≤◌, ◌⊎◌, inl, inr, refl, sym, ◌∙◌, ap, ap₂, arith}
use Rattle.std.proofs.lemmas.Bool.{eq-eqb, ne_eqb, cond-true, cond-false, cond_both}
use Rattle.rational_theory.specs.Rational.{ℚ, whole, neg_ℚ, ◌+ℚ◌, ◌*ℚ◌, ◌≤ℚ◌}
use Rattle.rational_theory.proofs.Arithmetic.{+ℚ_comm, +ℚ-zero, +ℚ_assoc}
use Rattle.rational_theory.proofs.Order.{≤ℚ_refl}
use Rattle.rational_theory.specs.Rows.{dot}
use Rattle.rational_theory.proofs.Ring.{zero-*ℚ, ring, at, lit, minus, ◌⊕◌, ◌⊗◌}
use Rattle.simplex_theory.specs.Lines.{values}
use Rattle.simplex_theory.proofs.Tableau.{same_or_other}
use Rattle.simplex_theory.specs.Totals.{total, cell_of}

pub total_same : (f g : ℕ → ℚ) (n : ℕ) → ((v : ℕ) → v < n → f v ≡ g v) → total f n ≡ total g n
total_same f g zero h = refl
total_same f g (suc n) h = ap₂ (λ s t. s +ℚ t) (total_same f g n (λ v l. h v (omega arith))) (h n (omega arith))

pub total_zeros : (f : ℕ → ℚ) (n : ℕ) → ((v : ℕ) → v < n → f v ≡ whole (pos 0)) → total f n ≡ whole (pos 0)
total_zeros f zero h = refl
total_zeros f (suc n) h = ap₂ (λ s t. s +ℚ t) (total_zeros f n (λ v l. h v (omega arith))) (h n (omega arith)) ∙ +ℚ-zero _

pub total_neg : (f : ℕ → ℚ) (n : ℕ) → total (λ v. neg_ℚ (f v)) n ≡ neg_ℚ (total f n)
total_neg f zero = ring (lit (pos 0)) (minus (lit (pos 0))) [] refl
total_neg f (suc n) = ap (λ s. s +ℚ neg_ℚ (f n)) (total_neg f n) ∙ ring (minus (at 0) ⊕ minus (at 1)) (minus (at 0 ⊕ at 1)) (total f n ∷ f n ∷ []) refl

pub total_split : (f : ℕ → ℚ) (n m : ℕ) → total f (n + m) ≡ total f n +ℚ total (λ r. f (n + r)) m
total_split f n zero = let e : n + 0 ≡ n = omega arith in ap (total f) e ∙ sym (+ℚ-zero _)
total_split f n (suc m) =
    let e : n + suc m ≡ suc (n + m) = omega arith in
    ap (total f) e ∙ ap (λ s. s +ℚ f (n + m)) (total_split f n m) ∙ +ℚ_assoc _ _ _

-- one number changed
pub total_put : (f g : ℕ → ℚ) (u n : ℕ) → u < n → ((v : ℕ) → v < n → (v ≡ u → ⊥) → f v ≡ g v) → total f n +ℚ g u ≡ total g n +ℚ f u
total_put f g u zero h s = absurd (omega arith)
total_put f g u (suc n) h s = pick (same_or_other u n) (λ l. total_put f g u n l (λ v k. s v (omega arith)))
  where
    pick : (u ≡ n) ⊎ (u ≡ n → ⊥) → (u < n → total f n +ℚ g u ≡ total g n +ℚ f u) → (total f n +ℚ f n) +ℚ g u ≡ (total g n +ℚ g n) +ℚ f u
    pick (inl e) k =
        rw e
        (ap (λ t. (t +ℚ f n) +ℚ g n) (total_same f g n (λ v l. s v (omega arith) (λ q. absurd (omega arith))))
        ∙ ring ((at 0 ⊕ at 1) ⊕ at 2) ((at 0 ⊕ at 2) ⊕ at 1) (total g n ∷ f n ∷ g n ∷ []) refl)
    pick (inr e) k =
        ring ((at 0 ⊕ at 1) ⊕ at 2) ((at 0 ⊕ at 2) ⊕ at 1) (total f n ∷ f n ∷ g u ∷ []) refl
        ∙ ap₂ (λ a b. a +ℚ b) (k (grind arith)) (s n (omega arith) (λ q. e (sym q)))
        ∙ ring ((at 0 ⊕ at 1) ⊕ at 2) ((at 0 ⊕ at 2) ⊕ at 1) (total g n ∷ f u ∷ g n ∷ []) refl

pub cell_of_none : (c : List ℚ) (vs : List ℕ) (v : ℕ) → ((k : ℕ) → k < length vs → get_or vs k 0 ≡ v → ⊥) → cell_of c vs v ≡ whole (pos 0)
cell_of_none [] vs v n = refl
cell_of_none (a ∷ us) [] v n = refl
cell_of_none (a ∷ us) (u ∷ vs) v n =
    cond-false (eqb v u) _ _ (ne_eqb v u (λ e. n 0 (omega arith) (sym e))) ∙ cell_of_none us vs v (λ k l e. n (suc k) (omega arith) e)

pub cell_of_low : (c : List ℚ) (vs : List ℕ) (v : ℕ) → ((k : ℕ) → k < length vs → whole (pos 0) ≤ℚ get_or c k (whole (pos 0))) → whole (pos 0) ≤ℚ cell_of c vs v
cell_of_low [] vs v h = ≤ℚ_refl _
cell_of_low (a ∷ us) [] v h = ≤ℚ_refl _
cell_of_low (a ∷ us) (u ∷ vs) v h =
    cond_both (eqb v u) a (cell_of us vs v) (λ t. whole (pos 0) ≤ℚ t) (λ e. h 0 (omega arith)) (λ e. cell_of_low us vs v (λ k l. h (suc k) (omega arith)))

-- a row read over all variables below n
pub dot_total : (c : List ℚ) (x : ℕ → ℚ) (z : ℚ) (vs : List ℕ) (n : ℕ) → length c ≡ suc (length vs) → ((k : ℕ) → k < length vs → get_or vs k 0 < n)
    → ((i k : ℕ) → i < length vs → k < length vs → get_or vs i 0 ≡ get_or vs k 0 → i ≡ k)
    → dot c (values x z vs) ≡ total (λ v. cell_of c vs v *ℚ x v) n +ℚ neg_ℚ (get_or c (length vs) (whole (pos 0)) *ℚ z)
dot_total [] x z vs n l b d = absurd (omega arith)
dot_total (a ∷ []) x z [] n l b d =
    ring (at 0 ⊗ minus (at 1) ⊕ lit (pos 0)) (lit (pos 0) ⊕ minus (at 0 ⊗ at 1)) (a ∷ z ∷ []) refl
    ∙ ap (λ t. t +ℚ neg_ℚ (a *ℚ z)) (sym (total_zeros _ n (λ v k. zero-*ℚ (x v))))
dot_total (a ∷ (b ∷ us)) x z [] n l h d = absurd (omega arith)
dot_total (a ∷ us) x z (u ∷ vs) n l b d =
    let f : ℕ → ℚ = λ v. cond (eqb v u) a (cell_of us vs v) *ℚ x v in
    let g : ℕ → ℚ = λ v. cell_of us vs v *ℚ x v in
    let r = neg_ℚ (get_or us (length vs) (whole (pos 0)) *ℚ z) in
    let p : total f n +ℚ g u ≡ total g n +ℚ f u =
    total_put f g u n (b 0 (omega arith)) (λ v k e. ap (λ t. t *ℚ x v) (cond-false (eqb v u) _ _ (ne_eqb v u e))) in
    let q : g u ≡ whole (pos 0) =
    ap (λ t. t *ℚ x u) (cell_of_none us vs u (λ k l e. absurd (let i = d (suc k) 0 (omega arith) (omega arith) e in omega arith))) ∙ zero-*ℚ _ in
    let s : f u ≡ a *ℚ x u = ap (λ t. t *ℚ x u) (cond-true (eqb u u) _ _ (eq-eqb u u refl)) in
    ap (λ t. a *ℚ x u +ℚ t) (dot_total us x z vs n (omega arith) (λ k l. b (suc k) (omega arith)) (λ i k l m e. let j = d (suc i) (suc k) (omega arith) (omega arith) e in omega arith))
    ∙ ring (at 0 ⊕ (at 1 ⊕ at 2)) ((at 1 ⊕ at 0) ⊕ at 2) (a *ℚ x u ∷ total g n ∷ r ∷ []) refl
    ∙ ap (λ t. (total g n +ℚ t) +ℚ r) (sym s) ∙ ap (λ t. t +ℚ r) (sym p ∙ ap (λ t. total f n +ℚ t) q ∙ +ℚ-zero _)

total_front : (f : ℕ → ℚ) (n : ℕ) → total f (suc n) ≡ f 0 +ℚ total (λ k. f (suc k)) n
total_front f zero = +ℚ_comm _ _
total_front f (suc n) = ap (λ t. t +ℚ f (suc n)) (total_front f n) ∙ +ℚ_assoc _ _ _

-- a row read place by place
pub dot_places : (c : List ℚ) (x : ℕ → ℚ) (z : ℚ) (vs : List ℕ) → length c ≡ suc (length vs)
    → dot c (values x z vs) ≡ total (λ k. get_or c k (whole (pos 0)) *ℚ x (get_or vs k 0)) (length vs) +ℚ neg_ℚ (get_or c (length vs) (whole (pos 0)) *ℚ z)
dot_places [] x z vs l = absurd (omega arith)
dot_places (a ∷ []) x z [] l = ring (at 0 ⊗ minus (at 1) ⊕ lit (pos 0)) (lit (pos 0) ⊕ minus (at 0 ⊗ at 1)) (a ∷ z ∷ []) refl
dot_places (a ∷ (b ∷ us)) x z [] l = absurd (omega arith)
dot_places (a ∷ us) x z (v ∷ vs) l =
    ap (λ t. a *ℚ x v +ℚ t) (dot_places us x z vs (omega arith)) ∙ sym (+ℚ_assoc _ _ _)
    ∙ ap (λ t. t +ℚ neg_ℚ (get_or us (length vs) (whole (pos 0)) *ℚ z)) (sym (total_front (λ k. get_or (a ∷ us) k (whole (pos 0)) *ℚ x (get_or (v ∷ vs) k 0)) (length vs)))

-- a product of two lists, the second as long as the first or longer, place by place
pub dot_total_lists : (c p : List ℚ) → length c ≤ length p → dot c p ≡ total (λ k. get_or c k (whole (pos 0)) *ℚ get_or p k (whole (pos 0))) (length p)
dot_total_lists [] p h = sym (total_zeros _ (length p) (λ k l. zero-*ℚ _))
dot_total_lists (a ∷ us) [] h = absurd (omega arith)
dot_total_lists (a ∷ us) (x ∷ xs) h =
    ap (λ t. a *ℚ x +ℚ t) (dot_total_lists us xs (omega arith))
    ∙ sym (total_front (λ k. get_or (a ∷ us) k (whole (pos 0)) *ℚ get_or (x ∷ xs) k (whole (pos 0))) (length xs))
