-- Lemmas on the definitions of `Multipliers`.
use Rattle.std.proofs.Common.{◌≡◌, ℕ, pos, cond, eqb, ltb, [], ◌∷◌, ◌+◌, ◌-◌, ◌<◌, refl, sym, ◌∙◌, ap, ap₂, arith}
use Rattle.std.proofs.lemmas.Bool.{eq-eqb, ne_eqb, cond-true, cond-false, cond_both, lt-ltb, le-ltb}
use Rattle.rational_theory.specs.Rational.{ℚ, whole, neg_ℚ, ◌+ℚ◌, ◌*ℚ◌, ◌≤ℚ◌}
use Rattle.rational_theory.proofs.Arithmetic.{*ℚ-zero, +ℚ-zero, *ℚ-one}
use Rattle.rational_theory.proofs.Linear.{linear}
use Rattle.rational_theory.proofs.Ring.{zero-+ℚ, zero-*ℚ, one-*ℚ, ring, at, lit, minus, ◌⊕◌, ◌⊗◌}
use Rattle.simplex_theory.proofs.Signs.{one_positive}
use Rattle.simplex_theory.specs.Tableau.{Tableau, line, cell, height, width, bound, goal_bound, basic_at, IsShaped, IsPlace, gap, goal_gap, exchange}
use Rattle.simplex_theory.proofs.Tableau.{height-exchange, width-exchange, meets-exchange, goal-exchange_same}
use Rattle.simplex_theory.specs.DualSteps.{IsDual}
use Rattle.simplex_theory.specs.Totals.{total, cell_of}
use Rattle.simplex_theory.proofs.Totals.{total_same, total_zeros, total_neg, total_split, total_put, cell_of_none, cell_of_low, dot_total}
use Rattle.simplex_theory.specs.Multipliers.{System, Fills, StandsFor, goal_weight, row_weight}

pub stands-exchange : (r j : ℕ) (t : Tableau) (s : System) → IsShaped t → IsPlace t r j → StandsFor t s → StandsFor (exchange r j t) s
stands-exchange r j t s h p k = record {
  rows = λ x z. (
    λ m. rw (width-exchange r j t, height-exchange r j t) ((k.rows x z).0 ((meets-exchange r j t x z h p).1 m)),
    λ f. (meets-exchange r j t x z h p).0 ((k.rows x z).1 (rw (← width-exchange r j t, ← height-exchange r j t) f)),
  );
  goals = λ x z m. let n = (meets-exchange r j t x z h p).1 m in
      ap (λ w. goal_gap (exchange r j t) x z (total (λ c. s.goal c *ℚ x c) w)) (width-exchange r j t) ∙ goal-exchange_same r j t x z _ h p n ∙ k.goals x z n;
}

-- ---- the assignment with the columns q, its slacks as the rows ask
abbrev slacked : System → ℕ → (ℕ → ℚ) → ℚ → ℕ → ℚ
slacked s w q z v = cond (ltb v w) (q v) (s.limit (v - w) *ℚ z +ℚ neg_ℚ (total (λ c. s.coef (v - w) c *ℚ q c) w))

slacked_column : (s : System) (w : ℕ) (q : ℕ → ℚ) (z : ℚ) (c : ℕ) → c < w → slacked s w q z c ≡ q c
slacked_column s w q z c h = cond-true (ltb c w) _ _ (lt-ltb c w h)

slacked_slack : (s : System) (w : ℕ) (q : ℕ → ℚ) (z : ℚ) (r : ℕ) → slacked s w q z (w + r) ≡ s.limit r *ℚ z +ℚ neg_ℚ (total (λ c. s.coef r c *ℚ q c) w)
slacked_slack s w q z r =
    let e : w + r - w ≡ r = omega arith in
    cond-false (ltb (w + r) w) _ _ (le-ltb (w + r) w (omega arith)) ∙ ap (λ i. s.limit i *ℚ z +ℚ neg_ℚ (total (λ c. s.coef i c *ℚ q c) w)) e

slacked_fills : (s : System) (w m : ℕ) (q : ℕ → ℚ) (z : ℚ) → Fills s w m (slacked s w q z) z
slacked_fills s w m q z = record {
  fills = λ r h.
      ap₂ (λ u v. u +ℚ v) (total_same _ _ w (λ c l. ap (λ t. s.coef r c *ℚ t) (slacked_column s w q z c l))) (slacked_slack s w q z r)
      ∙ ring (at 0 ⊕ (at 1 ⊕ minus (at 0))) (at 1) (total (λ c. s.coef r c *ℚ q c) w ∷ s.limit r *ℚ z ∷ []) refl;
}

-- an identity that holds wherever the rows do: f over all variables, g over the columns, and a bound
pub record Holds (s : System) (w m : ℕ) (f g : ℕ → ℚ) (b : ℚ) : Type 0 where
  pub holds : (x : ℕ → ℚ) (z : ℚ) → Fills s w m x z → total (λ v. f v *ℚ x v) (w + m) +ℚ total (λ c. g c *ℚ x c) w ≡ b *ℚ z

none : ℕ → ℚ
none v = whole (pos 0)

unit : ℕ → ℕ → ℚ
unit c v = cond (eqb v c) (whole (pos 1)) (whole (pos 0))

total_none : (f : ℕ → ℚ) (n : ℕ) → total (λ c. f c *ℚ none c) n ≡ whole (pos 0)
unfolding none
total_none f n = total_zeros _ n (λ v l. *ℚ-zero (f v))

total_unit : (f : ℕ → ℚ) (c n : ℕ) → c < n → total (λ v. f v *ℚ unit c v) n ≡ f c
unfolding unit
total_unit f c n h =
    let g : ℕ → ℚ = λ v. f v *ℚ whole (pos 0) in
    let k : ℕ → ℚ = λ v. f v *ℚ unit c v in
    let p = total_put k g c n h (λ v l e. ap (λ t. f v *ℚ t) (cond-false (eqb v c) _ _ (ne_eqb v c e))) in
    sym (+ℚ-zero _) ∙ ap (λ t. total k n +ℚ t) (sym (*ℚ-zero (f c))) ∙ p
    ∙ ap₂ (λ u v. u +ℚ v) (total_zeros g n (λ v l. *ℚ-zero (f v))) (ap (λ t. f c *ℚ t) (cond-true (eqb c c) _ _ (eq-eqb c c refl)) ∙ *ℚ-one _) ∙ zero-+ℚ _

-- with all columns 0, and with one column 1
pub weighed_bound : (s : System) (w m : ℕ) (f g : ℕ → ℚ) (b : ℚ) → Holds s w m f g b → total (λ r. f (w + r) *ℚ s.limit r) m ≡ b
weighed_bound s w m f g b h =
    let x = slacked s w none (whole (pos 1)) in
    let e = h.holds x (whole (pos 1)) (slacked_fills s w m none (whole (pos 1))) in
    let left : total (λ v. f v *ℚ x v) w ≡ whole (pos 0) =
    total_same _ _ w (λ c l. ap (λ t. f c *ℚ t) (slacked_column s w none (whole (pos 1)) c l)) ∙ total_none f w in
    let goal : total (λ c. g c *ℚ x c) w ≡ whole (pos 0) =
    total_same _ _ w (λ c l. ap (λ t. g c *ℚ t) (slacked_column s w none (whole (pos 1)) c l)) ∙ total_none g w in
    let right : total (λ r. f (w + r) *ℚ x (w + r)) m ≡ total (λ r. f (w + r) *ℚ s.limit r) m =
    total_same _ _ m (λ r l. ap (λ t. f (w + r) *ℚ t)
    (slacked_slack s w none (whole (pos 1)) r ∙ ap (λ t. s.limit r *ℚ whole (pos 1) +ℚ neg_ℚ t) (total_none (s.coef r) w)
    ∙ ring (at 0 ⊗ lit (pos 1) ⊕ minus (lit (pos 0))) (at 0) (s.limit r ∷ []) refl)) in
    ring (at 0) ((lit (pos 0) ⊕ at 0) ⊕ lit (pos 0)) (total (λ r. f (w + r) *ℚ s.limit r) m ∷ []) refl
    ∙ ap₂ (λ u v. u +ℚ v) (ap₂ (λ u v. u +ℚ v) (sym left) (sym right) ∙ sym (total_split (λ v. f v *ℚ x v) w m)) (sym goal)
    ∙ e ∙ *ℚ-one b

pub weighed_column : (s : System) (w m : ℕ) (f g : ℕ → ℚ) (b : ℚ) → Holds s w m f g b → (c : ℕ) → c < w → total (λ r. f (w + r) *ℚ s.coef r c) m ≡ g c +ℚ f c
weighed_column s w m f g b h c k =
    let x = slacked s w (unit c) (whole (pos 0)) in
    let e = h.holds x (whole (pos 0)) (slacked_fills s w m (unit c) (whole (pos 0))) in
    let n = total (λ r. f (w + r) *ℚ s.coef r c) m in
    let left : total (λ v. f v *ℚ x v) w ≡ f c =
    total_same _ _ w (λ c' l. ap (λ t. f c' *ℚ t) (slacked_column s w (unit c) (whole (pos 0)) c' l)) ∙ total_unit f c w k in
    let goal : total (λ c. g c *ℚ x c) w ≡ g c =
    total_same _ _ w (λ c' l. ap (λ t. g c' *ℚ t) (slacked_column s w (unit c) (whole (pos 0)) c' l)) ∙ total_unit g c w k in
    let right : total (λ r. f (w + r) *ℚ x (w + r)) m ≡ neg_ℚ n =
    total_same _ _ m (λ r l. ap (λ t. f (w + r) *ℚ t)
    (slacked_slack s w (unit c) (whole (pos 0)) r ∙ ap (λ t. s.limit r *ℚ whole (pos 0) +ℚ neg_ℚ t) (total_unit (s.coef r) c w k))
    ∙ ring (at 0 ⊗ (at 1 ⊗ lit (pos 0) ⊕ minus (at 2))) (minus (at 0 ⊗ at 2)) (f (w + r) ∷ s.limit r ∷ s.coef r c ∷ []) refl)
    ∙ total_neg _ m in
    let all : (f c +ℚ neg_ℚ n) +ℚ g c ≡ whole (pos 0) =
    ap₂ (λ u v. u +ℚ v) (ap₂ (λ u v. u +ℚ v) (sym left) (sym right) ∙ sym (total_split (λ v. f v *ℚ x v) w m)) (sym goal) ∙ e ∙ *ℚ-zero b in
    ring (at 0) (lit (pos 0) ⊕ at 0) (n ∷ []) refl ∙ ap (λ t. t +ℚ n) (sym all)
    ∙ ring (((at 0 ⊕ minus (at 1)) ⊕ at 2) ⊕ at 1) (at 2 ⊕ at 0) (f c ∷ n ∷ g c ∷ []) refl

goal_holds : (t : Tableau) (s : System) → IsDual t → StandsFor t s → Holds s (width t) (height t) (goal_weight t) s.goal (goal_bound t)
unfolding goal_weight goal_gap
goal_holds t s d k = record {
  holds = λ x z f.
      let e = k.goals x z ((k.rows x z).1 f) in
      let q = dot_total t.goal x z t.standing (width t + height t) d.shaped.goals (λ i l. let b = d.placed.low_places i l in omega arith) d.placed.places in
      let g = total (λ c. s.goal c *ℚ x c) (width t) in
      let n = total (λ v. cell_of t.goal t.standing v *ℚ x v) (width t + height t) in
      ring (at 0 ⊕ at 1) ((at 1 ⊕ (at 0 ⊕ minus (at 2))) ⊕ at 2) (n ∷ g ∷ goal_bound t *ℚ z ∷ []) refl
      ∙ ap (λ u. (g +ℚ u) +ℚ goal_bound t *ℚ z) (sym q) ∙ ap (λ u. u +ℚ goal_bound t *ℚ z) e ∙ zero-+ℚ _;
}

pub goal_weight_low : (t : Tableau) (v : ℕ) → IsDual t → whole (pos 0) ≤ℚ goal_weight t v
unfolding goal_weight
goal_weight_low t v d = cell_of_low t.goal t.standing v d.goals

pub goal_weighed_bound : (t : Tableau) (s : System) → IsDual t → StandsFor t s → total (λ r. goal_weight t (width t + r) *ℚ s.limit r) (height t) ≡ goal_bound t
goal_weighed_bound t s d k = weighed_bound s _ _ _ _ _ (goal_holds t s d k)

pub goal_covers : (t : Tableau) (s : System) (c : ℕ) → IsDual t → StandsFor t s → c < width t → s.goal c ≤ℚ total (λ r. goal_weight t (width t + r) *ℚ s.coef r c) (height t)
goal_covers t s c d k h =
    rw (weighed_column s _ _ _ _ _ (goal_holds t s d k) c h)
    (linear (record { count = 1; low = lit (pos 0); high = at 1 } ∷ []) 0 (at 0) (at 0 ⊕ at 1) (s.goal c ∷ goal_weight t c ∷ []) (goal_weight_low t c d, tt) refl)

row_holds : (t : Tableau) (s : System) (i : ℕ) → IsDual t → StandsFor t s → i < height t → Holds s (width t) (height t) (row_weight t i) none (bound t i)
unfolding row_weight gap none
row_holds t s i d k h = record {
  holds = λ x z f.
      let e = ((k.rows x z).1 f).met i h in
      let n = width t + height t in
      let b = basic_at t i in
      let c : ℕ → ℚ = λ v. cell_of (line t i) t.standing v *ℚ x v in
      let g : ℕ → ℚ = λ v. row_weight t i v *ℚ x v in
      let q = dot_total (line t i) x z t.standing n (d.shaped.lines i h) (λ i l. let b = d.placed.low_places i l in omega arith) d.placed.places in
      let p : total g n +ℚ c b ≡ total c n +ℚ g b =
      total_put g c b n (let l = d.placed.low_rows i h in omega arith) (λ v l m. ap (λ t. t *ℚ x v) (cond-false (eqb v b) _ _ (ne_eqb v b m))) in
      let o : c b ≡ whole (pos 0) = ap (λ u. u *ℚ x b) (cell_of_none (line t i) t.standing b (λ k l m. d.placed.apart i k h l (sym m))) ∙ zero-*ℚ _ in
      let own : g b ≡ x b = ap (λ u. u *ℚ x b) (cond-true (eqb b b) _ _ (eq-eqb b b refl)) ∙ one-*ℚ _ in
      ap₂ (λ u v. u +ℚ v) (sym (+ℚ-zero _) ∙ ap (λ u. total g n +ℚ u) (sym o) ∙ p ∙ ap (λ u. total c n +ℚ u) own) (total_zeros _ (width t) (λ v l. zero-*ℚ (x v)))
      ∙ ring ((at 0 ⊕ at 1) ⊕ lit (pos 0)) ((at 1 ⊕ (at 0 ⊕ minus (at 2))) ⊕ at 2) (total c n ∷ x b ∷ bound t i *ℚ z ∷ []) refl
      ∙ ap (λ u. (x b +ℚ u) +ℚ bound t i *ℚ z) (sym q) ∙ ap (λ u. u +ℚ bound t i *ℚ z) e ∙ zero-+ℚ _;
}

pub row_weight_low : (t : Tableau) (i v : ℕ) → ((k : ℕ) → k < width t → whole (pos 0) ≤ℚ cell t i k) → whole (pos 0) ≤ℚ row_weight t i v
unfolding row_weight
row_weight_low t i v h = cond_both (eqb v (basic_at t i)) _ _ (λ u. whole (pos 0) ≤ℚ u) (λ e. one_positive) (λ e. cell_of_low (line t i) t.standing v h)

pub row_weighed_bound : (t : Tableau) (s : System) (i : ℕ) → IsDual t → StandsFor t s → i < height t → total (λ r. row_weight t i (width t + r) *ℚ s.limit r) (height t) ≡ bound t i
row_weighed_bound t s i d k h = weighed_bound s _ _ _ _ _ (row_holds t s i d k h)

pub row_refutes : (t : Tableau) (s : System) (i c : ℕ) → IsDual t → StandsFor t s → i < height t → ((k : ℕ) → k < width t → whole (pos 0) ≤ℚ cell t i k)
    → c < width t → whole (pos 0) ≤ℚ total (λ r. row_weight t i (width t + r) *ℚ s.coef r c) (height t)
unfolding none
row_refutes t s i c d k h n l =
    rw (weighed_column s _ _ _ _ _ (row_holds t s i d k h) c l ∙ zero-+ℚ _) (row_weight_low t i c n)
