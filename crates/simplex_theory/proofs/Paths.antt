-- Lemmas on the definitions of `Paths`.
use Rattle.std.proofs.Common.{◌≡◌, ◌↔◌, ℕ, suc, pos, [], ◌∷◌, ◌<◌, ◌≤◌, ◌⊎◌, inl, inr, refl, sym, ◌∙◌, ap, subst, arith}
use Rattle.rational_theory.specs.Rational.{ℚ, whole, neg_ℚ, ◌+ℚ◌, ◌*ℚ◌, ◌≤ℚ◌, ◌<ℚ◌}
use Rattle.rational_theory.proofs.Arithmetic.{*ℚ-zero, +ℚ-zero, neg-neg}
use Rattle.rational_theory.proofs.Order.{≤ℚ_refl, ≤ℚ_trans, ≤ℚ_antisymm, <ℚ-≤ℚ, <ℚ_not-≤ℚ}
use Rattle.rational_theory.specs.Rows.{dot}
use Rattle.rational_theory.proofs.Linear.{linear, product_not_negative}
use Rattle.rational_theory.proofs.Ring.{zero-*ℚ, at, lit, minus, ◌⊕◌, ◌⊗◌}
use Rattle.simplex_theory.proofs.Signs.{below_or_not, product_of_negatives}
use Rattle.simplex_theory.proofs.Search.{Found, found_or_none, forth, back, Greatest, greatest}
use Rattle.simplex_theory.specs.Lines.{values}
use Rattle.simplex_theory.specs.Tableau.{Tableau, line, cell, goal_cell, height, width, bound, goal_bound, basic_at, standing_at, IsShaped, IsPlace, Meets, gap, goal_gap, exchange}
use Rattle.simplex_theory.proofs.Tableau.{height-exchange, width-exchange, basic_same, basic_other, standing_same, standing_other, meets-exchange, goal-exchange_same, same_or_other}
use Rattle.simplex_theory.specs.DualSteps.{IsPlaced, IsDual, IsChoice, ratio}
use Rattle.simplex_theory.proofs.DualSteps.{place_of, dual-exchange, goal_at, goal_other, goal_bound_falls, goal_bound_stays, zero_ratio}
use Rattle.simplex_theory.specs.Vertices.{vertex}
use Rattle.simplex_theory.proofs.Vertices.{vertex_basic, vertex_other, vertex_meets, goal_gap_zeros, dot_low}
use Rattle.simplex_theory.specs.Paths.{IsBasic, HaveSameBasics}

-- n steps from p 0, the k-th by an exchange at row r k and place j k
pub record IsPath (p : ℕ → Tableau) (r j : ℕ → ℕ) (n : ℕ) : Type 0 where
  pub start : IsDual (p 0)
  pub choice : (k : ℕ) → k < n → IsChoice (p k) (r k) (j k)
  pub next : (k : ℕ) → k < n → p (suc k) ≡ exchange (r k) (j k) (p k)

-- ---- along a path
pub dual_along : (p : ℕ → Tableau) (r j : ℕ → ℕ) (n : ℕ) → IsPath p r j n → (k : ℕ) → k ≤ n → IsDual (p k)
dual_along p r j n a k h =
    forth (λ k. IsDual (p k)) n (λ k l d. rw (a.next k l) (dual-exchange (r k) (j k) (p k) d (a.choice k l))) 0 k (omega arith) h a.start

step_meets : (p : ℕ → Tableau) (r j : ℕ → ℕ) (n : ℕ) → IsPath p r j n → (x : ℕ → ℚ) (z : ℚ) (k : ℕ) → k < n → Meets (p k) x z ↔ Meets (p (suc k)) x z
step_meets p r j n a x z k h =
    rw (a.next k h) (meets-exchange (r k) (j k) (p k) x z (dual_along p r j n a k (omega arith)).shaped (place_of (p k) (r k) (j k) (a.choice k h)))

pub meets_along : (p : ℕ → Tableau) (r j : ℕ → ℕ) (n : ℕ) → IsPath p r j n → (x : ℕ → ℚ) (z : ℚ) (k m : ℕ) → k ≤ n → m ≤ n → Meets (p k) x z → Meets (p m) x z
meets_along p r j n a x z k m h l t =
    forth (λ i. Meets (p i) x z) n (λ i b. (step_meets p r j n a x z i b).0) 0 m (omega arith) l
    (back (λ i. Meets (p i) x z) n (λ i b. (step_meets p r j n a x z i b).1) 0 k (omega arith) h t)

pub goal_along : (p : ℕ → Tableau) (r j : ℕ → ℕ) (n : ℕ) → IsPath p r j n → (x : ℕ → ℚ) (z y : ℚ) → Meets (p 0) x z → (k : ℕ) → k ≤ n → goal_gap (p k) x z y ≡ goal_gap (p 0) x z y
goal_along p r j n a x z y t k h =
    forth (λ k. goal_gap (p k) x z y ≡ goal_gap (p 0) x z y) n
    (λ k l e. ap (λ u. goal_gap u x z y) (a.next k l)
    ∙ goal-exchange_same (r k) (j k) (p k) x z y (dual_along p r j n a k (omega arith)).shaped (place_of (p k) (r k) (j k) (a.choice k l)) (meets_along p r j n a x z 0 k (omega arith) (omega arith) t)
    ∙ e)
    0 k (omega arith) h refl

bound_step : (p : ℕ → Tableau) (r j : ℕ → ℕ) (n : ℕ) → IsPath p r j n → (k : ℕ) → k < n → goal_bound (p (suc k)) ≤ℚ goal_bound (p k)
bound_step p r j n a k h = rw (a.next k h) (goal_bound_falls (r k) (j k) (p k) (dual_along p r j n a k (omega arith)) (a.choice k h))

pub bound_along : (p : ℕ → Tableau) (r j : ℕ → ℕ) (n : ℕ) → IsPath p r j n → (k m : ℕ) → k ≤ m → m ≤ n → goal_bound (p m) ≤ℚ goal_bound (p k)
bound_along p r j n a k m h l =
    forth (λ i. goal_bound (p i) ≤ℚ goal_bound (p k)) n (λ i b e. ≤ℚ_trans _ _ _ (bound_step p r j n a i b) e) k m h l (≤ℚ_refl _)

-- ---- the variables that enter and leave
abbrev pub enters : (ℕ → Tableau) → (ℕ → ℕ) → ℕ → ℕ
enters p j k = standing_at (p k) (j k)

abbrev pub leaves : (ℕ → Tableau) → (ℕ → ℕ) → ℕ → ℕ
leaves p r k = basic_at (p k) (r k)

stays_out : (t : Tableau) (r j v : ℕ) → IsShaped t → r < height t → (standing_at t j ≡ v → ⊥) → IsBasic (exchange r j t) v → IsBasic t v
stays_out t r j v s h n b = pick (same_or_other b.row r)
  where
    pick : (b.row ≡ r) ⊎ (b.row ≡ r → ⊥) → IsBasic t v
    pick (inl e) = absurd (n (sym (basic_same r j t (rw s.basics h)) ∙ ap (λ i. basic_at (exchange r j t) i) (sym e) ∙ b.is))
    pick (inr e) = record { row = b.row; within = rw (← height-exchange r j t) b.within; is = sym (basic_other r j b.row t e) ∙ b.is }

stays_in : (t : Tableau) (r j v : ℕ) → (basic_at t r ≡ v → ⊥) → IsBasic t v → IsBasic (exchange r j t) v
stays_in t r j v n b = pick (same_or_other b.row r)
  where
    pick : (b.row ≡ r) ⊎ (b.row ≡ r → ⊥) → IsBasic (exchange r j t) v
    pick (inl e) = absurd (n (ap (λ i. basic_at t i) (sym e) ∙ b.is))
    pick (inr e) = record { row = b.row; within = rw (height-exchange r j t) b.within; is = basic_other r j b.row t e ∙ b.is }

-- a variable that never enters is basic at all times or at none
never_enters : (p : ℕ → Tableau) (r j : ℕ → ℕ) (n : ℕ) → IsPath p r j n → HaveSameBasics (p 0) (p n) → (v : ℕ) → ((k : ℕ) → k < n → enters p j k ≡ v → ⊥)
    → (k m : ℕ) → k ≤ n → m ≤ n → IsBasic (p k) v → IsBasic (p m) v
never_enters p r j n a s v f k m h l b =
    let step : (i : ℕ) → i < n → IsBasic (p (suc i)) v → IsBasic (p i) v =
    λ i c d. stays_out (p i) (r i) (j i) v (dual_along p r j n a i (omega arith)).shaped (a.choice i c).row (f i c) (subst (λ t. IsBasic t v) (a.next i c) d) in
    back (λ i. IsBasic (p i) v) n step m n l (omega arith) (s.there v (back (λ i. IsBasic (p i) v) n step 0 k (omega arith) h b))

-- so is one that never leaves
never_leaves : (p : ℕ → Tableau) (r j : ℕ → ℕ) (n : ℕ) → IsPath p r j n → HaveSameBasics (p 0) (p n) → (v : ℕ) → ((k : ℕ) → k < n → leaves p r k ≡ v → ⊥)
    → (k m : ℕ) → k ≤ n → m ≤ n → IsBasic (p k) v → IsBasic (p m) v
never_leaves p r j n a s v f k m h l b =
    let step : (i : ℕ) → i < n → IsBasic (p i) v → IsBasic (p (suc i)) v =
    λ i c d. subst (λ t. IsBasic t v) (sym (a.next i c)) (stays_in (p i) (r i) (j i) v (f i c) d) in
    forth (λ i. IsBasic (p i) v) n step 0 m (omega arith) l (s.back v (forth (λ i. IsBasic (p i) v) n step k n h (omega arith) b))

standing_not_basic : (t : Tableau) (k : ℕ) → IsPlaced t → k < width t → IsBasic t (standing_at t k) → ⊥
standing_not_basic t k p h b = p.apart b.row k b.within h b.is

pub basic_or_not : (t : Tableau) (v : ℕ) → IsBasic t v ⊎ ((i : ℕ) → i < height t → basic_at t i ≡ v → ⊥)
basic_or_not t v = pick (found_or_none (λ i. basic_at t i ≡ v) (λ i. same_or_other (basic_at t i) v) (height t))
  where
    pick : Found (λ i. basic_at t i ≡ v) (height t) ⊎ ((i : ℕ) → i < height t → basic_at t i ≡ v → ⊥) → IsBasic t v ⊎ ((i : ℕ) → i < height t → basic_at t i ≡ v → ⊥)
    pick (inl f) = inl (record { row = f.at; within = f.within; is = f.holds })
    pick (inr f) = inr f

-- ---- equal sets have equal goal bounds, so no ratio on the way moves the goal row
vertex_zeros : (t u : Tableau) → IsShaped t → IsPlaced u → HaveSameBasics t u → (k : ℕ) → k < width u → vertex t (standing_at u k) ≡ whole (pos 0)
vertex_zeros t u s p e k h =
    vertex_other t (standing_at u k) s (λ i l f. standing_not_basic u k p h (e.there (standing_at u k) (record { row = i; within = l; is = f })))

itself : (t : Tableau) → HaveSameBasics t t
itself t = record { there = λ v b. b; back = λ v b. b }

same_bounds : (p : ℕ → Tableau) (r j : ℕ → ℕ) (n : ℕ) → IsPath p r j n → HaveSameBasics (p 0) (p n) → goal_bound (p n) ≡ goal_bound (p 0)
same_bounds p r j n a e =
    let d = dual_along p r j n a n (omega arith) in
    let m = vertex_meets (p 0) a.start.shaped a.start.placed in
    let f : neg_ℚ (goal_bound (p n)) ≡ neg_ℚ (goal_bound (p 0)) =
    sym (goal_gap_zeros (p n) (vertex (p 0)) d.shaped (vertex_zeros (p 0) (p n) a.start.shaped d.placed e))
    ∙ goal_along p r j n a (vertex (p 0)) (whole (pos 1)) (whole (pos 0)) m n (omega arith)
    ∙ goal_gap_zeros (p 0) (vertex (p 0)) a.start.shaped (vertex_zeros (p 0) (p 0) a.start.shaped a.start.placed (itself (p 0))) in
    sym (neg-neg _) ∙ ap neg_ℚ f ∙ neg-neg _

zero_goals : (p : ℕ → Tableau) (r j : ℕ → ℕ) (n : ℕ) → IsPath p r j n → HaveSameBasics (p 0) (p n) → (k : ℕ) → k < n → goal_cell (p k) (j k) ≡ whole (pos 0)
zero_goals p r j n a e k h =
    goal_bound_stays (r k) (j k) (p k) (a.choice k h)
    (ap goal_bound (sym (a.next k h))
    ∙ ≤ℚ_antisymm _ _ (bound_step p r j n a k h)
    (≤ℚ_trans _ _ _ (bound_along p r j n a 0 k (omega arith) (omega arith)) (subst (λ t. t ≤ℚ goal_bound (p (suc k))) (same_bounds p r j n a e)
    (bound_along p r j n a (suc k) n (omega arith) (omega arith)))))

-- the goal's cell of v is 0 wherever v stands
record HasZeroGoal (t : Tableau) (v : ℕ) : Type 0 where
  zero_goal : (k : ℕ) → k < width t → standing_at t k ≡ v → goal_cell t k ≡ whole (pos 0)

zero_forth : (t : Tableau) (r j v : ℕ) → IsShaped t → IsPlace t r j → goal_cell t j ≡ whole (pos 0) → HasZeroGoal t v → HasZeroGoal (exchange r j t) v
zero_forth t r j v s p g z = record { zero_goal = λ k h e. pick k (rw (← width-exchange r j t) h) e (same_or_other k j) }
  where
    pick : (k : ℕ) → k < width t → standing_at (exchange r j t) k ≡ v → (k ≡ j) ⊎ (k ≡ j → ⊥) → goal_cell (exchange r j t) k ≡ whole (pos 0)
    pick k h e (inl q) = rw q (goal_at r j t s p ∙ zero_ratio t r j g)
    pick k h e (inr q) =
        goal_other r j k t p q ∙ ap (λ u. goal_cell t k +ℚ u *ℚ cell t r k) (zero_ratio t r j g) ∙ ap (λ u. goal_cell t k +ℚ u) (zero-*ℚ _) ∙ +ℚ-zero _
        ∙ z.zero_goal k h (sym (standing_other r j k t q) ∙ e)

zero_back : (t : Tableau) (r j v : ℕ) → IsPlace t r j → goal_cell t j ≡ whole (pos 0) → HasZeroGoal (exchange r j t) v → HasZeroGoal t v
zero_back t r j v p g z = record { zero_goal = λ k h e. pick k h e (same_or_other k j) }
  where
    pick : (k : ℕ) → k < width t → standing_at t k ≡ v → (k ≡ j) ⊎ (k ≡ j → ⊥) → goal_cell t k ≡ whole (pos 0)
    pick k h e (inl q) = rw q g
    pick k h e (inr q) =
        sym (+ℚ-zero _) ∙ ap (λ u. goal_cell t k +ℚ u) (sym (zero-*ℚ (cell t r k))) ∙ ap (λ u. goal_cell t k +ℚ u *ℚ cell t r k) (sym (zero_ratio t r j g))
        ∙ sym (goal_other r j k t p q) ∙ z.zero_goal k (rw (width-exchange r j t) h) (standing_other r j k t q ∙ e)

-- a variable that enters has goal cells of 0 at all times
zero_along : (p : ℕ → Tableau) (r j : ℕ → ℕ) (n : ℕ) → IsPath p r j n → HaveSameBasics (p 0) (p n) → (k m : ℕ) → k < n → m ≤ n → HasZeroGoal (p m) (enters p j k)
zero_along p r j n a e k m h l =
    let v = enters p j k in
    let here : HasZeroGoal (p k) v =
    record { zero_goal = λ i b f. ap (λ i. goal_cell (p k) i) ((dual_along p r j n a k (omega arith)).placed.places i (j k) b (a.choice k h).place f) ∙ zero_goals p r j n a e k h } in
    forth (λ i. HasZeroGoal (p i) v) n
    (λ i b z. subst (λ t. HasZeroGoal t v) (sym (a.next i b)) (zero_forth (p i) (r i) (j i) v (dual_along p r j n a i (omega arith)).shaped
    (place_of (p i) (r i) (j i) (a.choice i b)) (zero_goals p r j n a e i b) z))
    0 m (omega arith) l
    (back (λ i. HasZeroGoal (p i) v) n
    (λ i b z. zero_back (p i) (r i) (j i) v (place_of (p i) (r i) (j i) (a.choice i b)) (zero_goals p r j n a e i b) (subst (λ t. HasZeroGoal t v) (a.next i b) z))
    0 k (omega arith) (omega arith) here)

-- ---- the contradiction
-- where row r leaves, no variable below its own is negative at the vertex
vertex_low : (t : Tableau) (r j v : ℕ) → IsShaped t → IsPlaced t → IsChoice t r j → v < basic_at t r → whole (pos 0) ≤ℚ vertex t v
vertex_low t r j v s p c h = pick (basic_or_not t v)
  where
    sign : (b : IsBasic t v) → (bound t b.row <ℚ whole (pos 0)) ⊎ (whole (pos 0) ≤ℚ bound t b.row) → whole (pos 0) ≤ℚ vertex t v
    sign b (inl l) = absurd (let m = c.least_row b.row b.within l in let e = b.is in omega arith)
    sign b (inr l) = subst (λ u. whole (pos 0) ≤ℚ u) (sym (vertex_basic t b.row s p b.within) ∙ ap (vertex t) b.is) l

    pick : IsBasic t v ⊎ ((i : ℕ) → i < height t → basic_at t i ≡ v → ⊥) → whole (pos 0) ≤ℚ vertex t v
    pick (inl b) = sign b (below_or_not (bound t b.row) (whole (pos 0)))
    pick (inr n) = rw (vertex_other t v s n) (≤ℚ_refl _)

-- a row cannot be met where its bound is negative and nothing on its left side is
no_row : (t : Tableau) (r : ℕ) (x : ℕ → ℚ) → IsShaped t → r < height t → Meets t x (whole (pos 1)) → bound t r <ℚ whole (pos 0) → whole (pos 0) ≤ℚ x (basic_at t r)
    → ((k : ℕ) → k < width t → whole (pos 0) ≤ℚ (cell t r k *ℚ x (standing_at t k))) → ⊥
unfolding gap
no_row t r x s h m b l f =
    <ℚ_not-≤ℚ _ _ b
    (linear
    (record { count = 1; low = minus (at 0 ⊗ lit (pos 1)); high = at 2 } ∷ record { count = 1; low = lit (pos 0); high = at 1 } ∷ record { count = 1; low = at 1 ⊕ at 2; high = lit (pos 0) } ∷ []) 0
    (lit (pos 0)) (at 0) (bound t r ∷ x (basic_at t r) ∷ dot (line t r) (values x (whole (pos 1)) t.standing) ∷ [])
    (dot_low (line t r) x (whole (pos 1)) t.standing (s.lines r h) f, (l, (rw (m.met r h) (≤ℚ_refl _), tt))) refl)

-- the parts of the contradiction, at the time c where the greatest of the entering variables enters and the time b where it leaves
record Clash (p : ℕ → Tableau) (r j : ℕ → ℕ) (n b c : ℕ) : Type 0 where
  path : IsPath p r j n
  same : HaveSameBasics (p 0) (p n)
  leaving : b < n
  entering : c < n
  is : leaves p r b ≡ enters p j c
  most : (k : ℕ) → k < n → enters p j k ≤ enters p j c

module _ (p : ℕ → Tableau) (r j : ℕ → ℕ) (n b c : ℕ) (q : Clash p r j n b c) where
  -- the tableaux of both times, and what is chosen there
  before : IsDual (p b)
  before = dual_along p r j n q.path b (let l = q.leaving in omega arith)

  after : IsDual (p c)
  after = dual_along p r j n q.path c (let l = q.entering in omega arith)

  there : IsChoice (p b) (r b) (j b)
  there = q.path.choice b q.leaving

  here : IsChoice (p c) (r c) (j c)
  here = q.path.choice c q.entering

  clash_term : (k : ℕ) → k < width (p c) → whole (pos 0) ≤ℚ (cell (p c) (r c) k *ℚ vertex (p b) (standing_at (p c) k))
  clash_term k h = pick (found_or_none (λ i. enters p j i ≡ standing_at (p c) k) (λ i. same_or_other (enters p j i) (standing_at (p c) k)) n)
    where
      smaller : Found (λ i. enters p j i ≡ standing_at (p c) k) n → (standing_at (p c) k ≡ enters p j c → ⊥) → (cell (p c) (r c) k <ℚ whole (pos 0)) ⊎ (whole (pos 0) ≤ℚ cell (p c) (r c) k)
          → whole (pos 0) ≤ℚ (cell (p c) (r c) k *ℚ vertex (p b) (standing_at (p c) k))
      smaller f d (inl l) =
          let zero_ratios : ratio (p c) (r c) (j c) ≡ ratio (p c) (r c) k =
          zero_ratio (p c) (r c) (j c) ((zero_along p r j n q.path q.same c c q.entering (let l = q.entering in omega arith)).zero_goal (j c) here.place refl)
          ∙ sym (zero_ratio (p c) (r c) k ((zero_along p r j n q.path q.same f.at c f.within (let l = q.entering in omega arith)).zero_goal k h (sym f.holds))) in
          absurd (d (let e = here.least_place k h l zero_ratios in let g = q.most f.at f.within in let i = f.holds in omega arith))
      smaller f d (inr l) =
          product_not_negative _ _ l (vertex_low (p b) (r b) (j b) (standing_at (p c) k) before.shaped before.placed there (let g = q.most f.at f.within in
          let i = f.holds in let e = q.is in grind arith))

      fickle : Found (λ i. enters p j i ≡ standing_at (p c) k) n → (standing_at (p c) k ≡ enters p j c) ⊎ (standing_at (p c) k ≡ enters p j c → ⊥)
          → whole (pos 0) ≤ℚ (cell (p c) (r c) k *ℚ vertex (p b) (standing_at (p c) k))
      fickle f (inl e) =
          product_of_negatives _ _
          (rw (after.placed.places k (j c) h here.place e) (<ℚ-≤ℚ _ _ here.entering))
          (rw (e ∙ sym q.is, vertex_basic (p b) (r b) before.shaped before.placed there.row) (<ℚ-≤ℚ _ _ there.negative))
      fickle f (inr d) = smaller f d (below_or_not (cell (p c) (r c) k) (whole (pos 0)))

      pick : Found (λ i. enters p j i ≡ standing_at (p c) k) n ⊎ ((i : ℕ) → i < n → enters p j i ≡ standing_at (p c) k → ⊥)
          → whole (pos 0) ≤ℚ (cell (p c) (r c) k *ℚ vertex (p b) (standing_at (p c) k))
      pick (inl f) = fickle f (same_or_other (standing_at (p c) k) (enters p j c))
      pick (inr f) =
          rw
          (vertex_other (p b) (standing_at (p c) k) before.shaped
          (λ i l e. standing_not_basic (p c) k after.placed h
          (never_enters p r j n q.path q.same (standing_at (p c) k) f b c (let l = q.leaving in omega arith) (let l = q.entering in omega arith) (record { row = i; within = l; is = e }))))
          (rw (*ℚ-zero (cell (p c) (r c) k)) (≤ℚ_refl _))

  clash : ⊥
  clash =
      no_row (p c) (r c) (vertex (p b)) after.shaped here.row
      (meets_along p r j n q.path (vertex (p b)) (whole (pos 1)) b c (let l = q.leaving in omega arith) (let l = q.entering in omega arith) (vertex_meets (p b) before.shaped before.placed))
      here.negative
      (pick (found_or_none (λ i. enters p j i ≡ leaves p r c) (λ i. same_or_other (enters p j i) (leaves p r c)) n))
      clash_term
    where
      left : IsBasic (p (suc c)) (leaves p r c) → ⊥
      left = subst (λ v. IsBasic (p (suc c)) v → ⊥)
          (ap (λ (t : Tableau). standing_at t (j c)) (q.path.next c q.entering) ∙ standing_same (r c) (j c) (p c) here.place)
          (standing_not_basic (p (suc c)) (j c) (dual_along p r j n q.path (suc c) q.entering).placed (rw (q.path.next c q.entering, width-exchange (r c) (j c) (p c)) here.place))

      pick : Found (λ i. enters p j i ≡ leaves p r c) n ⊎ ((i : ℕ) → i < n → enters p j i ≡ leaves p r c → ⊥) → whole (pos 0) ≤ℚ vertex (p b) (leaves p r c)
      pick (inr f) =
          absurd (left (never_enters p r j n q.path q.same (leaves p r c) f c (suc c) (let l = q.entering in omega arith) q.entering (record { row = r c; within = here.row; is = refl })))
      pick (inl f) =
          vertex_low (p b) (r b) (j b) (leaves p r c) before.shaped before.placed there
          (let g = q.most f.at f.within in let i = f.holds in let e = q.is in let d = after.placed.apart (r c) (j c) here.row here.place in grind arith)

pub no_return : (p : ℕ → Tableau) (r j : ℕ → ℕ) (n : ℕ) → IsPath p r j (suc n) → HaveSameBasics (p 0) (p (suc n)) → ⊥
no_return p r j n a s =
    pick (found_or_none (λ i. leaves p r i ≡ enters p j g.at) (λ i. same_or_other (leaves p r i) (enters p j g.at)) (suc n))
  where
    g : Greatest (enters p j) (suc n)
    g = greatest (enters p j) n

    here : IsChoice (p g.at) (r g.at) (j g.at)
    here = a.choice g.at g.within

    pick : Found (λ i. leaves p r i ≡ enters p j g.at) (suc n) ⊎ ((i : ℕ) → i < suc n → leaves p r i ≡ enters p j g.at → ⊥) → ⊥
    pick (inl f) = clash p r j (suc n) f.at g.at (record { path = a; same = s; leaving = f.within; entering = g.within; is = f.holds; most = g.most })
    pick (inr f) =
        standing_not_basic (p g.at) (j g.at) (dual_along p r j (suc n) a g.at (let l = g.within in omega arith)).placed here.place
        (never_leaves p r j (suc n) a s (enters p j g.at) f (suc g.at) g.at g.within (let l = g.within in omega arith)
        (record {
          row = r g.at;
          within = rw (a.next g.at g.within, height-exchange (r g.at) (j g.at) (p g.at)) here.row;
          is = ap (λ (t : Tableau). basic_at t (r g.at)) (a.next g.at g.within)
              ∙ basic_same (r g.at) (j g.at) (p g.at) (rw (dual_along p r j (suc n) a g.at (let l = g.within in omega arith)).shaped.basics here.row);
        }))
