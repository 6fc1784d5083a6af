-- Tableaus that differ in their bounds alone: they have the same entry but for the bounds.
use Rattle.std.proofs.Common.{◌≡◌, ℕ, zero, suc, pos, Bool, not, cond, eqb, List, [], length, get_or, ◌+◌, ◌&&◌, ◌<◌, ◌≤◌, ◌⊎◌, inl, inr, refl, sym, ◌∙◌, ap, ap₂, subst, arith}
use Rattle.std.proofs.Math.ListN.{set}
use Rattle.std.proofs.lemmas.List.{ext_get_or}
use Rattle.rational_theory.specs.Rational.{ℚ, whole, neg_ℚ, inverse_ℚ, ◌+ℚ◌, ◌*ℚ◌}
use Rattle.simplex_theory.specs.Lines.{divided, cleared}
use Rattle.simplex_theory.proofs.Lines.{divided_at, divided_other, cleared_at, cleared_other}
use Rattle.simplex_theory.specs.Tableau.{Tableau, line, cell, goal_cell, height, width, bound, goal_bound, IsShaped, exchange}
use Rattle.simplex_theory.proofs.Tableau.{height-exchange, width-exchange, line-exchange_same, line-exchange_other, goal-exchange, basic-exchange, standing-exchange, same_or_other}
use Rattle.entry_theory.specs.Least.{least}
use Rattle.entry_theory.specs.Entry.{variable_at, is_zero, is_among, can_take, entry_row, entry_pivot, entry_after}
use Rattle.entry_theory.specs.Ready.{IsReady}
use Rattle.entry_theory.specs.SameCells.{HaveSameCells}
use Rattle.entry_theory.proofs.Rows.{pivot_column, pivot_slack}
use Rattle.entry_theory.proofs.Entered.{under_way, ready_place}

-- ---- one row: a divided or cleared one's cell is by the cells at its place and at the pivot's
pub divided_same : (j k : ℕ) (c d : List ℚ) → j < length c → j < length d → get_or c j (whole (pos 0)) ≡ get_or d j (whole (pos 0)) → get_or c k (whole (pos 0)) ≡ get_or d k (whole (pos 0))
    → get_or (divided j c) k (whole (pos 0)) ≡ get_or (divided j d) k (whole (pos 0))
divided_same j k c d h l p q = pick (same_or_other k j)
  where
    pick : (k ≡ j) ⊎ (k ≡ j → ⊥) → get_or (divided j c) k (whole (pos 0)) ≡ get_or (divided j d) k (whole (pos 0))
    pick (inl e) = rw e (divided_at j c h ∙ ap inverse_ℚ p ∙ sym (divided_at j d l))
    pick (inr n) = divided_other j k c n ∙ ap₂ (λ x y. inverse_ℚ x *ℚ y) p q ∙ sym (divided_other j k d n)

pub cleared_same : (j k : ℕ) (e f c d : List ℚ) → j < length c → j < length d → get_or c j (whole (pos 0)) ≡ get_or d j (whole (pos 0)) → get_or c k (whole (pos 0)) ≡ get_or d k (whole (pos 0))
    → get_or e j (whole (pos 0)) ≡ get_or f j (whole (pos 0)) → get_or e k (whole (pos 0)) ≡ get_or f k (whole (pos 0))
    → get_or (cleared j e c) k (whole (pos 0)) ≡ get_or (cleared j f d) k (whole (pos 0))
cleared_same j k e f c d h l p q a b = pick (same_or_other k j)
  where
    pick : (k ≡ j) ⊎ (k ≡ j → ⊥) → get_or (cleared j e c) k (whole (pos 0)) ≡ get_or (cleared j f d) k (whole (pos 0))
    pick (inl g) = rw g (cleared_at j e c h ∙ ap₂ (λ x y. neg_ℚ x *ℚ y) p a ∙ sym (cleared_at j f d l))
    pick (inr n) = cleared_other j k e c n ∙ (λ i. q i +ℚ neg_ℚ (p i) *ℚ b i) ∙ sym (cleared_other j k f d n)

-- ---- an exchange keeps it
module _ (r j : ℕ) (t u : Tableau) (s : IsShaped t) (v : IsShaped u) (h : r < height t) (l : j < width t) (a : HaveSameCells t u) where
  columns : width t ≡ width u
  columns = ap length a.standing

  low : r < height u
  low = let e = a.rows in omega arith

  own_length : length (line t r) ≡ suc (width t)
  own_length = s.lines r h

  other_length : length (line u r) ≡ suc (width u)
  other_length = v.lines r low

  pub same_divided : (k : ℕ) → k < width t → get_or (divided j (line t r)) k (whole (pos 0)) ≡ get_or (divided j (line u r)) k (whole (pos 0))
  same_divided k n =
      divided_same j k (line t r) (line u r) (let e = own_length in omega arith) (let e = other_length in let f = columns in omega arith) (a.cells r j h l) (a.cells r k h n)

  same_line : (i k : ℕ) → i < height t → k < width t → (i ≡ r) ⊎ (i ≡ r → ⊥) → cell (exchange r j t) i k ≡ cell (exchange r j u) i k
  same_line i k m n (inl e) =
      rw e
      (ap (λ (c : List ℚ). get_or c k (whole (pos 0))) (line-exchange_same r j t h) ∙ same_divided k n
      ∙ sym (ap (λ (c : List ℚ). get_or c k (whole (pos 0))) (line-exchange_same r j u low)))
  same_line i k m n (inr o) =
      let b : i < height u = let e = a.rows in omega arith in
      ap (λ (c : List ℚ). get_or c k (whole (pos 0))) (line-exchange_other r j i t m o)
      ∙ cleared_same j k (divided j (line t r)) (divided j (line u r)) (line t i) (line u i)
      (let e = s.lines i m in omega arith) (let e = v.lines i b in let f = columns in omega arith)
      (a.cells i j m l) (a.cells i k m n) (same_divided j l) (same_divided k n)
      ∙ sym (ap (λ (c : List ℚ). get_or c k (whole (pos 0))) (line-exchange_other r j i u b o))

  same_goal : (k : ℕ) → k < width t → goal_cell (exchange r j t) k ≡ goal_cell (exchange r j u) k
  same_goal k n =
      ap (λ (c : List ℚ). get_or c k (whole (pos 0))) (goal-exchange r j t)
      ∙ cleared_same j k (divided j (line t r)) (divided j (line u r)) t.goal u.goal
      (let e = s.goals in omega arith) (let e = v.goals in let f = columns in omega arith)
      (a.goals j l) (a.goals k n) (same_divided j l) (same_divided k n)
      ∙ sym (ap (λ (c : List ℚ). get_or c k (whole (pos 0))) (goal-exchange r j u))

  pub same-exchange : HaveSameCells (exchange r j t) (exchange r j u)
  same-exchange = record {
    rows = height-exchange r j t ∙ a.rows ∙ sym (height-exchange r j u);
    basic = basic-exchange r j t ∙ (λ i. set (a.basic i) r (get_or (a.standing i) j 0)) ∙ sym (basic-exchange r j u);
    standing = standing-exchange r j t ∙ (λ i. set (a.standing i) j (get_or (a.basic i) r 0)) ∙ sym (standing-exchange r j u);
    cells = λ i k m n. same_line i k (subst (λ d. i < d) (height-exchange r j t) m) (subst (λ d. k < d) (width-exchange r j t) n) (same_or_other i r);
    goals = λ k n. same_goal k (subst (λ d. k < d) (width-exchange r j t) n);
  }

-- ---- the same row is chosen
least_same : (f g : ℕ → Bool) (n : ℕ) → ((k : ℕ) → k < n → f k ≡ g k) → least f n ≡ least g n
unfolding least
least_same f g zero h = refl
least_same f g (suc n) h = ap₂ (λ (b : Bool) (m : ℕ). cond b 0 (suc m)) (h 0 (omega arith)) (least_same (λ k. f (suc k)) (λ k. g (suc k)) n (λ k l. h (suc k) (omega arith)))

same_test : (vs : List ℕ) (j i : ℕ) (t u : Tableau) → i < height t → j < width t → HaveSameCells t u → can_take vs t j i ≡ can_take vs u j i
same_test vs j i t u l h a = λ x. eqb (get_or (a.basic x) i 0) (length (a.standing x) + i) && (not (is_zero (a.cells i j l h x)) && not (is_among vs (length (a.standing x) + i)))

pub same_row : (vs : List ℕ) (j : ℕ) (t u : Tableau) → j < width t → HaveSameCells t u → entry_row vs t j ≡ entry_row vs u j
unfolding entry_row
same_row vs j t u h a = least_same (can_take vs t j) (can_take vs u j) (height t) (λ i l. same_test vs j i t u l h a) ∙ ap (least (can_take vs u j)) a.rows

-- ---- along the list
column_or_slack : (v w : ℕ) → (v < w) ⊎ (w ≤ v)
column_or_slack v w = grind arith

pub ready_shaped : (vs : List ℕ) (t : Tableau) → IsReady vs t → (k : ℕ) → k ≤ length vs → IsShaped (entry_after vs t k)
ready_shaped vs t r k h = (under_way vs r.table r.dual r.names t r.fresh r.forms k h).entering.shaped

module _ (vs : List ℕ) (t u : Tableau) (r : IsReady vs t) (v : IsReady vs u) where
  same_next : (k : ℕ) → k < length vs → HaveSameCells (entry_after vs t k) (entry_after vs u k) → HaveSameCells (entry_after vs t (suc k)) (entry_after vs u (suc k))
  unfolding entry_after
  same_next k h a = pick (column_or_slack (variable_at vs k) (width (entry_after vs t k)))
    where
      e : width (entry_after vs t k) ≡ width (entry_after vs u k)
      e = ap length a.standing

      pick : (variable_at vs k < width (entry_after vs t k)) ⊎ (width (entry_after vs t k) ≤ variable_at vs k)
          → HaveSameCells (entry_pivot vs (entry_after vs t k) (variable_at vs k)) (entry_pivot vs (entry_after vs u k) (variable_at vs k))
      pick (inl l) =
          let p = ready_place vs t r k h l in
          let q = same-exchange (entry_row vs (entry_after vs t k) (variable_at vs k)) (variable_at vs k) (entry_after vs t k) (entry_after vs u k)
          (ready_shaped vs t r k (omega arith)) (ready_shaped vs u v k (omega arith)) p.row l a in
          rw (pivot_column vs (entry_after vs t k) (variable_at vs k) l, pivot_column vs (entry_after vs u k) (variable_at vs k) (subst (λ w. variable_at vs k < w) e l))
          (subst (λ n. HaveSameCells (exchange (entry_row vs (entry_after vs t k) (variable_at vs k)) (variable_at vs k) (entry_after vs t k)) (exchange n (variable_at vs k) (entry_after vs u k)))
          (same_row vs (variable_at vs k) (entry_after vs t k) (entry_after vs u k) l a) q)
      pick (inr l) =
          rw (pivot_slack vs (entry_after vs t k) (variable_at vs k) l, pivot_slack vs (entry_after vs u k) (variable_at vs k) (subst (λ w. w ≤ variable_at vs k) e l)) a

  pub same_after : HaveSameCells t u → (k : ℕ) → k ≤ length vs → HaveSameCells (entry_after vs t k) (entry_after vs u k)
  unfolding entry_after
  same_after a zero h = a
  same_after a (suc k) h = same_next k (omega arith) (same_after a k (omega arith))

-- ---- where the bounds are the same too, all is
pub below_or_last : (k w : ℕ) → k < suc w → (k < w) ⊎ (k ≡ w)
below_or_last k w h = grind arith

pub same_all : (t u : Tableau) → IsShaped t → IsShaped u → HaveSameCells t u → ((i : ℕ) → i < height t → bound t i ≡ bound u i) → goal_bound t ≡ goal_bound u → t ≡ u
same_all t u s v a b g = λ x. record { rows = same_rows x; goal = same_goals x; basic = a.basic x; standing = a.standing x }
  where
    w : width t ≡ width u
    w = ap length a.standing

    pick : (c d : List ℚ) → ((k : ℕ) → k < width t → get_or c k (whole (pos 0)) ≡ get_or d k (whole (pos 0))) → get_or c (width t) (whole (pos 0)) ≡ get_or d (width u) (whole (pos 0))
        → (k : ℕ) → (k < width t) ⊎ (k ≡ width t) → get_or c k (whole (pos 0)) ≡ get_or d k (whole (pos 0))
    pick c d f e k (inl l) = f k l
    pick c d f e k (inr q) = ap (λ n. get_or c n (whole (pos 0))) q ∙ e ∙ ap (λ n. get_or d n (whole (pos 0))) (sym w ∙ sym q)

    same_list : (c d : List ℚ) → length c ≡ suc (width t) → length d ≡ suc (width u) → ((k : ℕ) → k < width t → get_or c k (whole (pos 0)) ≡ get_or d k (whole (pos 0)))
        → get_or c (width t) (whole (pos 0)) ≡ get_or d (width u) (whole (pos 0)) → c ≡ d
    same_list c d m n f e = ext_get_or (whole (pos 0)) c d (m ∙ ap suc w ∙ sym n) (λ k l. pick c d f e k (below_or_last k (width t) (subst (λ z. k < z) m l)))

    same_rows : t.rows ≡ u.rows
    same_rows = ext_get_or [] t.rows u.rows a.rows
        (λ i l. same_list (line t i) (line u i) (s.lines i l) (v.lines i (let e = a.rows in omega arith)) (λ k n. a.cells i k l n) (b i l))

    same_goals : t.goal ≡ u.goal
    same_goals = same_list t.goal u.goal s.goals v.goals a.goals g
