-- The place of a row in a list of rows that ascend.
use Rattle.std.proofs.Common.{◌≡◌, ℕ, zero, suc, ◌+◌, ◌<◌, ◌≤◌, Bool, true, false, List, [], ◌∷◌, length, get_or, Option, None, Some, refl, sym, ◌∙◌, ap, subst, arith, inl, inr}
use Rattle.std.specs.Prelude.{◌⊎◌, if◌then◌else◌}
use Rattle.named_row.specs.declared.names.RowId.{RowId}
use Rattle.named_row.specs.Order.{is_below}
use Rattle.plan_text.specs.Leaves.{AscendRows, place_of_row}
use Rattle.plan_text.proofs.RowOrder.{below_through, below_itself}
use Rattle.plan_text.proofs.ListedRows.{IsListed}

-- where a row of the list comes after a row or not
place_after : (r : RowId) (rs : List RowId) (row : RowId) → is_below r row ≡ true → place_of_row (r ∷ rs) row ≡ suc (place_of_row rs row)
unfolding place_of_row
place_after r rs row e = ap (λ (b : Bool). if b then suc (place_of_row rs row) else 1) e

place_here : (r : RowId) (rs : List RowId) (row : RowId) → is_below r row ≡ false → place_of_row (r ∷ rs) row ≡ 1
unfolding place_of_row
place_here r rs row e = ap (λ (b : Bool). if b then suc (place_of_row rs row) else 1) e

-- ---- later rows are above

pub above_first : (r : RowId) (rs : List RowId) (k : ℕ) (d : RowId) → AscendRows (Some r) rs → k < length rs → is_below r (get_or rs k d) ≡ true
above_first r [] k d a lt = absurd (omega arith)
above_first r (s ∷ rs) zero d a lt = a.0
above_first r (s ∷ rs) (suc k) d a lt = below_through r s (get_or rs k d) a.0 (above_first s rs k d a.1 (omega arith))

pub above_at : (last : Option RowId) (rs : List RowId) (i j : ℕ) (d : RowId) → AscendRows last rs → i < j → j < length rs → is_below (get_or rs i d) (get_or rs j d) ≡ true
above_at last [] i j d a lt le = absurd (omega arith)
above_at last (r ∷ rs) i zero d a lt le = absurd (omega arith)
above_at last (r ∷ rs) zero (suc j) d a lt le = above_first r rs j d a.1 (omega arith)
above_at last (r ∷ rs) (suc i) (suc j) d a lt le = above_at (Some r) rs i j d a.1 (omega arith) (omega arith)

above_listed : (r : RowId) (rs : List RowId) (s : RowId) → AscendRows (Some r) rs → IsListed rs s → is_below r s ≡ true
above_listed r [] s a h = absurd h
above_listed r (t ∷ rs) s a (inl e) = subst (λ (u : RowId). is_below r u ≡ true) e a.0
above_listed r (t ∷ rs) s a (inr h) = below_through r t s a.0 (above_listed t rs s a.1 h)

-- ---- a row of the list has its place there

pub place_at : (last : Option RowId) (rs : List RowId) (k : ℕ) (d : RowId) → AscendRows last rs → k < length rs → place_of_row rs (get_or rs k d) ≡ suc k
place_at last [] k d a lt = absurd (omega arith)
place_at last (r ∷ rs) zero d a lt = place_here r rs r (below_itself r)
place_at last (r ∷ rs) (suc k) d a lt = place_after r rs (get_or rs k d) (above_first r rs k d a.1 (omega arith)) ∙ ap suc (place_at (Some r) rs k d a.1 (omega arith))

-- the row stands at this place of the list, counted from 0
pub record StandsAt (rs : List RowId) (row : RowId) (k : ℕ) : Type 0 where
  pub place : place_of_row rs row ≡ suc k
  pub inside : k < length rs
  pub is : (d : RowId) → get_or rs k d ≡ row

pub place_of_listed : (last : Option RowId) (rs : List RowId) (row : RowId) → AscendRows last rs → IsListed rs row → (k : ℕ) × StandsAt rs row k
place_of_listed last [] row a h = absurd h
place_of_listed last (r ∷ rs) row a (inl e) = (0, record { place = place_here r rs row (subst (λ (u : RowId). is_below r u ≡ false) e (below_itself r)); inside = omega arith; is = λ d. e })
place_of_listed last (r ∷ rs) row a (inr h) =
    let p = place_of_listed (Some r) rs row a.1 h in
    (suc p.0, record { place = place_after r rs row (above_listed r rs row a.1 h) ∙ ap suc p.1.place; inside = omega (arith, p.1.inside); is = λ d. p.1.is d })

-- ---- how the code finds it

-- no row that is below another comes after one that isn't
pub below_first : (rs : List RowId) (row : RowId) (i j : ℕ) (d : RowId) → AscendRows None rs → i ≤ j → j < length rs → is_below (get_or rs j d) row ≡ true → is_below (get_or rs i d) row ≡ true
below_first rs row i j d a le lt h = split (le_cases i j le)
  where
    le_cases : (i j : ℕ) → i ≤ j → (i < j) ⊎ (i ≡ j)
    le_cases i j h = grind arith

    split : (i < j) ⊎ (i ≡ j) → is_below (get_or rs i d) row ≡ true
    split (inl k) = below_through (get_or rs i d) (get_or rs j d) row (above_at None rs i j d a k lt) h
    split (inr e) = subst (λ n. is_below (get_or rs n d) row ≡ true) (sym e) h

-- so many rows are below the row
pub place_from_point : (rs : List RowId) (row : RowId) (i : ℕ) → i ≤ length rs → ((k : ℕ) (d : RowId) → 0 ≤ k → k < i → is_below (get_or rs k d) row ≡ true)
    → ((k : ℕ) (d : RowId) → i ≤ k → k < length rs → is_below (get_or rs k d) row ≡ false) → place_of_row rs row ≡ i + 1
unfolding place_of_row
place_from_point [] row zero le low high = refl
place_from_point [] row (suc i) le low high = absurd (omega arith)
place_from_point (r ∷ rs) row zero le low high = place_here r rs row (high 0 r (omega arith) (omega arith))
place_from_point (r ∷ rs) row (suc i) le low high =
    place_after r rs row (low 0 r (omega arith) (omega arith))
    ∙ ap suc (place_from_point rs row i (omega arith) (λ k d h m. low (suc k) d (omega arith) (omega arith)) (λ k d h m. high (suc k) d (omega arith) (omega arith)))
    ∙ omega arith
