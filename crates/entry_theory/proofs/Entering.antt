-- An entry on its way: what its tableau is after each variable, that the next column finds its row, and what the end is.
use Rattle.std.proofs.Common.{◌≡◌, ℕ, suc, List, ◌+◌, ◌<◌, ◌≤◌, ◌⊎◌, inl, inr, refl, sym, ◌∙◌, ap, subst, arith}
use Rattle.simplex_theory.specs.Tableau.{Tableau, height, width, basic_at, standing_at, IsShaped, IsPlace, exchange}
use Rattle.simplex_theory.proofs.Tableau.{height-exchange, width-exchange, basic_same, basic_other, standing_other, shaped-exchange, same_or_other}
use Rattle.simplex_theory.specs.DualSteps.{IsPlaced}
use Rattle.simplex_theory.proofs.DualSteps.{placed-exchange}
use Rattle.simplex_theory.proofs.Search.{Found}
use Rattle.simplex_theory.specs.Paths.{IsBasic}
use Rattle.entry_theory.specs.Entry.{variable_at, IsAmong}
use Rattle.entry_theory.specs.Ready.{IsFresh}
use Rattle.entry_theory.proofs.Rows.{CanEnter}

-- v is a column among the first n variables
abbrev pub HasEntered : List ℕ → ℕ → ℕ → ℕ → Type 0
HasEntered vs w n v = Found (λ k. (variable_at vs k < w) × (variable_at vs k ≡ v)) n

-- the tableau after n variables, of m rows and w places
pub record IsEntering (vs : List ℕ) (m w n : ℕ) (t : Tableau) : Type 0 where
  pub shaped : IsShaped t
  pub placed : IsPlaced t
  pub rows : height t ≡ m
  pub columns : width t ≡ w
  -- in each row its own slack is basic, or a column that entered
  pub owner : (i : ℕ) → i < m → (basic_at t i ≡ w + i) ⊎ HasEntered vs w n (basic_at t i)
  -- a slack of the list is still basic
  pub kept : (i : ℕ) → i < m → IsAmong vs (w + i) → basic_at t i ≡ w + i
  -- a column that has not entered is at its place
  pub waiting : (j : ℕ) → j < w → ((k : ℕ) → k < n → variable_at vs k ≡ j → ⊥) → standing_at t j ≡ j
  -- one that has entered is basic
  pub inside : (k : ℕ) → k < n → variable_at vs k < w → IsBasic t (variable_at vs k)

pub entering_start : (vs : List ℕ) (t : Tableau) → IsFresh t → IsEntering vs (height t) (width t) 0 t
entering_start vs t f = record {
  shaped = f.shaped;
  placed = f.placed;
  rows = refl;
  columns = refl;
  owner = λ i h. inl (f.slacks i h);
  kept = λ i h a. f.slacks i h;
  waiting = λ j h n. f.columns j h;
  inside = λ k h l. absurd (omega arith);
}

last_or_before : (k n : ℕ) → k < suc n → (k ≡ n) ⊎ (k < n)
last_or_before k n h = grind arith

-- at a slack
pub entering_slack : (vs : List ℕ) (m w n : ℕ) (t : Tableau) → IsEntering vs m w n t → w ≤ variable_at vs n → IsEntering vs m w (suc n) t
entering_slack vs m w n t e h = record {
  shaped = e.shaped;
  placed = e.placed;
  rows = e.rows;
  columns = e.columns;
  owner = λ i l. owner i l (e.owner i l);
  kept = e.kept;
  waiting = λ j l f. e.waiting j l (λ k b. f k (omega arith));
  inside = λ k l b. inside k b (last_or_before k n l);
}
  where
    owner : (i : ℕ) → i < m → (basic_at t i ≡ w + i) ⊎ HasEntered vs w n (basic_at t i) → (basic_at t i ≡ w + i) ⊎ HasEntered vs w (suc n) (basic_at t i)
    owner i l (inl q) = inl q
    owner i l (inr q) = inr (record { at = q.at; within = let b = q.within in omega arith; holds = q.holds })

    inside : (k : ℕ) → variable_at vs k < w → (k ≡ n) ⊎ (k < n) → IsBasic t (variable_at vs k)
    inside k b (inl q) = absurd (let f = ap (variable_at vs) q in omega arith)
    inside k b (inr q) = e.inside k q b

module _ (vs : List ℕ) (m w n : ℕ) (t : Tableau) (r : ℕ) (e : IsEntering vs m w n t) (column : variable_at vs n < w) (fresh : (k : ℕ) → k < n → variable_at vs k ≡ variable_at vs n → ⊥)
    (c : CanEnter vs t (variable_at vs n) r) where
  j : ℕ
  j = variable_at vs n

  pub entering_place : IsPlace t r (variable_at vs n)
  entering_place = record { row = c.row; place = rw e.columns column; pivot = c.pivot }

  own : basic_at t r ≡ w + r
  own = c.own ∙ ap (λ k. k + r) e.columns

  here : basic_at (exchange r (variable_at vs n) t) r ≡ variable_at vs n
  here = basic_same r (variable_at vs n) t (rw e.shaped.basics c.row) ∙ e.waiting (variable_at vs n) column fresh

  there : (i : ℕ) → (i ≡ r → ⊥) → basic_at (exchange r (variable_at vs n) t) i ≡ basic_at t i
  there i q = basic_other r (variable_at vs n) i t q

  owner_next : (i : ℕ) → (i ≡ r) ⊎ (i ≡ r → ⊥) → (basic_at t i ≡ w + i) ⊎ HasEntered vs w n (basic_at t i)
      → (basic_at (exchange r (variable_at vs n) t) i ≡ w + i) ⊎ HasEntered vs w (suc n) (basic_at (exchange r (variable_at vs n) t) i)
  owner_next i (inl q) o = inr (record { at = n; within = omega arith; holds = (column, sym here ∙ ap (basic_at (exchange r (variable_at vs n) t)) (sym q)) })
  owner_next i (inr q) (inl o) = inl (there i q ∙ o)
  owner_next i (inr q) (inr o) = inr (record { at = o.at; within = let b = o.within in omega arith; holds = (o.holds.0, o.holds.1 ∙ sym (there i q)) })

  kept_next : (i : ℕ) → i < m → IsAmong vs (w + i) → (i ≡ r) ⊎ (i ≡ r → ⊥) → basic_at (exchange r (variable_at vs n) t) i ≡ w + i
  kept_next i l a (inl q) = absurd (c.left_out (subst (IsAmong vs) (ap (λ k. w + k) q ∙ ap (λ k. k + r) (sym e.columns)) a))
  kept_next i l a (inr q) = there i q ∙ e.kept i l a

  inside_next : (k : ℕ) → variable_at vs k < w → (k ≡ n) ⊎ (k < n) → IsBasic (exchange r (variable_at vs n) t) (variable_at vs k)
  inside_next k b (inl q) = record { row = r; within = rw (height-exchange r (variable_at vs n) t) c.row; is = here ∙ ap (variable_at vs) (sym q) }
  inside_next k b (inr q) =
      let p = e.inside k q b in
      record {
        row = p.row;
        within = rw (height-exchange r (variable_at vs n) t) p.within;
        is =
            there p.row (λ f. absurd (let g = ap (basic_at t) f in let h = p.is in let o = own in omega arith)) ∙ p.is;
      }

  -- the pivot of a column, at a row that it can enter
  pub entering_column : IsEntering vs m w (suc n) (exchange r (variable_at vs n) t)
  entering_column = record {
    shaped = shaped-exchange r (variable_at vs n) t e.shaped c.row;
    placed = placed-exchange r (variable_at vs n) t e.shaped e.placed entering_place;
    rows = height-exchange r (variable_at vs n) t ∙ e.rows;
    columns = width-exchange r (variable_at vs n) t ∙ e.columns;
    owner = λ i l. owner_next i (same_or_other i r) (e.owner i l);
    kept = λ i l a. kept_next i l a (same_or_other i r);
    waiting = λ k l f. standing_other r (variable_at vs n) k t (λ q. f n (omega arith) (sym q)) ∙ e.waiting k l (λ i b. f i (omega arith));
    inside = λ k l b. inside_next k b (last_or_before k n l);
  }
