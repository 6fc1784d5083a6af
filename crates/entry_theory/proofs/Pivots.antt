-- The function of `Entry` is its rule: its pivots are an entry, and there is no other from the same tableau.
use Rattle.std.proofs.Common.{◌≡◌, ◌↔◌, ℕ, zero, suc, List, length, ◌+◌, ◌<◌, ◌≤◌, ◌⊎◌, inl, inr, sym, ◌∙◌, ap, subst, arith}
use Rattle.simplex_theory.specs.Tableau.{Tableau, height, width, basic_at, exchange}
use Rattle.simplex_theory.proofs.Tableau.{basic_same, basic_other, same_or_other}
use Rattle.simplex_theory.specs.DualSteps.{IsDual}
use Rattle.entry_theory.specs.Directions.{HaveSameForms}
use Rattle.entry_theory.specs.Entry.{variable_at, NamesBasics, CanTake, IsEntry, entry_pivot, entry_after, entry_rows, entry}
use Rattle.entry_theory.proofs.Rows.{CanEnter, IsEntryRow, entry_row_is, pivot_column, pivot_slack}
use Rattle.entry_theory.specs.Ready.{IsFresh}
use Rattle.entry_theory.proofs.Entering.{IsEntering}
use Rattle.entry_theory.proofs.Entered.{IsUnderWay, finds_row, under_way}

-- no pivot before k took row i
abbrev pub IsUnused : List ℕ → (ℕ → ℕ) → ℕ → ℕ → ℕ → Type 0
IsUnused vs r w k i = (l : ℕ) → l < k → variable_at vs l < w → r l ≡ i → ⊥

-- a row was not used exactly where its own slack is still basic in it
pub record TellsUsed (vs : List ℕ) (r : ℕ → ℕ) (m w k : ℕ) (t : Tableau) : Type 0 where
  pub told : (i : ℕ) → i < m → (basic_at t i ≡ w + i) ↔ IsUnused vs r w k i

last_or_before : (l k : ℕ) → l < suc k → (l ≡ k) ⊎ (l < k)
last_or_before l k h = grind arith

column_or_slack : (v w : ℕ) → (v < w) ⊎ (w ≤ v)
column_or_slack v w = grind arith

one_more : (vs : List ℕ) (r : ℕ → ℕ) (w k i : ℕ) → IsUnused vs r w k i → (variable_at vs k < w → r k ≡ i → ⊥) → IsUnused vs r w (suc k) i
one_more vs r w k i u n l h b e = pick (last_or_before l k h)
  where
    pick : (l ≡ k) ⊎ (l < k) → ⊥
    pick (inl q) = n (subst (λ n. variable_at vs n < w) q b) (ap r (sym q) ∙ e)
    pick (inr q) = u l q b e

tells_slack : (vs : List ℕ) (r : ℕ → ℕ) (m w k : ℕ) (t : Tableau) → w ≤ variable_at vs k → TellsUsed vs r m w k t → TellsUsed vs r m w (suc k) t
tells_slack vs r m w k t h a = record {
  told = λ i l. (
    λ e. one_more vs r w k i ((a.told i l).0 e) (λ b q. absurd (omega arith)),
    λ u. (a.told i l).1 (λ n b c e. u n (omega arith) c e),
  );
}

tells_column : (vs : List ℕ) (r : ℕ → ℕ) (m w k : ℕ) (t : Tableau) → IsEntering vs m w k t → variable_at vs k < w → ((l : ℕ) → l < k → variable_at vs l ≡ variable_at vs k → ⊥) → r k < height t
    → TellsUsed vs r m w k t → TellsUsed vs r m w (suc k) (exchange (r k) (variable_at vs k) t)
tells_column vs r m w k t e c n h a = record { told = λ i l. (λ b. forth i l b (same_or_other i (r k)), λ u. back i l u (same_or_other i (r k))) }
  where
    here : basic_at (exchange (r k) (variable_at vs k) t) (r k) ≡ variable_at vs k
    here = basic_same (r k) (variable_at vs k) t (rw e.shaped.basics h) ∙ e.waiting (variable_at vs k) c n

    forth : (i : ℕ) → i < m → basic_at (exchange (r k) (variable_at vs k) t) i ≡ w + i → (i ≡ r k) ⊎ (i ≡ r k → ⊥) → IsUnused vs r w (suc k) i
    forth i l b (inl q) = absurd (let f = sym here ∙ ap (basic_at (exchange (r k) (variable_at vs k) t)) (sym q) ∙ b in omega arith)
    forth i l b (inr q) = one_more vs r w k i ((a.told i l).0 (sym (basic_other (r k) (variable_at vs k) i t q) ∙ b)) (λ d f. q (sym f))

    back : (i : ℕ) → i < m → IsUnused vs r w (suc k) i → (i ≡ r k) ⊎ (i ≡ r k → ⊥) → basic_at (exchange (r k) (variable_at vs k) t) i ≡ w + i
    back i l u (inl q) = absurd (u k (omega arith) c (sym q))
    back i l u (inr q) = basic_other (r k) (variable_at vs k) i t q ∙ (a.told i l).1 (λ o b d f. u o (omega arith) d f)

-- so the two ways to say which rows a column can enter agree
can_enter : (vs : List ℕ) (p : ℕ → Tableau) (r : ℕ → ℕ) (k i : ℕ) → TellsUsed vs r (height (p k)) (width (p k)) k (p k) → CanTake vs p r k i → CanEnter vs (p k) (variable_at vs k) i
can_enter vs p r k i a c = record { row = c.row; own = (a.told i c.row).1 c.unused; pivot = c.pivot; left_out = c.left_out }

takes : (vs : List ℕ) (p : ℕ → Tableau) (r : ℕ → ℕ) (k i : ℕ) → TellsUsed vs r (height (p k)) (width (p k)) k (p k) → CanEnter vs (p k) (variable_at vs k) i → CanTake vs p r k i
takes vs p r k i a c = record { row = c.row; left_out = c.left_out; unused = (a.told i c.row).0 c.own; pivot = c.pivot }

module _ (vs : List ℕ) (u : Tableau) (d : IsDual u) (names : NamesBasics vs u) (t : Tableau) (f : IsFresh t) (s : HaveSameForms t u) where
  way : (k : ℕ) → k ≤ length vs → IsUnderWay vs u d names (height t) (width t) k (entry_after vs t k)
  way k h = under_way vs u d names t f s k h

  apart : (k n : ℕ) → k < n → n < length vs → variable_at vs k ≡ variable_at vs n → ⊥
  apart k n h l e = absurd (let m = names.ascending k n h l in omega arith)

  start_tells : (r : ℕ → ℕ) → TellsUsed vs r (height t) (width t) 0 t
  start_tells r = record { told = λ i l. (λ e k h b q. absurd (omega arith), λ n. f.slacks i l) }

  -- ---- there is no other
  pub record IsSame (p : ℕ → Tableau) (r : ℕ → ℕ) (k : ℕ) : Type 0 where
    pub same : p k ≡ entry_after vs t k
    pub tells : TellsUsed vs r (height t) (width t) k (p k)

  module _ (p : ℕ → Tableau) (r : ℕ → ℕ) (a : IsEntry vs p r) (start : p 0 ≡ t) where
    entering : (k : ℕ) → k ≤ length vs → IsSame p r k → IsEntering vs (height t) (width t) k (p k)
    entering k h q = subst (IsEntering vs (height t) (width t) k) (sym q.same) (way k h).entering

    tells_here : (k : ℕ) → k ≤ length vs → IsSame p r k → TellsUsed vs r (height (p k)) (width (p k)) k (p k)
    tells_here k h q = let e = entering k h q in rw (e.rows, e.columns) q.tells

    same_next : (k : ℕ) → k < length vs → IsSame p r k → IsSame p r (suc k)
    unfolding entry_after
    same_next k h q = pick (column_or_slack (variable_at vs k) (width t))
      where
        e : IsEntering vs (height t) (width t) k (p k)
        e = entering k (omega arith) q

        pick : (variable_at vs k < width t) ⊎ (width t ≤ variable_at vs k) → IsSame p r (suc k)
        pick (inl l) =
            let c : variable_at vs k < width (p k) = rw e.columns l in
            let b = tells_here k (omega arith) q in
            let row : IsEntryRow vs (p k) (variable_at vs k) (r k) =
            record { enters = can_enter vs p r k (r k) b (a.takes k h c); least = λ i g. a.least k i h c (takes vs p r k i b g) } in
            let g = a.column k h c in
            record {
              same = g ∙ ap (λ n. exchange n (variable_at vs k) (p k)) (sym (entry_row_is vs (p k) (variable_at vs k) (r k) row)) ∙ sym (pivot_column vs (p k) (variable_at vs k) c)
                  ∙ ap (λ o. entry_pivot vs o (variable_at vs k)) q.same;
              tells = subst (TellsUsed vs r (height t) (width t) (suc k)) (sym g) (tells_column vs r (height t) (width t) k (p k) e l (λ n o. apart n k o h) row.enters.row q.tells);
            }
        pick (inr l) =
            let c : width (p k) ≤ variable_at vs k = rw e.columns l in
            let g = a.slack k h c in
            record {
              same = g ∙ sym (pivot_slack vs (p k) (variable_at vs k) c) ∙ ap (λ o. entry_pivot vs o (variable_at vs k)) q.same;
              tells = subst (TellsUsed vs r (height t) (width t) (suc k)) (sym g) (tells_slack vs r (height t) (width t) k (p k) l q.tells);
            }

    same_all : (k : ℕ) → k ≤ length vs → IsSame p r k
    unfolding entry_after
    same_all zero h = record { same = start; tells = subst (TellsUsed vs r (height t) (width t) 0) (sym start) (start_tells r) }
    same_all (suc k) h = same_next k (omega arith) (same_all k (omega arith))

    pub only_entry : p (length vs) ≡ entry vs t
    unfolding entry
    only_entry = (same_all (length vs) (omega arith)).same

  -- ---- the function's pivots are one
  found : (k : ℕ) → k < length vs → variable_at vs k < width t → IsEntryRow vs (entry_after vs t k) (variable_at vs k) (entry_rows vs t k)
  unfolding entry_rows
  found k h c = let q = way k (omega arith) in finds_row vs u d names (height t) (width t) k (entry_after vs t k) q.entering q.forms h c

  tells_next : (k : ℕ) → k < length vs → TellsUsed vs (entry_rows vs t) (height t) (width t) k (entry_after vs t k)
      → TellsUsed vs (entry_rows vs t) (height t) (width t) (suc k) (entry_after vs t (suc k))
  unfolding entry_after entry_rows
  tells_next k h a = pick (column_or_slack (variable_at vs k) (width t))
    where
      e : IsEntering vs (height t) (width t) k (entry_after vs t k)
      e = (way k (omega arith)).entering

      pick : (variable_at vs k < width t) ⊎ (width t ≤ variable_at vs k) → TellsUsed vs (entry_rows vs t) (height t) (width t) (suc k) (entry_pivot vs (entry_after vs t k) (variable_at vs k))
      pick (inl l) =
          subst (TellsUsed vs (entry_rows vs t) (height t) (width t) (suc k)) (sym (pivot_column vs (entry_after vs t k) (variable_at vs k) (rw e.columns l)))
          (tells_column vs (entry_rows vs t) (height t) (width t) k (entry_after vs t k) e l (λ n o. apart n k o h) (found k h l).enters.row a)
      pick (inr l) =
          subst (TellsUsed vs (entry_rows vs t) (height t) (width t) (suc k)) (sym (pivot_slack vs (entry_after vs t k) (variable_at vs k) (rw e.columns l)))
          (tells_slack vs (entry_rows vs t) (height t) (width t) k (entry_after vs t k) l a)

  tells_all : (k : ℕ) → k ≤ length vs → TellsUsed vs (entry_rows vs t) (height t) (width t) k (entry_after vs t k)
  unfolding entry_after
  tells_all zero h = start_tells (entry_rows vs t)
  tells_all (suc k) h = tells_next k (omega arith) (tells_all k (omega arith))

  tells_there : (k : ℕ) → k ≤ length vs → TellsUsed vs (entry_rows vs t) (height (entry_after vs t k)) (width (entry_after vs t k)) k (entry_after vs t k)
  tells_there k h = let e = (way k h).entering in rw (e.rows, e.columns) (tells_all k h)

  low_column : (k : ℕ) → k ≤ length vs → variable_at vs k < width (entry_after vs t k) → variable_at vs k < width t
  low_column k h l = let e = (way k h).entering.columns in omega arith

  pub is_entry : IsEntry vs (entry_after vs t) (entry_rows vs t)
  unfolding entry_after entry_rows
  is_entry = record {
    takes = λ k h l. takes vs (entry_after vs t) (entry_rows vs t) k (entry_rows vs t k) (tells_there k (omega arith)) (found k h (low_column k (omega arith) l)).enters;
    least = λ k i h l c. (found k h (low_column k (omega arith) l)).least i (can_enter vs (entry_after vs t) (entry_rows vs t) k i (tells_there k (omega arith)) c);
    column = λ k h l. pivot_column vs (entry_after vs t k) (variable_at vs k) l;
    slack = λ k h l. pivot_slack vs (entry_after vs t k) (variable_at vs k) l;
  }
