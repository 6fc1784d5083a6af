-- What an entry comes to. The variables are those that are basic in a dual feasible tableau u, and the loaded tableau t has the same
-- coefficients and the same goal as u.
use Rattle.std.proofs.Common.{◌≡◌, ℕ, zero, suc, pos, true, false, List, length, ◌+◌, ◌-◌, ◌<◌, ◌≤◌, ◌⊎◌, inl, inr, refl, sym, ◌∙◌, ap, subst, arith}
use Rattle.std.proofs.lemmas.Bool.{cases_Bool, true≢false}
use Rattle.rational_theory.specs.Rational.{ℚ, whole}
use Rattle.rational_theory.specs.Rows.{Row}
use Rattle.simplex_theory.specs.Tableau.{Tableau, cell, height, width, basic_at, standing_at, IsShaped, IsPlace, exchange}
use Rattle.simplex_theory.specs.DualSteps.{IsDual}
use Rattle.simplex_theory.proofs.Search.{Found, found_or_none}
use Rattle.simplex_theory.specs.Paths.{IsBasic, HaveSameBasics}
use Rattle.simplex_theory.specs.RowLists.{StandsForRows}
use Rattle.simplex_theory.proofs.RowLists.{rows_stand-exchange}
use Rattle.entry_theory.specs.Directions.{HaveSameForms}
use Rattle.entry_theory.proofs.Directions.{same_forms-exchange, some_row, no_more_basics, dual_by_forms}
use Rattle.entry_theory.specs.Entry.{variable_at, IsAmong, NamesBasics, is_zero, can_take, entry_row, entry_pivot, entry_after, entry}
use Rattle.entry_theory.specs.Ready.{IsFresh, IsReady}
use Rattle.entry_theory.proofs.Rows.{IsEntryRow, can_take_says, can_take_of, zero_true, true_zero, entry_row_found, pivot_column, pivot_slack}
use Rattle.entry_theory.proofs.Entering.{IsEntering, HasEntered, entering_start, entering_slack, entering_place, entering_column}

column_or_slack : (v w : ℕ) → (v < w) ⊎ (w ≤ v)
column_or_slack v w = grind arith

zero_or_not : (x : ℚ) → (x ≡ whole (pos 0)) ⊎ (x ≡ whole (pos 0) → ⊥)
zero_or_not x = pick (cases_Bool (is_zero x))
  where
    pick : (is_zero x ≡ true) ⊎ (is_zero x ≡ false) → (x ≡ whole (pos 0)) ⊎ (x ≡ whole (pos 0) → ⊥)
    pick (inl e) = inl (zero_true x e)
    pick (inr e) = inr (λ z. true≢false (sym (true_zero x z) ∙ e))

passes_or_not : (vs : List ℕ) (t : Tableau) (j i : ℕ) → (can_take vs t j i ≡ true) ⊎ (can_take vs t j i ≡ true → ⊥)
passes_or_not vs t j i = pick (cases_Bool (can_take vs t j i))
  where
    pick : (can_take vs t j i ≡ true) ⊎ (can_take vs t j i ≡ false) → (can_take vs t j i ≡ true) ⊎ (can_take vs t j i ≡ true → ⊥)
    pick (inl e) = inl e
    pick (inr e) = inr (λ h. true≢false (sym h ∙ e))

-- ---- a column always finds its row
module _ (vs : List ℕ) (u : Tableau) (d : IsDual u) (names : NamesBasics vs u) where
  apart : (k n : ℕ) → k < n → n < length vs → variable_at vs k ≡ variable_at vs n → ⊥
  apart k n h l e = absurd (let m = names.ascending k n h l in omega arith)

  pub finds_row : (m w n : ℕ) (t : Tableau) → IsEntering vs m w n t → HaveSameForms t u → n < length vs → variable_at vs n < w → IsEntryRow vs t (variable_at vs n) (entry_row vs t (variable_at vs n))
  finds_row m w n t e f l c = pick (found_or_none (λ i. can_take vs t (variable_at vs n) i ≡ true) (λ i. passes_or_not vs t (variable_at vs n) i) (height t))
    where
      at_place : standing_at t (variable_at vs n) ≡ variable_at vs n
      at_place = e.waiting (variable_at vs n) c (λ k h. apart k n h l)

      none : ((i : ℕ) → i < height t → can_take vs t (variable_at vs n) i ≡ true → ⊥) → (i : ℕ) → i < height t → (IsBasic u (basic_at t i) → ⊥) → cell t i (variable_at vs n) ≡ whole (pos 0)
      none o i h b = pick (e.owner i (subst (λ k. i < k) e.rows h)) (zero_or_not (cell t i (variable_at vs n)))
        where
          pick : (basic_at t i ≡ w + i) ⊎ HasEntered vs w n (basic_at t i) → (cell t i (variable_at vs n) ≡ whole (pos 0)) ⊎ (cell t i (variable_at vs n) ≡ whole (pos 0) → ⊥)
              → cell t i (variable_at vs n) ≡ whole (pos 0)
          pick q (inl z) = z
          pick (inr q) (inr z) = absurd (b ((names.basics (basic_at t i)).0 (record { at = q.at; within = let p = q.within in omega arith; holds = q.holds.1 })))
          pick (inl q) (inr z) =
              let own : basic_at t i ≡ width t + i = q ∙ ap (λ k. k + i) (sym e.columns) in
              absurd (o i h (can_take_of vs t (variable_at vs n) i
              (record { row = h; own = own; pivot = z; left_out = λ a. b (subst (IsBasic u) (sym own) ((names.basics (width t + i)).0 a)) })))

      pick : Found (λ i. can_take vs t (variable_at vs n) i ≡ true) (height t) ⊎ ((i : ℕ) → i < height t → can_take vs t (variable_at vs n) i ≡ true → ⊥)
          → IsEntryRow vs t (variable_at vs n) (entry_row vs t (variable_at vs n))
      pick (inl p) = entry_row_found vs t (variable_at vs n) p.at (can_take_says vs t (variable_at vs n) p.at p.within p.holds)
      pick (inr o) =
          absurd (some_row t u (variable_at vs n) e.shaped e.placed d.shaped d.placed f (rw e.columns c)
          (subst (IsBasic u) (sym at_place) ((names.basics (variable_at vs n)).0 (record { at = n; within = l; holds = refl }))) (none o))

  -- ---- along the list
  pub record IsUnderWay (m w n : ℕ) (t : Tableau) : Type 0 where
    pub entering : IsEntering vs m w n t
    pub forms : HaveSameForms t u

  pub next_pivot : (m w n : ℕ) (t : Tableau) → IsUnderWay m w n t → n < length vs → IsUnderWay m w (suc n) (entry_pivot vs t (variable_at vs n))
  next_pivot m w n t a l = pick (column_or_slack (variable_at vs n) w)
    where
      pick : (variable_at vs n < w) ⊎ (w ≤ variable_at vs n) → IsUnderWay m w (suc n) (entry_pivot vs t (variable_at vs n))
      pick (inl h) =
          let q = finds_row m w n t a.entering a.forms l h in
          subst (IsUnderWay m w (suc n)) (sym (pivot_column vs t (variable_at vs n) (rw a.entering.columns h)))
          (record {
            entering = entering_column vs m w n t (entry_row vs t (variable_at vs n)) a.entering h (λ k b. apart k n b l) q.enters;
            forms = same_forms-exchange (entry_row vs t (variable_at vs n)) (variable_at vs n) t u a.entering.shaped
                (entering_place vs m w n t (entry_row vs t (variable_at vs n)) a.entering h (λ k b. apart k n b l) q.enters) a.forms;
          })
      pick (inr h) =
          subst (IsUnderWay m w (suc n)) (sym (pivot_slack vs t (variable_at vs n) (rw a.entering.columns h)))
          (record { entering = entering_slack vs m w n t a.entering h; forms = a.forms })

  pub under_way : (t : Tableau) → IsFresh t → HaveSameForms t u → (k : ℕ) → k ≤ length vs → IsUnderWay (height t) (width t) k (entry_after vs t k)
  unfolding entry_after
  under_way t f s zero h = record { entering = entering_start vs t f; forms = s }
  under_way t f s (suc k) h = next_pivot (height t) (width t) k (entry_after vs t k) (under_way t f s k (omega arith)) (omega arith)

  -- ---- the end
  module _ (t : Tableau) (f : IsFresh t) (s : HaveSameForms t u) where
    ended : IsUnderWay (height t) (width t) (length vs) (entry_after vs t (length vs))
    ended = under_way t f s (length vs) (omega arith)

    -- each variable of the list is basic: a column, since it entered, and a slack, since its row was not used
    basic_there : (v : ℕ) → IsBasic u v → IsBasic (entry_after vs t (length vs)) v
    basic_there v b = pick ((names.basics v).1 b) (column_or_slack v (width t))
      where
        low : v < height t + width t
        low = let l = d.placed.low_rows b.row b.within in let e = b.is in let p = s.rows in let q = s.columns in omega arith

        pick : IsAmong vs v → (v < width t) ⊎ (width t ≤ v) → IsBasic (entry_after vs t (length vs)) v
        pick a (inl h) = subst (IsBasic (entry_after vs t (length vs))) a.holds (ended.entering.inside a.at a.within (let e = a.holds in omega arith))
        pick a (inr h) =
            let e : width t + (v - width t) ≡ v = omega arith in
            record {
              row = v - width t;
              within = subst (λ m. v - width t < m) (sym ended.entering.rows) (let l = low in omega arith);
              is = ended.entering.kept (v - width t) (let l = low in omega arith) (subst (IsAmong vs) (sym e) a) ∙ e;
            }

    pub entry_basics : HaveSameBasics (entry vs t) u
    unfolding entry
    entry_basics = record {
      there = no_more_basics (entry_after vs t (length vs)) u ended.entering.shaped ended.entering.placed d.shaped d.placed ended.forms basic_there;
      back = basic_there;
    }

    pub entry_forms : HaveSameForms (entry vs t) u
    unfolding entry
    entry_forms = ended.forms

    pub entry_entering : IsEntering vs (height t) (width t) (length vs) (entry vs t)
    unfolding entry
    entry_entering = ended.entering

    pub entry_dual : IsDual (entry vs t)
    entry_dual = dual_by_forms (entry vs t) u entry_entering.shaped entry_entering.placed d entry_forms entry_basics

    pub entry_names : NamesBasics vs (entry vs t)
    entry_names = record {
      ascending = names.ascending;
      basics = λ v. (λ a. entry_basics.back v ((names.basics v).0 a), λ b. (names.basics v).1 (entry_basics.there v b));
    }

    -- what each exchange keeps, the entry keeps
    module _ (P : Tableau → Type 0) (keeps : (r j : ℕ) (a : Tableau) → IsShaped a → IsPlace a r j → P a → P (exchange r j a)) where
      pivot_keeps : (n : ℕ) (a : Tableau) → IsUnderWay (height t) (width t) n a → n < length vs → P a → P (entry_pivot vs a (variable_at vs n))
      pivot_keeps n a e l p = pick (column_or_slack (variable_at vs n) (width t))
        where
          pick : (variable_at vs n < width t) ⊎ (width t ≤ variable_at vs n) → P (entry_pivot vs a (variable_at vs n))
          pick (inl h) =
              let q = finds_row (height t) (width t) n a e.entering e.forms l h in
              subst P (sym (pivot_column vs a (variable_at vs n) (rw e.entering.columns h)))
              (keeps (entry_row vs a (variable_at vs n)) (variable_at vs n) a e.entering.shaped
              (entering_place vs (height t) (width t) n a (entry_row vs a (variable_at vs n)) e.entering h (λ k b. apart k n b l) q.enters) p)
          pick (inr h) = subst P (sym (pivot_slack vs a (variable_at vs n) (rw e.entering.columns h))) p

      keeps_after : P t → (k : ℕ) → k ≤ length vs → P (entry_after vs t k)
      unfolding entry_after
      keeps_after p zero h = p
      keeps_after p (suc k) h = pivot_keeps k (entry_after vs t k) (under_way t f s k (omega arith)) (omega arith) (keeps_after p k (omega arith))

      pub entry_keeps : P t → P (entry vs t)
      unfolding entry
      entry_keeps p = keeps_after p (length vs) (omega arith)

    pub entry_stands : (rows : List Row) (goal : List ℚ) → StandsForRows t rows goal → StandsForRows (entry vs t) rows goal
    entry_stands rows goal = entry_keeps (λ a. StandsForRows a rows goal) (λ r j a h p k. rows_stand-exchange r j a rows goal h p k)

-- each pivot of a column has its place
pub ready_place : (vs : List ℕ) (t : Tableau) → IsReady vs t → (k : ℕ) → k < length vs → variable_at vs k < width (entry_after vs t k)
    → IsPlace (entry_after vs t k) (entry_row vs (entry_after vs t k) (variable_at vs k)) (variable_at vs k)
ready_place vs t a k h l =
    let q = under_way vs a.table a.dual a.names t a.fresh a.forms k (omega arith) in
    let e = q.entering.columns in
    let r = (finds_row vs a.table a.dual a.names (height t) (width t) k (entry_after vs t k) q.entering q.forms h (omega arith)).enters in
    record { row = r.row; place = l; pivot = r.pivot }

-- no variable changes the number of rows or of places
pub ready_rows : (vs : List ℕ) (t : Tableau) → IsReady vs t → (k : ℕ) → k ≤ length vs → (height (entry_after vs t k) ≡ height t) × (width (entry_after vs t k) ≡ width t)
ready_rows vs t a k h = let q = under_way vs a.table a.dual a.names t a.fresh a.forms k h in (q.entering.rows, q.entering.columns)
