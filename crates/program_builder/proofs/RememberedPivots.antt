-- Along the pivots of a remembered entry, on the bounds of another tableau.
use Rattle.std.proofs.Common.{◌≡◌, ℕ, pos, None, List, length, add-one, ◌+◌, ◌<◌, ◌≤◌, refl, sym, ◌∙◌, ap, subst, arith}
use Rattle.std.specs.Prelude.{slice_index_or}
use Rattle.rational_theory.specs.Rational.{ℚ, whole}
use Rattle.simplex_theory.specs.Tableau.{Tableau, height, width, goal_bound, bound, IsPlace, exchange}
use Rattle.narrow_fraction.specs.Attempt.{first_below}
use Rattle.narrow_fraction.proofs.Attempt.{none_each, first_next}
use Rattle.fraction_tableau.specs.Narrow.{IsNarrow}
use Rattle.fraction_tableau.specs.KeptCells.{number_in}
use Rattle.fraction_tableau.specs.NamedTableaus.{NamedTableau}
use Rattle.fraction_tableau.specs.Refusals.{pivot_refusal}
use Rattle.entry_theory.specs.Entry.{variable_at, entry_row, entry_after, entry}
use Rattle.entry_theory.specs.Ready.{IsReady}
use Rattle.entry_theory.specs.SameCells.{HaveSameCells}
use Rattle.entry_theory.proofs.Rows.{pivot_column, pivot_slack}
use Rattle.entry_theory.proofs.Entered.{ready_place, ready_rows}
use Rattle.entry_theory.proofs.SameCells.{ready_shaped, same_row, same_after, same_all}
use Rattle.program_builder.specs.EntryRefusals.{refusal_at, entry_refusal}
use Rattle.program_builder.proofs.EntryRefusals.{refusal_column, refusal_slack}
use Rattle.program_builder.proofs.EntryPivots.{all_passed}
use Rattle.program_builder.specs.Remembering.{AreBoundsOf, ArePivoted, IsNoteOf, IsRemembered, HasBounds, IsEntryOf}
use Rattle.program_builder.specs.declared.noting.NotedPivot.{NotedPivot}
use Rattle.program_builder.proofs.BoundPivots.{pivot_none, bounds_pivoted, number_row, number_goal}

-- the bounds after so many pivots, none of which is refused
pub record AreBoundsAfter (vs : List ℕ) (u : Tableau) (k : ℕ) (list : List ℚ) : Type 0 where
  pub passed : first_below (refusal_at vs u) k ≡ None
  pub bounds : AreBoundsOf (entry_after vs u k) list
  pub narrow : IsNarrow list

pub no_pivots : (vs : List ℕ) (u : Tableau) (bounds : List ℚ) → AreBoundsOf u bounds → IsNarrow bounds → AreBoundsAfter vs u 0 bounds
unfolding entry_after
no_pivots vs u bounds b n = record { passed = refl; bounds = b; narrow = n }

pub all_pivots : (vs : List ℕ) (u : Tableau) (k : ℕ) (bounds : List ℚ) → k ≡ length vs → AreBoundsAfter vs u k bounds → (entry_refusal vs u ≡ None) × AreBoundsOf (entry vs u) bounds
unfolding entry
all_pivots vs u k bounds e a = (all_passed vs u k e a.passed, subst (λ n. AreBoundsOf (entry_after vs u n) bounds) e a.bounds)

-- a slack changes nothing
pub slack_next : (vs : List ℕ) (u : Tableau) (k : ℕ) (bounds : List ℚ) → IsReady vs u → k < length vs → width u ≤ variable_at vs k → AreBoundsAfter vs u k bounds → AreBoundsAfter vs u (k + 1) bounds
unfolding entry_after
slack_next vs u k bounds r h l a =
    let w : width (entry_after vs u k) ≤ variable_at vs k = let e = (ready_rows vs u r k (omega arith)).1 in omega arith in
    record {
      passed = first_next (refusal_at vs u) k a.passed (refusal_slack vs (entry_after vs u k) (variable_at vs k) w);
      bounds = subst (λ n. AreBoundsOf (entry_after vs u n) bounds) (sym (add-one k))
          (subst (λ (t : Tableau). AreBoundsOf t bounds) (sym (pivot_slack vs (entry_after vs u k) (variable_at vs k) w)) a.bounds);
      narrow = a.narrow;
    }

-- ---- the pivot of a column
module _ (vs : List ℕ) (pivots : List NotedPivot) (u : Tableau) (m : IsRemembered vs pivots u) (ready : IsReady vs u) (k : ℕ) (d : NotedPivot) (h : k < length vs)
    (o : k < length pivots) (l : variable_at vs k < width u) where
  same_here : HaveSameCells (entry_after vs m.table k) (entry_after vs u k)
  same_here = same_after vs m.table u m.ready ready m.cells k (omega arith)

  column_here : variable_at vs k < width (entry_after vs u k)
  column_here = let e = (ready_rows vs u ready k (omega arith)).1 in omega arith

  column_there : variable_at vs k < width (entry_after vs m.table k)
  column_there = let e = ap length same_here.standing in let f = column_here in omega arith

  place_there : IsPlace (entry_after vs m.table k) (entry_row vs (entry_after vs m.table k) (variable_at vs k)) (variable_at vs k)
  place_there = ready_place vs m.table m.ready k h column_there

  note_there : IsNoteOf (entry_after vs m.table k) (entry_row vs (entry_after vs m.table k) (variable_at vs k)) (variable_at vs k) (slice_index_or pivots k d)
  note_there = m.notes k d h o column_there

  pub note_row : (slice_index_or pivots k d).row < height (entry_after vs u k)
  note_row = let e = same_here.rows in let f = note_there.row in let p = place_there.row in omega arith

  pub note_pivot : number_in (slice_index_or pivots k d).column.items (slice_index_or pivots k d).row ≡ whole (pos 0) → ⊥
  note_pivot z =
      place_there.pivot
      (sym (ap (number_in (slice_index_or pivots k d).column.items) note_there.row
      ∙ note_there.numbers (entry_row vs (entry_after vs m.table k) (variable_at vs k)) (let p = place_there.row in omega arith)
      ∙ number_row (entry_after vs m.table k) (entry_row vs (entry_after vs m.table k) (variable_at vs k)) (variable_at vs k) place_there.row) ∙ z)

  row_here : entry_row vs (entry_after vs m.table k) (variable_at vs k) ≡ entry_row vs (entry_after vs u k) (variable_at vs k)
  row_here = same_row vs (variable_at vs k) (entry_after vs m.table k) (entry_after vs u k) column_there same_here

  passed_there : pivot_refusal (entry_row vs (entry_after vs m.table k) (variable_at vs k)) (variable_at vs k) (entry_after vs m.table k).rows (entry_after vs m.table k).goal ≡ None
  unfolding entry_refusal
  passed_there =
      sym (refusal_column vs (entry_after vs m.table k) (variable_at vs k) column_there) ∙ none_each (refusal_at vs m.table) (length vs) m.passed k h

  pub column_next : (old new : List ℚ) → AreBoundsAfter vs u k old → ArePivoted (slice_index_or pivots k d).row (slice_index_or pivots k d).column.items old new
      → IsNarrow new → AreBoundsAfter vs u (k + 1) new
  unfolding entry_after
  column_next old new a t n =
      let x = subst (λ r. ArePivoted r (slice_index_or pivots k d).column.items old new) note_there.row t in
      let s = ready_shaped vs m.table m.ready k (omega arith) in
      let v = ready_shaped vs u ready k (omega arith) in
      let r = entry_row vs (entry_after vs m.table k) (variable_at vs k) in
      let none = pivot_none (entry_after vs m.table k) (entry_after vs u k) r (variable_at vs k) s v place_there same_here (slice_index_or pivots k d).column.items
      old new note_there.numbers a.bounds x passed_there in
      let after = bounds_pivoted (entry_after vs m.table k) (entry_after vs u k) r (variable_at vs k) s v place_there same_here (slice_index_or pivots k d).column.items
      old new note_there.numbers a.bounds x in
      record {
        passed = first_next (refusal_at vs u) k a.passed
            (refusal_column vs (entry_after vs u k) (variable_at vs k) column_here
            ∙ subst (λ i. pivot_refusal i (variable_at vs k) (entry_after vs u k).rows (entry_after vs u k).goal ≡ None) row_here none);
        bounds =
            subst (λ i. AreBoundsOf (entry_after vs u i) new) (sym (add-one k))
            (subst (λ (t : Tableau). AreBoundsOf t new) (sym (pivot_column vs (entry_after vs u k) (variable_at vs k) column_here))
            (subst (λ i. AreBoundsOf (exchange i (variable_at vs k) (entry_after vs u k)) new) row_here after));
        narrow = n;
      }

-- ---- the kept tableau with the bounds
same_bound : (t u : Tableau) (bounds : List ℚ) (i : ℕ) → height t ≡ height u → AreBoundsOf t bounds → AreBoundsOf u bounds → i < height t → bound t i ≡ bound u i
same_bound t u bounds i e a b h =
    sym (number_row t i (width t) h) ∙ sym (a.bounds i (omega arith)) ∙ b.bounds i (omega arith) ∙ number_row u i (width u) (omega arith)

same_goal_bound : (t u : Tableau) (bounds : List ℚ) → height t ≡ height u → AreBoundsOf t bounds → AreBoundsOf u bounds → goal_bound t ≡ goal_bound u
same_goal_bound t u bounds e a b =
    sym (number_goal t (height t) (width t) refl) ∙ sym (a.bounds (height t) (omega arith)) ∙ b.bounds (height t) (omega arith) ∙ number_goal u (height t) (width u) e

-- it has as many rows
pub entry_height : (vs : List ℕ) (u kept : NamedTableau) → IsEntryOf vs kept u → height kept.table ≡ height u.table
unfolding entry
entry_height vs u kept e = ap (λ (t : NamedTableau). height t.table) e.is ∙ (ready_rows vs e.table e.ready (length vs) (omega arith)).0 ∙ e.cells.rows

pub entered_again : (vs : List ℕ) (u kept written : NamedTableau) (bounds : List ℚ) → IsReady vs u.table → IsEntryOf vs kept u → AreBoundsOf (entry vs u.table) bounds → HasBounds bounds kept written
    → written ≡ record { table = entry vs u.table; names = u.names; spent = u.spent }
unfolding entry
entered_again vs u kept written bounds r e b w = λ x. record {
  table = table_is x;
  names = (w.names ∙ ap (λ (t : NamedTableau). t.names) e.is) x;
  spent =
      (w.spent ∙ ap (λ (t : NamedTableau). t.spent) e.is) x;
}
  where
    cells : HaveSameCells (entry_after vs e.table (length vs)) (entry_after vs u.table (length vs))
    cells = same_after vs e.table u.table e.ready r e.cells (length vs) (omega arith)

    kept_cells : HaveSameCells (entry_after vs e.table (length vs)) written.table
    kept_cells = subst (λ (t : NamedTableau). HaveSameCells t.table written.table) e.is w.cells

    both : HaveSameCells written.table (entry_after vs u.table (length vs))
    both = record {
      rows = sym kept_cells.rows ∙ cells.rows;
      basic = sym kept_cells.basic ∙ cells.basic;
      standing = sym kept_cells.standing ∙ cells.standing;
      cells = λ i k m n. let e = kept_cells.rows in let f = ap length kept_cells.standing in sym (kept_cells.cells i k (omega arith) (omega arith)) ∙ cells.cells i k (omega arith) (omega arith);
      goals = λ k n. let f = ap length kept_cells.standing in sym (kept_cells.goals k (omega arith)) ∙ cells.goals k (omega arith);
    }

    table_is : written.table ≡ entry_after vs u.table (length vs)
    table_is =
        same_all written.table (entry_after vs u.table (length vs)) w.shaped (ready_shaped vs u.table r (length vs) (omega arith)) both
        (λ i h. same_bound written.table (entry_after vs u.table (length vs)) bounds i both.rows w.bounds b h)
        (same_goal_bound written.table (entry_after vs u.table (length vs)) bounds both.rows w.bounds b)
