use Rattle.std.proofs.Common.{◌≡◌, ℕ, List, ◌+◌, ◌<◌, ◌≤◌, length, refl, sym, ◌∙◌, ap, subst, arith}
use Rattle.simplex_theory.specs.Tableau.{Tableau, IsPlace, height, width}
use Rattle.narrow_fraction.specs.Attempt.{attempt}
use Rattle.narrow_fraction.proofs.Attempt.{attempt_ok, attempt_err}
use Rattle.entry_theory.specs.Entry as rule
use Rattle.entry_theory.proofs.Entered.{ready_place, ready_rows}
use Rattle.entry_theory.specs.Ready.{IsReady}
use Rattle.program_builder.specs.Remembering.{HaveRoom}
use Rattle.program_builder.proofs.WrittenBounds.{notes_none, notes_next, notes_all}
use Rattle.fraction_tableau.specs.NamedTableaus.{NamedTableau}
use Rattle.program_builder.proofs.EntryPivots.{pivoted, pivoted_none, pivoted_next, pivoted_all, all_passed, first_refused, passed_next}
use Rattle.program_builder.proofs.entry_pivots.enter_columns.Goals as goal

pub loop-pivots-init : goal.loop-pivots-init
loop-pivots-init c = record {
  table = pivoted_none c.args.basis.now c.args.tableau.now;
  notes = notes_none c.args.basis.now c.args.tableau.now.table c.args.notes.now;
  room = c.requires.room;
  passed = refl;
}

-- no pivot changes the number of rows
same_height : (vs : List ℕ) (s t : NamedTableau) (k : ℕ) → IsReady vs s.table → k ≤ length vs → t ≡ pivoted vs s k → height s.table ≡ height t.table
same_height vs s t k r h e = sym ((ready_rows vs s.table r k h).0) ∙ sym (ap (λ (x : NamedTableau). height x.table) e)

pub enter_variable-requires-clause-room : goal.enter_variable-requires-clause-room
enter_variable-requires-clause-room c =
    subst (λ n. HaveRoom c.loop-pivots.notes (n + 1)) (same_height c.args.basis.now c.args.tableau.now c.loop-pivots.tableau c.loop-pivots.pivots c.requires.ready
    (omega arith) c.loop-pivots.invariant.table) c.loop-pivots.invariant.room

pub enter_variable-requires-clause-place : goal.enter_variable-requires-clause-place
enter_variable-requires-clause-place c =
    let vs = c.args.basis.now in
    let k = c.loop-pivots.pivots in
    let h : c.loop-pivots.pivots < length c.args.basis.now = omega arith in
    subst (λ (t : Tableau). rule.variable_at c.args.basis.now c.loop-pivots.pivots < width t
    → IsPlace t (rule.entry_row c.args.basis.now t (rule.variable_at c.args.basis.now c.loop-pivots.pivots)) (rule.variable_at c.args.basis.now c.loop-pivots.pivots))
    (sym (ap (λ (x : NamedTableau). x.table) c.loop-pivots.invariant.table)) (ready_place vs c.args.tableau.now.table c.requires.ready k h)

pub returns-in-Err-clause-outcome : goal.returns-in-Err-clause-outcome
returns-in-Err-clause-outcome c =
    let h : c.loop-pivots.pivots < length c.args.basis.now = omega arith in
    sym (ap (λ o. attempt o tt) (first_refused c.args.basis.now c.args.tableau.now c.loop-pivots.tableau c.loop-pivots.pivots c.in-Err.wide
    c.loop-pivots.invariant.table c.loop-pivots.invariant.passed (attempt_err _ _ _ c.in-Err.ensures.outcome) h))

pub loop-pivots-preserved : goal.loop-pivots-preserved
loop-pivots-preserved c = record {
  table = pivoted_next c.args.basis.now c.args.tableau.now c.loop-pivots.tableau c.enter_variable.new.tableau c.loop-pivots.pivots c.loop-pivots.invariant.table c.in_default.ensures.pivoted;
  notes = notes_next c.args.basis.now c.args.tableau.now.table c.loop-pivots.tableau.table c.loop-pivots.pivots c.loop-pivots.notes c.enter_variable.new.notes
      (ap (λ (x : NamedTableau). x.table) c.loop-pivots.invariant.table) (omega arith) c.loop-pivots.invariant.notes c.in_default.ensures.others c.in_default.ensures.noted;
  room = subst (λ n. HaveRoom c.enter_variable.new.notes (n + 1))
      (sym (same_height c.args.basis.now c.args.tableau.now c.loop-pivots.tableau c.loop-pivots.pivots c.requires.ready (omega arith) c.loop-pivots.invariant.table)) c.in_default.ensures.room;
  passed = passed_next c.args.basis.now c.args.tableau.now c.loop-pivots.tableau c.loop-pivots.pivots c.loop-pivots.invariant.table c.loop-pivots.invariant.passed
      (attempt_ok _ _ _ c.in_default.ensures.outcome).0;
}

pub returns-clause-outcome : goal.returns-clause-outcome
returns-clause-outcome c =
    let e : c.loop-pivots.pivots ≡ length c.args.basis.now = omega arith in
    sym (ap (λ o. attempt o tt) (all_passed c.args.basis.now c.args.tableau.now.table c.loop-pivots.pivots e c.loop-pivots.invariant.passed))

pub returns-clause-entered : goal.returns-clause-entered
returns-clause-entered c =
    let e : c.loop-pivots.pivots ≡ length c.args.basis.now = omega arith in
    c.loop-pivots.invariant.table ∙ pivoted_all c.args.basis.now c.args.tableau.now c.loop-pivots.pivots e

pub returns-in-Err-clause-room : goal.returns-in-Err-clause-room
returns-in-Err-clause-room c =
    subst (λ n. HaveRoom c.enter_variable.new.notes (n + 1))
    (sym (same_height c.args.basis.now c.args.tableau.now c.loop-pivots.tableau c.loop-pivots.pivots c.requires.ready (omega arith) c.loop-pivots.invariant.table)) c.in-Err.ensures.room

pub returns-clause-noted : goal.returns-clause-noted
returns-clause-noted c =
    let e : c.loop-pivots.pivots ≡ length c.args.basis.now = omega arith in
    notes_all c.args.basis.now c.args.tableau.now.table c.loop-pivots.pivots c.loop-pivots.notes e c.loop-pivots.invariant.notes
