use Rattle.std.proofs.Common.{◌≡◌, ℕ, None, List, [], length, get_or, set, refl, sym, ◌∙◌, ap, arith}
use Rattle.std.proofs.Math.ListN.{length-set}
use Rattle.std.proofs.lemmas.List.{get_or_default, get_or-set_same, get_or-set_other}
use Rattle.rational_theory.specs.Rational.{ℚ, inverse_ℚ}
use Rattle.simplex_theory.specs.Lines.{divided}
use Rattle.simplex_theory.proofs.Lines.{divided_at}
use Rattle.narrow_fraction.specs.Attempt.{attempt}
use Rattle.narrow_fraction.proofs.Attempt.{attempt_ok, attempt_err}
use Rattle.fraction_tableau.specs.Refusals.{divide_refusal}
use Rattle.fraction_tableau.specs.RowChanges.{IsPivoted}
use Rattle.fraction_tableau.specs.KeptCells.{number_in}
use Rattle.fraction_tableau.proofs.Pivots.{pivot_first, pivot_second, pivot_third, rows_done}
use Rattle.std.proofs.lemmas.Grind.{common_steps}
use Rattle.fraction_tableau.proofs.exchanging.exchange_cells.Goals as goal
use Rattle.fraction_tableau.proofs.exchanging.exchange_cells.Goals.{In_default}

-- the pivot's row is divided, and nothing was refused on the way
record IsDivided (row place : ℕ) (rows : List (List ℚ)) (pivot : ℚ) (now : List ℚ) : Type 0 where
  cell : pivot ≡ number_in (get_or rows row []) place
  held : now ≡ divided place (get_or rows row [])
  passed : divide_refusal row place (get_or rows row []) ≡ None
  own : number_in now place ≡ inverse_ℚ pivot

dividing : (c : In_default) → IsDivided c.args.at.row c.args.at.col c.args.sparse_rows.now c.cell.result c.divide.new.self
dividing c =
    let row = get_or_default c.args.sparse_rows.now c.args.at.row c.index-sparse_rows-row.result [] c.requires.inside in
    let again = get_or_default c.args.sparse_rows.now c.args.at.row c.index-sparse_rows-row-2.result [] c.requires.inside in
    let wide = c.requires.widths c.args.at.row c.requires.inside in
    let p : c.cell.result ≡ number_in (get_or c.args.sparse_rows.now c.args.at.row []) c.args.at.col = c.cell.ensures ∙ ap (λ (t : List ℚ). number_in t c.args.at.col) row in
    let held : c.divide.new.self ≡ divided c.args.at.col (get_or c.args.sparse_rows.now c.args.at.row []) = c.in_default.ensures.divided ∙ ap (divided c.args.at.col) again in
    record {
      cell = p;
      held = held;
      passed = ap (divide_refusal c.args.at.row c.args.at.col) (sym again) ∙ (attempt_ok _ _ _ c.in_default.ensures.outcome).0;
      own = ap (λ (u : List ℚ). number_in u c.args.at.col) held ∙ divided_at c.args.at.col (get_or c.args.sparse_rows.now c.args.at.row []) (omega (arith, wide, c.requires.place))
          ∙ ap inverse_ℚ (sym p);
    }

pivoted : (c : In_default) → IsPivoted c.divide.new.self c.args.at.col c.cell.result
pivoted c =
    let t = dividing c in
    let wide = c.in_default.ensures.width in
    record {
      place = omega (arith, wide, c.requires.held, c.requires.place);
      some = λ z. c.requires.pivot (sym t.cell ∙ z);
      own = t.own;
      short = omega (arith, wide, c.requires.held, c.requires.short);
    }

pub returns-in-Err-clause-outcome : goal.returns-in-Err-clause-outcome
returns-in-Err-clause-outcome c =
    let again = get_or_default c.args.sparse_rows.now c.args.at.row c.index-sparse_rows-row-2.result [] c.requires.inside in
    sym (ap (λ o. attempt o tt) (pivot_first c.args.at.row c.args.at.col c.args.sparse_rows.now c.args.goal.now c.in-Err.wide
    (ap (divide_refusal c.args.at.row c.args.at.col) (sym again) ∙ attempt_err _ _ _ c.in-Err.ensures.outcome)))

pub clear_goal-requires-clause-pivot : goal.clear_goal-requires-clause-pivot
clear_goal-requires-clause-pivot c = pivoted (goal.at.clear_goal-requires-clause-pivot c).In_default

pub returns-in-Err-clear_goal-clause-outcome : goal.returns-in-Err-clear_goal-clause-outcome
returns-in-Err-clear_goal-clause-outcome c =
    let t = dividing (goal.at.returns-in-Err-clear_goal-clause-outcome c).In_default in
    sym (ap (λ o. attempt o tt) (pivot_second _ _ _ _ _ _ _ _ _ t.held t.cell t.passed refl refl (attempt_err _ _ _ c.in-Err-clear_goal.ensures.cleared.outcome)))

pub clear_others-requires-clause-pivot : goal.clear_others-requires-clause-pivot
clear_others-requires-clause-pivot c = pivoted (goal.at.clear_others-requires-clause-pivot c).In_default

pub returns-in-Err-clear_others-clause-outcome : goal.returns-in-Err-clear_others-clause-outcome
returns-in-Err-clear_others-clause-outcome c =
    let t = dividing (goal.at.returns-in-Err-clear_others-clause-outcome c).In_default in
    let q = (attempt_ok _ _ _ c.in_default-clear_goal.ensures.cleared.outcome).0 in
    sym (ap (λ o. attempt o tt) (pivot_third c.args.at.row c.args.at.col c.args.sparse_rows.now c.args.goal.now c.divide.new.self c.cell.result t.held t.cell t.passed q
    ∙ attempt_err _ _ _ c.in-Err-clear_others.ensures.outcome))

pub returns-in-Err-clear_others-clause-kept : goal.returns-in-Err-clear_others-clause-kept
returns-in-Err-clear_others-clause-kept c = grind (arith, common_steps)

pub returns-clause-outcome : goal.returns-clause-outcome
returns-clause-outcome c =
    let t = dividing (goal.at.returns-clause-outcome c).In_default in
    let q = (attempt_ok _ _ _ c.in_default-clear_goal.ensures.cleared.outcome).0 in
    sym (ap (λ o. attempt o tt) (pivot_third c.args.at.row c.args.at.col c.args.sparse_rows.now c.args.goal.now c.divide.new.self c.cell.result t.held t.cell t.passed q
    ∙ (attempt_ok _ _ _ c.in_default-clear_others.ensures.outcome).0))

pub returns-clause-rows : goal.returns-clause-rows
returns-clause-rows c =
    let t = dividing (goal.at.returns-clause-rows c).In_default in
    let now : List (List ℚ) = c.clear_others.new.sparse_rows in
    let many : length now ≡ length c.args.sparse_rows.now = c.clear_others.auto.sparse_rows in
    ap (set now c.args.at.row) c.swap.ensures.x_after
    ∙ rows_done c.args.at.row c.args.at.col c.args.sparse_rows.now (set now c.args.at.row c.divide.new.self) c.divide.new.self t.held c.requires.inside
    (length-set now c.args.at.row c.divide.new.self ∙ many)
    (get_or-set_same now c.args.at.row c.divide.new.self [] (omega (arith, c.requires.inside, many)))
    (λ k l n. get_or-set_other now c.args.at.row k c.divide.new.self [] n ∙ c.in_default-clear_others.ensures.cleared k l n)

pub cell-requires : goal.cell-requires
cell-requires c = grind (arith, common_steps)

pub divide-requires : goal.divide-requires
divide-requires c = grind (arith, common_steps)

pub returns-clause-kept : goal.returns-clause-kept
returns-clause-kept c = grind (arith, common_steps)

pub clear_others-requires-clause-room : goal.clear_others-requires-clause-room
clear_others-requires-clause-room c = grind (arith, common_steps)

pub returns-clause-held : goal.returns-clause-held
returns-clause-held c = grind (arith, common_steps)

pub returns-clause-goal_row : goal.returns-clause-goal_row
returns-clause-goal_row c = grind (arith, common_steps)

pub clear_others-requires-clause-widths : goal.clear_others-requires-clause-widths
clear_others-requires-clause-widths c = grind (arith, common_steps)
