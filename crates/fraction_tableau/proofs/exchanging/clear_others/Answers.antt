use Rattle.std.proofs.Common.{◌≡◌, ℕ, List, [], length, get_or, refl, sym, ◌∙◌, ap, ◌+◌, ◌<◌, ◌≤◌, arith}
use Rattle.std.proofs.lemmas.List.{get_or_default}
use Rattle.rational_theory.specs.Rational.{ℚ}
use Rattle.narrow_fraction.specs.Attempt.{attempt}
use Rattle.narrow_fraction.proofs.Attempt.{attempt_ok, attempt_err}
use Rattle.fraction_tableau.specs.KeptCells.{number_in}
use Rattle.fraction_tableau.specs.Columns.{AreNoted}
use Rattle.fraction_tableau.proofs.Noted.{noted_none, noted_next}
use Rattle.fraction_tableau.proofs.Others.{others_none, others_idle, others_next, others_stay, others_stop}
use Rattle.std.proofs.lemmas.Grind.{common_steps}
use Rattle.fraction_tableau.proofs.exchanging.clear_others.Goals as goal
use Rattle.fraction_tableau.proofs.exchanging.clear_others.Goals.{After-is_zero}

-- the factor is the row's number at the pivot's place
factor_is : (c : After-is_zero) → c.held-factor.result ≡ number_in (get_or c.loop-index.sparse_rows c.loop-index.index []) c.args.pivot.now.place
factor_is c =
    let inside : c.loop-index.index < length c.loop-index.sparse_rows = omega arith in
    c.held-factor.ensures ∙ ap (λ (t : List ℚ). number_in t c.args.pivot.now.place) (get_or_default c.loop-index.sparse_rows c.loop-index.index c.index-sparse_rows-index.result [] inside)

-- one row more is noted
noted : (c : After-is_zero) → AreNoted c.args.sparse_rows.now c.args.pivot.now.place (c.loop-index.index + 1) c.note.new.column
noted c =
    noted_next _ _ _ _ _ _ c.loop-index.invariant.noted c.note.auto.column c.note.ensures.noted c.note.ensures.others
    (factor_is c ∙ ap (λ (t : List ℚ). number_in t c.args.pivot.now.place) (c.loop-index.invariant.others.rest c.loop-index.index (omega arith)))

later : (c : After-is_zero) (k : ℕ) → length c.args.sparse_rows.now ≤ k → number_in c.note.new.column k ≡ number_in c.args.column.now k
later c k h =
    let n = c.loop-index.invariant.others.count in
    c.note.ensures.others k (λ e. absurd (omega arith)) ∙ c.loop-index.invariant.later k h

pub loop-index-init : goal.loop-index-init
loop-index-init c = record { others = others_none _ _ _ _ _ c.requires.narrow; room = refl; noted = noted_none _ _ _; later = λ k h. refl }

pub returns-in-Err-clause-outcome : goal.returns-in-Err-clause-outcome
returns-in-Err-clause-outcome c =
    let now = others_stay _ _ _ _ _ _ _ _ (c.clear_whole.ensures.stays c.if-clear_whole.false) c.loop-index.invariant.others in
    sym (ap (λ o. attempt o tt) (others_stop _ _ _ _ _ _ _ _ now (omega arith) (attempt_err _ _ _ c.in-Err.ensures.outcome)))

pub loop-index-preserved : goal.loop-index-preserved
loop-index-preserved c =
    let now = others_stay _ _ _ _ _ _ _ _ (c.clear_whole.ensures.stays c.if-clear_whole.false) c.loop-index.invariant.others in
    record {
      others = others_next _ _ _ _ _ _ _ _ now (omega arith) (attempt_ok _ _ _ c.in_default.ensures.outcome).0 c.clear_one.ensures.kept c.in_default.ensures.cleared c.clear_one.ensures.narrow;
      room = c.clear_one.ensures.room ∙ c.clear_whole.ensures.room ∙ c.loop-index.invariant.room;
      noted = noted (goal.at.loop-index-preserved c).After-is_zero;
      later = later (goal.at.loop-index-preserved c).After-is_zero;
    }

pub loop-index-preserved-then-clear_whole : goal.loop-index-preserved-then-clear_whole
loop-index-preserved-then-clear_whole c = record {
  others = others_next _ _ _ _ _ _ _ _ c.loop-index.invariant.others (omega arith) (c.clear_whole.ensures.passed c.if-clear_whole.true) c.clear_whole.ensures.kept
      (c.clear_whole.ensures.cleared c.if-clear_whole.true) c.clear_whole.ensures.narrow;
  room = c.clear_whole.ensures.room ∙ c.loop-index.invariant.room;
  noted = noted (goal.at.loop-index-preserved-then-clear_whole c).After-is_zero;
  later = later (goal.at.loop-index-preserved-then-clear_whole c).After-is_zero;
}

pub loop-index-preserved-then-is_zero : goal.loop-index-preserved-then-is_zero
loop-index-preserved-then-is_zero c =
    let o = c.loop-index.invariant.others in
    let w = (goal.at.loop-index-preserved-then-is_zero c).After-is_zero in
    let wide = o.widths c.loop-index.index ∙ c.requires.widths c.loop-index.index (omega (arith, o.count)) in
    record {
      others = others_idle _ _ _ _ _ _ _ o (omega (arith, o.count)) wide (omega (arith, c.requires.pivot.place)) (sym (factor_is w) ∙ c.is_zero.ensures.0 c.if-is_zero.true);
      room = c.loop-index.invariant.room;
      noted = noted w;
      later = later w;
    }

pub clear_whole-requires : goal.clear_whole-requires
clear_whole-requires c = grind (arith, common_steps)
