-- What an ending says of the last tableau and its vertex, and the other way round.
use Rattle.std.proofs.Common.{◌≡◌, ℕ, false, true≢false, refl, sym, ◌∙◌, ap, subst}
use Rattle.search_box.specs.declared.span.At.{At}
use Rattle.simplex_theory.specs.BlandRule.{Move, optimal, infeasible, pivoted}
use Rattle.simplex_theory.specs.StepCounts.{is_pivot}
use Rattle.branch_and_bound.specs.Lines.{BoxLine}
use Rattle.branch_and_bound.specs.Lineages.{Ending, NoEnd, Empty, Cuts, IsOptimal}
use Rattle.box_search.specs.Program.{Program, Outcome, Refused, Splits, Gives}
use Rattle.box_search.specs.Ends.{end_move, end_point, ending_by_outcome, ending_by, ending_of}

-- the row of an infeasible end
pub record HasRowAtEnd {T W : Type 0} (p : Program T W) (line : BoxLine) : Type 0 where
  pub row : ℕ
  pub is : end_move p line ≡ infeasible row

module _ {T W : Type 0} where
  -- ---- outcomes
  only_cuts : (o : Outcome T W) (place : At) → ending_by_outcome o ≡ Cuts place → o ≡ Splits place
  only_cuts (Refused wide) place e = cc
  only_cuts (Splits other) place e = let f : other ≡ place = cc in ap Splits f
  only_cuts (Gives timing) place e = cc

  outcome_not_empty : (o : Outcome T W) → ending_by_outcome o ≡ Empty → ⊥
  outcome_not_empty (Refused wide) e = cc
  outcome_not_empty (Splits place) e = cc
  outcome_not_empty (Gives timing) e = cc

  outcome_ends : (o : Outcome T W) → ending_by_outcome o ≡ NoEnd → ⊥
  outcome_ends (Refused wide) e = cc
  outcome_ends (Splits place) e = cc
  outcome_ends (Gives timing) e = cc

module _ {T W : Type 0} (p : Program T W) (line : BoxLine) where
  -- ---- from the last tableau and the vertex
  pub ends_by_outcome : (o : Outcome T W) → end_move p line ≡ optimal → p.outcome line.area (end_point p line) ≡ o → ending_of p line ≡ ending_by_outcome o
  unfolding ending_of
  ends_by_outcome o e f = ap (ending_by p line) e ∙ ap ending_by_outcome f

  -- ---- and back
  pub optimal_from : IsOptimal (ending_of p line) → end_move p line ≡ optimal
  unfolding ending_of
  optimal_from h = pick (end_move p line) h
    where
      pick : (m : Move) → IsOptimal (ending_by p line m) → m ≡ optimal
      pick optimal h = refl
      pick (infeasible r) h = absurd h
      pick (pivoted r j) h = absurd h

  outcome_is : (e : Ending) → IsOptimal e → ending_of p line ≡ e → ending_by_outcome (p.outcome line.area (end_point p line)) ≡ e
  outcome_is e o f = sym (ends_by_outcome (p.outcome line.area (end_point p line)) (optimal_from (subst IsOptimal (sym f) o)) refl) ∙ f

  pub cuts_from : (place : At) → ending_of p line ≡ Cuts place → p.outcome line.area (end_point p line) ≡ Splits place
  cuts_from place e = only_cuts (p.outcome line.area (end_point p line)) place (outcome_is (Cuts place) tt e)

  pub empty_from : ending_of p line ≡ Empty → HasRowAtEnd p line
  unfolding ending_of
  empty_from e = pick (end_move p line) refl e
    where
      pick : (m : Move) → end_move p line ≡ m → ending_by p line m ≡ Empty → HasRowAtEnd p line
      pick optimal f e = absurd (outcome_not_empty (p.outcome line.area (end_point p line)) e)
      pick (infeasible r) f e = record { row = r; is = f }
      pick (pivoted r j) f e = cc

  -- where the last tableau is an end, the ending is one
  pub ends_somehow : is_pivot (end_move p line) ≡ false → ending_of p line ≡ NoEnd → ⊥
  unfolding ending_of
  ends_somehow h e = pick (end_move p line) h e
    where
      pick : (m : Move) → is_pivot m ≡ false → ending_by p line m ≡ NoEnd → ⊥
      pick optimal h e = outcome_ends (p.outcome line.area (end_point p line)) e
      pick (infeasible r) h e = cc
      pick (pivoted r j) h e = true≢false h
