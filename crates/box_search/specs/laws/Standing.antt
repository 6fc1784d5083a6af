-- Along the steps of the dual simplex method a tableau keeps its sizes.
use Rattle.std.proofs.Common.{◌≡◌, ℕ, zero, suc, refl, sym, ◌∙◌, subst}
use Rattle.simplex_theory.specs.Tableau.{Tableau, height, width}
use Rattle.simplex_theory.proofs.Tableau.{height-exchange, width-exchange}
use Rattle.simplex_theory.specs.BlandRule.{Move, optimal, infeasible, pivoted, move, made}
use Rattle.simplex_theory.specs.StepCounts.{after}
use Rattle.simplex_theory.proofs.StepCounts.{next_is}

made_height : (t : Tableau) (m : Move) → height (made m t) ≡ height t
made_height t optimal = refl
made_height t (infeasible r) = refl
made_height t (pivoted r j) = height-exchange r j t

made_width : (t : Tableau) (m : Move) → width (made m t) ≡ width t
made_width t optimal = refl
made_width t (infeasible r) = refl
made_width t (pivoted r j) = width-exchange r j t

pub height-after : (t : Tableau) (k : ℕ) → height (after t k) ≡ height t
unfolding after
height-after t zero = refl
height-after t (suc k) = subst (λ u. height u ≡ height t) (sym (next_is (after t k))) (made_height (after t k) (move (after t k)) ∙ height-after t k)

pub width-after : (t : Tableau) (k : ℕ) → width (after t k) ≡ width t
unfolding after
width-after t zero = refl
width-after t (suc k) = subst (λ u. width u ≡ width t) (sym (next_is (after t k))) (made_width (after t k) (move (after t k)) ∙ width-after t k)
