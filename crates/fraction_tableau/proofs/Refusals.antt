-- Lemmas on the definitions of `Refusals`.
use Rattle.std.proofs.Common.{◌≡◌, ℕ, pos, Some, None, List, length, get_or, ap, ap₂, ◌∙◌, sym}
use Rattle.rational_theory.specs.Rational.{ℚ, whole}
use Rattle.narrow_fraction.specs.Attempt.{earlier, first_below}
use Rattle.narrow_fraction.specs.Past128.{Fits128, Past128}
use Rattle.narrow_fraction.proofs.Past128.{past_none, past_some}
use Rattle.narrow_fraction.specs.declared.wide.Op.{Op}
use Rattle.narrow_fraction.specs.declared.wide.Op.TheVariants.{Div}
use Rattle.narrow_fraction.specs.declared.wide.Wide.{Wide}
use Rattle.fraction_tableau.specs.Refusals.{at_cell, refused, divide_refusal, divide_at}
use Rattle.fraction_tableau.specs.declared.wide_cell.WideCell.{WideCell}

-- ---- from the clauses of an operation
pub refused_none : (op : Op) (x y : ℚ) (i k : ℕ) → Fits128 op x y → refused op x y i k ≡ None
unfolding refused
refused_none op x y i k h = ap (at_cell i k) (past_none op x y h)

pub refused_some : (op : Op) (x y : ℚ) (i k : ℕ) (w : Wide) → (w ≡ record { op = op; left = x; right = y }) × Past128 op x y → refused op x y i k ≡ Some (record { row = i; col = k; wide = w })
unfolding refused
refused_some op x y i k w h = ap (at_cell i k) (past_some op x y h.1) ∙ ap (λ (t : Wide). at_cell i k (Some t)) (sym h.0)

-- ---- the pivot's own row is refused at the reciprocal already
pub divides_first : (i j : ℕ) (o p : ℚ) (c : List ℚ) (w : WideCell) → o ≡ whole (pos 1) → p ≡ get_or c j (whole (pos 0)) → refused Div o p i j ≡ Some w → divide_refusal i j c ≡ Some w
unfolding divide_refusal
divides_first i j o p c w a e f = ap (λ q. earlier q (first_below (divide_at i j c) (length c))) (ap₂ (λ x y. refused Div x y i j) (sym a) (sym e) ∙ f)
