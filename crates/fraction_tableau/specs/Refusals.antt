-- The operations of a pivot in their order, and the first of them that leaves 128 bits.
use Rattle.std.proofs.Common.{ℕ, pos, cond, eqb, Option, Some, None, List, [], map, length, get_or}
use Rattle.std.proofs.Math.ListN.{set}
use Rattle.rational_theory.specs.Rational.{ℚ, whole, ◌*ℚ◌}
use Rattle.simplex_theory.specs.Lines.{divided, cleared}
use Rattle.narrow_fraction.specs.Attempt.{earlier, first_below}
use Rattle.narrow_fraction.specs.Past128.{past_wide}
use Rattle.narrow_fraction.specs.declared.wide.Op.{Op}
use Rattle.narrow_fraction.specs.declared.wide.Op.TheVariants.{Mul, Div, Sub}
use Rattle.narrow_fraction.specs.declared.wide.Wide.{Wide}
use Rattle.fraction_tableau.specs.declared.wide_cell.WideCell.{WideCell}

-- an operation's refusal, at row i and column k
abbrev pub at_cell : ℕ → ℕ → Option Wide → Option WideCell
at_cell i k None = None
at_cell i k (Some w) = Some (record { row = i; col = k; wide = w })

unfoldable pub refused : Op → ℚ → ℚ → ℕ → ℕ → Option WideCell
refused op x y i k = at_cell i k (past_wide op x y)

-- ---- the pivot's own row c, of number i, at place j: first the reciprocal of the pivot p, then each other cell over p
abbrev pub divide_cell_refusal : ℕ → ℕ → ℚ → List ℚ → ℕ → Option WideCell
divide_cell_refusal i j p c k = cond (eqb k j) None (refused Div (get_or c k (whole (pos 0))) p i k)

abbrev pub divide_at : ℕ → ℕ → List ℚ → ℕ → Option WideCell
divide_at i j c k = divide_cell_refusal i j (get_or c j (whole (pos 0))) c k

unfoldable pub divide_refusal : ℕ → ℕ → List ℚ → Option WideCell
divide_refusal i j c = earlier (refused Div (whole (pos 1)) (get_or c j (whole (pos 0))) i j) (first_below (divide_at i j c) (length c))

-- ---- another row d, of number i, by the divided row e and the pivot p: at each place but j the product of the cell at j and
-- the divided row's, and its difference from the own cell; then the cell at j over p
abbrev pub less_refusal : ℕ → ℕ → ℚ → ℚ → ℚ → Option WideCell
less_refusal i k f u x = earlier (refused Mul f u i k) (refused Sub x (f *ℚ u) i k)

abbrev pub clear_cell_refusal : ℕ → ℕ → ℚ → ℚ → List ℚ → ℕ → Option WideCell
clear_cell_refusal i j f u d k = cond (eqb k j) None (less_refusal i k f u (get_or d k (whole (pos 0))))

abbrev pub clear_at : ℕ → ℕ → List ℚ → List ℚ → ℕ → Option WideCell
clear_at i j e d k = clear_cell_refusal i j (get_or d j (whole (pos 0))) (get_or e k (whole (pos 0))) d k

unfoldable pub clear_refusal : ℕ → ℕ → List ℚ → List ℚ → ℚ → Option WideCell
clear_refusal i j e d p = earlier (first_below (clear_at i j e d) (length d)) (refused Div (get_or d j (whole (pos 0))) p i j)

-- ---- the whole pivot on (r, j): the own row, the goal row, then each other row in order
abbrev pub row_refusal : ℕ → ℕ → List ℚ → ℚ → List (List ℚ) → ℕ → Option WideCell
row_refusal r j e p rows i = cond (eqb i r) None (clear_refusal i j e (get_or rows i []) p)

unfoldable pub pivot_refusal : ℕ → ℕ → List (List ℚ) → List ℚ → Option WideCell
pivot_refusal r j rows goal =
    earlier (divide_refusal r j (get_or rows r []))
    (earlier (clear_refusal (length rows) j (divided j (get_or rows r [])) goal (get_or (get_or rows r []) j (whole (pos 0))))
    (first_below (row_refusal r j (divided j (get_or rows r [])) (get_or (get_or rows r []) j (whole (pos 0))) rows) (length rows)))

-- the rows of the exchange
unfoldable pub exchanged_rows : ℕ → ℕ → List (List ℚ) → List (List ℚ)
exchanged_rows r j rows = set (map (cleared j (divided j (get_or rows r []))) rows) r (divided j (get_or rows r []))
