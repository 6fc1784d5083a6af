-- The operations of a pivot as one list, in their order, and the first of a list that leaves 128 bits.
use Rattle.std.proofs.Common.{◌≡◌, ◌↔◌, ℕ, zero, suc, pos, cond, eqb, Option, Some, None, List, [], ◌∷◌, ◌++◌, length, get_or}
use Rattle.rational_theory.specs.Rational.{ℚ, whole, ◌*ℚ◌}
use Rattle.simplex_theory.specs.Lines.{divided}
use Rattle.simplex_theory.specs.Tableau.{Tableau, line, height, cell}
use Rattle.narrow_fraction.specs.Past128.{Fits128, Past128}
use Rattle.narrow_fraction.specs.declared.wide.Op.{Op}
use Rattle.narrow_fraction.specs.declared.wide.Op.TheVariants.{Mul, Div, Sub}
use Rattle.fraction_tableau.specs.Refusals.{pivot_refusal}
use Rattle.fraction_tableau.specs.declared.wide_cell.WideCell.{WideCell}

-- an operation on x and y, which is for row i and column k
abbrev pub operation : Op → ℚ → ℚ → ℕ → ℕ → WideCell
operation op x y i k = record { row = i; col = k; wide = record { op = op; left = x; right = y } }

-- the lists at 0, 1, .. below n, one after another
abbrev pub listed_below : (ℕ → List WideCell) → ℕ → List WideCell
listed_below f zero = []
listed_below f (suc n) = listed_below f n ++ f n

-- the same without the one at j
abbrev pub listed_others : (ℕ → List WideCell) → ℕ → ℕ → List WideCell
listed_others f j n = listed_below (λ k. cond (eqb k j) [] (f k)) n

-- ---- the list
-- the pivot's own row c, of number i: 1 over the cell at j, then each other cell over it
abbrev pub divide_operations : ℕ → ℕ → List ℚ → List WideCell
divide_operations i j c =
    operation Div (whole (pos 1)) (get_or c j (whole (pos 0))) i j
    ∷ listed_others (λ k. operation Div (get_or c k (whole (pos 0))) (get_or c j (whole (pos 0))) i k ∷ []) j (length c)

-- one cell of another row d, of number i, by the divided row e: the product, and the difference
abbrev pub cell_operations : ℕ → ℕ → List ℚ → List ℚ → ℕ → List WideCell
cell_operations i j e d k =
    operation Mul (get_or d j (whole (pos 0))) (get_or e k (whole (pos 0))) i k
    ∷ operation Sub (get_or d k (whole (pos 0))) (get_or d j (whole (pos 0)) *ℚ get_or e k (whole (pos 0))) i k ∷ []

-- the whole row: each cell but the one at j, and then that one over the pivot p
abbrev pub clear_operations : ℕ → ℕ → List ℚ → ℚ → List ℚ → List WideCell
clear_operations i j e p d = listed_others (cell_operations i j e d) j (length d) ++ operation Div (get_or d j (whole (pos 0))) p i j ∷ []

-- the pivot on row r and place j: its own row, the goal row, and each other row in order
abbrev pub pivot_operations : ℕ → ℕ → Tableau → List WideCell
pivot_operations r j t =
    divide_operations r j (line t r)
    ++ (clear_operations (height t) j (divided j (line t r)) (cell t r j) t.goal
    ++ listed_others (λ i. clear_operations i j (divided j (line t r)) (cell t r j) (line t i)) r (height t))

-- ---- which is refused
-- each fits 128 bits
abbrev pub AllFit : List WideCell → Type 0
AllFit [] = Unit {0}
AllFit (o ∷ os) = Fits128 o.wide.op o.wide.left o.wide.right × AllFit os

-- o leaves 128 bits, and all before it fit
pub record IsFirstPast (list : List WideCell) (o : WideCell) : Type 0 where
  pub before : List WideCell
  pub after : List WideCell
  pub parts : list ≡ before ++ o ∷ after
  pub fit : AllFit before
  pub past : Past128 o.wide.op o.wide.left o.wide.right

-- the refusal of a pivot, by its list of operations
pub record IsRefusalOf (list : List WideCell) (refusal : Option WideCell) : Type 0 where
  pub named : (o : WideCell) → (refusal ≡ Some o) ↔ IsFirstPast list o
  pub none : (refusal ≡ None) ↔ AllFit list

abbrev pub FirstIsRefused : Type 0
FirstIsRefused = (r j : ℕ) (t : Tableau) → IsRefusalOf (pivot_operations r j t) (pivot_refusal r j t.rows t.goal)
