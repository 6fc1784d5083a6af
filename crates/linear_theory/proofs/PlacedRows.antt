-- A row that is filled cell by cell: the sum over all columns is the sum over its cells.
use Rattle.std.proofs.Common.{◌≡◌, ℕ, zero, suc, ◌+◌, ◌<◌, ◌≤◌, List, [], ◌∷◌, ◌++◌, length, get_or, set, replicate, refl, sym, ◌∙◌, ap, ap₂, arith}
use Rattle.std.proofs.lemmas.List.{get_or-set_other, length-set, length-replicate}
use Rattle.rational_theory.specs.Rational.{ℚ, ◌+ℚ◌, ◌*ℚ◌, ◌≤ℚ◌}
use Rattle.rational_theory.proofs.Arithmetic.{*ℚ-zero, +ℚ-zero, +ℚ_assoc}
use Rattle.rational_theory.proofs.Ring.{zero-+ℚ, zero-*ℚ, +ℚ_left_comm}
use Rattle.rational_theory.specs.Rows as maths
use Rattle.rational_theory.specs.Rows.{dot}
use Rattle.progression.specs.Speeds.{number}
use Rattle.linear_theory.specs.Rows.{Cell, placed, placed_row, widened}

-- the places rise from `low` on, and lie below the width
abbrev pub Rises : ℕ → ℕ → List Cell → Type 0
Rises width low [] = Unit {0}
Rises width low (c ∷ cs) = (low ≤ c.0) × (c.0 < width) × Rises width (c.0 + 1) cs

-- the sum of the cells at a point
abbrev pub cells_sum : List ℚ → List Cell → ℚ
cells_sum x [] = number 0
cells_sum x (c ∷ cs) = c.1 *ℚ get_or x c.0 (number 0) +ℚ cells_sum x cs

-- ---- zeros
pub get-zeros : (n i : ℕ) → get_or (replicate n (number 0)) i (number 0) ≡ number 0
get-zeros zero i = refl
get-zeros (suc n) zero = refl
get-zeros (suc n) (suc i) = get-zeros n i

pub dot-zeros : (n : ℕ) (x : List ℚ) → dot (replicate n (number 0)) x ≡ number 0
dot-zeros zero x = refl
dot-zeros (suc n) [] = refl
dot-zeros (suc n) (y ∷ x) = ap₂ (λ u v. u +ℚ v) (zero-*ℚ y) (dot-zeros n x) ∙ +ℚ-zero (number 0)

-- ---- sums
-- the columns of a row in two parts
pub dot-append : (xs ys x y : List ℚ) → length xs ≡ length x → dot (xs ++ ys) (x ++ y) ≡ dot xs x +ℚ dot ys y
dot-append [] ys [] y e = sym (zero-+ℚ (dot ys y))
dot-append [] ys (u ∷ x) y e = absurd (omega arith)
dot-append (v ∷ xs) ys [] y e = absurd (omega arith)
dot-append (v ∷ xs) ys (u ∷ x) y e = ap (λ s. v *ℚ u +ℚ s) (dot-append xs ys x y (omega arith)) ∙ sym (+ℚ_assoc (v *ℚ u) (dot xs x) (dot ys y))

-- a number put where a 0 stood
dot-set : (xs : List ℚ) (i : ℕ) (v : ℚ) (x : List ℚ) → i < length xs → get_or xs i (number 0) ≡ number 0
    → dot (set xs i v) x ≡ v *ℚ get_or x i (number 0) +ℚ dot xs x
dot-set [] i v x l e = absurd (omega arith)
dot-set (a ∷ xs) zero v [] l e = sym (+ℚ-zero _ ∙ *ℚ-zero v)
dot-set (a ∷ xs) (suc i) v [] l e = sym (+ℚ-zero _ ∙ *ℚ-zero v)
dot-set (a ∷ xs) zero v (y ∷ x) l e = ap (λ t. v *ℚ y +ℚ t) (sym (zero-+ℚ (dot xs x)) ∙ ap (λ t. t +ℚ dot xs x) (sym (ap (λ t. t *ℚ y) e ∙ zero-*ℚ y)))
dot-set (a ∷ xs) (suc i) v (y ∷ x) l e = ap (λ t. a *ℚ y +ℚ t) (dot-set xs i v x (omega arith) e) ∙ +ℚ_left_comm (a *ℚ y) (v *ℚ get_or x i (number 0)) (dot xs x)

-- cells put into a row that is 0 from the first of them on
dot-placed : (xs : List ℚ) (cs : List Cell) (x : List ℚ) (low : ℕ)
    → ((j : ℕ) → low ≤ j → get_or xs j (number 0) ≡ number 0) → Rises (length xs) low cs → dot (placed xs cs) x ≡ cells_sum x cs +ℚ dot xs x
dot-placed xs [] x low z r = sym (zero-+ℚ (dot xs x))
dot-placed xs (c ∷ cs) x low z r =
    let rest = dot-placed (set xs c.0 c.1) cs x (c.0 + 1)
    (λ j l. get_or-set_other xs c.0 j c.1 (number 0) (λ e. absurd (omega arith)) ∙ z j (omega (arith, r.0)))
    (rw (length-set xs c.0 c.1) r.2) in
    rest ∙ ap (λ t. cells_sum x cs +ℚ t) (dot-set xs c.0 c.1 x r.1 (z c.0 r.0)) ∙ +ℚ_left_comm (cells_sum x cs) _ (dot xs x) ∙ sym (+ℚ_assoc _ _ _)

-- the sum of a row at any point
pub placed_total : (width : ℕ) (cs : List Cell) (bound : ℚ) (x : List ℚ) → Rises width 0 cs → dot (placed_row width cs bound).coefs x ≡ cells_sum x cs
placed_total width cs bound x r =
    dot-placed (replicate width (number 0)) cs x 0 (λ j l. get-zeros width j) (rw (length-replicate width (number 0)) r)
    ∙ ap (λ t. cells_sum x cs +ℚ t) (dot-zeros width x) ∙ +ℚ-zero (cells_sum x cs)

-- a point meets it where its cells' sum is at most the bound
pub placed_met : (width : ℕ) (cs : List Cell) (bound : ℚ) (x : List ℚ) → Rises width 0 cs → cells_sum x cs ≤ℚ bound → maths.IsMet x (placed_row width cs bound)
placed_met width cs bound x r l = record { met = rw (placed_total width cs bound x r) l }

-- and the other way round
pub met_placed : (width : ℕ) (cs : List Cell) (bound : ℚ) (x : List ℚ) → Rises width 0 cs → maths.IsMet x (placed_row width cs bound) → cells_sum x cs ≤ℚ bound
met_placed width cs bound x r m = rw (← (placed_total width cs bound x r)) m.met

-- cells do not change the length
pub length-placed : (xs : List ℚ) (cs : List Cell) → length (placed xs cs) ≡ length xs
length-placed xs [] = refl
length-placed xs (c ∷ cs) = length-placed (set xs c.0 c.1) cs ∙ length-set xs c.0 c.1

pub placed_width : (width : ℕ) (cs : List Cell) (bound : ℚ) → length (placed_row width cs bound).coefs ≡ width
placed_width width cs bound = length-placed (replicate width (number 0)) cs ∙ length-replicate width (number 0)

-- ---- a row with further columns
-- a longer point has the same sum in it
pub widened_total : (further : ℕ) (r : maths.Row) (x y : List ℚ) → length r.coefs ≡ length x → dot (widened further r).coefs (x ++ y) ≡ dot r.coefs x
widened_total further r x y e =
    dot-append r.coefs (replicate further (number 0)) x y e ∙ ap (λ s. dot r.coefs x +ℚ s) (dot-zeros further y) ∙ +ℚ-zero (dot r.coefs x)

pub widened_met : (further : ℕ) (r : maths.Row) (x y : List ℚ) → length r.coefs ≡ length x → maths.IsMet x r → maths.IsMet (x ++ y) (widened further r)
widened_met further r x y e m = record { met = rw (widened_total further r x y e) m.met }

-- and the row is met without them where it is with them
zeros_behind : (xs : List ℚ) (k : ℕ) (x : List ℚ) → dot (xs ++ replicate k (number 0)) x ≡ dot xs x
zeros_behind [] k x = dot-zeros k x
zeros_behind (v ∷ xs) k [] = refl
zeros_behind (v ∷ xs) k (y ∷ x) = ap (λ s. v *ℚ y +ℚ s) (zeros_behind xs k x)

pub narrowed_met : (k : ℕ) (r : maths.Row) (x : List ℚ) → maths.IsMet x (widened k r) → maths.IsMet x r
narrowed_met k r x m = record { met = rw (← (zeros_behind r.coefs k x)) m.met }
