-- What the calls make of a tableau, part by part, and that it stays sound.
use Rattle.std.proofs.Common.{◌≡◌, ℕ, pos, false, List, [], get_or, set, replicate, length, ◌+◌, ◌<◌, ◌≤◌, ◌^◌, ◌⊎◌, inl, inr, sym, ◌∙◌, ap, arith}
use Rattle.std.proofs.lemmas.List.{get_or-replicate, get_or_past, length-replicate}
use Rattle.std.proofs.lemmas.List.FromFn.{length-range_with_len}
use Rattle.std.proofs.lemmas.Bool.{cases_lt}
use Rattle.std.specs.List.{range_with_len}
use Rattle.rational_theory.specs.Rational.{ℚ, whole}
use Rattle.simplex_theory.specs.Lines.{divided, cleared}
use Rattle.simplex_theory.specs.Tableau.{Tableau, exchange, line, width}
use Rattle.named_row.specs.Sheets.{Sheet}
use Rattle.named_row.specs.declared.names.RowId.{RowId}
use Rattle.narrow_fraction.proofs.Zeros.{zero_fits}
use Rattle.fraction_tableau.specs.Narrow.{IsNarrow, AreNarrow}
use Rattle.fraction_tableau.specs.Refusals.{exchanged_rows}
use Rattle.fraction_tableau.specs.NamedTableaus.{NamedTableau, IsSound, unnamed, blank_table, blank_tableau, row_cells, with_row, goal_cells, with_goal, rebound, with_bound, with_goal_bound}

-- ---- a new tableau
pub blank_is : (m w : ℕ) (rows : List (List ℚ)) (goal : List ℚ) (basic standing : List ℕ) (names : List RowId) → rows ≡ replicate m (replicate (w + 1) (whole (pos 0)))
    → goal ≡ replicate (w + 1) (whole (pos 0))
    → basic ≡ range_with_len w m → standing ≡ range_with_len 0 w → names ≡ replicate m unnamed
    → record { table = record { rows = rows; goal = goal; basic = basic; standing = standing }; names = names; spent = false } ≡ blank_tableau m w
unfolding blank_table blank_tableau
blank_is m w rows goal basic standing names a b c d e = λ i. record { table = record { rows = a i; goal = b i; basic = c i; standing = d i }; names = e i; spent = false }

zeros_at : (n k : ℕ) → get_or (replicate n (whole (pos 0))) k (whole (pos 0)) ≡ whole (pos 0)
zeros_at n k = pick (cases_lt k n)
  where
    pick : (k < n) ⊎ (n ≤ k) → get_or (replicate n (whole (pos 0))) k (whole (pos 0)) ≡ whole (pos 0)
    pick (inl h) = get_or-replicate n k (whole (pos 0)) (whole (pos 0)) h
    pick (inr h) = get_or_past (replicate n (whole (pos 0))) k (whole (pos 0)) (let e = length-replicate n (whole (pos 0)) in omega arith)

zeros_narrow : (n : ℕ) → IsNarrow (replicate n (whole (pos 0)))
zeros_narrow n = record { fits = λ k. rw (zeros_at n k) zero_fits }

nothing_narrow : IsNarrow []
nothing_narrow = record { fits = λ k. zero_fits }

zero_rows_narrow : (m n : ℕ) → AreNarrow (replicate m (replicate n (whole (pos 0))))
zero_rows_narrow m n = record { narrow = λ i. pick i (cases_lt i m) }
  where
    pick : (i : ℕ) → (i < m) ⊎ (m ≤ i) → IsNarrow (get_or (replicate m (replicate n (whole (pos 0)))) i [])
    pick i (inl h) = rw (get_or-replicate m i (replicate n (whole (pos 0))) [] h) (zeros_narrow n)
    pick i (inr h) = rw (get_or_past (replicate m (replicate n (whole (pos 0)))) i [] (let e = length-replicate m (replicate n (whole (pos 0))) in omega arith)) nothing_narrow

pub sound_blank : (m w : ℕ) → m + w < 2 ^ 32 → IsSound (blank_tableau m w) (w + 1) (w + 1) (w + 1)
unfolding blank_table blank_tableau
sound_blank m w h =
    let zero = replicate (w + 1) (whole (pos 0)) in
    let a = length-replicate m zero in
    let b = length-range_with_len 0 w in
    let c = length-range_with_len w m in
    let d = length-replicate (w + 1) (whole (pos 0)) in
    record {
      shaped = record {
        basics = omega arith;
        lines = λ i l. ap length (get_or-replicate m i zero [] (omega arith)) ∙ omega arith;
        goals = omega arith;
      };
      named = length-replicate m unnamed ∙ sym a;
      small = omega arith;
      narrow_rows = zero_rows_narrow m (w + 1);
      narrow_goal = zeros_narrow (w + 1);
      spares = sym d;
      helds = sym d;
      rooms = sym d;
    }

-- ---- a loaded row
pub row_is : (t : NamedTableau) (r : ℕ) (name : RowId) (s : Sheet) (rows : List (List ℚ)) (basic : List ℕ) (names : List RowId) → rows ≡ set t.table.rows r (row_cells s)
    → basic ≡ set t.table.basic r (width t.table + r) → names ≡ set t.names r name
    → record { table = record { rows = rows; goal = t.table.goal; basic = basic; standing = t.table.standing }; names = names; spent = t.spent } ≡ with_row r name s t
unfolding with_row
row_is t r name s rows basic names a b c = λ i. record { table = record { rows = a i; goal = t.table.goal; basic = b i; standing = t.table.standing }; names = c i; spent = t.spent }

-- ---- a loaded goal
pub goal_is : (t : NamedTableau) (s : Sheet) (goal : List ℚ) (standing : List ℕ) → goal ≡ goal_cells s → standing ≡ range_with_len 0 (width t.table)
    → record { table = record { rows = t.table.rows; goal = goal; basic = t.table.basic; standing = standing }; names = t.names; spent = false } ≡ with_goal s t
unfolding with_goal
goal_is t s goal standing a b = λ i. record { table = record { rows = t.table.rows; goal = a i; basic = t.table.basic; standing = b i }; names = t.names; spent = false }

-- ---- another bound
pub bound_is : (t : NamedTableau) (r : ℕ) (x : ℚ) (rows : List (List ℚ)) → rows ≡ set t.table.rows r (rebound x (line t.table r))
    → record { table = record { rows = rows; goal = t.table.goal; basic = t.table.basic; standing = t.table.standing }; names = t.names; spent = t.spent } ≡ with_bound r x t
unfolding with_bound
bound_is t r x rows e = λ i. record { table = record { rows = e i; goal = t.table.goal; basic = t.table.basic; standing = t.table.standing }; names = t.names; spent = t.spent }

-- ---- a copy
-- ---- another bound of the goal row
pub goal_bound_is : (t : NamedTableau) (x : ℚ) (goal : List ℚ) → goal ≡ rebound x t.table.goal
    → record { table = record { rows = t.table.rows; goal = goal; basic = t.table.basic; standing = t.table.standing }; names = t.names; spent = t.spent } ≡ with_goal_bound x t
unfolding with_goal_bound
goal_bound_is t x goal e = λ i. record { table = record { rows = t.table.rows; goal = e i; basic = t.table.basic; standing = t.table.standing }; names = t.names; spent = t.spent }

-- ---- a pivot
pub new_table : (t : Tableau) (r j : ℕ) (rows : List (List ℚ)) (goal : List ℚ) (basic standing : List ℕ) → rows ≡ exchanged_rows r j t.rows → goal ≡ cleared j (divided j (get_or t.rows r [])) t.goal
    → basic ≡ set t.basic r (get_or t.standing j 0) → standing ≡ set t.standing j (get_or t.basic r 0)
    → record { rows = rows; goal = goal; basic = basic; standing = standing } ≡ exchange r j t
unfolding exchange exchanged_rows
new_table t r j rows goal basic standing a b c d = λ i. record { rows = a i; goal = b i; basic = c i; standing = d i }
