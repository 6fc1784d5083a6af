-- The order of the names of rows, by its test.
use Rattle.std.proofs.Common.{◌≡◌, ℕ, true, false, arith}
use Rattle.std.specs.Prelude.{◌==◌, ◌||◌, ◌&&◌, nat_lt, if◌then◌else◌}
use Rattle.std.specs.Ordering.{nat_cmp, ordering_then, match_ordering}
use Rattle.std.specs.declared.cmp.Ordering.{Ordering}
use Rattle.std.proofs.lemmas.Bool.Decides.{nat_tests}
use Rattle.named_row.specs.contracts.names.RowIdOrd.TheImpl as order
use Rattle.named_row.specs.declared.names.RowId.{RowId}
use Rattle.named_row.specs.Order.{is_below}

-- as std's sets ask for it
abbrev pub row_cmp : RowId → RowId → Ordering
row_cmp = (order.cmp-value).it

cases_numbers : {X : Type 0} (a b i j : ℕ) (x y z : X) → match_ordering (ordering_then (nat_cmp a b) (nat_cmp i j)) x y z ≡
    (if (nat_lt a b || ((a == b) && nat_lt i j)) then x else (if (nat_lt b a || ((b == a) && nat_lt j i)) then z else y))
cases_numbers a b i j x y z = grind (arith, nat_tests)

pub row_cases : {X : Type 0} (r s : RowId) (x y z : X) → match_ordering (row_cmp r s) x y z ≡ (if is_below r s then x else (if is_below s r then z else y))
row_cases r s x y z = cases_numbers r.family s.family r.index s.index x y z

same_row : (r s : RowId) → r.family ≡ s.family → r.index ≡ s.index → r ≡ s
same_row r s e f = λ i. record { family = e i; index = f i }

numbers_apart : (a b i j : ℕ) → (nat_lt a b || ((a == b) && nat_lt i j)) ≡ false → (nat_lt b a || ((b == a) && nat_lt j i)) ≡ false → (a ≡ b) × (i ≡ j)
numbers_apart a b i j h k = grind (arith, nat_tests)

numbers_through : (a b d i j k : ℕ) → (nat_lt a b || ((a == b) && nat_lt i j)) ≡ true → (nat_lt b d || ((b == d) && nat_lt j k)) ≡ true → (nat_lt a d || ((a == d) && nat_lt i k)) ≡ true
numbers_through a b d i j k h m = grind (arith, nat_tests)

numbers_not : (a i : ℕ) → (nat_lt a a || ((a == a) && nat_lt i i)) ≡ false
numbers_not a i = grind (arith, nat_tests)

-- rows of which neither is below the other are one
pub below_apart : (r s : RowId) → is_below r s ≡ false → is_below s r ≡ false → r ≡ s
below_apart r s e f = let h = numbers_apart r.family s.family r.index s.index e f in same_row r s h.0 h.1

pub below_through : (r s t : RowId) → is_below r s ≡ true → is_below s t ≡ true → is_below r t ≡ true
below_through r s t e f = numbers_through r.family s.family t.family r.index s.index t.index e f

pub below_itself : (r : RowId) → is_below r r ≡ false
below_itself r = numbers_not r.family r.index
