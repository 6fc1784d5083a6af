-- The names of columns by their numbers.
use Rattle.std.proofs.Common.{◌≡◌, ℕ, zero, suc, ◌+◌, ◌-◌, ◌*◌, ◌<◌, ◌≤◌, [], ◌++◌, length, map, codes, slice_index_or, sym, ◌∙◌, ap, arith, length-append}
use Rattle.std.proofs.lemmas.List.{length-map, get_or-map, get_or_past, get_or_append_left, get_or-append-add}
use Rattle.progression.specs.Columns as places
use Rattle.progression.specs.Columns.{Column, Frequency, WaitOf, RunOf, ShiftOf, columns}
use Rattle.progression.specs.declared.parts.Dir.TheVariants.{Outbound, Inbound}
use Rattle.linear_theory.specs.Places.{place, width}
use Rattle.linear_theory.proofs.Places.{IsColumn}
use Rattle.linear_theory.proofs.Points.{column_there, length-columns, length-numbered, get-numbered, place_below}
use Rattle.diagram_print.specs.Names.{numbered, column_name, half_name, half_names, column_text}

-- the names of the columns in front of the halves
names_wide : (n : ℕ) → 1 ≤ n → length (map column_name (columns n)) ≡ width n
names_wide n h = length-map (columns n) column_name ∙ length-columns n h

-- a column stands at its place
name_there : (n : ℕ) (c : Column) (k : ℕ) → 1 ≤ n → IsColumn n c → k ≡ place n c → column_text n k ≡ column_name c
name_there n c k h i e =
    ap (column_text n) e
    ∙ get_or_append_left (map column_name (columns n)) (half_names n) [] (place n c) (omega (arith, names_wide n h, place_below n c h i))
    ∙ get_or-map column_name (columns n) (place n c) Frequency [] (omega (arith, length-columns n h, place_below n c h i))
    ∙ ap column_name (column_there n c Frequency i)

pub wait_out : (n k : ℕ) → 3 ≤ k → k ≤ 2 + n → column_text n k ≡ numbered (codes "w_out") (k - 2)
wait_out n k h l = name_there n (WaitOf Outbound (k - 2)) k (omega arith) (omega arith, omega arith) (omega arith)

pub wait_in : (n k : ℕ) → 2 + n < k → k ≤ 2 + 2 * n → column_text n k ≡ numbered (codes "w_in") (k - (2 + n))
wait_in n k h l = name_there n (WaitOf Inbound (k - (2 + n))) k (omega arith) (omega arith, omega arith) (omega arith)

pub run_out : (n k : ℕ) → 2 + 2 * n < k → k < 2 + 3 * n → column_text n k ≡ numbered (codes "y_out") (k - (2 + 2 * n))
run_out n k h l = name_there n (RunOf Outbound (k - (2 + 2 * n))) k (omega arith) (omega arith, omega arith) (omega arith)

pub run_in : (n k : ℕ) → 2 + 3 * n ≤ k → k < 1 + 4 * n → column_text n k ≡ numbered (codes "y_in") (k - (1 + 3 * n))
run_in n k h l = name_there n (RunOf Inbound (k - (1 + 3 * n))) k (omega arith) (omega arith, omega arith) (omega arith)

pub shift : (n k : ℕ) → 3 ≤ k → 1 + 4 * n ≤ k → k ≤ 5 * n → column_text n k ≡ numbered (codes "s") (k - 4 * n)
shift n k g h l = name_there n (ShiftOf (k - 4 * n)) k (omega arith) (omega arith, omega arith) (omega arith)

-- the halves stand behind them
behind_them : (n k j : ℕ) → 1 ≤ n → k ≡ width n + j → column_text n k ≡ slice_index_or (half_names n) j []
behind_them n k j h e =
    ap (column_text n) (omega (arith, names_wide n h))
    ∙ get_or-append-add (map column_name (columns n)) (half_names n) j []

halves_wide : (n : ℕ) → length (places.numbered (n - 1) 1 (half_name Outbound)) ≡ n - 1
halves_wide n = length-numbered (n - 1) 1 (half_name Outbound)

pub half_out : (n k : ℕ) → 5 * n < k → k < 6 * n → column_text n k ≡ numbered (codes "h_out") (k - 5 * n)
half_out n k h l =
    let j = k - (5 * n + 1) in
    behind_them n k j (omega arith) (omega arith)
    ∙ get_or_append_left (places.numbered (n - 1) 1 (half_name Outbound)) (places.numbered (n - 1) 1 (half_name Inbound)) [] j (omega (arith, halves_wide n))
    ∙ get-numbered (n - 1) 1 j (half_name Outbound) [] (omega arith)
    ∙ ap (half_name Outbound) (omega arith)

pub half_in : (n k : ℕ) → 6 * n ≤ k → k + 1 < 7 * n → column_text n k ≡ numbered (codes "h_in") (k + 1 - 6 * n)
half_in n k h l =
    let j = k - 6 * n in
    behind_them n k (n - 1 + j) (omega arith) (omega arith)
    ∙ ap (λ m. slice_index_or (half_names n) (m + j) []) (sym (halves_wide n))
    ∙ get_or-append-add (places.numbered (n - 1) 1 (half_name Outbound)) (places.numbered (n - 1) 1 (half_name Inbound)) j []
    ∙ get-numbered (n - 1) 1 j (half_name Inbound) [] (omega arith)
    ∙ ap (half_name Inbound) (omega arith)

-- none stands past the last
pub past_columns : (n k : ℕ) → 3 ≤ k → 7 * n ≤ k + 1 → column_text n k ≡ []
past_columns zero k h l = get_or_past (map column_name (columns 0) ++ half_names 0) k [] (omega arith)
past_columns (suc n) k h l =
    let m = suc n in
    let halves = length-append (places.numbered (m - 1) 1 (half_name Outbound)) (places.numbered (m - 1) 1 (half_name Inbound)) in
    let whole = length-append (map column_name (columns m)) (half_names m) in
    get_or_past (map column_name (columns m) ++ half_names m) k []
    (omega (arith, names_wide m (omega arith), halves_wide m, length-numbered (m - 1) 1 (half_name Inbound), halves, whole))
