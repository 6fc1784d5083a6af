-- Lemmas on the definitions of `Loading`.
use Rattle.std.proofs.Common.{◌≡◌, ℕ, pos, length, get_or, set, replicate, ◌+◌, ◌<◌, ◌⊎◌, inl, inr, sym, ◌∙◌, ap, arith}
use Rattle.std.proofs.Math.ListN.{length-set}
use Rattle.std.proofs.lemmas.List.{length-replicate, get_or-set_same, get_or-set_other}
use Rattle.std.proofs.lemmas.List.FromFn.{length-range_with_len, get_or-range_with_len}
use Rattle.std.proofs.lemmas.Bool.{cases_eq}
use Rattle.rational_theory.specs.Rational.{whole}
use Rattle.simplex_theory.specs.Tableau.{height, width, basic_at}
use Rattle.named_row.specs.Sheets.{Sheet}
use Rattle.named_row.specs.declared.names.RowId.{RowId}
use Rattle.fraction_tableau.specs.NamedTableaus.{NamedTableau, blank_table, blank_tableau, row_cells, with_row, with_goal}
use Rattle.fraction_tableau.specs.Loading.{IsUnpivoted}

pub unpivoted-blank : (m w : ℕ) → IsUnpivoted (blank_tableau m w).table
unfolding blank_table blank_tableau
unpivoted-blank m w =
    let a = length-replicate m (replicate (w + 1) (whole (pos 0))) in
    let b = length-range_with_len 0 w in
    record {
      count = length-range_with_len w m ∙ sym a;
      slacks = λ i h. get_or-range_with_len w m i 0 (omega arith) ∙ ap (λ n. n + i) (sym b);
      columns = λ k h. get_or-range_with_len 0 w k 0 (omega arith) ∙ from_zero k;
    }
  where
    from_zero : (k : ℕ) → 0 + k ≡ k
    from_zero k = omega arith

pub unpivoted-row : (r : ℕ) (name : RowId) (s : Sheet) (t : NamedTableau) → r < height t.table → IsUnpivoted t.table → IsUnpivoted (with_row r name s t).table
unfolding with_row
unpivoted-row r name s t h u =
    let a = length-set t.table.rows r (row_cells s) in
    record {
      count = length-set t.table.basic r (width t.table + r) ∙ u.count ∙ sym a;
      slacks = λ i l. pick i (rw (← a) l) (cases_eq i r);
      columns = u.columns;
    }
  where
    pick : (i : ℕ) → i < height t.table → (i ≡ r) ⊎ (i ≡ r → ⊥) → get_or (set t.table.basic r (width t.table + r)) i 0 ≡ width t.table + i
    pick i l (inl e) = rw e (get_or-set_same t.table.basic r (width t.table + r) 0 (let c = u.count in omega arith))
    pick i l (inr e) = get_or-set_other t.table.basic r i (width t.table + r) 0 e ∙ u.slacks i l

pub unpivoted-goal : (s : Sheet) (t : NamedTableau) → length t.table.basic ≡ height t.table → ((i : ℕ) → i < height t.table → basic_at t.table i ≡ width t.table + i)
    → IsUnpivoted (with_goal s t).table
unfolding with_goal
unpivoted-goal s t c h =
    let b = length-range_with_len 0 (width t.table) in
    record {
      count = c;
      slacks = λ i l. h i l ∙ ap (λ n. n + i) (sym b);
      columns = λ k l. get_or-range_with_len 0 (width t.table) k 0 (omega arith) ∙ from_zero k;
    }
  where
    from_zero : (k : ℕ) → 0 + k ≡ k
    from_zero k = omega arith
