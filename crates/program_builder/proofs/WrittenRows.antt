-- A tableau while its bounds are written, row after row, and the goal row's last.
use Rattle.std.proofs.Common.{◌≡◌, ℕ, suc, pos, List, [], get_or, set, length, ◌+◌, ◌-◌, ◌<◌, ◌⊎◌, inl, inr, sym, ◌∙◌, ap, subst, arith}
use Rattle.std.proofs.Math.ListN.{length-set}
use Rattle.std.proofs.lemmas.List.{get_or-set_same, get_or-set_other}
use Rattle.rational_theory.specs.Rational.{ℚ, whole}
use Rattle.simplex_theory.specs.Tableau.{line, cell, height, width, bound, IsShaped}
use Rattle.simplex_theory.proofs.Tableau.{same_or_other}
use Rattle.fraction_tableau.specs.KeptCells.{number_in}
use Rattle.fraction_tableau.specs.NamedTableaus.{NamedTableau, number_at, rebound, with_bound, with_goal_bound}
use Rattle.entry_theory.specs.SameCells.{HaveSameCells}
use Rattle.program_builder.specs.Remembering.{HasBounds}
use Rattle.program_builder.proofs.WrittenBounds.{last_or_before}
use Rattle.program_builder.proofs.BoundPivots.{number_row, number_goal, row_or_goal}

-- ---- a row with another bound
rebound_other : (x : ℚ) (row : List ℚ) (w k : ℕ) → length row ≡ suc w → k < w → number_in (rebound x row) k ≡ number_in row k
rebound_other x row w k e h = get_or-set_other row (length row - 1) k x (whole (pos 0)) (λ d. absurd (omega arith))

rebound_last : (x : ℚ) (row : List ℚ) (w : ℕ) → length row ≡ suc w → number_in (rebound x row) w ≡ x
rebound_last x row w e =
    let f : length row - 1 ≡ w = omega arith in
    subst (λ n. number_in (set row n x) w ≡ x) (sym f) (get_or-set_same row w x (whole (pos 0)) (omega arith))

-- ---- the rows below k have their bounds
pub record IsWriting (bounds : List ℚ) (s now : NamedTableau) (k : ℕ) : Type 0 where
  pub shaped : IsShaped now.table
  pub cells : HaveSameCells s.table now.table
  pub done : (i : ℕ) → i < k → i < height s.table → bound now.table i ≡ number_in bounds i
  pub names : now.names ≡ s.names
  pub spent : now.spent ≡ s.spent

module _ (bounds : List ℚ) (s now : NamedTableau) (k : ℕ) (x : ℚ) (o : IsWriting bounds s now k) (h : k < height s.table) (e : x ≡ number_in bounds k) where
  row : List ℚ
  row = rebound x (line now.table k)

  inside : k < height now.table
  inside = let f = o.cells.rows in omega arith

  columns : width s.table ≡ width now.table
  columns = ap length o.cells.standing

  long : length (line now.table k) ≡ suc (width now.table)
  long = o.shaped.lines k inside

  line_same : get_or (set now.table.rows k (rebound x (line now.table k))) k [] ≡ rebound x (line now.table k)
  line_same = get_or-set_same now.table.rows k (rebound x (line now.table k)) [] inside

  line_other : (i : ℕ) → (i ≡ k → ⊥) → get_or (set now.table.rows k (rebound x (line now.table k))) i [] ≡ line now.table i
  line_other i n = get_or-set_other now.table.rows k i (rebound x (line now.table k)) [] n

  rows_count : length (set now.table.rows k (rebound x (line now.table k))) ≡ height now.table
  rows_count = length-set now.table.rows k (rebound x (line now.table k))

  length_at : (i : ℕ) → i < height now.table → (i ≡ k) ⊎ (i ≡ k → ⊥) → length (get_or (set now.table.rows k (rebound x (line now.table k))) i []) ≡ suc (width now.table)
  length_at i l (inl q) = rw q (ap length line_same ∙ length-set (line now.table k) (length (line now.table k) - 1) x ∙ long)
  length_at i l (inr q) = ap length (line_other i q) ∙ o.shaped.lines i l

  cell_at : (i j : ℕ) → i < height s.table → j < width s.table → (i ≡ k) ⊎ (i ≡ k → ⊥) → cell s.table i j ≡ number_in (get_or (set now.table.rows k (rebound x (line now.table k))) i []) j
  cell_at i j m n (inl q) =
      o.cells.cells i j m n ∙ ap (λ z. cell now.table z j) q ∙ sym (rebound_other x (line now.table k) (width now.table) j long (let f = columns in omega arith))
      ∙ sym (ap (λ (c : List ℚ). number_in c j) line_same) ∙ sym (ap (λ z. number_in (get_or (set now.table.rows k (rebound x (line now.table k))) z []) j) q)
  cell_at i j m n (inr q) = o.cells.cells i j m n ∙ sym (ap (λ (c : List ℚ). number_in c j) (line_other i q))

  done_at : (i : ℕ) → i < height s.table → (i ≡ k) ⊎ (i < k) → number_in (get_or (set now.table.rows k (rebound x (line now.table k))) i []) (width now.table) ≡ number_in bounds i
  done_at i m (inl q) = rw q (ap (λ (c : List ℚ). number_in c (width now.table)) line_same ∙ rebound_last x (line now.table k) (width now.table) long ∙ e)
  done_at i m (inr q) = ap (λ (c : List ℚ). number_in c (width now.table)) (line_other i (λ d. absurd (omega arith))) ∙ o.done i q m

  pub one_done : (new : NamedTableau) → new ≡ with_bound k x now → IsWriting bounds s new (k + 1)
  unfolding with_bound
  one_done new f =
      subst (λ (t : NamedTableau). IsWriting bounds s t (k + 1)) (sym f)
      (record {
        shaped = record {
          basics = o.shaped.basics ∙ sym rows_count;
          lines = λ i l. let g = rows_count in length_at i (omega arith) (same_or_other i k);
          goals = o.shaped.goals;
        };
        cells = record {
          rows = o.cells.rows ∙ sym rows_count;
          basic = o.cells.basic;
          standing = o.cells.standing;
          cells = λ i j m n. cell_at i j m n (same_or_other i k);
          goals = o.cells.goals;
        };
        done = λ i l m. done_at i m (last_or_before i k l);
        names = o.names;
        spent = o.spent;
      })

-- ---- and the goal row
pub all_done : (bounds : List ℚ) (s now new : NamedTableau) (k : ℕ) (x : ℚ) → IsWriting bounds s now k → k ≡ height s.table → length bounds ≡ height s.table + 1
    → x ≡ number_in bounds k → new ≡ with_goal_bound x now → HasBounds bounds s new
unfolding with_goal_bound
all_done bounds s now new k x o h l e f =
    subst (λ (t : NamedTableau). HasBounds bounds s t) (sym f)
    (record {
      shaped = record { basics = o.shaped.basics; lines = o.shaped.lines; goals = length-set now.table.goal (length now.table.goal - 1) x ∙ o.shaped.goals };
      cells = record {
        rows = o.cells.rows;
        basic = o.cells.basic;
        standing = o.cells.standing;
        cells = o.cells.cells;
        goals = λ j n. o.cells.goals j n ∙ sym (rebound_other x now.table.goal (width now.table) j o.shaped.goals (let g = ap length o.cells.standing in omega arith));
      };
      bounds = record {
        count = let g = o.cells.rows in omega arith;
        bounds = λ i m. pick i (row_or_goal i (height now.table) m);
      };
      names = o.names;
      spent = o.spent;
    })
  where
    pick : (i : ℕ) → (i < height now.table) ⊎ (i ≡ height now.table)
        → number_in bounds i ≡ number_at (record { rows = now.table.rows; goal = rebound x now.table.goal; basic = now.table.basic; standing = now.table.standing }) i (width now.table)
    pick i (inl q) = let g = o.cells.rows in sym (number_row (record { rows = now.table.rows; goal = rebound x now.table.goal; basic = now.table.basic; standing = now.table.standing })
        i (width now.table) q ∙ o.done i (omega arith) (omega arith))
    pick i (inr q) =
        let g = o.cells.rows in
        ap (number_in bounds) (q ∙ sym g ∙ sym h) ∙ sym e ∙ sym (rebound_last x now.table.goal (width now.table) o.shaped.goals)
        ∙ sym (number_goal (record { rows = now.table.rows; goal = rebound x now.table.goal; basic = now.table.basic; standing = now.table.standing }) i (width now.table) q)
