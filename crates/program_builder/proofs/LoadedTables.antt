-- A table's rows and goal as they are loaded: what stands where, and that the tableau stands for them.
use Rattle.std.proofs.Common.{◌≡◌, ℕ, zero, suc, pos, List, [], ◌∷◌, map, length, get_or, ◌+◌, ◌<◌, refl, sym, ◌∙◌, ap, subst, arith}
use Rattle.std.proofs.lemmas.List.{get_or-map, length-map, get_or_append_left, get_or_push}
use Rattle.std.proofs.lemmas.List.FromFn.{length-range_with_len, get_or-range_with_len}
use Rattle.rational_theory.specs.Rational.{ℚ, whole, neg_ℚ}
use Rattle.rational_theory.specs.Rows as maths
use Rattle.progression.specs.Speeds.{number}
use Rattle.linear_theory.specs.Boxes.{Area}
use Rattle.simplex_theory.specs.Tableau.{line, height, width, basic_at, standing_at, IsShaped}
use Rattle.simplex_theory.proofs.Loaded.{IsLoaded}
use Rattle.simplex_theory.specs.RowLists.{system_of, row_at, HasShape}
use Rattle.fraction_tableau.specs.NamedTableaus.{unnamed, name_in}
use Rattle.program_builder.specs.ProgramTable.{ProgramTable, rows_in, IsTable}
use Rattle.program_builder.specs.Loading.{cells_of, goal_cells_of, loaded_table}
use Rattle.program_builder.proofs.LineCells.{cells_width, cells_at, cells_bound}

-- ---- the goal's cells
goal_width : (xs : List ℚ) → length (goal_cells_of xs) ≡ suc (length xs)
goal_width [] = refl
goal_width (x ∷ xs) = ap suc (goal_width xs)

pub goal_cells_at : (xs : List ℚ) (k : ℕ) → k < length xs → get_or (goal_cells_of xs) k (number 0) ≡ neg_ℚ (get_or xs k (number 0))
goal_cells_at xs k h = get_or_append_left (map neg_ℚ xs) (number 0 ∷ []) (number 0) k (rw (length-map xs neg_ℚ) h) ∙ get_or-map neg_ℚ xs k (number 0) (number 0) h

pub goal_cells_last : (xs : List ℚ) (k : ℕ) → k ≡ length xs → get_or (goal_cells_of xs) k (number 0) ≡ number 0
goal_cells_last xs k h = get_or_push (map neg_ℚ xs) (number 0) (number 0) k (length-map xs neg_ℚ ∙ sym h)

-- what is true of a goal's numbers, and of negations, is true of its negated cells
pub goal_cells_each : (P : ℚ → Type 0) → ((x : ℚ) → P x → P (neg_ℚ x)) → P (number 0) → (xs : List ℚ) (k : ℕ) → ((i : ℕ) → P (get_or xs i (number 0))) → P (get_or (goal_cells_of xs) k (number 0))
goal_cells_each P g z [] zero h = z
goal_cells_each P g z [] (suc k) h = z
goal_cells_each P g z (x ∷ xs) zero h = g x (h 0)
goal_cells_each P g z (x ∷ xs) (suc k) h = goal_cells_each P g z xs k (λ i. h (suc i))

module _ (p : ProgramTable) (box : Area) where
  -- ---- as it is loaded
  pub height-loaded : height (loaded_table p box) ≡ length p.names
  unfolding loaded_table
  height-loaded = length-map (rows_in p box) cells_of ∙ length-map p.names (p.row box)

  pub width-loaded : width (loaded_table p box) ≡ p.columns
  unfolding loaded_table
  width-loaded = length-range_with_len 0 p.columns

  pub line-loaded : (k : ℕ) → k < length p.names → line (loaded_table p box) k ≡ cells_of (p.row box (name_in p.names k))
  unfolding loaded_table
  line-loaded k h =
      get_or-map cells_of (rows_in p box) k (record { coefs = []; bound = whole (pos 0) }) [] (rw (length-map p.names (p.row box)) h)
      ∙ ap cells_of (get_or-map (p.row box) p.names k unnamed (record { coefs = []; bound = whole (pos 0) }) h)

  pub row_at_is : (k : ℕ) → k < length p.names → row_at (rows_in p box) k ≡ p.row box (name_in p.names k)
  row_at_is k h = get_or-map (p.row box) p.names k unnamed (record { coefs = []; bound = whole (pos 0) }) h

  pub goal-loaded : (loaded_table p box).goal ≡ goal_cells_of p.goal
  unfolding loaded_table
  goal-loaded = refl

  pub basic-loaded : (i : ℕ) → i < length p.names → basic_at (loaded_table p box) i ≡ p.columns + i
  unfolding loaded_table
  basic-loaded i h = get_or-range_with_len p.columns (length p.names) i 0 h

  pub standing-loaded : (k : ℕ) → k < p.columns → standing_at (loaded_table p box) k ≡ k
  unfolding loaded_table
  standing-loaded k h = get_or-range_with_len 0 p.columns k 0 h ∙ omega arith

  module _ (w : IsTable p) where
    pub shaped-loaded : IsShaped (loaded_table p box)
    unfolding loaded_table
    shaped-loaded = record {
      basics = length-range_with_len p.columns (length p.names) ∙ sym height-loaded;
      lines = λ i l. let h = subst (λ n. i < n) height-loaded l in
          ap length (line-loaded i h) ∙ cells_width (p.row box (name_in p.names i)) ∙ ap suc (w.rows box i h ∙ sym width-loaded);
      goals = goal_width p.goal ∙ ap suc (w.goal ∙ sym width-loaded);
    }

    pub is_loaded : IsLoaded (loaded_table p box) (system_of (rows_in p box) p.goal)
    is_loaded = record {
      shaped = shaped-loaded;
      slacks = λ i l. basic-loaded i (subst (λ n. i < n) height-loaded l) ∙ ap (λ n. n + i) (sym width-loaded);
      columns = λ k l. standing-loaded k (subst (λ n. k < n) width-loaded l);
      cells = λ i k l m. let h = subst (λ n. i < n) height-loaded l in
          ap (λ (c : List ℚ). get_or c k (whole (pos 0))) (line-loaded i h)
          ∙ cells_at (p.row box (name_in p.names i)) k (let e = w.rows box i h in let f = width-loaded in omega arith)
          ∙ ap (λ (r : maths.Row). get_or r.coefs k (whole (pos 0))) (sym (row_at_is i h));
      bounds = λ i l. let h = subst (λ n. i < n) height-loaded l in
          ap (λ (c : List ℚ). get_or c (width (loaded_table p box)) (whole (pos 0))) (line-loaded i h)
          ∙ cells_bound (p.row box (name_in p.names i)) (width (loaded_table p box)) (width-loaded ∙ sym (w.rows box i h))
          ∙ ap (λ (r : maths.Row). r.bound) (sym (row_at_is i h));
      goals = λ k l. ap (λ (c : List ℚ). get_or c k (whole (pos 0))) goal-loaded ∙ goal_cells_at p.goal k (let e = w.goal in let f = width-loaded in omega arith);
      nothing = ap (λ (c : List ℚ). get_or c (width (loaded_table p box)) (whole (pos 0))) goal-loaded ∙ goal_cells_last p.goal (width (loaded_table p box)) (width-loaded ∙ sym (w.goal));
    }

    pub shape_loaded : HasShape (rows_in p box) p.goal (height (loaded_table p box)) (width (loaded_table p box))
    shape_loaded = record {
      count = length-map p.names (p.row box) ∙ sym height-loaded;
      coefs = λ r l. let h = subst (λ n. r < n) height-loaded l in
          let e = ap (λ (r : maths.Row). length r.coefs) (row_at_is r h) ∙ w.rows box r h ∙ sym width-loaded in omega arith;
      goals = let e = w.goal ∙ sym width-loaded in omega arith;
    }
