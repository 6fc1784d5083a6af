-- Lemmas on the definitions of `LoadedRows`.
use Rattle.std.proofs.Common.{◌≡◌, ℕ, suc, pos, List, [], ◌∷◌, ◌++◌, map, length, get_or, ◌-◌, ◌<◌, ◌∙◌, ap, arith, length-append}
use Rattle.std.proofs.lemmas.List.{get_or-map, length-map, get_or_append_left, get_or-append_right}
use Rattle.rational_theory.specs.Rational.{ℚ, whole, neg_ℚ}
use Rattle.rational_theory.specs.Rows.{Row}
use Rattle.simplex_theory.specs.Tableau.{Tableau, width}
use Rattle.simplex_theory.specs.DualSteps.{IsPlaced}
use Rattle.simplex_theory.proofs.Loaded.{IsLoaded, placed-loaded, stands-loaded}
use Rattle.simplex_theory.specs.RowLists.{row_at, system_of, StandsForRows}
use Rattle.simplex_theory.specs.LoadedRows.{HoldsRows}

before_last : (cs : List ℚ) (b : ℚ) (n k : ℕ) → length cs ≡ n → k < n → get_or (cs ++ b ∷ []) k (whole (pos 0)) ≡ get_or cs k (whole (pos 0))
before_last cs b n k e h = get_or_append_left cs (b ∷ []) (whole (pos 0)) k (omega arith)

at_last : (cs : List ℚ) (b : ℚ) (n : ℕ) → length cs ≡ n → get_or (cs ++ b ∷ []) n (whole (pos 0)) ≡ b
at_last cs b n e = let z : n - n ≡ 0 = omega arith in get_or-append_right cs (b ∷ []) n n (whole (pos 0)) e (omega arith) ∙ ap (λ i. get_or (b ∷ []) i (whole (pos 0))) z

with_last : (cs : List ℚ) (b : ℚ) (n : ℕ) → length cs ≡ n → length (cs ++ b ∷ []) ≡ suc n
with_last cs b n e = length-append cs (b ∷ []) ∙ omega arith

loaded_rows : (t : Tableau) (rows : List Row) (goal : List ℚ) → HoldsRows t rows goal → IsLoaded t (system_of rows goal)
loaded_rows t rows goal h =
    let negated : length (map neg_ℚ goal) ≡ width t = length-map goal neg_ℚ ∙ h.goal_width in
    record {
      shaped = record {
        basics = h.basics;
        lines = λ i l. ap length (h.lines i l) ∙ with_last (row_at rows i).coefs (row_at rows i).bound (width t) (h.widths i l);
        goals = ap length h.goal_row ∙ with_last (map neg_ℚ goal) (whole (pos 0)) (width t) negated;
      };
      slacks = h.slacks;
      columns = h.columns;
      cells = λ i k l m. ap (λ (c : List ℚ). get_or c k (whole (pos 0))) (h.lines i l) ∙ before_last (row_at rows i).coefs (row_at rows i).bound (width t) k (h.widths i l) m;
      bounds = λ i l. ap (λ (c : List ℚ). get_or c (width t) (whole (pos 0))) (h.lines i l) ∙ at_last (row_at rows i).coefs (row_at rows i).bound (width t) (h.widths i l);
      goals = λ k l.
          ap (λ (c : List ℚ). get_or c k (whole (pos 0))) h.goal_row ∙ before_last (map neg_ℚ goal) (whole (pos 0)) (width t) k negated l
          ∙ get_or-map neg_ℚ goal k (whole (pos 0)) (whole (pos 0)) (let e = h.goal_width in omega arith);
      nothing = ap (λ (c : List ℚ). get_or c (width t) (whole (pos 0))) h.goal_row ∙ at_last (map neg_ℚ goal) (whole (pos 0)) (width t) negated;
    }

pub placed-held : (t : Tableau) (rows : List Row) (goal : List ℚ) → HoldsRows t rows goal → IsPlaced t
placed-held t rows goal h = placed-loaded t (system_of rows goal) (loaded_rows t rows goal h)

pub stands-held : (t : Tableau) (rows : List Row) (goal : List ℚ) → HoldsRows t rows goal → StandsForRows t rows goal
stands-held t rows goal h = record {
  shape = record { count = h.count; coefs = λ r l. let e = h.widths r l in omega arith; goals = let e = h.goal_width in omega arith };
  stands = stands-loaded t (system_of rows goal) (loaded_rows t rows goal h);
}
