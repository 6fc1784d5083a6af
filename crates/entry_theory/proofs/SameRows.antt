-- Lists of rows with the same coefficients, whatever their bounds, and one goal: their tableaus have the same directions.
use Rattle.std.proofs.Common.{◌≡◌, ℕ, pos, List, [], length, get_or, ◌+◌, ◌<◌, ◌≤◌, sym, ◌∙◌, ap, subst, arith}
use Rattle.std.proofs.lemmas.List.{get_or-map, length-map}
use Rattle.rational_theory.specs.Rational.{ℚ, whole, ◌+ℚ◌, ◌*ℚ◌}
use Rattle.rational_theory.proofs.Arithmetic.{*ℚ-zero, +ℚ_comm}
use Rattle.rational_theory.specs.Rows.{Row, dot}
use Rattle.rational_theory.proofs.Rows.{+ℚ_cancel}
use Rattle.simplex_theory.specs.Lines.{values}
use Rattle.simplex_theory.specs.Tableau.{Tableau, height, width, Meets, goal_gap}
use Rattle.simplex_theory.specs.Totals.{total}
use Rattle.simplex_theory.proofs.Totals.{total_same}
use Rattle.simplex_theory.specs.Multipliers.{System, Fills}
use Rattle.simplex_theory.proofs.Loaded.{IsLoaded, placed-loaded}
use Rattle.simplex_theory.specs.RowLists.{row_at, coef_at, system_of, StandsForRows}
use Rattle.entry_theory.specs.Directions.{HaveSameForms}
use Rattle.entry_theory.specs.Ready.{IsFresh}
use Rattle.entry_theory.specs.Promises.{coefs_of, HaveSameCoefs}

same_length : (rows others : List Row) → HaveSameCoefs rows others → length rows ≡ length others
same_length rows others e = sym (length-map rows coefs_of) ∙ ap length e ∙ length-map others coefs_of

same_coef : (rows others : List Row) (r c : ℕ) → HaveSameCoefs rows others → r < length rows → coef_at (row_at rows r) c ≡ coef_at (row_at others r) c
same_coef rows others r c e h =
    ap (λ (l : List ℚ). get_or l c (whole (pos 0)))
    (sym (get_or-map coefs_of rows r (record { coefs = []; bound = whole (pos 0) }) [] h) ∙ ap (λ (l : List (List ℚ)). get_or l r []) e
    ∙ get_or-map coefs_of others r (record { coefs = []; bound = whole (pos 0) }) [] (let l = same_length rows others e in omega arith))

fills_too : (rows others : List Row) (goal : List ℚ) (w m : ℕ) (x : ℕ → ℚ) → HaveSameCoefs rows others → m ≤ length rows
    → Fills (system_of rows goal) w m x (whole (pos 0)) → Fills (system_of others goal) w m x (whole (pos 0))
fills_too rows others goal w m x e h f = record {
  fills = λ r l.
      ap (λ s. s +ℚ x (w + r)) (total_same _ _ w (λ c k. ap (λ t. t *ℚ x c) (sym (same_coef rows others r c e (omega arith)))))
      ∙ f.fills r l ∙ *ℚ-zero _ ∙ sym (*ℚ-zero _);
}

-- two sums that give 0 with the same part
same_rest : (a b c : ℚ) → a +ℚ b ≡ whole (pos 0) → a +ℚ c ≡ whole (pos 0) → b ≡ c
same_rest a b c e f = +ℚ_cancel b c a (+ℚ_comm b a ∙ e ∙ sym f ∙ +ℚ_comm a c)

same_goal_gap : (t u : Tableau) (x : ℕ → ℚ) (z g y : ℚ) → goal_gap t x z g ≡ whole (pos 0) → goal_gap u x z g ≡ whole (pos 0) → goal_gap t x z y ≡ goal_gap u x z y
unfolding goal_gap
same_goal_gap t u x z g y e f = ap (λ d. y +ℚ d) (same_rest g (dot t.goal (values x z t.standing)) (dot u.goal (values x z u.standing)) e f)

pub same_forms : (t u : Tableau) (rows others : List Row) (goal : List ℚ) → StandsForRows t rows goal → StandsForRows u others goal → HaveSameCoefs rows others → width t ≡ width u → HaveSameForms t u
same_forms t u rows others goal a b e w =
    let n = same_length rows others e in
    let m : height t ≡ height u = sym a.shape.count ∙ n ∙ b.shape.count in
    let there : (x : ℕ → ℚ) → Meets t x (whole (pos 0)) → Meets u x (whole (pos 0)) =
    λ x h. (b.stands.rows x (whole (pos 0))).1
    (subst (λ k. Fills (system_of others goal) (width u) k x (whole (pos 0))) m
    (subst (λ k. Fills (system_of others goal) k (height t) x (whole (pos 0))) w
    (fills_too rows others goal (width t) (height t) x e (let l = a.shape.count in omega arith) ((a.stands.rows x (whole (pos 0))).0 h)))) in
    let back : (x : ℕ → ℚ) → Meets u x (whole (pos 0)) → Meets t x (whole (pos 0)) =
    λ x h. (a.stands.rows x (whole (pos 0))).1
    (subst (λ k. Fills (system_of rows goal) (width t) k x (whole (pos 0))) (sym m)
    (subst (λ k. Fills (system_of rows goal) k (height u) x (whole (pos 0))) (sym w)
    (fills_too others rows goal (width u) (height u) x (sym e) (let l = b.shape.count in omega arith) ((b.stands.rows x (whole (pos 0))).0 h)))) in
    record {
      rows = m;
      columns = w;
      met = λ x. (there x, back x);
      goal = λ x y h.
          same_goal_gap t u x (whole (pos 0)) (total (λ c. get_or goal c (whole (pos 0)) *ℚ x c) (width t)) y (a.stands.goals x (whole (pos 0)) h)
          (ap (λ k. goal_gap u x (whole (pos 0)) (total (λ c. get_or goal c (whole (pos 0)) *ℚ x c) k)) w ∙ b.stands.goals x (whole (pos 0)) (there x h));
    }

pub fresh_loaded : (t : Tableau) (s : System) → IsLoaded t s → IsFresh t
fresh_loaded t s l = record { shaped = l.shaped; placed = placed-loaded t s l; slacks = l.slacks; columns = l.columns }
