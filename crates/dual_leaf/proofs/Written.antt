-- Values that are written from the last place to the first, so that the first place of a variable decides.
use Rattle.std.proofs.Common.{◌≡◌, Result, Ok, Err, IfOk, ℕ, suc, pos, cond, eqb, List, [], ◌∷◌, length, get_or, drop, ◌+◌, ◌<◌, refl, sym, ◌∙◌, ap, ap₂, arith}
use Rattle.std.proofs.Math.Seq.{drop-cons, drop-length}
use Rattle.std.proofs.lemmas.List.{ext_get_or}
use Rattle.std.proofs.lemmas.Bool.{cond-true, cond-false, eq-eqb, ne_eqb}
use Rattle.rational_theory.specs.Rational.{ℚ, whole, neg_ℚ}
use Rattle.rational_theory.proofs.Arithmetic.{neg-neg, *ℚ-one}
use Rattle.rational_theory.specs.Rows.{dot}
use Rattle.simplex_theory.specs.Lines.{values}
use Rattle.simplex_theory.specs.Tableau.{Tableau, line, cell, height, width, bound, basic_at, IsShaped}
use Rattle.fraction_tableau.specs.NamedTableaus.{number_at}
use Rattle.dual_leaf.specs.Leaves.{row_or_goal}
use Rattle.simplex_theory.specs.Totals.{cell_of}
use Rattle.simplex_theory.specs.Vertices.{filled, fill, vertex}
use Rattle.simplex_theory.proofs.Vertices.{dot_zeros}
use Rattle.simplex_theory.specs.RowLists.{columns_from, vertex_point}
use Rattle.simplex_theory.proofs.RowLists.{columns_from_at, length-columns_from}

-- ---- cells at slacks
cell_of_nothing : (c : List ℚ) (v : ℕ) → cell_of c [] v ≡ whole (pos 0)
cell_of_nothing [] v = refl
cell_of_nothing (a ∷ us) v = refl

-- the values d of the variables from w on: the cells of the places from i on
pub record Slacks (w : ℕ) (c : List ℚ) (vs : List ℕ) (n : ℕ) (d : List ℚ) (i : ℕ) : Type 0 where
  pub count : length d ≡ n
  pub cells : (k : ℕ) → k < n → get_or d k (whole (pos 0)) ≡ cell_of (drop i c) (drop i vs) (w + k)

pub slacks_none : (w : ℕ) (c : List ℚ) (vs : List ℕ) (d : List ℚ) (i : ℕ) → i ≡ length vs → ((k : ℕ) → k < length d → get_or d k (whole (pos 0)) ≡ whole (pos 0)) → Slacks w c vs (length d) d i
slacks_none w c vs d i e h =
    let none : drop i vs ≡ [] = ap (λ n. drop n vs) e ∙ drop-length vs in
    record { count = refl; cells = λ k l. h k l ∙ sym (ap (λ u. cell_of (drop i c) u (w + k)) none ∙ cell_of_nothing (drop i c) (w + k)) }

-- ---- bounds of basic columns
abbrev zero_of : ℕ → ℚ
zero_of v = whole (pos 0)

abbrev unit_values : List ℕ → List ℚ
unit_values vs = values zero_of (whole (pos 1)) vs

-- the values d of the columns: those of the rows from i on
pub record Basics (t : Tableau) (n : ℕ) (d : List ℚ) (i : ℕ) : Type 0 where
  pub count : length d ≡ n
  pub cells : (k : ℕ) → k < n → get_or d k (whole (pos 0)) ≡ filled zero_of (unit_values t.standing) (drop i t.basic) (drop i t.rows) k

row_value : (t : Tableau) (i : ℕ) → IsShaped t → i < height t → neg_ℚ (dot (line t i) (unit_values t.standing)) ≡ bound t i
row_value t i s h = ap neg_ℚ (dot_zeros (line t i) zero_of (whole (pos 1)) t.standing (s.lines i h) (λ j k. refl)) ∙ neg-neg _ ∙ *ℚ-one _

pub basics_next : (t : Tableau) (n : ℕ) (d e : List ℚ) (i j : ℕ) (u : ℕ) (a : ℚ) → IsShaped t → Basics t n d i → i ≡ j + 1 → j < height t → u ≡ basic_at t j → a ≡ bound t j
    → length e ≡ length d → ((k : ℕ) → k < length d → get_or e k (whole (pos 0)) ≡ cond (eqb (0 + k) u) a (get_or d k (whole (pos 0)))) → Basics t n e j
basics_next t n d e i j u a h s q g p r l f =
    let step : i ≡ suc j = omega arith in
    let cs : drop j t.rows ≡ line t j ∷ drop i t.rows = drop-cons t.rows j [] g ∙ ap (λ m. line t j ∷ drop m t.rows) (sym step) in
    let us : drop j t.basic ≡ basic_at t j ∷ drop i t.basic = drop-cons t.basic j 0 (let y = h.basics in omega arith) ∙ ap (λ m. basic_at t j ∷ drop m t.basic) (sym step) in
    record {
      count = l ∙ s.count;
      cells = λ k m.
          let z : 0 + k ≡ k = omega arith in
          f k (let y = s.count in omega arith)
          ∙ ap₂ (λ x y. cond (eqb y u) a x) (s.cells k m) z
          ∙ ap₂ (λ x y. cond (eqb k x) y (filled zero_of (unit_values t.standing) (drop i t.basic) (drop i t.rows) k)) p (r ∙ sym (row_value t j h g))
          ∙ sym (ap₂ (λ x y. filled zero_of (unit_values t.standing) x y k) us cs);
    }

pub basics_all : (t : Tableau) (n : ℕ) (d : List ℚ) → Basics t n d 0 → (k : ℕ) → k < n → get_or d k (whole (pos 0)) ≡ vertex t k
unfolding vertex fill
basics_all t n d s k h = s.cells k h

-- the vertex as a list
pub vertex_list : (t : Tableau) (d : List ℚ) → length d ≡ width t → ((k : ℕ) → k < width t → get_or d k (whole (pos 0)) ≡ vertex t k) → d ≡ vertex_point t
unfolding vertex_point
vertex_list t d e h =
    ext_get_or (whole (pos 0)) d (columns_from (vertex t) 0 (width t)) (e ∙ sym (length-columns_from (vertex t) 0 (width t)))
    (λ k l. let m : k < width t = omega arith in let z : 0 + k ≡ k = omega arith in h k m ∙ sym (columns_from_at (vertex t) 0 (width t) k m ∙ ap (vertex t) z))

-- ---- reading
pub bound_read : (t : Tableau) (r k : ℕ) → r < height t → k ≡ width t → number_at t r k ≡ bound t r
bound_read t r k h e = cond-false (eqb r (height t)) _ _ (ne_eqb r (height t) (λ q. absurd (omega arith))) ∙ ap (λ m. cell t r m) e

pub goal_read : (t : Tableau) (r : ℕ) → r ≡ height t → row_or_goal t r ≡ t.goal
goal_read t r e = cond-true (eqb r (height t)) _ _ (eq-eqb r (height t) e)

pub row_read : (t : Tableau) (r : ℕ) → r < height t → row_or_goal t r ≡ line t r
row_read t r h = cond-false (eqb r (height t)) _ _ (ne_eqb r (height t) (λ q. absurd (omega arith)))

-- an answer that is Ok with one property is Ok with another
pub ok_with : {A E : Type 0} (r : Result A E) (P Q : A → Type 0) → ((x : A) → P x → Q x) → IfOk r P → IfOk r Q
ok_with (Ok x) P Q f h = f x h
ok_with (Err e) P Q f h = h
