-- A tableau while the bounds of a box are put into the loaded rows of another one, row after row.
use Rattle.std.proofs.Common.{◌≡◌, ℕ, [], ◌∷◌, ◌++◌, map, length, set, ◌+◌, ◌<◌, ◌≤◌, ◌⊎◌, inl, inr, refl, sym, ◌∙◌, ap, ap₂, subst, arith}
use Rattle.std.proofs.Math.ListN.{length-set}
use Rattle.std.proofs.lemmas.List.{get_or-set_same, get_or-set_other, length-map, ext_get_or}
use Rattle.rational_theory.specs.Rational.{ℚ}
use Rattle.progression.specs.Street.{Street}
use Rattle.linear_theory.specs.Boxes.{Area}
use Rattle.linear_theory.specs.Rows as rows
use Rattle.linear_theory.specs.Names.{form_of, name_of, HasRow}
use Rattle.named_row.specs.declared.names.RowId.{RowId}
use Rattle.simplex_theory.specs.Tableau.{line, height}
use Rattle.fraction_tableau.proofs.Rebound.{push_last}
use Rattle.fraction_tableau.specs.NamedTableaus.{NamedTableau, name_in, rebound, with_bound}
use Rattle.program_builder.specs.BoxRows.{rows_of}
use Rattle.program_builder.specs.Loading.{cells_of, loaded_table}
use Rattle.program_builder.specs.Opening.{artery_table, row_for, box_rows, loaded}
use Rattle.program_builder.specs.Building.{IsLoadedFor, loaded_box}
use Rattle.program_builder.proofs.LoadedTables.{height-loaded, line-loaded}
use Rattle.program_builder.proofs.Entry.{form_coefs}
use Rattle.program_builder.proofs.RowOrder.{among_there_is}

-- the rows below k have the bounds of the box, the others those of the other one
pub record IsBounding (a : Street) (box : Area) (t : NamedTableau) (k : ℕ) : Type 0 where
  pub other : Area
  pub rows : height t.table ≡ length (rows_of a)
  pub done : (i : ℕ) → i < k → i < length (rows_of a) → line t.table i ≡ cells_of (row_for a box (name_in (rows_of a) i))
  pub rest : (i : ℕ) → k ≤ i → i < length (rows_of a) → line t.table i ≡ cells_of (row_for a other (name_in (rows_of a) i))
  pub same : t ≡ record (loaded_box a other) { table = record (loaded a other) { rows = t.table.rows } }

pub none_bounded : (a : Street) (box : Area) (t : NamedTableau) → IsLoadedFor a t → IsBounding a box t 0
none_bounded a box t m =
    let other = m.box in
    let e = m.is in
    subst (λ (s : NamedTableau). IsBounding a box s 0) (sym e)
    (record {
      other = other;
      rows = height-loaded (artery_table a) other;
      done = λ i h l. absurd (omega arith);
      rest = λ i h l. line-loaded (artery_table a) other i l;
      same = refl;
    })

last_or_before : (i k : ℕ) → i < k + 1 → (i ≡ k) ⊎ (i < k)
last_or_before i k h = grind arith

pub name_is : (a : Street) (box : Area) (t : NamedTableau) (k : ℕ) → IsBounding a box t k → name_in t.names k ≡ name_in (rows_of a) k
name_is a box t k o = ap (λ (s : NamedTableau). name_in s.names k) o.same

-- the artery has the row
pub name_there : (a : Street) (box : Area) (t : NamedTableau) (k : ℕ) → IsBounding a box t k → k < height t.table → HasRow a (name_of (name_in t.names k).family (name_in t.names k).index)
name_there a box t k o h = (among_there_is a (name_in t.names k)).0 (record { place = k; within = let n = o.rows in omega arith; is = sym (name_is a box t k o) })

-- a row that has no bound of its own for a box
pub row_kept : (a : Street) (box : Area) (t : NamedTableau) (k : ℕ) → IsBounding a box t k
    → ((other : Area) → form_of a other (name_of (name_in t.names k).family (name_in t.names k).index) ≡ form_of a box (name_of (name_in t.names k).family (name_in t.names k).index))
    → IsBounding a box t (k + 1)
row_kept a box t k o e = record {
  other = o.other;
  rows = o.rows;
  done = λ i h l. elim (last_or_before i k h) [
    | inl q ↦ rw q (o.rest k (omega arith) (subst (λ n. n < length (rows_of a)) q l)
        ∙ ap (λ f. cells_of (rows.line a f)) (subst (λ (r : RowId). form_of a o.other (name_of r.family r.index) ≡ form_of a box (name_of r.family r.index)) (name_is a box t k o) (e o.other)))
    | inr q ↦ o.done i q l
  ];
  rest = λ i h l. o.rest i (omega arith) l;
  same = o.same;
}

-- the cells stay, and the bound is that of the box
row_bounded : (a : Street) (box other : Area) (r : RowId) (x : ℚ) → x ≡ (form_of a box (name_of r.family r.index)).bound → rebound x (cells_of (row_for a other r)) ≡ cells_of (row_for a box r)
row_bounded a box other r x e =
    push_last (row_for a other r).coefs (row_for a other r).bound x
    ∙ ap₂ (λ cs b. cs ++ b ∷ []) (form_coefs a other box (name_of r.family r.index)) e

pub row_set : (a : Street) (box : Area) (t u : NamedTableau) (k : ℕ) (x : ℚ) → IsBounding a box t k → k < height t.table
    → x ≡ (form_of a box (name_of (name_in t.names k).family (name_in t.names k).index)).bound → u ≡ with_bound k x t → IsBounding a box u (k + 1)
unfolding with_bound
row_set a box t u k x o b d f =
    let other = o.other in
    let h : k < length (rows_of a) = (let n = o.rows in omega arith) in
    let e = d ∙ ap (λ (r : RowId). (form_of a box (name_of r.family r.index)).bound) (name_is a box t k o) in
    let in_rows : k < length t.table.rows = (let n = o.rows in omega arith) in
    let row = rebound x (line t.table k) in
    subst (λ (s : NamedTableau). IsBounding a box s (k + 1)) (sym f)
    (record {
      other = other;
      rows = length-set t.table.rows k row ∙ o.rows;
      done = λ i b l. elim (last_or_before i k b) [
        | inl q ↦ rw q (get_or-set_same t.table.rows k row [] in_rows ∙ ap (rebound x) (o.rest k (omega arith) h) ∙ row_bounded a box other (name_in (rows_of a) k) x e)
        | inr q ↦ get_or-set_other t.table.rows k i row [] (λ d. absurd (omega arith)) ∙ o.done i q l
      ];
      rest = λ i b l. get_or-set_other t.table.rows k i row [] (λ d. absurd (omega arith)) ∙ o.rest i (omega arith) l;
      same = ap (λ (s : NamedTableau). record s { table = record s.table { rows = set t.table.rows k row } }) o.same;
    })

pub all_bounded : (a : Street) (box : Area) (t : NamedTableau) (k : ℕ) → IsBounding a box t k → height t.table ≤ k → t ≡ loaded_box a box
unfolding loaded_table
all_bounded a box t k o h =
    let other = o.other in
    let n = length-map (box_rows a box) cells_of ∙ length-map (rows_of a) (row_for a box) in
    let e : t.table.rows ≡ map cells_of (box_rows a box) =
    ext_get_or [] t.table.rows (map cells_of (box_rows a box)) (o.rows ∙ sym n) (λ i l.
    let b : i < length (rows_of a) = (let r = o.rows in omega arith) in
    o.done i (omega arith) b ∙ sym (line-loaded (artery_table a) box i b)) in
    o.same ∙ ap (λ rs. record (loaded_box a other) { table = record (loaded a other) { rows = rs } }) e
