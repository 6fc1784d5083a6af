-- A row that is read is the row that was written, and what was written is read again.
use Rattle.std.proofs.Common.{Bor, take, ◌≡◌, ℕ, zero, suc, ◌-◌, ◌<◌, ◌≤◌, ◌^◌, Bool, true, false, List, [], ◌∷◌, ◌++◌, map, length, Option, Some, None, Ok, refl, sym, ap, subst, ◌∙◌, arith}
use Rattle.std.specs.Prelude.{if◌then◌else◌, slice_index_or}
use Rattle.std.specs.Fmt.{decimal}
use Rattle.std.proofs.lemmas.Bool.{true≢false}
use Rattle.named_row.specs.declared.names.RowId.{RowId}
use Rattle.certificate_model.specs.Words.{line_of}
use Rattle.plan_text.specs.Lines.{words_at}
use Rattle.certificate_model.specs.Families.{Table, family_name_in, family_in, is_lone_in, IsNamedIn, row_words_in}
use Rattle.plan_text.specs.CertificateReading.{range_of, index_of, lone_row, indexed_row, in_family, row_of, last_after, cut_last}
use Rattle.plan_text.proofs.Fields.{bind_ok, moved, number_takes, number_again}
use Rattle.plan_text.proofs.ExactWords.{decimal_word}
use Rattle.plan_text.proofs.FamilyNames.{Tells, family_takes}
use Rattle.plan_text.proofs.WordLines.{AreWords, words_again}

-- ---- an index

pub record IndexOf (w : List ℕ) (n : ℕ) : Type 0 where
  pub spelled : w ≡ decimal n
  pub least : 1 ≤ n
  pub most : n < 2 ^ 32

pub index_takes : (line : ℕ) (w : List ℕ) (n : ℕ) → index_of line w ≡ Ok n → IndexOf w n
unfolding index_of
index_takes line w n e =
    let t = number_takes (range_of line 1 (2 ^ 32 - 1)) w n e in
    let l = t.1.least in
    let g = t.1.greatest in
    record { spelled = t.0; least = omega arith; most = omega arith }

pub index_again : (line n : ℕ) → 1 ≤ n → n < 2 ^ 32 → index_of line (decimal n) ≡ Ok n
unfolding index_of
index_again line n least most = number_again (range_of line 1 (2 ^ 32 - 1)) n (record { least = least; greatest = omega arith; limit = omega arith })

-- ---- a row's name

pub record RowOf (table : Table) (ws : List (List ℕ)) (row : RowId) : Type 0 where
  pub spelled : ws ≡ row_words_in table row
  pub named : IsNamedIn table row
  pub index : row.index < 2 ^ 32

lone_takes : (table : Table) (line f : ℕ) (ws : List (List ℕ)) (row : RowId) → is_lone_in table f ≡ true → 1 ≤ f → f ≤ length table → lone_row line f ws ≡ Ok row
    → RowOf table (family_name_in table f ∷ ws) row
unfolding lone_row
lone_takes table line f [] row l first last e =
    moved (RowOf table (family_name_in table f ∷ [])) (record { family = f; index = 0 }) row e (record {
      spelled = rw l refl;
      named = record { first = first; last = last; lone = λ p. refl; indexed = λ p. absurd (true≢false (sym l ∙ p)) };
      index = omega arith;
    })
lone_takes table line f (x ∷ ws) row l first last e = absurd cc

indexed_takes : (table : Table) (line f : ℕ) (ws : List (List ℕ)) (row : RowId) → is_lone_in table f ≡ false → 1 ≤ f → f ≤ length table
    → indexed_row line f ws ≡ Ok row → RowOf table (family_name_in table f ∷ ws) row
unfolding indexed_row
indexed_takes table line f [] row l first last e = absurd cc
indexed_takes table line f (i ∷ []) row l first last e =
    let a = bind_ok (index_of line i) (λ index. Ok (record { family = f; index = index })) row e in
    let n = index_takes line i a.0 a.1 in
    moved (RowOf table (family_name_in table f ∷ i ∷ [])) (record { family = f; index = a.0 }) row a.2 (record {
      spelled = rw l (λ j. family_name_in table f ∷ n.spelled j ∷ []);
      named = record { first = first; last = last; lone = λ p. absurd (true≢false (sym p ∙ l)); indexed = λ p. n.least };
      index = n.most;
    })
indexed_takes table line f (i ∷ x ∷ ws) row l first last e = absurd cc

family_by : (table : Table) (line f : ℕ) (ws : List (List ℕ)) (row : RowId) (b : Bool) → is_lone_in table f ≡ b → 1 ≤ f → f ≤ length table
    → (if b then lone_row line f ws else indexed_row line f ws) ≡ Ok row → RowOf table (family_name_in table f ∷ ws) row
family_by table line f ws row true l first last e = lone_takes table line f ws row l first last e
family_by table line f ws row false l first last e = indexed_takes table line f ws row l first last e

in_family_takes : (table : Table) (line : ℕ) (name : List ℕ) (ws : List (List ℕ)) (row : RowId) (o : Option ℕ) → family_in table name ≡ o
    → in_family table line ws o ≡ Ok row → RowOf table (name ∷ ws) row
in_family_takes table line name ws row None f e = absurd cc
in_family_takes table line name ws row (Some n) f e =
    let t = family_takes table name n f in
    subst (λ (y : List ℕ). RowOf table (y ∷ ws) row) (sym t.name) (family_by table line n ws row (is_lone_in table n) refl t.first t.last e)

pub row_takes : (table : Table) (line : ℕ) (ws : List (List ℕ)) (row : RowId) → row_of table line ws ≡ Ok row → RowOf table ws row
unfolding row_of
row_takes table line [] row e = absurd cc
row_takes table line (name ∷ ws) row e = in_family_takes table line name ws row (family_in table name) refl e

-- a row's words, in a family of one row or of many
lone_again : (line f : ℕ) (row : RowId) → row.family ≡ f → row.index ≡ 0 → lone_row line f [] ≡ Ok row
unfolding lone_row
lone_again line f row is z = λ i. Ok (record { family = sym is i; index = sym z i })

indexed_again : (line : ℕ) (row : RowId) → 1 ≤ row.index → row.index < 2 ^ 32 → indexed_row line row.family (decimal row.index ∷ []) ≡ Ok row
unfolding indexed_row
indexed_again line row least few = rw (index_again line row.index least few) refl

words_by : (table : Table) (line : ℕ) (row : RowId) (b : Bool) → is_lone_in table row.family ≡ b → Tells table → IsNamedIn table row → row.index < 2 ^ 32
    → row_of table line (if b then family_name_in table row.family ∷ [] else family_name_in table row.family ∷ decimal row.index ∷ []) ≡ Ok row
unfolding row_of
words_by table line row true l tells named few = rw (tells.again row.family named.first named.last, l) (lone_again line row.family row refl (named.lone l))
words_by table line row false l tells named few = rw (tells.again row.family named.first named.last, l) (indexed_again line row (named.indexed l) few)

pub row_again : (table : Table) (line : ℕ) (row : RowId) → Tells table → IsNamedIn table row → row.index < 2 ^ 32 → row_of table line (row_words_in table row) ≡ Ok row
row_again table line row tells named few = words_by table line row (is_lone_in table row.family) refl tells named few

-- ---- the last word of a line

pub cut_last_again : (front : List (List ℕ)) (w : List ℕ) → cut_last (front ++ w ∷ []) ≡ Some (front, w)
cut_last_again [] w = refl
cut_last_again (v ∷ vs) w = ap (last_after v) (cut_last_again vs w)

none_last : (ws : List (List ℕ)) → cut_last ws ≡ None → ws ≡ []
none_last [] e = refl
none_last (w ∷ ws) e = absurd (some_after (cut_last ws) e)
  where
    some_after : (o : Option (List (List ℕ) × List ℕ)) → last_after w o ≡ None → ⊥
    some_after None e = cc
    some_after (Some p) e = cc

last_by : (w : List ℕ) (ws : List (List ℕ)) (o : Option (List (List ℕ) × List ℕ)) (p : List (List ℕ) × List ℕ) → (o ≡ None → ws ≡ [])
    → ((q : List (List ℕ) × List ℕ) → o ≡ Some q → ws ≡ q.0 ++ q.1 ∷ []) → last_after w o ≡ Some p → w ∷ ws ≡ p.0 ++ p.1 ∷ []
last_by w ws None p none some e =
    let k : ([], w) ≡ p = cc in
    ap (λ (y : List (List ℕ)). w ∷ y) (none refl) ∙ ap (λ (q : List (List ℕ) × List ℕ). q.0 ++ q.1 ∷ []) k
last_by w ws (Some q) p none some e =
    let k : (w ∷ q.0, q.1) ≡ p = cc in
    ap (λ (y : List (List ℕ)). w ∷ y) (some q refl) ∙ ap (λ (r : List (List ℕ) × List ℕ). r.0 ++ r.1 ∷ []) k

pub cut_last_takes : (ws : List (List ℕ)) (p : List (List ℕ) × List ℕ) → cut_last ws ≡ Some p → ws ≡ p.0 ++ p.1 ∷ []
cut_last_takes [] p e = absurd cc
cut_last_takes (w ∷ ws) p e = last_by w ws (cut_last ws) p (none_last ws) (λ q k. cut_last_takes ws q k) e

-- as a slice has them
pub last_at : (ws : List (Bor (List ℕ))) (k : ℕ) (d : Bor (List ℕ)) → length ws ≡ suc k → Some (map (λ w. w.now) (take k ws), (slice_index_or ws k d).now) ≡ cut_last (map (λ w. w.now) ws)
last_at [] k d e = absurd (omega arith)
last_at (w ∷ []) zero d e = refl
last_at (w ∷ []) (suc k) d e = absurd (omega arith)
last_at (w ∷ v ∷ ws) zero d e = absurd (omega arith)
last_at (w ∷ v ∷ ws) (suc k) d e = ap (last_after w.now) (last_at (v ∷ ws) k d (omega arith))

-- the words of a row's line
pub are_words : (table : Table) (row : RowId) (b : Bool) (more : List (List ℕ)) → Tells table → IsNamedIn table row → row.index < 2 ^ 32 → AreWords more
    → AreWords ((if b then family_name_in table row.family ∷ [] else family_name_in table row.family ∷ decimal row.index ∷ []) ++ more)
are_words table row true more tells named few rest = (tells.word row.family named.first named.last, rest)
are_words table row false more tells named few rest = (tells.word row.family named.first named.last, (decimal_word row.index (omega arith), rest))

row_line_by : (table : Table) (line : ℕ) (row : RowId) (b : Bool) (more : List (List ℕ)) (rest : List ℕ) → Tells table → IsNamedIn table row → row.index < 2 ^ 32 → AreWords more
    → let ws : List (List ℕ) = (if b then family_name_in table row.family ∷ [] else family_name_in table row.family ∷ decimal row.index ∷ []) ++ more in
    words_at line (line_of ws ++ 10 ∷ rest) ≡ Ok (ws, rest)
row_line_by table line row true more rest tells named few k = words_again line (family_name_in table row.family) more rest (are_words table row true more tells named few k)
row_line_by table line row false more rest tells named few k = words_again line (family_name_in table row.family) (decimal row.index ∷ more) rest (are_words table row false more tells named few k)

-- a row's name and more words
pub row_line_again : (table : Table) (line : ℕ) (row : RowId) (more : List (List ℕ)) (rest : List ℕ) → Tells table → IsNamedIn table row → row.index < 2 ^ 32
    → AreWords more → words_at line (line_of (row_words_in table row ++ more) ++ 10 ∷ rest) ≡ Ok (row_words_in table row ++ more, rest)
row_line_again table line row more rest tells named few k = row_line_by table line row (is_lone_in table row.family) more rest tells named few k
