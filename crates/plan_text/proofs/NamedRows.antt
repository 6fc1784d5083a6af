-- A row that a leaf names is the row that was written, and what was written is read again.
use Rattle.std.proofs.Common.{◌≡◌, ℕ, zero, suc, ◌-◌, ◌<◌, ◌≤◌, ◌^◌, List, [], ◌∷◌, ◌++◌, length, get_or, Option, Some, None, Ok, refl, sym, ap, subst, ◌∙◌, arith}
use Rattle.std.specs.Prelude.{slice_get, slice_index_or}
use Rattle.std.specs.Fmt.{decimal}
use Rattle.std.specs.List.{AllByRecursion}
use Rattle.named_row.specs.declared.leaves.Weight.{Weight}
use Rattle.named_row.specs.declared.names.RowId.{RowId}
use Rattle.plan_text.specs.declared.form.LeafForm.{LeafForm}
use Rattle.certificate_model.specs.Words.{line_of}
use Rattle.plan_text.specs.Numbers.{number}
use Rattle.plan_text.specs.Lines.{◌>>=◌, ranged, words_at}
use Rattle.certificate_model.specs.Families.{Table, IsNamedIn}
use Rattle.plan_text.specs.Leaves.{AscendRows, place_of_row, multiplier_word}
use Rattle.plan_text.specs.Namings.{Naming, Named, Listed, IsFormed, name_words, weight_words}
use Rattle.plan_text.specs.CertificateReading.{or_number, range_of, listed_row, row_in, multiplier_of, cut_last, weight_by, weight_of}
use Rattle.plan_text.proofs.Fields.{bind_ok, moved, number_takes, number_again}
use Rattle.plan_text.proofs.ExactWords.{decimal_word}
use Rattle.plan_text.proofs.WordLines.{number_ok, AreWords, words_again}
use Rattle.plan_text.proofs.FamilyNames.{Tells}
use Rattle.plan_text.proofs.WeightLines.{row_takes, row_again, row_line_again, cut_last_again, cut_last_takes}
use Rattle.plan_text.proofs.ListedRows.{IsListed}
use Rattle.plan_text.proofs.Places.{place_at, place_of_listed}
use Rattle.plan_text.proofs.Multipliers.{multiplier_takes, Suits, multiplier_again, multiplier_is_word}
use Rattle.plan_text.proofs.RowLoop.{ReadsAs}
use Rattle.narrow_fraction.specs.Fraction.{FitsFrac}

-- ---- places in a list

pub get_some : (rs : List RowId) (i : ℕ) (r d : RowId) → i < length rs → r ≡ slice_index_or rs i d → slice_get rs i ≡ Some r
get_some [] i r d lt is = absurd (omega arith)
get_some (s ∷ rs) zero r d lt is = ap Some (sym is)
get_some (s ∷ rs) (suc i) r d lt is = get_some rs i r d (omega arith) is

pub get_none : (rs : List RowId) (i : ℕ) → length rs ≤ i → slice_get rs i ≡ None
get_none [] i le = refl
get_none (s ∷ rs) zero le = absurd (omega arith)
get_none (s ∷ rs) (suc i) le = get_none rs i (omega arith)

got : (rs : List RowId) (i : ℕ) (r : RowId) → slice_get rs i ≡ Some r → (i < length rs) × (get_or rs i r ≡ r)
got [] i r e = absurd cc
got (s ∷ rs) zero r e = (omega arith, cc)
got (s ∷ rs) (suc i) r e = let g = got rs i r e in (omega (arith, g.0), g.1)

got_kept : (P : RowId → Type 0) (rs : List RowId) (i : ℕ) (r : RowId) → AllByRecursion P rs → slice_get rs i ≡ Some r → P r
got_kept P [] i r all e = absurd cc
got_kept P (s ∷ rs) zero r all e = let k : s ≡ r = cc in subst P k all.0
got_kept P (s ∷ rs) (suc i) r all e = got_kept P rs i r all.1 e

-- ---- a row

-- a row of a table that the program can hold
pub record IsRowIn (table : Table) (row : RowId) : Type 0 where
  pub named : IsNamedIn table row
  pub index : row.index < 2 ^ 32

-- the rows that are named are rows of a table
abbrev pub IsOver : Naming → Table → Type 0
IsOver (Named own) table = own ≡ table
IsOver (Listed rows) table = AscendRows None rows × AllByRecursion (IsRowIn table) rows

record NameOf (names : Naming) (table : Table) (ws : List (List ℕ)) (row : RowId) : Type 0 where
  spelled : ws ≡ name_words names row
  kept : IsRowIn table row

listed_takes : (rows : List RowId) (table : Table) (line : ℕ) (ws : List (List ℕ)) (row : RowId) → IsOver (Listed rows) table → listed_row rows line ws ≡ Ok row → NameOf (Listed rows) table ws row
unfolding listed_row
listed_takes rows table line [] row is e = absurd cc
listed_takes rows table line (i ∷ []) row is e =
    let a = bind_ok (ranged (range_of line 1 (2 ^ 64 - 1)) (number i)) (λ place. or_number line (slice_get rows (place - 1))) row e in
    let n = number_takes (range_of line 1 (2 ^ 64 - 1)) i a.0 a.1 in
    let found = number_ok line (slice_get rows (a.0 - 1)) row a.2 in
    let g = got rows (a.0 - 1) row found in
    let place : place_of_row rows row ≡ suc (a.0 - 1) = ap (place_of_row rows) (sym g.1) ∙ place_at None rows (a.0 - 1) row is.0 g.0 in
    let same : suc (a.0 - 1) ≡ a.0 = omega (arith, n.1.least) in
    record { spelled = λ j. (n.0 ∙ ap decimal (sym (place ∙ same))) j ∷ []; kept = got_kept (IsRowIn table) rows (a.0 - 1) row is.1 found }
listed_takes rows table line (i ∷ x ∷ ws) row is e = absurd cc

row_in_takes : (names : Naming) (table : Table) (line : ℕ) (ws : List (List ℕ)) (row : RowId) → IsOver names table → row_in names line ws ≡ Ok row → NameOf names table ws row
row_in_takes (Named own) table line ws row is e =
    let r = row_takes own line ws row e in
    record { spelled = r.spelled; kept = subst (λ (t : Table). IsRowIn t row) is (record { named = r.named; index = r.index }) }
row_in_takes (Listed rows) table line ws row is e = listed_takes rows table line ws row is e

-- a row that can be named so
abbrev pub IsTold : Naming → RowId → Type 0
IsTold (Named table) row = Tells table × IsRowIn table row
IsTold (Listed rows) row = AscendRows None rows × IsListed rows row × (length rows < 2 ^ 64)

listed_again : (rows : List RowId) (line : ℕ) (row : RowId) → IsTold (Listed rows) row → listed_row rows line (decimal (place_of_row rows row) ∷ []) ≡ Ok row
unfolding listed_row
listed_again rows line row told =
    let p = place_of_listed None rows row told.0 told.1 in
    let place = place_of_row rows row in
    let back : place - 1 ≡ p.0 = omega (arith, p.1.place) in
    let read = number_again (range_of line 1 (2 ^ 64 - 1)) place (record {
      least = omega (arith, p.1.place);
      greatest = omega (arith, p.1.place, p.1.inside, told.2);
      limit = omega (arith, p.1.place, p.1.inside, told.2);
    }) in
    rw (read, back, get_some rows p.0 row row p.1.inside (sym (p.1.is row))) refl

row_in_again : (names : Naming) (line : ℕ) (row : RowId) → IsTold names row → row_in names line (name_words names row) ≡ Ok row
row_in_again (Named table) line row told = row_again table line row told.0 told.1.named told.1.index
row_in_again (Listed rows) line row told = listed_again rows line row told

name_line : (names : Naming) (line : ℕ) (row : RowId) (more : List (List ℕ)) (rest : List ℕ) → IsTold names row → AreWords more
    → words_at line (line_of (name_words names row ++ more) ++ 10 ∷ rest) ≡ Ok (name_words names row ++ more, rest)
name_line (Named table) line row more rest told k = row_line_again table line row more rest told.0 told.1.named told.1.index k
name_line (Listed rows) line row more rest told k =
    let p = place_of_listed None rows row told.0 told.1 in
    words_again line (decimal (place_of_row rows row)) more rest (decimal_word (place_of_row rows row) (omega (arith, p.1.place, p.1.inside, told.2)), k)

-- ---- a row and its multiplier

pub record KeptWeight (table : Table) (w : Weight) : Type 0 where
  pub row : IsRowIn table w.row
  pub by : FitsFrac w.by

weight_by_takes : (names : Naming) (table : Table) (form : LeafForm) (line : ℕ) (ws : List (List ℕ)) (w : Weight) (o : Option (List (List ℕ) × List ℕ))
    → IsOver names table → IsFormed form → cut_last ws ≡ o → weight_by names form line o ≡ Ok w → (ws ≡ weight_words names form w) × KeptWeight table w
weight_by_takes names table form line ws w None is formed k e = absurd cc
weight_by_takes names table form line ws w (Some p) is formed k e =
    let a = bind_ok (row_in names line p.0) (λ row. multiplier_of form line p.1 >>= λ by. Ok (record { row = row; by = by })) w e in
    let b = bind_ok (multiplier_of form line p.1) (λ by. Ok (record { row = a.0; by = by })) w a.2 in
    let made : Weight = record { row = a.0; by = b.0 } in
    let r = row_in_takes names table line p.0 a.0 is a.1 in
    let m = multiplier_takes form line p.1 b.0 formed b.1 in
    let value = m.spelled made refl in
    moved (λ (v : Weight). (ws ≡ weight_words names form v) × KeptWeight table v) made w b.2
    (cut_last_takes ws p k ∙ (λ i. r.spelled i ++ value i ∷ []), record { row = r.kept; by = m.fits })

pub weight_takes : (names : Naming) (table : Table) (form : LeafForm) → IsOver names table → IsFormed form → (line : ℕ) (ws : List (List ℕ)) (w : Weight)
    → weight_of names form line ws ≡ Ok w → (ws ≡ weight_words names form w) × KeptWeight table w
unfolding weight_of
weight_takes names table form is formed line ws w e = weight_by_takes names table form line ws w (cut_last ws) is formed refl e

weight_again : (names : Naming) (form : LeafForm) (line : ℕ) (w : Weight) → IsTold names w.row → Suits form w → weight_of names form line (weight_words names form w) ≡ Ok w
unfolding weight_of
weight_again names form line w told suits =
    ap (weight_by names form line) (cut_last_again (name_words names w.row) (multiplier_word form w)) ∙ rw (row_in_again names line w.row told, multiplier_again form line w suits) refl

pub weight_reads : (names : Naming) (form : LeafForm) (w : Weight) → IsTold names w.row → Suits form w → ReadsAs (weight_of names form) (weight_words names form) w
weight_reads names form w told suits = record {
  again = λ line. weight_again names form line w told suits;
  words = λ line rest. name_line names line w.row (multiplier_word form w ∷ []) rest told (multiplier_is_word form w suits, tt);
}
