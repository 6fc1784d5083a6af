-- Rows and records of more and more cycles.
use Rattle.std.proofs.Common.{◌≡◌, ℕ, ◌+◌, ◌<◌, List, [], ◌∷◌, ◌++◌, length, take, get_or, Option, All, sym, ◌∙◌, ap, subst}
use Rattle.std.specs.List.{flat_map}
use Rattle.std.specs.Io.KnownBytes.{Appends}
use Rattle.std.proofs.KnownBytes.{Appends-trans}
use Rattle.std.proofs.lemmas.List.{take_more, flat_map_more}
use Rattle.std.proofs.lemmas.List.Elements.{All-push}
use Rattle.std.proofs.lemmas.Slice.Zip.{all_zipped_more}
use Rattle.rational_theory.specs.Rational.{ℚ}
use Rattle.progression.specs.Street.{Street}
use Rattle.cycle_sweep.specs.declared.row.SweepRow.{SweepRow}
use Rattle.cycle_sweep.specs.Rows.{IsRow, AreRows, IsTimedRow}

-- one more element is taken
one_more : {X : Type 0} (xs : List X) (i : ℕ) (x : X) → i < length xs → x ≡ get_or xs i x → take i xs ++ x ∷ [] ≡ take (i + 1) xs
one_more xs i x lt is = sym (take_more xs i x lt ∙ ap (λ y. take i xs ++ y ∷ []) (sym is))

-- one more cycle and its row
pub rows_more : (a : Street) (limit : Option ℕ) (cycles : List ℚ) (i : ℕ) (cycle : ℚ) (rows now : List SweepRow) (row : SweepRow)
    → i < length cycles → cycle ≡ get_or cycles i cycle → now ≡ rows ++ row ∷ []
    → AreRows a limit (take i cycles) rows → IsRow a limit cycle row → AreRows a limit (take (i + 1) cycles) now
rows_more a limit cycles i cycle rows now row lt is e h k =
    rw (e, sym (one_more cycles i cycle lt is)) (all_zipped_more (IsRow a limit) (take i cycles) rows cycle row h k)

pub timed_more : (rows now : List SweepRow) (row : SweepRow) → now ≡ rows ++ row ∷ [] → All IsTimedRow rows → IsTimedRow row → All IsTimedRow now
timed_more rows now row e h k = rw e (All-push IsTimedRow rows row h k)

-- one more record is written
pub records_more : (text : SweepRow → List ℕ) (rows : List SweepRow) (i : ℕ) (row : SweepRow) (first before after : Option (List ℕ))
    → i < length rows → row ≡ get_or rows i row → Appends first before (flat_map text (take i rows)) → Appends before after (text row)
    → Appends first after (flat_map text (take (i + 1) rows))
records_more text rows i row first before after lt is h k =
    subst (λ (bytes : List ℕ). Appends first after bytes) (flat_map_more text [] (take i rows) row ∙ ap (flat_map text) (one_more rows i row lt is))
    (Appends-trans first before after (flat_map text (take i rows)) (text row) h k)
