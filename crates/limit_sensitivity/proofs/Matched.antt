-- Rows of more and more changes.
use Rattle.std.proofs.Common.{◌≡◌, ℕ, ◌+◌, ◌<◌, ◌≤◌, List, [], ◌∷◌, ◌++◌, length, take, get_or, Option, sym, ◌∙◌, ap, subst}
use Rattle.std.specs.List.{AllZip}
use Rattle.std.proofs.lemmas.List.{take_more, take_all}
use Rattle.std.proofs.lemmas.Slice.Zip.{all_zipped_more}
use Rattle.progression.specs.Street.{Street}
use Rattle.street_changes.specs.declared.limits.Change.{Change}
use Rattle.limit_sensitivity.specs.declared.row.SensitivityRow.{SensitivityRow}
use Rattle.limit_sensitivity.specs.Rows.{IsRow}

-- one more element is taken
pub one_more : {X : Type 0} (xs : List X) (i : ℕ) (x : X) → i < length xs → x ≡ get_or xs i x → take i xs ++ x ∷ [] ≡ take (i + 1) xs
one_more xs i x lt is = sym (take_more xs i x lt ∙ ap (λ y. take i xs ++ y ∷ []) (sym is))

pub rows_more : (a : Street) (limit : Option ℕ) (list : List Change) (i : ℕ) (d : Change) (rows now : List SensitivityRow) (row : SensitivityRow)
    → i < length list → now ≡ rows ++ row ∷ []
    → AllZip (IsRow a limit) (take i list) rows → IsRow a limit (get_or list i d) row → AllZip (IsRow a limit) (take (i + 1) list) now
rows_more a limit list i d rows now row lt e h k =
    rw (e, take_more list i d lt) (all_zipped_more (IsRow a limit) (take i list) rows (get_or list i d) row h k)

pub all_rows : (a : Street) (limit : Option ℕ) (list : List Change) (i : ℕ) (rows : List SensitivityRow) → length list ≤ i
    → AllZip (IsRow a limit) (take i list) rows → AllZip (IsRow a limit) list rows
all_rows a limit list i rows h k = subst (λ (l : List Change). AllZip (IsRow a limit) l rows) (take_all i list h) k
