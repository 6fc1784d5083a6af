-- A row copied into a wider one, cell by cell, the further cells being 0.
use Rattle.std.proofs.Common.{◌≡◌, ℕ, zero, suc, ◌+◌, ◌-◌, ◌<◌, ◌≤◌, false, List, [], ◌∷◌, ◌++◌, length, get_or, set, take, replicate, pos, sym, ◌∙◌, ap, arith, add-one}
use Rattle.std.proofs.lemmas.List.{take_all}
use Rattle.rational_theory.specs.Rational.{ℚ, whole}
use Rattle.named_row.specs.Sheets.{Sheet, blank, with_place, at_place}
use Rattle.link_space.specs.LinkSheets.{wide_sheet}
use Rattle.named_row.specs.declared.names.Place.TheVariants as place

-- the first k cells, and 0 in the others of w
abbrev pub copied : List ℚ → ℕ → ℕ → Sheet
copied xs k w = record { coefs = take k xs ++ replicate (w - k) (whole (pos 0)); bound = whole (pos 0); spent = false }

set_next : (xs : List ℚ) (k w : ℕ) → k < length xs → length xs ≤ w
    → set (take k xs ++ replicate (w - k) (whole (pos 0))) k (get_or xs k (whole (pos 0))) ≡ take (suc k) xs ++ replicate (w - suc k) (whole (pos 0))
set_next [] k w h l = absurd (omega arith)
set_next (x ∷ xs) zero w h l =
    let e : w - 0 ≡ suc (w - 1) = omega arith in
    ap (λ n. set (replicate n (whole (pos 0))) 0 x) e
set_next (x ∷ xs) (suc k) w h l =
    let e : w - suc k ≡ w - 1 - k = omega arith in
    let f : w - 1 - suc k ≡ w - suc (suc k) = omega arith in
    ap (λ n. x ∷ set (take k xs ++ replicate n (whole (pos 0))) k (get_or xs k (whole (pos 0)))) e
    ∙ ap (λ us. x ∷ us) (set_next xs k (w - 1) (omega arith) (omega arith))
    ∙ ap (λ n. x ∷ (take (suc k) xs ++ replicate n (whole (pos 0)))) f

pub copied_first : (xs : List ℚ) (w : ℕ) → blank w ≡ copied xs 0 w
unfolding blank
copied_first xs w = let e : w ≡ w - 0 = omega arith in ap (λ n. record { coefs = replicate n (whole (pos 0)); bound = whole (pos 0); spent = false }) e

pub copied_next : (r : Sheet) (k w : ℕ) → k < length r.coefs → length r.coefs ≤ w → with_place (place.Cell k) (at_place (place.Cell k) r) (copied r.coefs k w) ≡ copied r.coefs (k + 1) w
unfolding with_place at_place
copied_next r k w h l =
    ap (λ (cs : List ℚ). record { coefs = cs; bound = whole (pos 0); spent = false }) (set_next r.coefs k w h l)
    ∙ ap (λ n. copied r.coefs n w) (sym (add-one k))

pub copied_last : (r : Sheet) (k w : ℕ) → k ≡ length r.coefs → with_place place.Bound (at_place place.Bound r) (copied r.coefs k w) ≡ wide_sheet (w - length r.coefs) r
unfolding with_place at_place
copied_last r k w e =
    ap (λ n. record { coefs = take n r.coefs ++ replicate (w - n) (whole (pos 0)); bound = r.bound; spent = false }) e
    ∙ ap (λ (cs : List ℚ). record { coefs = cs ++ replicate (w - length r.coefs) (whole (pos 0)); bound = r.bound; spent = false }) (take_all (length r.coefs) r.coefs (omega arith))
