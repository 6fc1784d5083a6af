-- The splits on the way down, and the boxes that are owed.
use Rattle.std.proofs.Common.{◌≡◌, ℕ, ◌+◌, ◌<◌, Bool, true, false, List, [], ◌∷◌, ◌++◌, length, slice_set, get_or, take, drop, reverse, refl, sym, ◌∙◌, ap, subst, arith}
use Rattle.std.proofs.lemmas.List.{reverse-append, take_all, take_more, take_more_set, length-set}
use Rattle.linear_theory.specs.Boxes.{Area}
use Rattle.search_box.specs.declared.span.At.{At}
use Rattle.search_box.specs.declared.span.Span.{Span}
use Rattle.search_box.specs.Seen.{span_of}
use Rattle.search_box.specs.Places.{IsPlace, FitsAt, low_part, high_part, span_at, with_span}
use Rattle.certificate_checker.specs.declared.way.Entry.{Entry}
use Rattle.certificate_checker.specs.Owed.{whole_of, with_high, waiting, owed_of, AreSplits, first_of}
use Rattle.certificate_checker.proofs.Spans.{back_low, back_high}

-- another last item
pub last_put : {X : Type 0} (xs : List X) (n : ℕ) (y : X) → length xs ≡ n + 1 → reverse (slice_set xs n y) ≡ y ∷ drop 1 (reverse xs)
last_put xs n y e =
    let front = take n xs in
    let was : xs ≡ front ++ get_or xs n y ∷ [] = sym (take_all (n + 1) xs (omega arith)) ∙ take_more xs n y (omega arith) in
    let is : slice_set xs n y ≡ front ++ y ∷ [] = sym (take_all (n + 1) (slice_set xs n y) (omega (arith, length-set xs n y))) ∙ take_more_set xs n y (omega arith) in
    ap reverse is ∙ reverse-append front (y ∷ []) ∙ sym (ap (λ zs. y ∷ drop 1 zs) (ap reverse was ∙ reverse-append front (get_or xs n y ∷ [])))

-- what is owed begins with the box
pub owed_is : (wanted : Bool) (box : Area) (way : List Entry) (old : List Area) → owed_of wanted box way ≡ old → 0 < length old → old ≡ box ∷ waiting box way
owed_is true box way old e n = sym e
owed_is false box way old e n = let f = ap length e in absurd (omega arith)

pub is_wanted : (wanted : Bool) (box : Area) (way : List Entry) (old : List Area) → owed_of wanted box way ≡ old → 0 < length old → wanted ≡ true
is_wanted true box way old e n = refl
is_wanted false box way old e n = let f = ap length e in absurd (omega arith)

-- ---- one more split, in the low part of the box
module _ (box : Area) (place : At) (s : Span) (e : span_of s ≡ span_at box place) where
  abbrev pub entry : Entry
  entry = record { place = place; former = s; on_high = false }

  whole_low : whole_of (low_part box place) entry ≡ box
  whole_low = ap (with_span (low_part box place) place) e ∙ back_low box place

  pub split_in : (way : List Entry) → FitsAt place (span_of s) → IsPlace box place → AreSplits box way → AreSplits (low_part box place) (entry ∷ way)
  split_in way f p h = (f, subst (λ b. IsPlace b place) (sym whole_low) p, subst (λ b. AreSplits b way) (sym whole_low) h)

  pub split_owed : (way : List Entry) → owed_of true (low_part box place) (entry ∷ way) ≡ low_part box place ∷ high_part box place ∷ waiting box way
  split_owed way = ap (λ b. low_part box place ∷ high_part b place ∷ waiting b way) whole_low

-- ---- the high part of a split begins
module _ (box : Area) (e : Entry) (way : List Entry) (h : AreSplits box (e ∷ way)) where
  abbrev pub on_high : Entry
  on_high = record { place = e.place; former = e.former; on_high = true }

  whole_high : whole_of (high_part (whole_of box e) e.place) on_high ≡ whole_of box e
  whole_high = back_high box e.place (span_of e.former) h.0 h.1

  pub high_in : AreSplits (high_part (whole_of box e) e.place) (on_high ∷ way)
  high_in = (h.0, subst (λ b. IsPlace b e.place) (sym whole_high) h.1, subst (λ b. AreSplits b way) (sym whole_high) h.2)

  pub high_owed : e.on_high ≡ false → owed_of true (high_part (whole_of box e) e.place) (on_high ∷ way) ≡ waiting box (e ∷ way)
  high_owed low =
      ap (λ b. high_part (whole_of box e) e.place ∷ waiting b way) whole_high
      ∙ sym (ap (λ k. with_high k (whole_of box e) e.place (waiting (whole_of box e) way)) low)

-- a list with a first box
pub begins : (boxes : List Area) → 0 < length boxes → boxes ≡ first_of boxes ∷ drop 1 boxes
begins [] n = absurd (omega arith)
begins (box ∷ boxes) n = refl
