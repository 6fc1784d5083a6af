-- The walk over a row's cells before a place, which are copied.
use Rattle.std.proofs.Common.{◌≡◌, ℕ, pos, List, ◌++◌, length, get_or, set, take, ◌+◌, ◌<◌, ◌≤◌, refl, sym, ◌∙◌, ap, ap₂, arith}
use Rattle.std.proofs.Math.ListN.{length-set}
use Rattle.std.proofs.lemmas.List.{take_more_set}
use Rattle.rational_theory.specs.Rational.{ℚ, whole}
use Rattle.fraction_tableau.specs.declared.kept.Kept.{Kept}
use Rattle.fraction_tableau.specs.KeptCells.{kept_at, kept_below}
use Rattle.fraction_tableau.proofs.KeptCells.{next_in, step_kept, step_count, zeros_skip, same_count, kept_mono, kept_some}

pub record Keeping (f : ℕ → ℚ) (from place start : ℕ) (old now : List Kept) (i made : ℕ) : Type 0 where
  pub at : ℕ
  pub after : from ≤ at
  pub low : at ≤ place
  pub count : i ≡ length (kept_below f at)
  pub fewer : made ≤ at
  pub kept : length now ≡ length old
  pub cells : (h : ℕ → ℚ) → ((m : ℕ) → from ≤ m → m < place → h m ≡ f m) → take start old ≡ kept_below h from → take made now ≡ kept_below h at

-- where none is copied yet
pub keeping_none : (f : ℕ → ℚ) (from place i made : ℕ) (old : List Kept) → from ≤ place → i ≡ length (kept_below f from) → made ≤ from → Keeping f from place made old old i made
keeping_none f from place i made old h c m = record { at = from; after = omega arith; low = h; count = c; fewer = m; kept = refl; cells = λ t a b. b }

pub keeping_room : (f : ℕ → ℚ) (from place start : ℕ) (old now : List Kept) (i made w : ℕ) (ks : List Kept) (k : Kept) → Keeping f from place start old now i made
    → place ≤ w → w ≡ length old → ks ≡ kept_below f w → k ≡ get_or ks i k → i < length ks → k.place < place
    → made < length now
keeping_room f from place start old now i made w ks k s h n e q l b =
    let a = s.low in
    let g = s.fewer in
    let x = (next_in f s.at w i ks k e q (omega arith) s.count l).after in
    let y = s.kept in
    omega arith

pub keeping_next : (f : ℕ → ℚ) (from place start : ℕ) (old now : List Kept) (i made w : ℕ) (ks : List Kept) (k : Kept) → Keeping f from place start old now i made
    → place ≤ w → w ≡ length old → ks ≡ kept_below f w → k ≡ get_or ks i k → i < length ks → k.place < place
    → Keeping f from place start old (set now made k) (i + 1) (made + 1)
keeping_next f from place start old now i made w ks k s h n e q l b =
    let a = s.low in
    let g = s.fewer in
    let r = s.after in
    let x = next_in f s.at w i ks k e q (omega arith) s.count l in
    let y = x.after in
    let room = keeping_room f from place start old now i made w ks k s h n e q l b in
    record {
      at = k.place + 1;
      after = omega arith;
      low = omega arith;
      count = ap (λ n. n + 1) s.count ∙ sym (step_count f s.at w k x);
      fewer = omega arith;
      kept = length-set now made k ∙ s.kept;
      cells = λ t u v.
          let same : t k.place ≡ k.cell = u k.place (omega arith) b ∙ x.is in
          take_more_set now made k room
          ∙ ap₂ (λ p q. p ++ q) (s.cells t u v) (sym (ap (kept_at k.place) same ∙ kept_some k.place k.cell x.some))
          ∙ sym (step_kept t s.at k.place x.after (λ m c d. u m (omega arith) (omega arith) ∙ x.zeros m c d));
    }

pub record IsKeptBefore (f : ℕ → ℚ) (from place start : ℕ) (old now : List Kept) (i made : ℕ) : Type 0 where
  pub count : i ≡ length (kept_below f place)
  pub fewer : made ≤ place
  pub cells : (h : ℕ → ℚ) → ((m : ℕ) → from ≤ m → m < place → h m ≡ f m) → take start old ≡ kept_below h from → take made now ≡ kept_below h place

keeping_zeros : (f : ℕ → ℚ) (from place start : ℕ) (old now : List Kept) (i made : ℕ) → (s : Keeping f from place start old now i made)
    → ((m : ℕ) → s.at ≤ m → m < place → f m ≡ whole (pos 0)) → IsKeptBefore f from place start old now i made
keeping_zeros f from place start old now i made s z =
    let a = s.low in
    let g = s.fewer in
    let r = s.after in
    record {
      count = s.count ∙ ap length (sym (zeros_skip f s.at place s.low z));
      fewer = omega arith;
      cells = λ t u v. s.cells t u v ∙ sym (zeros_skip t s.at place s.low (λ m c d. u m (omega arith) d ∙ z m c d));
    }

pub keeping_stop : (f : ℕ → ℚ) (from place start : ℕ) (old now : List Kept) (i made w : ℕ) (ks : List Kept) (k : Kept) → Keeping f from place start old now i made
    → place ≤ w → ks ≡ kept_below f w → k ≡ get_or ks i k → i < length ks → place ≤ k.place
    → IsKeptBefore f from place start old now i made
keeping_stop f from place start old now i made w ks k s h e q l b =
    let a = s.low in
    let x = next_in f s.at w i ks k e q (omega arith) s.count l in
    keeping_zeros f from place start old now i made s (λ m c d. x.zeros m c (omega arith))

pub keeping_past : (f : ℕ → ℚ) (from place start : ℕ) (old now : List Kept) (i made w : ℕ) (ks : List Kept) → Keeping f from place start old now i made
    → place ≤ w → ks ≡ kept_below f w → length ks ≤ i → (i ≡ length ks) × IsKeptBefore f from place start old now i made
keeping_past f from place start old now i made w ks s h e l =
    let a = s.low in
    let c = s.count in
    let n = ap length e in
    let u = kept_mono f s.at w (omega arith) in
    let same : i ≡ length ks = omega arith in
    (same, keeping_zeros f from place start old now i made s (λ m b d. same_count f s.at w (omega arith) (omega arith) m b (omega arith)))

pub keeping_end : (f : ℕ → ℚ) (from place start : ℕ) (old now : List Kept) (i made w : ℕ) (ks : List Kept) → Keeping f from place start old now i made
    → place ≤ w → ks ≡ kept_below f w → length ks ≤ i → IsKeptBefore f from place start old now (length ks) made
keeping_end f from place start old now i made w ks s h e l =
    let r = keeping_past f from place start old now i made w ks s h e l in
    record { count = sym r.0 ∙ r.1.count; fewer = r.1.fewer; cells = r.1.cells }
