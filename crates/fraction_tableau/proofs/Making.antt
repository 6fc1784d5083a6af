-- Rows that are made of their cells and a bound.
use Rattle.std.proofs.Common.{◌^◌, ◌≡◌, ℕ, zero, suc, pos, List, [], ◌∷◌, Option, Some, None, length, take, eqb, ◌+◌, ◌<◌, ◌≤◌, ◌⊎◌, inl, inr, sym, subst, arith}
use Rattle.std.specs.Prelude.{SomeIff}
use Rattle.std.proofs.lemmas.List.{get_or_past}
use Rattle.std.proofs.lemmas.Bool.{cond_both}
use Rattle.rational_theory.specs.Rational.{ℚ, whole}
use Rattle.fraction_tableau.specs.KeptCells.{number_in, cell_in, kept_below, dense_row, IsSparse}
use Rattle.fraction_tableau.specs.Scales.{numerator, cell_at, IsOver, IsScaled, HasScale, IsJoining}
use Rattle.fraction_tableau.specs.declared.kept.Kept.{Kept}
use Rattle.fraction_tableau.specs.Narrow.{IsNarrow}
use Rattle.fraction_tableau.specs.declared.scale.Scale.{Scale}
use Rattle.fraction_tableau.specs.declared.joining.Joining.{Joining}
use Rattle.narrow_fraction.specs.Fraction.{FitsFrac}
use Rattle.rational_theory.proofs.Lowest.{num_size, den_size}
use Rattle.fraction_tableau.proofs.KeptCells.{line_made, row_is, dense_cell, dense_bound, length-dense}
use Rattle.fraction_tableau.proofs.Scales.{zero_is_over, to_above, to_least}

pub row_made : (target : List ℚ) (w count : ℕ) (f : ℕ → ℚ) (new : List Kept) (b : ℚ) → length target ≡ w + 1 → count ≤ w → take count new ≡ kept_below f w
    → ((m : ℕ) → m < w → f m ≡ number_in target m) → b ≡ number_in target w
    → IsSparse w count (take count new) × (dense_row w (take count new) b ≡ target)
row_made target w count f new b l n k g q = (line_made w count f (take count new) n k, row_is target w f (take count new) b l k g q)

-- ---- the numbers of a row by those of its cells
pub cells_over : (d b : ℕ) (cs : List Kept) (k : ℕ) → 0 < d → ((i : ℕ) → IsOver d b (cell_at cs i)) → IsOver d b (cell_in cs k)
cells_over d b [] k p h = zero_is_over d b p
cells_over d b (c ∷ cs) k p h = cond_both (eqb k c.place) c.cell (cell_in cs k) (IsOver d b) (λ _. h 0) (λ _. cells_over d b cs k p (λ i. h (suc i)))

sides : (m w : ℕ) → (m < w) ⊎ (w ≤ m)
sides m w = grind arith

more : (m w : ℕ) → w ≤ m → (m ≡ w) ⊎ (w + 1 ≤ m)
more m w h = grind arith

pub row_over : (d b w : ℕ) (cs : List Kept) (bound : ℚ) → 0 < d → ((i : ℕ) → IsOver d b (cell_at cs i)) → IsOver d b bound → (k : ℕ) → IsOver d b (number_in (dense_row w cs bound) k)
row_over d b w cs bound p h q k = pick (sides k w)
  where
    last : (k ≡ w) ⊎ (w + 1 ≤ k) → IsOver d b (number_in (dense_row w cs bound) k)
    last (inl e) = rw e (subst (IsOver d b) (sym (dense_bound w cs bound)) q)
    last (inr l) = subst (IsOver d b) (sym (get_or_past (dense_row w cs bound) k (whole (pos 0)) (let n = length-dense w cs bound in omega arith))) (zero_is_over d b p)

    pick : (k < w) ⊎ (w ≤ k) → IsOver d b (number_in (dense_row w cs bound) k)
    pick (inl l) = subst (IsOver d b) (sym (dense_cell w cs bound k l)) (cells_over d b cs k p h)
    pick (inr l) = last (more k w l)

-- a scale of the first cells and the bound is one of the row
pub scale_made : (s : Scale) (w count : ℕ) (cells : List Kept) (bound : ℚ) → 0 < s.denominator → s.denominator ≤ s.most → s.most < 2 ^ 42
    → IsOver s.denominator s.most bound → ((i : ℕ) → i < count → IsOver s.denominator s.most (cell_at cells i))
    → IsScaled s (dense_row w (take count cells) bound)
scale_made s w count cells bound p l h b c = record {
  above = p;
  denominator = l;
  short = h;
  numbers = row_over s.denominator s.most w (take count cells) bound p (λ i. each count cells i c) b;
}
  where
    each : (n : ℕ) (cs : List Kept) (i : ℕ) → ((m : ℕ) → m < n → IsOver s.denominator s.most (cell_at cs m)) → IsOver s.denominator s.most (cell_at (take n cs) i)
    each zero cs i f = zero_is_over s.denominator s.most p
    each (suc n) [] i f = zero_is_over s.denominator s.most p
    each (suc n) (c ∷ cs) zero f = f 0 (omega arith)
    each (suc n) (c ∷ cs) (suc i) f = each n cs i (λ m q. f (suc m) (omega arith))

-- the scale of a row that was joined
pub scale_joined : (o : Option Scale) (j : Joining) (row : List ℚ) → SomeIff o (j.most < 2 ^ 42) (record { denominator = j.rescaling.to; most = j.most })
    → IsJoining j → ((k : ℕ) → IsOver j.rescaling.to j.most (number_in row k)) → HasScale o row
scale_joined None j row h i n = tt
scale_joined (Some s) j row h i n =
    subst (λ (t : Scale). IsScaled t row) (sym h.1) (record { above = to_above j i; denominator = to_least j i; short = h.0; numbers = n })

-- numbers over a denominator fit
pub over_fit : (d b : ℕ) (x : ℚ) → 0 < d → d ≤ b → b < 2 ^ 62 → IsOver d b x → FitsFrac x
over_fit d b x p l h o =
    let s = num_size (numerator d x) d p in
    let t = den_size (numerator d x) d p in
    subst FitsFrac o.same (record { num_fits = omega (arith, s, o.size, h); den_fits = omega (arith, t, l, h) })

pub over_fits : (d b : ℕ) (row : List ℚ) → 0 < d → d ≤ b → b < 2 ^ 62 → ((k : ℕ) → IsOver d b (number_in row k)) → IsNarrow row
over_fits d b row p l h n = record { fits = λ k. over_fit d b (number_in row k) p l h (n k) }
