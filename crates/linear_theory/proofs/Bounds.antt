-- What a row says of every good timing whose point meets it: a bound on its weighted band, or that there is none.
use Rattle.std.proofs.Common.{◌≡◌, ℕ, suc, pos, ◌<◌, List, [], ◌∷◌, length, map, refl, ◌∙◌, subst, arith}
use Rattle.rational_theory.specs.Rational.{ℚ, inverse_ℚ, ◌+ℚ◌, ◌*ℚ◌, ◌≤ℚ◌}
use Rattle.rational_theory.proofs.Arithmetic.{+ℚ-zero}
use Rattle.rational_theory.proofs.Order.{≤ℚ_refl, ≤ℚ_trans, ≤ℚ-*ℚ, <ℚ_not-≤ℚ}
use Rattle.rational_theory.proofs.Ring.{ring, at, lit, ◌⊕◌, ◌⊗◌, zero-*ℚ}
use Rattle.rational_theory.specs.Rows as maths
use Rattle.rational_theory.specs.Rows.{dot, AllNonNegative, IsMet}
use Rattle.rational_theory.proofs.Rows.{≤ℚ-sum}
use Rattle.progression.specs.Street.{Street, count}
use Rattle.progression.specs.Speeds.{number}
use Rattle.progression.specs.TimingRecord.{TimingRecord, base}
use Rattle.progression.specs.BaseRecord.{cycle}
use Rattle.progression.specs.Good.{Good}
use Rattle.progression.specs.Best.{weighted_band}
use Rattle.progression.specs.Columns.{Column, columns, ticks, point}
use Rattle.linear_theory.specs.Places.{width}
use Rattle.linear_theory.specs.Rows.{line, goal_form}
use Rattle.linear_theory.specs.Counts.{IsStreet}
use Rattle.linear_theory.specs.Covering.{coef, CoversColumns, RefutesColumns, CoversGoal, RefutesAll}
use Rattle.linear_theory.proofs.Points.{share, point_width}
use Rattle.linear_theory.proofs.SparseSums.{line_value}
use Rattle.linear_theory.proofs.Shares.{share_not_negative}
use Rattle.linear_theory.proofs.Ranges.{some_signal, parts_above, unit_above}

-- ---- sums at a point of at least 0
-- a product with 0 and what follows it
ended : (y : ℚ) (x : List ℚ) → number 0 *ℚ y +ℚ dot [] x ≡ number 0
ended y x = +ℚ-zero _ ∙ zero-*ℚ y

-- greater coefficients give a greater sum; a row that ends counts as 0 from there on
pub dot_grows : (c g x : List ℚ) → ((j : ℕ) → j < length x → coef g j ≤ℚ coef c j) → AllNonNegative x → dot g x ≤ℚ dot c x
dot_grows [] [] x h p = ≤ℚ_refl (number 0)
dot_grows (c ∷ cs) [] [] h p = ≤ℚ_refl (number 0)
dot_grows [] (g ∷ gs) [] h p = ≤ℚ_refl (number 0)
dot_grows (c ∷ cs) (g ∷ gs) [] h p = ≤ℚ_refl (number 0)
dot_grows (c ∷ cs) [] (y ∷ x) h p =
    rw (← (ended y x)) (≤ℚ-sum _ _ _ _ (≤ℚ-*ℚ (number 0) c y (h 0 (omega arith)) p.0) (dot_grows cs [] x (λ j l. h (suc j) (omega arith)) p.1))
dot_grows [] (g ∷ gs) (y ∷ x) h p =
    rw (← (ended y x)) (≤ℚ-sum _ _ _ _ (≤ℚ-*ℚ g (number 0) y (h 0 (omega arith)) p.0) (dot_grows [] gs x (λ j l. h (suc j) (omega arith)) p.1))
dot_grows (c ∷ cs) (g ∷ gs) (y ∷ x) h p =
    ≤ℚ-sum _ _ _ _ (≤ℚ-*ℚ g c y (h 0 (omega arith)) p.0) (dot_grows cs gs x (λ j l. h (suc j) (omega arith)) p.1)

-- ---- rows of any columns, at a point of at least 0 in each
module _ (width : ℕ) (x : List ℚ) (w : length x ≡ width) (p : AllNonNegative x) where
  -- a row that covers a goal bounds it where it is met
  pub covered : (goal : List ℚ) (value : ℚ) (r : maths.Row) → IsMet x r → CoversColumns width goal value r → dot goal x ≤ℚ value
  covered goal value r m c =
      ≤ℚ_trans _ _ _ (dot_grows r.coefs goal x (λ j l. c.coefs j (omega arith)) p) (≤ℚ_trans _ _ _ m.met c.bound)

  -- a row that refutes is not met
  pub refuted : (r : maths.Row) → IsMet x r → RefutesColumns width r → ⊥
  refuted r m c = <ℚ_not-≤ℚ _ _ c.bound (≤ℚ_trans _ _ _ (dot_grows r.coefs [] x (λ j l. c.coefs j (omega arith)) p) m.met)

-- ---- the point of a timing
shares_not_negative : (a : Street) (t : TimingRecord) → ((k : ℕ) → number 0 ≤ℚ share a t k) → (cs : List Column) → AllNonNegative (map (λ c. share a t (ticks a t c)) cs)
shares_not_negative a t h [] = tt
shares_not_negative a t h (c ∷ cs) = (h (ticks a t c), shares_not_negative a t h cs)

module _ (a : Street) (t : TimingRecord) (h : IsStreet a) (g : Good a t) where
  -- no column is below 0
  pub point_not_negative : AllNonNegative (point a t)
  point_not_negative = shares_not_negative a t (λ k. share_not_negative a t (parts_above a h) (unit_above a t g) k) (columns (count a))

  -- the goal at the point is the weighted band
  pub goal_value : dot (line a (goal_form a)).coefs (point a t) ≡ weighted_band a t
  goal_value =
      line_value a t (goal_form a) (some_signal a h) (omega arith, tt, (omega arith, tt, tt))
      ∙ ring (lit (pos 1) ⊗ (at 0 ⊗ at 3) ⊕ (at 1 ⊗ (at 2 ⊗ at 3) ⊕ lit (pos 0))) ((at 0 ⊕ at 1 ⊗ at 2) ⊗ at 3)
      (number t.band_out ∷ a.head.ratio ∷ number t.band_in ∷ inverse_ℚ (number (cycle a (base t))) ∷ []) refl

  -- a row that covers the goal bounds the weighted band
  pub covers_law : (r : maths.Row) (value : ℚ) → IsMet (point a t) r → CoversGoal a value r → weighted_band a t ≤ℚ value
  covers_law r value m c =
      subst (λ z. z ≤ℚ value) goal_value
      (covered (width (count a)) (point a t) (point_width a t (some_signal a h)) point_not_negative (line a (goal_form a)).coefs value r m c)

  -- no good timing meets a row that refutes
  pub refutes_law : (r : maths.Row) → IsMet (point a t) r → RefutesAll a r → ⊥
  refutes_law r m c = refuted (width (count a)) (point a t) (point_width a t (some_signal a h)) point_not_negative r m c
