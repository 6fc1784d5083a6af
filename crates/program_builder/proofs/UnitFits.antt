-- Pivots on cells of 1, one after another, are not refused where the rows that have a cell in their columns have a denominator in common: such a row
-- gains only so many parts with each pivot, as long as the pivots' own rows don't touch one another's columns.
use Rattle.std.proofs.Common.{◌≡◌, ℕ, suc, pos, None, List, [], ◌∷◌, get_or, length, ◌+◌, ◌*◌, ◌<◌, ◌≤◌, ◌^◌, ◌⊎◌, inl, inr, refl, sym, ◌∙◌, ap, subst, arith, mul-le-mul_right}
use Rattle.std.proofs.lemmas.Bool.{cases_eq}
use Rattle.rational_theory.specs.Rational.{ℚ, whole, neg_ℚ, ◌+ℚ◌, ◌*ℚ◌}
use Rattle.rational_theory.proofs.Ring.{ring, at, lit, minus, ◌⊕◌, ◌⊗◌}
use Rattle.simplex_theory.specs.Lines.{divided, cleared}
use Rattle.simplex_theory.proofs.Lines.{cleared_at, cleared_other}
use Rattle.simplex_theory.specs.Tableau.{Tableau, line, height, IsShaped, exchange}
use Rattle.simplex_theory.proofs.Tableau.{height-exchange, shaped-exchange, goal-exchange, line-exchange_same, line-exchange_other}
use Rattle.fraction_tableau.specs.Narrow.{IsNarrow}
use Rattle.fraction_tableau.specs.Refusals.{pivot_refusal}
use Rattle.narrow_fraction.specs.Fraction.{FitsFrac}
use Rattle.program_builder.specs.declared.pivots.StartPivot.{StartPivot}
use Rattle.program_builder.proofs.CommonParts.{IsParts, parts_up_to, parts_more, parts_neg, parts_times, parts_less_times}
use Rattle.program_builder.proofs.Narrowing.{up_to_fits}
use Rattle.program_builder.proofs.UnitPivots.{cleared_kept}
use Rattle.program_builder.proofs.UnitRefusals.{IsEasy, divided_kept, pivot_none}
use Rattle.program_builder.proofs.StartPivots.{AreReady, IsUnitPivot, AreApart, AreUnitPivots, unit_is_place, kept, units_once}

-- The pivots' rows have m parts of e at most, the rows that they touch n of d; and after all steps every number and product of them fits.
pub record Sizes : Type 0 where
  pub d : ℕ
  pub n : ℕ
  pub e : ℕ
  pub m : ℕ
  pub steps : ℕ
  pub most : ℕ
  pub pivot_most : ℕ
  pub some_d : 0 < d * e
  pub some_e : 0 < e
  pub dens : d * e ≤ most
  pub nums : n * e + steps * (n * m) ≤ most
  pub pivot_dens : e ≤ pivot_most
  pub pivot_nums : m ≤ pivot_most
  pub pivot_fits : pivot_most < 2 ^ 127
  pub fits : most < 2 ^ 127
  pub product_fits : most * pivot_most < 2 ^ 127
  pub difference_fits : 2 * (most * (most * pivot_most)) < 2 ^ 127

abbrev pub AtEach : (StartPivot → Type 0) → List StartPivot → Type 0
AtEach P [] = Unit {0}
AtEach P (p ∷ ps) = P p × AtEach P ps

abbrev pub HasParts : ℕ → ℕ → List ℚ → Type 0
HasParts d n c = (j : ℕ) → IsParts d n (get_or c j (whole (pos 0)))

-- a row without a cell in any of their columns
pub record IsClear (ps : List StartPivot) (c : List ℚ) : Type 0 where
  pub zeros : AtEach (λ p. get_or c p.column (whole (pos 0)) ≡ whole (pos 0)) ps
  pub narrow : IsNarrow c

-- a row that k pivots may have touched; in the columns of those to come it is as it was
pub record IsTouched (z : Sizes) (k : ℕ) (ps : List StartPivot) (c : List ℚ) : Type 0 where
  pub cells : HasParts (z.d * z.e) (z.n * z.e + k * (z.n * z.m)) c
  pub columns : AtEach (λ p. IsParts z.d z.n (get_or c p.column (whole (pos 0)))) ps

abbrev pub IsEither : Sizes → ℕ → List StartPivot → List ℚ → Type 0
IsEither z k ps c = IsClear ps c ⊎ IsTouched z k ps c

-- after k pivots, with these to come
pub record AreFit (z : Sizes) (k : ℕ) (t : Tableau) (ps : List StartPivot) : Type 0 where
  pub own : AtEach (λ p. HasParts z.e z.m (line t p.row)) ps
  pub rows : (i : ℕ) → i < height t → IsEither z k ps (line t i)
  pub goal : IsEither z k ps t.goal

up_next : (k n : ℕ) → suc k * n ≡ k * n + n
up_next k n = omega arith

module _ (z : Sizes) where
  own_narrow : (c : List ℚ) → HasParts z.e z.m c → IsNarrow c
  own_narrow c h = record { fits = λ j. up_to_fits z.pivot_most _ (parts_up_to z.e z.m z.pivot_most _ z.some_e z.pivot_dens z.pivot_nums (h j)) z.pivot_fits }

  few_parts : (k : ℕ) → k ≤ z.steps → z.n * z.e + k * (z.n * z.m) ≤ z.most
  few_parts k l = let h = mul-le-mul_right (z.n * z.m) l in let g = z.nums in omega (arith, h, g)

  -- such a row makes no pivot refused
  easy : (k : ℕ) (p : StartPivot) (ps : List StartPivot) (c r : List ℚ) → k ≤ z.steps → HasParts z.e z.m c → IsEither z k (p ∷ ps) r → IsEasy p.column c r
  easy k p ps c r l h (inl u) = inl (record { zero_there = u.zeros.0; narrow = u.narrow })
  easy k p ps c r l h (inr u) = inr (record {
    most = z.most;
    pivot_most = z.pivot_most;
    cells = λ j. parts_up_to (z.d * z.e) _ z.most _ z.some_d z.dens (few_parts k l) (u.cells j);
    pivot_cells = λ j. parts_up_to z.e z.m z.pivot_most _ z.some_e z.pivot_dens z.pivot_nums (h j);
    fits = z.fits;
    product_fits = z.product_fits;
    difference_fits = z.difference_fits;
  })

  -- ---- one pivot, with its row c
  module _ (k : ℕ) (p : StartPivot) (c : List ℚ) (own : HasParts z.e z.m c) (inside : p.column < length c) (unit : get_or c p.column (whole (pos 0)) ≡ whole (pos 1)) where
    abbrev after : List ℚ
    after = divided p.column c

    same : (j : ℕ) → get_or after j (whole (pos 0)) ≡ get_or c j (whole (pos 0))
    same j = divided_kept p.column j c inside unit

    -- a touched row has a step's parts more
    grown : (r : List ℚ) → p.column < length r → HasParts (z.d * z.e) (z.n * z.e + k * (z.n * z.m)) r → IsParts z.d z.n (get_or r p.column (whole (pos 0)))
        → HasParts (z.d * z.e) (z.n * z.e + suc k * (z.n * z.m)) (cleared p.column after r)
    grown r l h f j = pick (cases_eq j p.column)
      where
        up : suc k * (z.n * z.m) ≡ k * (z.n * z.m) + z.n * z.m
        up = up_next k (z.n * z.m)

        pick : (j ≡ p.column) ⊎ (j ≡ p.column → ⊥) → IsParts (z.d * z.e) (z.n * z.e + suc k * (z.n * z.m)) (get_or (cleared p.column after r) j (whole (pos 0)))
        pick (inl q) =
            subst (λ i. IsParts (z.d * z.e) (z.n * z.e + suc k * (z.n * z.m)) (get_or (cleared p.column after r) i (whole (pos 0)))) (sym q)
            (subst (IsParts (z.d * z.e) (z.n * z.e + suc k * (z.n * z.m))) (sym (cleared_at p.column after r l ∙ ap (λ x. neg_ℚ (get_or r p.column (whole (pos 0))) *ℚ x) (same p.column)))
            (parts_more (z.d * z.e) (z.n * z.m) _ _ (omega (arith, up)) (parts_times z.d z.e z.n z.m _ _ (parts_neg z.d z.n _ f) (own p.column))))
        pick (inr n) =
            subst (IsParts (z.d * z.e) (z.n * z.e + suc k * (z.n * z.m)))
            (sym (cleared_other p.column j after r n ∙ ap (λ x. get_or r j (whole (pos 0)) +ℚ neg_ℚ (get_or r p.column (whole (pos 0))) *ℚ x) (same j)))
            (parts_more (z.d * z.e) (z.n * z.e + k * (z.n * z.m) + z.n * z.m) _ _ (omega (arith, up))
            (parts_less_times z.d z.e z.n z.m (z.n * z.e + k * (z.n * z.m)) _ _ _ (h j) f (own j)))

    -- in another pivot's column a row stays, where the pivot's row has no cell
    column_kept : (r : List ℚ) (j : ℕ) → (j ≡ p.column → ⊥) → get_or c j (whole (pos 0)) ≡ whole (pos 0) → get_or (cleared p.column after r) j (whole (pos 0)) ≡ get_or r j (whole (pos 0))
    column_kept r j n e =
        cleared_other p.column j after r n ∙ ap (λ x. get_or r j (whole (pos 0)) +ℚ neg_ℚ (get_or r p.column (whole (pos 0))) *ℚ x) (same j ∙ e)
        ∙ ring (at 0 ⊕ minus (at 1) ⊗ lit (pos 0)) (at 0) (get_or r j (whole (pos 0)) ∷ get_or r p.column (whole (pos 0)) ∷ []) refl

    -- the columns of the others, which have no cell in c
    abbrev AreOff : List StartPivot → Type 0
    AreOff ps = AtEach (λ q. (q.column ≡ p.column → ⊥) × (get_or c q.column (whole (pos 0)) ≡ whole (pos 0))) ps

    columns_kept : (r : List ℚ) (ps : List StartPivot) → AreOff ps → AtEach (λ q. IsParts z.d z.n (get_or r q.column (whole (pos 0)))) ps
        → AtEach (λ q. IsParts z.d z.n (get_or (cleared p.column after r) q.column (whole (pos 0)))) ps
    columns_kept r [] o h = tt
    columns_kept r (q ∷ ps) o h = (subst (IsParts z.d z.n) (sym (column_kept r q.column o.0.0 o.0.1)) h.0, columns_kept r ps o.1 h.1)

    -- a row without a cell there stays whole
    clear_kept : (r : List ℚ) → p.column < length r → get_or r p.column (whole (pos 0)) ≡ whole (pos 0) → (j : ℕ) → get_or (cleared p.column after r) j (whole (pos 0)) ≡ get_or r j (whole (pos 0))
    clear_kept r l e j = cleared_kept p.column j after r l e

    zeros_kept : (r s : List ℚ) (ps : List StartPivot) → ((j : ℕ) → get_or s j (whole (pos 0)) ≡ get_or r j (whole (pos 0))) → AtEach (λ q. get_or r q.column (whole (pos 0)) ≡ whole (pos 0)) ps
        → AtEach (λ q. get_or s q.column (whole (pos 0)) ≡ whole (pos 0)) ps
    zeros_kept r s [] e h = tt
    zeros_kept r s (q ∷ ps) e h = (e q.column ∙ h.0, zeros_kept r s ps e h.1)

    pub either_next : (ps : List StartPivot) (r : List ℚ) → p.column < length r → AreOff ps → IsEither z k (p ∷ ps) r → IsEither z (suc k) ps (cleared p.column after r)
    either_next ps r l o (inl u) = inl (record {
      zeros = zeros_kept r (cleared p.column after r) ps (clear_kept r l u.zeros.0) u.zeros.1;
      narrow = record { fits = λ j. subst FitsFrac (sym (clear_kept r l u.zeros.0 j)) (u.narrow.fits j) };
    })
    either_next ps r l o (inr u) = inr (record { cells = grown r l u.cells u.columns.0; columns = columns_kept r ps o u.columns.1 })

    off_zeros : (ps : List StartPivot) → AreOff ps → AtEach (λ q. get_or after q.column (whole (pos 0)) ≡ whole (pos 0)) ps
    off_zeros [] o = tt
    off_zeros (q ∷ ps) o = (same q.column ∙ o.0.1, off_zeros ps o.1)

    -- and so does the pivot's own
    pub own_next : (ps : List StartPivot) → AreOff ps → IsEither z (suc k) ps after
    own_next ps o = inl (record { zeros = off_zeros ps o; narrow = record { fits = λ j. subst FitsFrac (sym (same j)) ((own_narrow c own).fits j) } })

  -- ---- all pivots
  off : (t : Tableau) (p : StartPivot) (ps : List StartPivot) → AreApart t p ps → AtEach (λ q. (q.column ≡ p.column → ⊥) × (get_or (line t p.row) q.column (whole (pos 0)) ≡ whole (pos 0))) ps
  off t p [] a = tt
  off t p (q ∷ ps) a = ((a.0.columns, a.0.here), off t p ps a.1)

  own_kept : (t : Tableau) (s : IsShaped t) (p : StartPivot) (u : IsUnitPivot t p) (ps : List StartPivot) → AreApart t p ps → AreUnitPivots t ps
      → AtEach (λ q. HasParts z.e z.m (line t q.row)) ps → AtEach (λ q. HasParts z.e z.m (line (exchange p.row p.column t) q.row)) ps
  own_kept t s p u [] a us h = tt
  own_kept t s p u (q ∷ ps) a us h = ((λ j. subst (IsParts z.e z.m) (sym (kept t s p u q j us.0.row a.0)) (h.0 j)), own_kept t s p u ps a.1 us.2 h.1)

  module _ (k : ℕ) (t : Tableau) (s : IsShaped t) (p : StartPivot) (ps : List StartPivot) (us : AreUnitPivots t (p ∷ ps)) (f : AreFit z k t (p ∷ ps)) where
    within : (i : ℕ) → i < height t → p.column < length (line t i)
    within i l = let e = s.lines i l in let c = us.0.column in omega arith

    in_goal : p.column < length t.goal
    in_goal = let e = s.goals in let c = us.0.column in omega arith

    not_refused : k ≤ z.steps → pivot_refusal p.row p.column t.rows t.goal ≡ None
    not_refused l =
        pivot_none p.row p.column t.rows t.goal (within p.row us.0.row) us.0.unit (own_narrow (line t p.row) f.own.0) (easy k p ps (line t p.row) t.goal l f.own.0 f.goal)
        (λ i m n. easy k p ps (line t p.row) (line t i) l f.own.0 (f.rows i m))

    fit_next : AreFit z (suc k) (exchange p.row p.column t) ps
    fit_next = record {
      own = own_kept t s p us.0 ps us.1 us.2 f.own.1;
      rows = λ i l. row i (subst (λ n. i < n) (height-exchange p.row p.column t) l) (cases_eq i p.row);
      goal = subst (IsEither z (suc k) ps) (sym (goal-exchange p.row p.column t)) (either_next k p (line t p.row) f.own.0 (within p.row us.0.row) us.0.unit ps t.goal in_goal (off t p ps us.1) f.goal);
    }
      where
        row : (i : ℕ) → i < height t → (i ≡ p.row) ⊎ (i ≡ p.row → ⊥) → IsEither z (suc k) ps (line (exchange p.row p.column t) i)
        row i l (inl e) =
            subst (λ j. IsEither z (suc k) ps (line (exchange p.row p.column t) j)) (sym e)
            (subst (IsEither z (suc k) ps) (sym (line-exchange_same p.row p.column t us.0.row)) (own_next k p (line t p.row) f.own.0 (within p.row us.0.row) us.0.unit ps (off t p ps us.1)))
        row i l (inr n) =
            subst (IsEither z (suc k) ps) (sym (line-exchange_other p.row p.column i t l n))
            (either_next k p (line t p.row) f.own.0 (within p.row us.0.row) us.0.unit ps (line t i) (within i l) (off t p ps us.1) (f.rows i l))

  -- none of them is refused
  pub units_ready : (k : ℕ) (t : Tableau) (ps : List StartPivot) → IsShaped t → AreUnitPivots t ps → AreFit z k t ps → k + length ps ≤ z.steps → AreReady ps t
  units_ready k t [] s us f l = tt
  units_ready k t (p ∷ ps) s us f l = (
    unit_is_place t s p us.0,
    not_refused k t s p ps us f (omega arith),
    units_ready (suc k) (exchange p.row p.column t) ps (shaped-exchange p.row p.column t s us.0.row) (units_once t s p us.0 ps us.1 us.2) (fit_next k t s p ps us f) (omega arith),
  )
