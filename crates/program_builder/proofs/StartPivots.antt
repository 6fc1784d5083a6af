-- What the pivots of a start keep, and that pivots on cells of 1 that don't touch one another's rows leave no goal cell below 0.
use Rattle.std.proofs.Common.{◌≡◌, ℕ, pos, false, None, List, [], ◌∷◌, ◌<◌, ◌⊎◌, inl, inr, refl, sym, ◌∙◌, ap, subst}
use Rattle.std.proofs.lemmas.Bool.{cases_eq}
use Rattle.rational_theory.specs.Rational.{whole, neg_ℚ, ◌+ℚ◌, ◌*ℚ◌, ◌≤ℚ◌}
use Rattle.rational_theory.proofs.Linear.{linear, sum_not_negative, product_not_negative}
use Rattle.rational_theory.proofs.Ring.{ring, at, lit, minus, ◌⊕◌, ◌⊗◌}
use Rattle.simplex_theory.specs.Tableau.{Tableau, cell, goal_cell, height, width, IsShaped, IsPlace, exchange}
use Rattle.simplex_theory.proofs.Tableau.{height-exchange, width-exchange, shaped-exchange}
use Rattle.simplex_theory.specs.DualSteps.{IsPlaced, IsDual}
use Rattle.simplex_theory.proofs.DualSteps.{placed-exchange}
use Rattle.simplex_theory.specs.Multipliers.{System, StandsFor}
use Rattle.simplex_theory.proofs.Multipliers.{stands-exchange}
use Rattle.simplex_theory.proofs.IdleColumns.{IsIdle, idle-exchange}
use Rattle.fraction_tableau.specs.NamedTableaus.{NamedTableau}
use Rattle.fraction_tableau.specs.Refusals.{pivot_refusal}
use Rattle.program_builder.specs.StartPivots.{after_pivots}
use Rattle.program_builder.specs.declared.pivots.StartPivot.{StartPivot}
use Rattle.program_builder.proofs.UnitPivots.{unit_place, unit_goal_at, unit_goal_other, cell_kept}

-- ---- any pivots
pub height-pivots : (ps : List StartPivot) (t : Tableau) → height (after_pivots ps t) ≡ height t
unfolding after_pivots
height-pivots [] t = refl
height-pivots (p ∷ ps) t = height-pivots ps (exchange p.row p.column t) ∙ height-exchange p.row p.column t

pub width-pivots : (ps : List StartPivot) (t : Tableau) → width (after_pivots ps t) ≡ width t
unfolding after_pivots
width-pivots [] t = refl
width-pivots (p ∷ ps) t = width-pivots ps (exchange p.row p.column t) ∙ width-exchange p.row p.column t

-- each pivot, as it comes, is at a cell that isn't 0
abbrev pub ArePlaces : List StartPivot → Tableau → Type 0
ArePlaces [] t = Unit {0}
ArePlaces (p ∷ ps) t = IsPlace t p.row p.column × ArePlaces ps (exchange p.row p.column t)

pub shaped_pivots : (ps : List StartPivot) (t : Tableau) → ArePlaces ps t → IsShaped t → IsShaped (after_pivots ps t)
unfolding after_pivots
shaped_pivots [] t r s = s
shaped_pivots (p ∷ ps) t r s = shaped_pivots ps (exchange p.row p.column t) r.1 (shaped-exchange p.row p.column t s r.0.row)

pub placed_pivots : (ps : List StartPivot) (t : Tableau) → ArePlaces ps t → IsShaped t → IsPlaced t → IsPlaced (after_pivots ps t)
unfolding after_pivots
placed_pivots [] t r s q = q
placed_pivots (p ∷ ps) t r s q = placed_pivots ps (exchange p.row p.column t) r.1 (shaped-exchange p.row p.column t s r.0.row) (placed-exchange p.row p.column t s q r.0)

pub stands_pivots : (ps : List StartPivot) (t : Tableau) (rows : System) → ArePlaces ps t → IsShaped t → StandsFor t rows → StandsFor (after_pivots ps t) rows
unfolding after_pivots
stands_pivots [] t rows r s f = f
stands_pivots (p ∷ ps) t rows r s f = stands_pivots ps (exchange p.row p.column t) rows r.1 (shaped-exchange p.row p.column t s r.0.row) (stands-exchange p.row p.column t rows s r.0 f)

-- a column whose cells are 0 stays so
pub idle_pivots : (ps : List StartPivot) (t : Tableau) (v : ℕ) → ArePlaces ps t → IsIdle t v → IsIdle (after_pivots ps t) v
unfolding after_pivots
idle_pivots [] t v r d = d
idle_pivots (p ∷ ps) t v r d = idle_pivots ps (exchange p.row p.column t) v r.1 (idle-exchange p.row p.column v t r.0 d)

-- ---- pivots on cells of 1
-- the cell is 1, no cell of the row is below 0, and the goal's cell isn't above 0
pub record IsUnitPivot (t : Tableau) (p : StartPivot) : Type 0 where
  pub row : p.row < height t
  pub column : p.column < width t
  pub unit : cell t p.row p.column ≡ whole (pos 1)
  pub cells : (k : ℕ) → k < width t → whole (pos 0) ≤ℚ cell t p.row k
  pub goal : goal_cell t p.column ≤ℚ whole (pos 0)

-- neither has a cell in the other's column
pub record IsApart (t : Tableau) (p q : StartPivot) : Type 0 where
  pub rows : q.row ≡ p.row → ⊥
  pub columns : q.column ≡ p.column → ⊥
  pub here : cell t p.row q.column ≡ whole (pos 0)
  pub there : cell t q.row p.column ≡ whole (pos 0)

abbrev pub AreApart : Tableau → StartPivot → List StartPivot → Type 0
AreApart t p [] = Unit {0}
AreApart t p (q ∷ qs) = IsApart t p q × AreApart t p qs

abbrev pub AreUnitPivots : Tableau → List StartPivot → Type 0
AreUnitPivots t [] = Unit {0}
AreUnitPivots t (p ∷ ps) = IsUnitPivot t p × AreApart t p ps × AreUnitPivots t ps

-- a column that none of them has
abbrev pub IsElsewhere : ℕ → List StartPivot → Type 0
IsElsewhere k [] = Unit {0}
IsElsewhere k (p ∷ ps) = (k ≡ p.column → ⊥) × IsElsewhere k ps

module _ (t : Tableau) (s : IsShaped t) (p : StartPivot) (u : IsUnitPivot t p) where
  abbrev once : Tableau
  once = exchange p.row p.column t

  pub unit_is_place : IsPlace t p.row p.column
  unit_is_place = unit_place t p.row p.column u.row u.column u.unit

  -- a row without a cell in its column stays
  pub kept : (q : StartPivot) (k : ℕ) → q.row < height t → IsApart t p q → cell once q.row k ≡ cell t q.row k
  kept q k l a = cell_kept p.row p.column q.row k t s u.column l a.rows a.there

  goal_kept : (q : StartPivot) → IsApart t p q → goal_cell once q.column ≡ goal_cell t q.column
  goal_kept q a =
      unit_goal_other p.row p.column q.column t unit_is_place u.unit a.columns ∙ ap (λ x. goal_cell t q.column +ℚ neg_ℚ (goal_cell t p.column) *ℚ x) a.here
      ∙ ring (at 0 ⊕ minus (at 1) ⊗ lit (pos 0)) (at 0) (goal_cell t q.column ∷ goal_cell t p.column ∷ []) refl

  unit_once : (q : StartPivot) → IsApart t p q → IsUnitPivot t q → IsUnitPivot once q
  unit_once q a v = record {
    row = rw (height-exchange p.row p.column t) v.row;
    column = rw (width-exchange p.row p.column t) v.column;
    unit = kept q q.column v.row a ∙ v.unit;
    cells = λ k l. subst (λ x. whole (pos 0) ≤ℚ x) (sym (kept q k v.row a)) (v.cells k (subst (λ n. k < n) (width-exchange p.row p.column t) l));
    goal = subst (λ x. x ≤ℚ whole (pos 0)) (sym (goal_kept q a)) v.goal;
  }

  apart_once : (q : StartPivot) (qs : List StartPivot) → q.row < height t → IsApart t p q → AreApart t p qs → AreUnitPivots t qs → AreApart t q qs → AreApart once q qs
  apart_once q [] l a off us bs = tt
  apart_once q (r ∷ qs) l a off us bs = (
    record {
      rows = bs.0.rows;
      columns = bs.0.columns;
      here = kept q r.column l a ∙ bs.0.here;
      there = kept r q.column us.0.row off.0 ∙ bs.0.there;
    },
    apart_once q qs l a off.1 us.2 bs.1,
  )

  pub units_once : (qs : List StartPivot) → AreApart t p qs → AreUnitPivots t qs → AreUnitPivots once qs
  units_once [] off us = tt
  units_once (q ∷ qs) off us = (unit_once q off.0 us.0, apart_once q qs us.0.row off.0 off.1 us.2 us.1, units_once qs off.1 us.2)

  goal_once : (k : ℕ) → k < width t → (k ≡ p.column) ⊎ ((k ≡ p.column → ⊥) × (whole (pos 0) ≤ℚ goal_cell t k)) → whole (pos 0) ≤ℚ goal_cell once k
  goal_once k l (inl e) =
      subst (λ m. whole (pos 0) ≤ℚ goal_cell once m) (sym e)
      (subst (λ x. whole (pos 0) ≤ℚ x) (sym (unit_goal_at p.row p.column t s unit_is_place u.unit)) not_below)
    where
      not_below : whole (pos 0) ≤ℚ neg_ℚ (goal_cell t p.column)
      not_below = linear (record { count = 1; low = at 0; high = lit (pos 0) } ∷ []) 0 (lit (pos 0)) (minus (at 0)) (goal_cell t p.column ∷ []) (u.goal, tt) refl
  goal_once k l (inr h) =
      subst (λ x. whole (pos 0) ≤ℚ x) (sym (unit_goal_other p.row p.column k t unit_is_place u.unit h.0))
      (sum_not_negative _ _ h.1 (product_not_negative _ _ not_below (u.cells k l)))
    where
      not_below : whole (pos 0) ≤ℚ neg_ℚ (goal_cell t p.column)
      not_below = linear (record { count = 1; low = at 0; high = lit (pos 0) } ∷ []) 0 (lit (pos 0)) (minus (at 0)) (goal_cell t p.column ∷ []) (u.goal, tt) refl

-- no goal cell is below 0 in the end, where none was but those at their columns
pub unit_goals : (ps : List StartPivot) (t : Tableau) → IsShaped t → AreUnitPivots t ps → ((k : ℕ) → k < width t → IsElsewhere k ps → whole (pos 0) ≤ℚ goal_cell t k)
    → (k : ℕ) → k < width t → whole (pos 0) ≤ℚ goal_cell (after_pivots ps t) k
unfolding after_pivots
unit_goals [] t s us g k l = g k l tt
unit_goals (p ∷ ps) t s us g k l =
    let w = width-exchange p.row p.column t in
    unit_goals ps (exchange p.row p.column t) (shaped-exchange p.row p.column t s us.0.row) (units_once t s p us.0 ps us.1 us.2)
    (λ m h e. goal_once t s p us.0 m (subst (λ n. m < n) w h) (pick m (subst (λ n. m < n) w h) e (cases_eq m p.column))) k (rw w l)
  where
    pick : (m : ℕ) → m < width t → IsElsewhere m ps → (m ≡ p.column) ⊎ (m ≡ p.column → ⊥) → (m ≡ p.column) ⊎ ((m ≡ p.column → ⊥) × (whole (pos 0) ≤ℚ goal_cell t m))
    pick m h e (inl q) = inl q
    pick m h e (inr n) = inr (n, g m h (n, e))

pub unit_places : (ps : List StartPivot) (t : Tableau) → IsShaped t → AreUnitPivots t ps → ArePlaces ps t
unit_places [] t s us = tt
unit_places (p ∷ ps) t s us = (unit_is_place t s p us.0, unit_places ps (exchange p.row p.column t) (shaped-exchange p.row p.column t s us.0.row) (units_once t s p us.0 ps us.1 us.2))

-- so what they leave is dual feasible
pub unit_dual : (ps : List StartPivot) (t : Tableau) → IsShaped t → IsPlaced t → AreUnitPivots t ps → ((k : ℕ) → k < width t → IsElsewhere k ps → whole (pos 0) ≤ℚ goal_cell t k)
    → IsDual (after_pivots ps t)
unit_dual ps t s q us g =
    let r = unit_places ps t s us in
    record {
      shaped = shaped_pivots ps t r s;
      placed = placed_pivots ps t r s q;
      goals = λ k l. unit_goals ps t s us g k (subst (λ n. k < n) (width-pivots ps t) l);
    }

-- ---- one pivot after another
-- each pivot, as it comes, is at a cell that isn't 0, and none of its operations is refused
abbrev pub AreReady : List StartPivot → Tableau → Type 0
AreReady [] t = Unit {0}
AreReady (p ∷ ps) t = IsPlace t p.row p.column × (pivot_refusal p.row p.column t.rows t.goal ≡ None) × AreReady ps (exchange p.row p.column t)

-- some of the pivots were made, and these are left
pub record IsOnTheWay (ps : List StartPivot) (s t : NamedTableau) (rest : List StartPivot) : Type 0 where
  pub ready : AreReady rest t.table
  pub state : record s { table = after_pivots ps s.table } ≡ record t { table = after_pivots rest t.table }
  pub unspent : t.spent ≡ false

pub way_begins : (ps : List StartPivot) (s : NamedTableau) → AreReady ps s.table → s.spent ≡ false → IsOnTheWay ps s s ps
way_begins ps s r u = record { ready = r; state = refl; unspent = u }

pub way_next : (ps : List StartPivot) (s t u : NamedTableau) (p : StartPivot) (rest : List StartPivot) → IsOnTheWay ps s t (p ∷ rest)
    → u ≡ record t { table = exchange p.row p.column t.table } → IsOnTheWay ps s u rest
unfolding after_pivots
way_next ps s t u p rest w e = subst (λ v. IsOnTheWay ps s v rest) (sym e) (record { ready = w.ready.2; state = w.state; unspent = w.unspent })

pub way_ends : (ps : List StartPivot) (s t : NamedTableau) → IsOnTheWay ps s t [] → t ≡ record s { table = after_pivots ps s.table }
unfolding after_pivots
way_ends ps s t w = sym w.state
