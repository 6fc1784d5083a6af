-- The pivots by which the halves enter: each is on a cell of 1 in a row without a negative cell, none has a cell in another's column, and no other column has a
-- number in the goal.
use Rattle.std.proofs.Common.{◌≡◌, ℕ, zero, suc, pos, List, [], ◌∷◌, ◌++◌, get_or, replicate, ◌+◌, ◌-◌, ◌*◌, ◌<◌, ◌≤◌, ◌⊎◌, inl, inr, refl, sym, ◌∙◌, ap, subst, arith}
use Rattle.std.proofs.lemmas.Int.{ints}
use Rattle.std.proofs.lemmas.List.{length-replicate, get_or_append_left}
use Rattle.rational_theory.specs.Rational.{ℚ, whole, neg_ℚ, ◌*ℚ◌, ◌≤ℚ◌}
use Rattle.rational_theory.proofs.Order.{≤ℚ_refl, whole-≤ℤ, neg-≤ℚ}
use Rattle.rational_theory.proofs.Linear.{product_not_negative}
use Rattle.rational_theory.proofs.Ring.{ring, lit, minus}
use Rattle.progression.specs.Street.{Street, count, HasLink}
use Rattle.progression.specs.Speeds.{number}
use Rattle.progression.specs.declared.parts.Dir.{Dir}
use Rattle.progression.specs.declared.parts.Dir.TheVariants.{Outbound, Inbound}
use Rattle.artery_model.specs.Valid.{IsValid}
use Rattle.linear_theory.specs.Blocks.{green_part}
use Rattle.linear_theory.specs.Boxes.{Area}
use Rattle.linear_theory.specs.Places.{width}
use Rattle.linear_theory.proofs.PlacedRows.{get-zeros}
use Rattle.simplex_theory.specs.Tableau.{Tableau, cell, goal_cell}
use Rattle.program_builder.proofs.LoadedTables.{goal_cells_at, height-loaded, width-loaded, goal-loaded}
use Rattle.program_builder.proofs.StartPivots.{IsUnitPivot, IsApart, AreApart, AreUnitPivots, IsElsewhere}
use Rattle.link_theory.specs.LinkColumns.{link_width, half_place}
use Rattle.link_theory.specs.LinkRows.{link_goal}
use Rattle.multi_band.specs.LinkTables.{link_table, link_loaded}
use Rattle.multi_band.specs.LinkOpening.{half_pivot, half_pivots, link_pivots}
use Rattle.link_space.proofs.LinkSets.{link_goal_width}
use Rattle.multi_band.specs.laws.FarRows.{far_within, directions_apart, half_low, half_high, far_cells, far_own, far_other, far_each, far_line}

-- ---- lists of numbers
append_each : (P : ℚ → Type 0) (xs ys : List ℚ) (k : ℕ) → ((j : ℕ) → P (get_or xs j (number 0))) → ((j : ℕ) → P (get_or ys j (number 0))) → P (get_or (xs ++ ys) k (number 0))
append_each P [] ys k f g = g k
append_each P (x ∷ xs) ys zero f g = f 0
append_each P (x ∷ xs) ys (suc k) f g = append_each P xs ys k (λ j. f (suc j)) g

replicate_each : (P : ℚ → Type 0) (n : ℕ) (v : ℚ) (k : ℕ) → P v → P (number 0) → P (get_or (replicate n v) k (number 0))
replicate_each P zero v k h z = z
replicate_each P (suc n) v zero h z = h
replicate_each P (suc n) v (suc k) h z = replicate_each P n v k h z

-- what is true of 0, of 2 and of twice the ratio is true of each number of the goal
pub goal_each : (P : ℚ → Type 0) (a : Street) → P (number 0) → P (number 2) → P (number 2 *ℚ a.head.ratio) → (k : ℕ) → P (get_or (link_goal a) k (number 0))
goal_each P a z o b k =
    let n = count a in
    append_each P (replicate (width n) (number 0)) _ k (λ j. replicate_each P (width n) (number 0) j z z)
    (λ j. append_each P (replicate (n - 1) (number 2)) (replicate (n - 1) (number 2 *ℚ a.head.ratio)) j (λ i. replicate_each P (n - 1) (number 2) i o z) (λ i. replicate_each P (n - 1) (number 2 *ℚ a.head.ratio) i b z))

-- ---- signs
pub one_low : number 0 ≤ℚ number 1
one_low = whole-≤ℤ (pos 0) (pos 1) (omega (arith, ints))

pub two_low : number 0 ≤ℚ number 2
two_low = whole-≤ℤ (pos 0) (pos 2) (omega (arith, ints))

pub ratio_not_negative : (a : Street) → IsValid a → number 0 ≤ℚ a.head.ratio
unfolding whole
ratio_not_negative a v = record { cross = let l = v.ratio.least in omega (arith, ints, l) }

-- ---- an artery's links
module _ (a : Street) (box : Area) (v : IsValid a) where
  two_signals : 2 ≤ count a
  two_signals = v.few

  abbrev loaded : Tableau
  loaded = link_loaded a box

  far_cell : (d : Dir) (i k : ℕ) → HasLink a i → cell loaded (half_pivot a d i).row k ≡ get_or (far_cells a d i) k (number 0)
  far_cell d i k h = ap (λ (c : List ℚ). get_or c k (number 0)) (far_line a box d i h)

  goal_at : (k : ℕ) → k < link_width (count a) → goal_cell loaded k ≡ neg_ℚ (get_or (link_goal a) k (number 0))
  goal_at k l = ap (λ (c : List ℚ). get_or c k (number 0)) (goal-loaded (link_table a) box) ∙ goal_cells_at (link_goal a) k (let e = link_goal_width a two_signals in omega arith)

  neg_zero : neg_ℚ (number 0) ≡ number 0
  neg_zero = ring (minus (lit (pos 0))) (lit (pos 0)) [] refl

  goal_high : (k : ℕ) → k < link_width (count a) → goal_cell loaded k ≤ℚ number 0
  goal_high k l =
      rw (goal_at k l) (subst (λ x. neg_ℚ (get_or (link_goal a) k (number 0)) ≤ℚ x) neg_zero (neg-≤ℚ _ _
      (goal_each (λ x. number 0 ≤ℚ x) a (≤ℚ_refl (number 0)) two_low (product_not_negative _ _ two_low (ratio_not_negative a v)) k)))

  half_unit : (green_low : (d : Dir) (i : ℕ) → HasLink a i → number 0 ≤ℚ green_part a d i) (d : Dir) (i : ℕ) → HasLink a i → IsUnitPivot loaded (half_pivot a d i)
  half_unit green_low d i h = record {
    row = rw (height-loaded (link_table a) box) (far_within a d i h);
    column = rw (width-loaded (link_table a) box) (half_high a d i h);
    unit = far_cell d i (half_place (count a) d i) h ∙ far_own a d i h;
    cells = λ k l. rw (far_cell d i k h) (far_each a d i h (λ x. number 0 ≤ℚ x) (≤ℚ_refl (number 0)) one_low (green_low d i h) k);
    goal = goal_high (half_place (count a) d i) (half_high a d i h);
  }

  halves_apart : (d e : Dir) (i j : ℕ) → HasLink a i → HasLink a j → ((half_pivot a e j).row ≡ (half_pivot a d i).row → ⊥) → (half_place (count a) e j ≡ half_place (count a) d i → ⊥)
      → IsApart loaded (half_pivot a d i) (half_pivot a e j)
  halves_apart d e i j h k n m = record {
    rows = n;
    columns = m;
    here = far_cell d i (half_place (count a) e j) h ∙ far_other a d i h (half_place (count a) e j) (half_low a e j k) (half_high a e j k) m;
    there = far_cell e j (half_place (count a) d i) k ∙ far_other a e j k (half_place (count a) d i) (half_low a d i h) (half_high a d i h) (λ q. m (sym q));
  }

  -- of two links, or of two directions
  links_apart : (d e : Dir) (i j : ℕ) → HasLink a i → HasLink a j → i < j → IsApart loaded (half_pivot a d i) (half_pivot a e j)
  links_apart Outbound Outbound i j h k l = let p = h.0 in halves_apart Outbound Outbound i j h k (λ q. absurd (omega arith)) (λ q. absurd (omega arith))
  links_apart Inbound Inbound i j h k l = let p = h.0 in halves_apart Inbound Inbound i j h k (λ q. absurd (omega arith)) (λ q. absurd (omega arith))
  links_apart Outbound Inbound i j h k l = let p = h.1 in let q = k.0 in halves_apart Outbound Inbound i j h k (λ e. directions_apart a i j h k (sym e)) (λ e. absurd (omega arith))
  links_apart Inbound Outbound i j h k l = let p = h.0 in let q = k.1 in halves_apart Inbound Outbound i j h k (λ e. directions_apart a j i k h e) (λ e. absurd (omega arith))

  both_apart : (i : ℕ) → HasLink a i → IsApart loaded (half_pivot a Outbound i) (half_pivot a Inbound i)
  both_apart i h = let p = h.0 in let q = h.1 in halves_apart Outbound Inbound i i h h (λ e. directions_apart a i i h h (sym e)) (λ e. absurd (omega arith))

  later_apart : (d : Dir) (i j k : ℕ) → HasLink a i → i < j → j + k ≤ count a → AreApart loaded (half_pivot a d i) (half_pivots a j k)
  later_apart d i j zero h l m = tt
  later_apart d i j (suc k) h l m =
      let g : HasLink a j = (let p = h.0 in omega arith, omega arith) in
      (links_apart d Outbound i j h g l, (links_apart d Inbound i j h g l, later_apart d i (j + 1) k h (omega arith) (omega arith)))

  pub halves_units : ((d : Dir) (i : ℕ) → HasLink a i → number 0 ≤ℚ green_part a d i) → (i k : ℕ) → 1 ≤ i → i + k ≤ count a → AreUnitPivots loaded (half_pivots a i k)
  halves_units g i zero l m = tt
  halves_units g i (suc k) l m =
      let h : HasLink a i = (l, omega arith) in (
        half_unit g Outbound i h,
        (both_apart i h, later_apart Outbound i (i + 1) k h (omega arith) (omega arith)),
        (half_unit g Inbound i h, later_apart Inbound i (i + 1) k h (omega arith) (omega arith), halves_units g (i + 1) k (omega arith) (omega arith)),
      )

  -- ---- columns that none of them has
  not_elsewhere : (c : ℕ) (d : Dir) (i k j : ℕ) → i ≤ j → j < i + k → c ≡ half_place (count a) d j → IsElsewhere c (half_pivots a i k) → ⊥
  not_elsewhere c d i zero j l m e n = absurd (omega arith)
  not_elsewhere c d i (suc k) j l m e n = pick d e (cases i j l) (λ q. not_elsewhere c d (i + 1) k j q (omega arith) e n.1.1)
    where
      cases : (i j : ℕ) → i ≤ j → (i ≡ j) ⊎ (i + 1 ≤ j)
      cases i j l = grind arith

      pick : (d : Dir) → c ≡ half_place (count a) d j → (i ≡ j) ⊎ (i + 1 ≤ j) → (i + 1 ≤ j → ⊥) → ⊥
      pick Outbound e (inl q) r = n.0 (e ∙ ap (half_place (count a) Outbound) (sym q))
      pick Inbound e (inl q) r = n.1.0 (e ∙ ap (half_place (count a) Inbound) (sym q))
      pick d e (inr q) r = r q

  -- are those of the lines
  elsewhere_low : (c : ℕ) → c < link_width (count a) → IsElsewhere c (link_pivots a) → c < width (count a)
  elsewhere_low c l n = pick (low_or_not c (5 * count a + 1)) (low_or_not c (6 * count a))
    where
      low_or_not : (c m : ℕ) → (c < m) ⊎ (m ≤ c)
      low_or_not c m = grind arith

      pick : (c < 5 * count a + 1) ⊎ (5 * count a + 1 ≤ c) → (c < 6 * count a) ⊎ (6 * count a ≤ c) → c < width (count a)
      pick (inl p) q = p
      pick (inr p) (inl q) = absurd (not_elsewhere c Outbound 1 (count a - 1) (c - 5 * count a) (omega arith) (omega arith) (omega arith) n)
      pick (inr p) (inr q) = absurd (not_elsewhere c Inbound 1 (count a - 1) (c - (6 * count a - 1)) (omega arith) (omega arith) (omega arith) n)

  pub goal_elsewhere : (c : ℕ) → c < link_width (count a) → IsElsewhere c (link_pivots a) → number 0 ≤ℚ goal_cell loaded c
  goal_elsewhere c l n =
      let w = elsewhere_low c l n in
      let r = length-replicate (width (count a)) (number 0) in
      rw (goal_at c l, get_or_append_left (replicate (width (count a)) (number 0)) _ (number 0) c (omega arith), get-zeros (width (count a)) c, neg_zero) (≤ℚ_refl (number 0))
