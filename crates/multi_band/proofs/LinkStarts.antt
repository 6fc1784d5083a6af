-- The start leaf of links covers the goal with its bound.
use Rattle.std.proofs.Common.{◌≡◌, ℕ, zero, suc, pos, Bool, true, false, List, [], ◌∷◌, ◌++◌, map, get_or, replicate, ◌+◌, ◌-◌, ◌*◌, ◌<◌, ◌≤◌, ◌⊎◌}
use Rattle.std.proofs.Common.{inl, inr, refl, sym, ◌∙◌, ap, subst, arith, if◌then◌else◌}
use Rattle.std.proofs.lemmas.List.{length-replicate, get_or_append_left, get_or-append_right}
use Rattle.std.specs.Ordering.{eq_by_cmp}
use Rattle.rational_theory.specs.Rational.{ℚ, ◌+ℚ◌, ◌*ℚ◌, ◌≤ℚ◌}
use Rattle.rational_theory.specs.Compare.{cmp_ℚ}
use Rattle.rational_theory.proofs.Compare.{eq_true}
use Rattle.rational_theory.proofs.Order.{≤ℚ_refl, ≤ℚ_trans}
use Rattle.rational_theory.proofs.Linear.{linear, sum_not_negative, product_not_negative}
use Rattle.rational_theory.proofs.Ring.{ring, at, lit, ◌⊕◌, ◌⊗◌}
use Rattle.rational_theory.specs.Rows.{scale}
use Rattle.progression.specs.Street.{Street, count, HasLink}
use Rattle.progression.specs.Speeds.{number}
use Rattle.progression.specs.declared.parts.Dir.{Dir}
use Rattle.progression.specs.declared.parts.Dir.TheVariants.{Outbound, Inbound}
use Rattle.artery_model.specs.Valid.{IsValid}
use Rattle.linear_theory.specs.Boxes.{Area, root_box}
use Rattle.linear_theory.specs.Blocks.{green_part}
use Rattle.linear_theory.specs.Covering.{coef}
use Rattle.linear_theory.specs.Places.{width}
use Rattle.linear_theory.proofs.PlacedRows.{get-zeros}
use Rattle.named_row.specs.declared.leaves.Weight.{Weight}
use Rattle.simplex_theory.proofs.Lines.{get_or-add, get_or-scale}
use Rattle.link_theory.specs.declared.ends.LinkEnd.TheVariants.{Here}
use Rattle.link_theory.specs.LinkColumns.{link_width, half_place}
use Rattle.link_theory.specs.LinkRows.{link_line, far_form, link_goal}
use Rattle.link_theory.specs.LinkTrees.{link_sum, AreLinkWeights, CoversLinks}
use Rattle.link_space.specs.LinkWeights.{link_named}
use Rattle.program_builder.proofs.LineCells.{row_each}
use Rattle.multi_band.specs.LinkTables.{link_row_for}
use Rattle.multi_band.specs.LinkStarts.{far_weight, far_weights, twice_ratio, inbound_weights, link_start_leaf, link_start_bound}
use Rattle.multi_band.specs.laws.FarRows.{far_at}
use Rattle.multi_band.proofs.LinkEnds.{link_weights_append}
use Rattle.multi_band.specs.laws.LinkPivots.{one_low, two_low, ratio_not_negative}

module _ (a : Street) (box : Area) where
  abbrev weighted : List Weight → ℕ → ℚ
  weighted ws j = coef (link_sum a box (map link_named ws)).coefs j

  abbrev number_in : Weight → ℕ → ℚ
  number_in w j = coef (link_row_for a box w.row).coefs j

  first_more : (w : Weight) (ws : List Weight) (j : ℕ) → weighted (w ∷ ws) j ≡ w.by *ℚ number_in w j +ℚ weighted ws j
  first_more w ws j =
      get_or-add (scale w.by (link_row_for a box w.row).coefs) (link_sum a box (map link_named ws)).coefs j ∙ ap (λ y. y +ℚ weighted ws j) (get_or-scale w.by (link_row_for a box w.row).coefs j)

  abbrev AllLow : ℕ → List Weight → Type 0
  AllLow j [] = Unit {0}
  AllLow j (w ∷ ws) = (number 0 ≤ℚ w.by) × (number 0 ≤ℚ number_in w j) × AllLow j ws

  sum_low : (j : ℕ) (ws : List Weight) → AllLow j ws → number 0 ≤ℚ weighted ws j
  sum_low j [] h = ≤ℚ_refl (number 0)
  sum_low j (w ∷ ws) h = rw (first_more w ws j) (sum_not_negative _ _ (product_not_negative _ _ h.0 h.1) (sum_low j ws h.2))

  more_left : (x y : ℚ) → number 0 ≤ℚ y → x ≤ℚ (x +ℚ y)
  more_left x y h = linear (record { count = 1; low = lit (pos 0); high = at 1 } ∷ []) 0 (at 0) (at 0 ⊕ at 1) (x ∷ y ∷ []) (h, tt) refl

  more_right : (x y : ℚ) → number 0 ≤ℚ x → y ≤ℚ (x +ℚ y)
  more_right x y h = linear (record { count = 1; low = lit (pos 0); high = at 0 } ∷ []) 0 (at 1) (at 0 ⊕ at 1) (x ∷ y ∷ []) (h, tt) refl

  -- so the sum of some is at most that of all
  sum_front : (j : ℕ) (vs ws : List Weight) → AllLow j vs → AllLow j ws → weighted vs j ≤ℚ weighted (vs ++ ws) j
  sum_front j [] ws g h = sum_low j ws h
  sum_front j (v ∷ vs) ws g h =
      let e = sum_front j vs ws g.2 h in
      rw (first_more v vs j, first_more v (vs ++ ws) j) (linear (record { count = 1; low = at 1; high = at 2 } ∷ []) 0 (at 0 ⊕ at 1) (at 0 ⊕ at 2)
      (v.by *ℚ number_in v j ∷ weighted vs j ∷ weighted (vs ++ ws) j ∷ []) (e, tt) refl)

  sum_back : (j : ℕ) (vs ws : List Weight) → AllLow j vs → AllLow j ws → weighted ws j ≤ℚ weighted (vs ++ ws) j
  sum_back j [] ws g h = ≤ℚ_refl (weighted ws j)
  sum_back j (v ∷ vs) ws g h =
      rw (first_more v (vs ++ ws) j) (≤ℚ_trans _ _ _ (sum_back j vs ws g.2 h) (more_right _ _ (product_not_negative _ _ g.0 g.1)))

  low_append : (j : ℕ) (vs ws : List Weight) → AllLow j vs → AllLow j ws → AllLow j (vs ++ ws)
  low_append j [] ws g h = h
  low_append j (v ∷ vs) ws g h = (g.0, g.1, low_append j vs ws g.2 h)

  module _ (v : IsValid a) where
    far_number : (d : Dir) (by : ℚ) (i j : ℕ) → number_in (far_weight d by i) j ≡ coef (link_line a (far_form a d Here i)).coefs j
    far_number Outbound by i j = refl
    far_number Inbound by i j = refl

    far_low : (d : Dir) (by : ℚ) (i j : ℕ) → number 0 ≤ℚ number_in (far_weight d by i) j
    far_low d by i j =
        rw (far_number d by i j)
        (row_each (λ x. number 0 ≤ℚ x) (link_width (count a)) (far_form a d Here i).cells (green_part a d i) j (≤ℚ_refl (number 0)) (one_low, (one_low, tt)))

    fars_low : (d : Dir) (by : ℚ) (i k j : ℕ) → number 0 ≤ℚ by → AllLow j (far_weights d by i k)
    fars_low d by i zero j h = tt
    fars_low d by i (suc k) j h = (h, far_low d by i j, fars_low d by (i + 1) k j h)

    -- at a link's half they come to the multiplier at least
    fars_most : (d : Dir) (by : ℚ) (i k t : ℕ) → number 0 ≤ℚ by → 1 ≤ i → i + k ≤ count a → i ≤ t → t < i + k → by ≤ℚ weighted (far_weights d by i k) (half_place (count a) d t)
    fars_most d by i zero t h l m p q = absurd (omega arith)
    fars_most d by i (suc k) t h l m p q = rw (first_more (far_weight d by i) (far_weights d by (i + 1) k) (half_place (count a) d t))
        (pick (cases i t p) (λ r. fars_most d by (i + 1) k t h (omega arith) (omega arith) r (omega arith)))
      where
        cases : (i t : ℕ) → i ≤ t → (i ≡ t) ⊎ (i + 1 ≤ t)
        cases i t p = grind arith

        pick : (i ≡ t) ⊎ (i + 1 ≤ t) → (i + 1 ≤ t → by ≤ℚ weighted (far_weights d by (i + 1) k) (half_place (count a) d t))
            → by ≤ℚ (by *ℚ number_in (far_weight d by i) (half_place (count a) d t) +ℚ weighted (far_weights d by (i + 1) k) (half_place (count a) d t))
        pick (inl e) r =
            let g : HasLink a i = (l, omega arith) in
            let one : number_in (far_weight d by i) (half_place (count a) d t) ≡ number 1 = far_number d by i (half_place (count a) d t)
            ∙ ap (λ n. coef (link_line a (far_form a d Here i)).coefs (half_place (count a) d n)) (sym e) ∙ far_at a d i g in
            let times : by *ℚ number 1 ≡ by = ring (at 0 ⊗ lit (pos 1)) (at 0) (by ∷ []) refl in
            rw (one, times) (more_left by _ (sum_low (half_place (count a) d t) (far_weights d by (i + 1) k) (fars_low d by (i + 1) k (half_place (count a) d t) h)))
        pick (inr e) r = ≤ℚ_trans _ _ _ (r e) (more_right _ _ (product_not_negative _ _ h (far_low d by i (half_place (count a) d t))))

    -- ---- the start leaf
    twice_low : number 0 ≤ℚ twice_ratio a
    twice_low = product_not_negative _ _ two_low (ratio_not_negative a v)

    inbound_low : (j : ℕ) → AllLow j (inbound_weights a)
    inbound_low j = pick (eq_by_cmp cmp_ℚ a.head.ratio (number 0))
      where
        pick : (b : Bool) → AllLow j (if b then [] else far_weights Inbound (twice_ratio a) 1 (count a - 1))
        pick true = tt
        pick false = fars_low Inbound (twice_ratio a) 1 (count a - 1) j twice_low

    outbound_low : (j : ℕ) → AllLow j (far_weights Outbound (number 2) 1 (count a - 1))
    outbound_low j = fars_low Outbound (number 2) 1 (count a - 1) j two_low

    start_low : (j : ℕ) → number 0 ≤ℚ weighted (link_start_leaf a) j
    start_low j = sum_low j (link_start_leaf a) (low_append j (far_weights Outbound (number 2) 1 (count a - 1)) (inbound_weights a) (outbound_low j) (inbound_low j))

    outbound_most : (t : ℕ) → HasLink a t → number 2 ≤ℚ weighted (link_start_leaf a) (half_place (count a) Outbound t)
    outbound_most t h =
        let l = h.0 in
        let m = h.1 in
        let j = half_place (count a) Outbound t in
        ≤ℚ_trans _ _ _ (fars_most Outbound (number 2) 1 (count a - 1) t two_low (omega arith) (omega arith) (omega arith) (omega arith))
        (sum_front j (far_weights Outbound (number 2) 1 (count a - 1)) (inbound_weights a) (outbound_low j) (inbound_low j))

    inbound_most : (t : ℕ) → HasLink a t → twice_ratio a ≤ℚ weighted (link_start_leaf a) (half_place (count a) Inbound t)
    inbound_most t h =
        let j = half_place (count a) Inbound t in
        ≤ℚ_trans _ _ _ (pick (eq_by_cmp cmp_ℚ a.head.ratio (number 0)) refl)
        (sum_back j (far_weights Outbound (number 2) 1 (count a - 1)) (inbound_weights a) (outbound_low j) (inbound_low j))
      where
        pick : (b : Bool) → eq_by_cmp cmp_ℚ a.head.ratio (number 0) ≡ b → twice_ratio a ≤ℚ weighted (if b then [] else far_weights Inbound (twice_ratio a) 1 (count a - 1))
            (half_place (count a) Inbound t)
        pick true e =
            let z : twice_ratio a ≡ number 0 = ap (λ k. number 2 *ℚ k) (eq_true a.head.ratio (number 0) (sym e)) ∙ ring (lit (pos 2) ⊗ lit (pos 0)) (lit (pos 0)) [] refl in
            rw z (≤ℚ_refl (number 0))
        pick false e = let l = h.0 in let m = h.1 in fars_most Inbound (twice_ratio a) 1 (count a - 1) t twice_low (omega arith) (omega arith) (omega arith) (omega arith)

    -- ---- the goal
    abbrev goal_coef : ℕ → ℚ
    goal_coef j = coef (link_goal a) j

    abbrev zeros : List ℚ
    zeros = replicate (width (count a)) (number 0)

    abbrev twos : List ℚ
    twos = replicate (count a - 1) (number 2)

    replicate_at : (n : ℕ) (x : ℚ) (k : ℕ) → k < n → get_or (replicate n x) k (number 0) ≡ x
    replicate_at zero x k h = absurd (omega arith)
    replicate_at (suc n) x zero h = refl
    replicate_at (suc n) x (suc k) h = replicate_at n x k (omega arith)

    goal_low : (j : ℕ) → j < width (count a) → goal_coef j ≡ number 0
    goal_low j h = let e = length-replicate (width (count a)) (number 0) in get_or_append_left zeros _ (number 0) j (omega arith) ∙ get-zeros (width (count a)) j

    -- past the artery's own columns
    goal_past : (j : ℕ) → width (count a) ≤ j → goal_coef j ≡ get_or (twos ++ replicate (count a - 1) (twice_ratio a)) (j - width (count a)) (number 0)
    goal_past j h = get_or-append_right zeros _ (width (count a)) j (number 0) (length-replicate (width (count a)) (number 0)) h

    -- what a half is worth
    abbrev half_worth : Dir → ℚ
    half_worth Outbound = number 2
    half_worth Inbound = twice_ratio a

    goal_half : (d : Dir) (t : ℕ) → HasLink a t → goal_coef (half_place (count a) d t) ≡ half_worth d
    goal_half Outbound t h =
        let l = h.0 in
        let m = h.1 in
        let f = length-replicate (count a - 1) (number 2) in
        let j = half_place (count a) Outbound t in
        goal_past j (omega arith) ∙ get_or_append_left twos _ (number 0) (j - width (count a)) (omega arith) ∙ replicate_at (count a - 1) (number 2) (j - width (count a)) (omega arith)
    goal_half Inbound t h =
        let l = h.0 in
        let m = h.1 in
        let f = length-replicate (count a - 1) (number 2) in
        let j = half_place (count a) Inbound t in
        goal_past j (omega arith) ∙ get_or-append_right twos _ (count a - 1) (j - width (count a)) (number 0) f (omega arith)
        ∙ replicate_at (count a - 1) (twice_ratio a) (j - width (count a) - (count a - 1)) (omega arith)

    goal_under : (j : ℕ) → j < link_width (count a) → goal_coef j ≤ℚ weighted (link_start_leaf a) j
    goal_under j h = pick (low_or_not j (5 * count a + 1)) (low_or_not j (6 * count a))
      where
        low_or_not : (c m : ℕ) → (c < m) ⊎ (m ≤ c)
        low_or_not c m = grind arith

        pick : (j < 5 * count a + 1) ⊎ (5 * count a + 1 ≤ j) → (j < 6 * count a) ⊎ (6 * count a ≤ j) → goal_coef j ≤ℚ weighted (link_start_leaf a) j
        pick (inl p) q = rw (goal_low j p) (start_low j)
        pick (inr p) (inl q) =
            let t = j - 5 * count a in
            let e : half_place (count a) Outbound t ≡ j = omega arith in
            let g : HasLink a t = (omega arith, omega arith) in
            subst (λ n. goal_coef n ≤ℚ weighted (link_start_leaf a) n) e (rw (goal_half Outbound t g) (outbound_most t g))
        pick (inr p) (inr q) =
            let t = j - (6 * count a - 1) in
            let e : half_place (count a) Inbound t ≡ j = omega arith in
            let g : HasLink a t = (omega arith, omega arith) in
            subst (λ n. goal_coef n ≤ℚ weighted (link_start_leaf a) n) e (rw (goal_half Inbound t g) (inbound_most t g))

-- the artery has the rows
far_there : (a : Street) (d : Dir) (by : ℚ) (i k : ℕ) → number 0 ≤ℚ by → 1 ≤ i → i + k ≤ count a → AreLinkWeights a (map link_named (far_weights d by i k))
far_there a d by i zero h l m = tt
far_there a Outbound by i (suc k) h l m = ((l, omega arith), h, far_there a Outbound by (i + 1) k h (omega arith) (omega arith))
far_there a Inbound by i (suc k) h l m = ((l, omega arith), h, far_there a Inbound by (i + 1) k h (omega arith) (omega arith))

module _ (a : Street) (v : IsValid a) where
  pub start_links_there : AreLinkWeights a (map link_named (link_start_leaf a))
  start_links_there =
      let n = v.few in
      link_weights_append a (far_weights Outbound (number 2) 1 (count a - 1)) (inbound_weights a) (far_there a Outbound (number 2) 1 (count a - 1) two_low (omega arith) (omega arith))
      (pick (eq_by_cmp cmp_ℚ a.head.ratio (number 0)))
    where
      pick : (b : Bool) → AreLinkWeights a (map link_named (if b then [] else far_weights Inbound (twice_ratio a) 1 (count a - 1)))
      pick true = tt
      pick false = let n = v.few in far_there a Inbound (twice_ratio a) 1 (count a - 1) (product_not_negative _ _ two_low (ratio_not_negative a v)) (omega arith) (omega arith)

  pub start_links_cover : CoversLinks a (link_start_bound a) (link_sum a (root_box a) (map link_named (link_start_leaf a)))
  unfolding link_start_bound
  start_links_cover = record { coefs = λ j l. goal_under a (root_box a) v j l; bound = ≤ℚ_refl _ }
