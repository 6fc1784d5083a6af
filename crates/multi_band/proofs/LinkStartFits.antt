-- The sum of the start leaf of links stays within 128 bits: each of its rows adds so many parts of a denominator in common.
use Rattle.std.proofs.Common.{◌≡◌, ℕ, zero, suc, pos, Bool, true, false, Option, None, List, [], ◌∷◌, ◌++◌, length, get_or, ◌+◌, ◌-◌, ◌*◌, ◌≤◌, refl}
use Rattle.std.proofs.Common.{sym, ◌∙◌, ap, subst, arith, length-append, unsigned_abs, if◌then◌else◌}
use Rattle.std.proofs.Math.Nat.{mul_comm}
use Rattle.std.specs.Ordering.{eq_by_cmp}
use Rattle.rational_theory.specs.Rational.{ℚ, whole, ◌+ℚ◌, ◌*ℚ◌, ◌≤ℚ◌}
use Rattle.rational_theory.specs.Compare.{cmp_ℚ}
use Rattle.rational_theory.specs.Rows as maths
use Rattle.rational_theory.specs.Rows.{scale}
use Rattle.rational_theory.proofs.Linear.{product_not_negative}
use Rattle.rational_theory.proofs.Ring.{ring, at, lit, ◌⊕◌, ◌⊗◌}
use Rattle.progression.specs.Street.{Street, count, HasLink}
use Rattle.progression.specs.Speeds.{number}
use Rattle.progression.specs.declared.parts.Dir.{Dir}
use Rattle.progression.specs.declared.parts.Dir.TheVariants.{Outbound, Inbound}
use Rattle.artery_model.specs.Valid.{IsValid}
use Rattle.linear_theory.specs.Boxes.{Area}
use Rattle.linear_theory.proofs.PlacedRows.{get-zeros}
use Rattle.narrow_fraction.specs.Attempt.{first_below}
use Rattle.narrow_fraction.proofs.Past128.{past_none}
use Rattle.narrow_fraction.specs.declared.wide.Op.TheVariants.{Add, Mul}
use Rattle.named_row.specs.Sheets.{Sheet, blank, with_times}
use Rattle.named_row.specs.Refusals.{place_refusal, cell_refusal, sum_refusal}
use Rattle.named_row.specs.declared.names.Place.{Place}
use Rattle.named_row.specs.declared.names.Place.TheVariants.{Cell, Bound}
use Rattle.named_row.specs.declared.leaves.Weight.{Weight}
use Rattle.loop_rows.specs.Weights.{first_fault_with, fault_of, with_weight}
use Rattle.loop_rows.proofs.LeafSums.{fault_free_by}
use Rattle.simplex_theory.proofs.Lines.{get_or-add, get_or-scale}
use Rattle.link_theory.specs.declared.ends.LinkEnd.TheVariants.{Here}
use Rattle.link_theory.specs.LinkColumns.{link_width}
use Rattle.link_theory.specs.LinkRows.{far_form}
use Rattle.link_theory.specs.LinkNames.{FarRow, HasLinkRow, link_row}
use Rattle.link_space.specs.LinkSheets.{link_sheet}
use Rattle.link_space.specs.LinkWeights.{link_name_at, link_rows}
use Rattle.link_space.specs.laws.LinkSheets.{link_sheet_row}
use Rattle.link_space.proofs.LinkRowTests.{links_stand}
use Rattle.program_builder.proofs.CommonParts.{IsParts, parts_more, parts_plus, parts_times, parts_up_to, zero_parts, one_parts, own_parts}
use Rattle.program_builder.proofs.LineCells.{row_each}
use Rattle.program_builder.proofs.Narrowing.{up_to_times, up_to_times_fits, up_to_sum_fits}
use Rattle.multi_band.specs.LinkStarts.{far_weights, twice_ratio, inbound_weights, link_start_leaf}
use Rattle.multi_band.specs.laws.LinkPivots.{two_low, ratio_not_negative}
use Rattle.multi_band.proofs.LinkFits.{parts, common, some_common, few_common, green_own}

-- every number of the row has n parts of d at most
record IsPartsSheet (d n : ℕ) (s : Sheet) : Type 0 where
  cells : (j : ℕ) → IsParts d n (get_or s.coefs j (whole (pos 0)))
  bound : IsParts d n s.bound

all_none : {E : Type 0} (f : ℕ → Option E) (n : ℕ) → ((j : ℕ) → f j ≡ None) → first_below f n ≡ None
all_none f zero h = refl
all_none f (suc n) h = let p = all_none f n h in let q = h n in rw (p, q) refl

module _ (a : Street) (v : IsValid a) where
  -- a multiplier
  abbrev IsMultiplier : ℚ → Type 0
  IsMultiplier k = IsParts a.head.ratio.den 200000 k

  abbrev IsRow : Sheet → Type 0
  IsRow s = IsPartsSheet (parts a v) (parts a v) s

  abbrev IsSum : ℕ → Sheet → Type 0
  IsSum q s = IsPartsSheet (common a v) q s

  -- ---- one row more
  added_parts : (k c : ℚ) → IsMultiplier k → IsParts (parts a v) (parts a v) c → IsParts (common a v) 720000000 (k *ℚ c)
  added_parts k c p q =
      let l = v.most_parts in
      subst (λ d. IsParts d 720000000 (k *ℚ c)) (mul_comm a.head.ratio.den (parts a v))
      (parts_more (a.head.ratio.den * parts a v) (200000 * parts a v) 720000000 (k *ℚ c) (omega arith) (parts_times a.head.ratio.den (parts a v) 200000 (parts a v) k c p q))

  place_none : (p : Place) (q : ℕ) (k x c : ℚ) → q ≤ 40000000000 → IsMultiplier k → IsParts (parts a v) (parts a v) c → IsParts (common a v) q x → place_refusal p k x c ≡ None
  unfolding place_refusal
  place_none p q k x c l f g h =
      let n = few_common a v in
      let m = v.ratio.den in
      let by = parts_up_to a.head.ratio.den 200000 200000 k a.head.ratio.positive (omega arith) (omega arith) f in
      let number = parts_up_to (parts a v) (parts a v) 3600 c (let s = v.least_parts in omega arith) v.most_parts v.most_parts g in
      let own = parts_up_to (common a v) q 40000000000 x (some_common a v) (omega arith) l h in
      let product = past_none Mul k c (up_to_times_fits 200000 3600 k c by number (omega arith)) in
      let sum = past_none Add x (k *ℚ c) (up_to_sum_fits 40000000000 (200000 * 3600) x (k *ℚ c) own (up_to_times 200000 3600 k c by number) (omega arith)) in
      rw (product, sum) refl

  sum_none : (q : ℕ) (k : ℚ) (s r : Sheet) → q ≤ 40000000000 → IsMultiplier k → IsRow s → IsSum q r → sum_refusal k s r ≡ None
  unfolding sum_refusal
  sum_none q k s r l f g h =
      let columns = all_none (cell_refusal k r.coefs s.coefs) (length r.coefs) (λ j. place_none (Cell j) q k _ _ l f (g.cells j) (h.cells j)) in
      let last = place_none Bound q k r.bound s.bound l f g.bound h.bound in
      rw (columns, last) refl

  sum_more : (q : ℕ) (k : ℚ) (s r : Sheet) → IsMultiplier k → IsRow s → IsSum q r → IsSum (q + 720000000) (with_times k s r)
  unfolding with_times
  sum_more q k s r f g h = record {
    cells = λ j.
        subst (IsParts (common a v) (q + 720000000)) (sym (get_or-add r.coefs (scale k s.coefs) j ∙ ap (λ y. get_or r.coefs j (whole (pos 0)) +ℚ y) (get_or-scale k s.coefs j)))
        (parts_plus (common a v) q 720000000 _ _ (h.cells j) (added_parts k _ f (g.cells j)));
    bound = parts_plus (common a v) q 720000000 r.bound (k *ℚ s.bound) h.bound (added_parts k s.bound f g.bound);
  }

  module _ (box : Area) where
    -- ---- several
    record IsSmallWeight (w : Weight) : Type 0 where
      there : HasLinkRow a (link_name_at w.row)
      low : number 0 ≤ℚ w.by
      by : IsMultiplier w.by
      row : IsRow (link_sheet a box (link_name_at w.row))

    abbrev AllSmall : List Weight → Type 0
    AllSmall [] = Unit {0}
    AllSmall (w ∷ ws) = IsSmallWeight w × AllSmall ws

    weights_fit : (ws : List Weight) (q : ℕ) (sum : Sheet) → AllSmall ws → q + length ws * 720000000 ≤ 40000000000 → IsSum q sum → first_fault_with (link_rows a box) sum ws ≡ None
    unfolding with_weight
    weights_fit [] q sum h l s = refl
    weights_fit (w ∷ ws) q sum h l s =
        let f = fault_free_by (link_rows a box) link_name_at (HasLinkRow a) (link_row a box) (links_stand a box v.few) sum w
        (record { there = h.0.there; positive = h.0.low; fits = sum_none q w.by (link_sheet a box (link_name_at w.row)) sum (omega arith) h.0.by h.0.row s }) in
        let g = weights_fit ws (q + 720000000) (with_weight (link_rows a box) sum w) h.1 (omega arith) (sum_more q w.by (link_sheet a box (link_name_at w.row)) sum h.0.by h.0.row s) in
        rw (f, g) refl

    small_append : (vs ws : List Weight) → AllSmall vs → AllSmall ws → AllSmall (vs ++ ws)
    small_append [] ws g h = h
    small_append (w ∷ vs) ws g h = (g.0, small_append vs ws g.1 h)

    -- ---- the far rows
    far_sheet : (d : Dir) (i : ℕ) → HasLink a i → IsRow (link_sheet a box (FarRow d Here i))
    far_sheet d i h =
        let e = link_sheet_row a box (FarRow d Here i) in
        let n = parts a v in
        let g = green_own a v d i (h.0, let l = h.1 in omega arith) in
        record {
          cells = λ j. subst (λ (r : maths.Row). IsParts n n (get_or r.coefs j (number 0))) (sym e)
              (row_each (IsParts n n) (link_width (count a)) (far_form a d Here i).cells (far_form a d Here i).bound j (zero_parts n n) (one_parts n, (one_parts n, tt)));
          bound = subst (λ (r : maths.Row). IsParts n n r.bound) (sym e) g;
        }

    fars_small : (d : Dir) (by : ℚ) (i k : ℕ) → number 0 ≤ℚ by → IsMultiplier by → 1 ≤ i → i + k ≤ count a → AllSmall (far_weights d by i k)
    fars_small d by i zero h f l m = tt
    fars_small Outbound by i (suc k) h f l m =
        let g : HasLink a i = (l, omega arith) in (record { there = g; low = h; by = f; row = far_sheet Outbound i g }, fars_small Outbound by (i + 1) k h f (omega arith) (omega arith))
    fars_small Inbound by i (suc k) h f l m =
        let g : HasLink a i = (l, omega arith) in (record { there = g; low = h; by = f; row = far_sheet Inbound i g }, fars_small Inbound by (i + 1) k h f (omega arith) (omega arith))

    twice_multiplier : (x y : ℚ) → x +ℚ x ≡ y → IsParts a.head.ratio.den 100000 x → IsMultiplier y
    twice_multiplier x y e p = subst (IsParts a.head.ratio.den 200000) e (parts_plus a.head.ratio.den 100000 100000 x x p p)

    two_small : IsMultiplier (number 2)
    two_small =
        let l = v.ratio.den in
        twice_multiplier (number 1) (number 2) (ring (lit (pos 1) ⊕ lit (pos 1)) (lit (pos 2)) [] refl)
        (parts_more a.head.ratio.den a.head.ratio.den 100000 (number 1) (omega arith) (one_parts a.head.ratio.den))

    ratio_small : IsMultiplier (twice_ratio a)
    ratio_small =
        twice_multiplier a.head.ratio (twice_ratio a) (ring (at 0 ⊕ at 0) (lit (pos 2) ⊗ at 0) (a.head.ratio ∷ []) refl)
        (parts_more a.head.ratio.den (unsigned_abs a.head.ratio.num) 100000 a.head.ratio v.ratio.num (own_parts a.head.ratio))

    count_fars : (d : Dir) (by : ℚ) (i k : ℕ) → length (far_weights d by i k) ≡ k
    count_fars d by i zero = refl
    count_fars d by i (suc k) = ap suc (count_fars d by (i + 1) k)

    -- ---- the start leaf
    inbound_small : AllSmall (inbound_weights a) × (length (inbound_weights a) ≤ count a - 1)
    inbound_small = pick (eq_by_cmp cmp_ℚ a.head.ratio (number 0))
      where
        pick : (b : Bool) → AllSmall (if b then [] else far_weights Inbound (twice_ratio a) 1 (count a - 1))
            × (length (if b then [] else far_weights Inbound (twice_ratio a) 1 (count a - 1)) ≤ count a - 1)
        pick true = (tt, omega arith)
        pick false =
            let n = v.few in (
              fars_small Inbound (twice_ratio a) 1 (count a - 1) (product_not_negative _ _ two_low (ratio_not_negative a v)) ratio_small (omega arith) (omega arith),
              let e = count_fars Inbound (twice_ratio a) 1 (count a - 1) in omega arith,
            )

    blank_sum : IsSum 0 (blank (link_width (count a)))
    unfolding blank
    blank_sum = record { cells = λ j. subst (IsParts (common a v) 0) (sym (get-zeros (link_width (count a)) j)) (zero_parts (common a v) 0); bound = zero_parts (common a v) 0 }

    pub start_links_fit : fault_of (link_rows a box) (link_start_leaf a) ≡ None
    unfolding fault_of
    start_links_fit =
        let n = v.few in
        let m = v.many in
        let i = inbound_small in
        let o = far_weights Outbound (number 2) 1 (count a - 1) in
        let e = count_fars Outbound (number 2) 1 (count a - 1) in
        let k = i.1 in
        let l = length-append o (inbound_weights a) in
        weights_fit (link_start_leaf a) 0 (blank (link_width (count a)))
        (small_append o (inbound_weights a) (fars_small Outbound (number 2) 1 (count a - 1) two_low two_small (omega arith) (omega arith)) i.0) (omega arith) blank_sum
