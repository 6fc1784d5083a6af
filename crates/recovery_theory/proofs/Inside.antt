-- Each split lies inside the box: something of the span is left on both sides.
use Rattle.std.proofs.Common.{◌≡◌, ℕ, zero, suc, ℤ, pos, ◌≤ℤ◌, ◌<ℤ◌, ◌+◌, ◌-◌, ◌<◌, ◌≤◌, ◌⊎◌, inl, inr, List, [], ◌∷◌, refl, sym, ◌∙◌, ap, subst, arith, Bool, true, false, true≢false}
use Rattle.std.specs.Prelude.{◌||◌, if◌then◌else◌}
use Rattle.std.specs.Ordering.{is_lt, eq_by_cmp}
use Rattle.std.proofs.lemmas.Int.{ints}
use Rattle.std.proofs.lemmas.Bool.Decides.{nat_tests}
use Rattle.rational_theory.specs.Rational.{ℚ, whole, ◌*ℚ◌, ◌≤ℚ◌, ◌<ℚ◌}
use Rattle.rational_theory.proofs.Order.{≤ℚ_trans, ≤ℚ_antisymm, ≤ℚ-*ℚ, <ℚ_not-≤ℚ, not-≤ℚ, whole-≤ℤ, ≤ℤ_whole, whole_num, whole_not_zero}
use Rattle.rational_theory.specs.Compare.{cmp_ℚ}
use Rattle.rational_theory.proofs.Compare.{lt_true, lt_false, eq_true, eq_false}
use Rattle.rational_theory.specs.Floor.{floor_ℚ}
use Rattle.rational_theory.proofs.Floor.{floor_is}
use Rattle.rational_theory.proofs.Ring.{at, minus, ◌⊕◌, ◌⊗◌}
use Rattle.rational_theory.proofs.Linear.{linear}
use Rattle.rational_theory.proofs.Shares.{quotient_times}
use Rattle.progression.specs.Street.{Street, count, HasSignal, HasLink}
use Rattle.progression.specs.Speeds.{number}
use Rattle.progression.specs.Columns.{WaitOf, RunOf, ShiftOf}
use Rattle.progression.specs.declared.parts.Dir.TheVariants.{Outbound, Inbound}
use Rattle.linear_theory.specs.Places.{value_at}
use Rattle.linear_theory.specs.Shifts.{shifts_of, shift_at, shift_count}
use Rattle.linear_theory.specs.Blocks.{part, red_here, clear_next, clear_here, block_sum}
use Rattle.linear_theory.specs.Boxes.{Area, IsBoxOf, loop_span, turn_span, IsLoopPlace, IsTurnPlace}
use Rattle.linear_theory.specs.Rows.{minus_one, loop_low_form, loop_high_form, turn_low_form, turn_high_form}
use Rattle.linear_theory.specs.Names.{LoopLowRow, LoopHighRow, TurnLowRow, TurnHighRow}
use Rattle.linear_theory.proofs.Terms.{one, less_one, zero_term, whole_term, cells_term, constant_term}
use Rattle.linear_theory.proofs.SparseSums.{line_total}
use Rattle.linear_theory.proofs.BoxRowLaws.{block_in_order}
use Rattle.linear_theory.specs.Counts.{IsStreet}
use Rattle.linear_theory.proofs.RankedShifts.{shifts_ascend, rising, rising_strictly}
use Rattle.linear_theory.proofs.Ranges.{parts_above, some_signal}
use Rattle.linear_theory.proofs.Divided.{number_not_negative}
use Rattle.recovery_theory.specs.Vertices.{IsLongVertex, HasWholeBlock, HasRankedShift}
use Rattle.recovery_theory.specs.Splitting.{is_whole_number, has_rank, shift_of, is_ranked, last_below, rank_below}

-- ---- whole numbers
pub number_is_whole : (y : ℚ) → is_whole_number y ≡ true → y ≡ whole y.num
number_is_whole y e = whole_num y (grind (arith, nat_tests))

pub whole_is_number : (z : ℤ) → is_whole_number (whole z) ≡ true
unfolding whole
whole_is_number z = refl

-- a number between two whole numbers that is none lies above its floor
between : (y : ℚ) (least most : ℤ) → whole least ≤ℚ y → y ≤ℚ whole most → is_whole_number y ≡ false → (least ≤ℤ floor_ℚ y) × (floor_ℚ y <ℤ most)
between y least most h k n =
    let f = floor_ℚ y in
    let low = (floor_is least y).0 h in
    let under : whole f ≤ℚ y = (floor_is f y).1 (omega (arith, ints)) in
    let high : f ≤ℤ most = ≤ℤ_whole f most (≤ℚ_trans _ _ _ under k) in
    let apart : f ≡ most → ⊥ = λ e. true≢false (sym (whole_is_number f) ∙ ap is_whole_number (≤ℚ_antisymm (whole f) y under (subst (λ m. y ≤ℚ whole m) (sym e) k)) ∙ n) in
    (low, omega (arith, ints, apart))

-- ---- ranks
module _ (a : Street) (i : ℕ) (parts : ℚ) where
  -- a rank that is found
  pub record FoundRank (first n : ℕ) : Type 0 where
    pub rank : ℕ
    pub least : first ≤ rank
    pub most : rank < first + n
    pub is : number (shift_at a i rank) ≡ parts

  longer : {first n : ℕ} → FoundRank first n → FoundRank first (suc n)
  longer {first} {n} f = record { rank = f.rank; least = f.least; most = let m = f.most in omega arith; is = f.is }

  found_last : (first n : ℕ) (b c : Bool) → (b ≡ true → FoundRank first n) → c ≡ eq_by_cmp cmp_ℚ (number (shift_at a i (first + n))) parts → (b || c) ≡ true → FoundRank first (suc n)
  found_last first n true c f q e = longer (f refl)
  found_last first n false true f q e = record { rank = first + n; least = omega arith; most = omega arith; is = eq_true (number (shift_at a i (first + n))) parts q }
  found_last first n false false f q e = absurd (true≢false (sym e))

  pub rank_found : (first n : ℕ) → has_rank a i parts first n ≡ true → FoundRank first n
  rank_found first zero e = absurd (true≢false (sym e))
  rank_found first (suc n) e = found_last first n (has_rank a i parts first n) (eq_by_cmp cmp_ℚ (number (shift_at a i (first + n))) parts) (rank_found first n) refl e

  -- a rank with the shift is found
  neither : (b c : Bool) → (b || c) ≡ false → (b ≡ false) × (c ≡ false)
  neither false false e = (refl, refl)
  neither true c e = absurd (true≢false e)
  neither false true e = absurd (true≢false e)

  last_or_before : (k n : ℕ) → k < suc n → (k ≡ n) ⊎ (k < n)
  last_or_before k n h = grind arith

  pub rank_not_found : (first n r : ℕ) → has_rank a i parts first n ≡ false → first ≤ r → r < first + n → number (shift_at a i r) ≡ parts → ⊥
  rank_not_found first zero r e h k q = absurd (omega arith)
  rank_not_found first (suc n) r e h k q =
      let b = neither (has_rank a i parts first n) (eq_by_cmp cmp_ℚ (number (shift_at a i (first + n))) parts) e in
      elim (last_or_before r (first + n) (omega arith)) [
        | inl p ↦ eq_false (number (shift_at a i (first + n))) parts (sym b.1) (ap (λ k. number (shift_at a i k)) (sym p) ∙ q)
        | inr l ↦ rank_not_found first n r b.0 h l q
      ]

  -- the last rank below is no less than any other that is below
  pub last_least : (n k : ℕ) → k < n → number (shift_at a i k) <ℚ parts → k ≤ last_below a i parts n
  last_least zero k h l = absurd (omega arith)
  last_least (suc n) k h l =
      elim (is_lt (cmp_ℚ (number (shift_at a i n)) parts)) as (λ b. b ≡ is_lt (cmp_ℚ (number (shift_at a i n)) parts) → k ≤ (if b then n else last_below a i parts n)) [
        | true ↦ λ e. omega arith
        | false ↦ λ e. elim (last_or_before k n h) [
          | inl p ↦ absurd (<ℚ_not-≤ℚ _ _ (subst (λ r. number (shift_at a i r) <ℚ parts) p l) (lt_false (number (shift_at a i n)) parts e))
          | inr q ↦ last_least n k q l
        ]
      ] refl

  -- and is below itself, where any is
  pub last_is_below : (n k : ℕ) → k < n → number (shift_at a i k) <ℚ parts → number (shift_at a i (last_below a i parts n)) <ℚ parts
  last_is_below zero k h l = absurd (omega arith)
  last_is_below (suc n) k h l =
      elim (is_lt (cmp_ℚ (number (shift_at a i n)) parts)) as (λ b. b ≡ is_lt (cmp_ℚ (number (shift_at a i n)) parts) → number (shift_at a i (if b then n else last_below a i parts n)) <ℚ parts) [
        | true ↦ λ e. lt_true (number (shift_at a i n)) parts e
        | false ↦ λ e. elim (last_or_before k n h) [
          | inl p ↦ absurd (<ℚ_not-≤ℚ _ _ (subst (λ r. number (shift_at a i r) <ℚ parts) p l) (lt_false (number (shift_at a i n)) parts e))
          | inr q ↦ last_is_below n k q l
        ]
      ] refl

not_above : (r n : ℕ) → (n ≤ r → ⊥) → r < n
not_above r n f = grind (arith, f)

not_below : (r n : ℕ) → (n < r → ⊥) → r ≤ n
not_below r n f = grind (arith, f)

last_before : (a : Street) (i : ℕ) (parts : ℚ) (n : ℕ) → (1 ≤ n → last_below a i parts n < n) → last_below a i parts n < suc n
last_before a i parts zero f = omega arith
last_before a i parts (suc n) f = let l = f (omega arith) in omega arith

-- it is one of them
pub last_in : (a : Street) (i : ℕ) (parts : ℚ) (n : ℕ) → 1 ≤ n → last_below a i parts n < n
last_in a i parts zero h = absurd (omega arith)
last_in a i parts (suc n) h =
    elim (is_lt (cmp_ℚ (number (shift_at a i n)) parts)) as (λ b. (if b then n else last_below a i parts n) < suc n) [
      | true ↦ omega arith
      | false ↦ last_before a i parts n (last_in a i parts n)
    ]

module _ (a : Street) (box : Area) (x : List ℚ) (h : IsStreet a) (b : IsBoxOf a box) (v : IsLongVertex a box x) where
  module _ (i : ℕ) (k : HasLink a i) where
    -- the values of its columns, then its reds and clearances, then a number of the box
    abbrev block_values : ℚ → List ℚ
    block_values z = let n = count a in
        value_at n x (WaitOf Outbound i) ∷ value_at n x (WaitOf Inbound i) ∷ value_at n x (WaitOf Outbound (i + 1)) ∷ value_at n x (WaitOf Inbound (i + 1))
        ∷ value_at n x (RunOf Outbound i) ∷ value_at n x (RunOf Inbound i) ∷ value_at n x (ShiftOf i) ∷ value_at n x (ShiftOf (i + 1))
        ∷ red_here a i ∷ red_here a (i + 1) ∷ clear_next a i ∷ clear_here a i ∷ z ∷ []

    -- the block sum lies in the span
    sum_least : whole (loop_span box i).least ≤ℚ block_sum a x i
    sum_least =
        let f = loop_low_form a box i in
        let row = subst (λ y. y ≤ℚ f.bound) (line_total a f x (some_signal a h) (block_in_order a i k minus_one (number 1))) (v.rows (LoopLowRow i) k).met in
        linear (record { count = 1; low = cells_term less_one one; high = constant_term ⊕ minus (at 12) } ∷ []) 0 (at 12) whole_term (block_values (whole (loop_span box i).least)) (row, tt) refl

    sum_most : block_sum a x i ≤ℚ whole (loop_span box i).most
    sum_most =
        let f = loop_high_form a box i in
        let row = subst (λ y. y ≤ℚ f.bound) (line_total a f x (some_signal a h) (block_in_order a i k (number 1) minus_one)) (v.rows (LoopHighRow i) k).met in
        linear (record { count = 1; low = cells_term one less_one; high = at 12 ⊕ minus constant_term } ∷ []) 0 whole_term (at 12) (block_values (whole (loop_span box i).most)) (row, tt) refl

    -- so the span has a number
    pub span_order : (loop_span box i).least ≤ℤ (loop_span box i).most
    span_order = ≤ℤ_whole (loop_span box i).least (loop_span box i).most (≤ℚ_trans _ _ _ sum_least sum_most)

    -- a block sum that is not whole leaves something on both sides
    pub loop_inside : is_whole_number (block_sum a x i) ≡ false → IsLoopPlace box i (floor_ℚ (block_sum a x i))
    loop_inside e =
        let m = between (block_sum a x i) (loop_span box i).least (loop_span box i).most sum_least sum_most e in
        let c = b.loops_count in let l = k.1 in
        (k.0, omega arith, m.0, m.1)

  module _ (i : ℕ) (k : HasSignal a i) where
    -- the shift lies between the shifts of the ranks at both ends
    part_times : (r : ℕ) → part a r *ℚ number a.head.parts ≡ number r
    part_times r = let p = parts_above a h in quotient_times (number r) (number a.head.parts) (whole_not_zero (pos a.head.parts) (λ e. absurd (omega (arith, ints, e))))

    shift_least : number (shift_at a i (turn_span box i).least) ≤ℚ shift_of a x i
    shift_least =
        let f = turn_low_form a box i in
        let y = value_at (count a) x (ShiftOf i) in
        let p = part a (shift_at a i (turn_span box i).least) in
        let row = subst (λ y. y ≤ℚ f.bound) (line_total a f x (some_signal a h) (omega arith, k, tt)) (v.rows (TurnLowRow i) k).met in
        let l : p ≤ℚ y = linear (record { count = 1; low = less_one ⊗ at 0 ⊕ zero_term; high = minus (at 1) } ∷ []) 0 (at 1) (at 0) (y ∷ p ∷ []) (row, tt) refl in
        subst (λ z. z ≤ℚ shift_of a x i) (part_times (shift_at a i (turn_span box i).least)) (≤ℚ-*ℚ p y (number a.head.parts) l (number_not_negative a.head.parts))

    shift_most : shift_of a x i ≤ℚ number (shift_at a i (turn_span box i).most)
    shift_most =
        let f = turn_high_form a box i in
        let y = value_at (count a) x (ShiftOf i) in
        let p = part a (shift_at a i (turn_span box i).most) in
        let row = subst (λ y. y ≤ℚ f.bound) (line_total a f x (some_signal a h) (omega arith, k, tt)) (v.rows (TurnHighRow i) k).met in
        let l : y ≤ℚ p = linear (record { count = 1; low = one ⊗ at 0 ⊕ zero_term; high = at 1 } ∷ []) 0 (at 0) (at 1) (y ∷ p ∷ []) (row, tt) refl in
        subst (λ z. shift_of a x i ≤ℚ z) (part_times (shift_at a i (turn_span box i).most)) (≤ℚ-*ℚ y p (number a.head.parts) l (number_not_negative a.head.parts))

    -- a shift that no rank of the box has leaves ranks on both sides
    pub turn_inside : is_ranked a box x i ≡ false → IsTurnPlace box i (rank_below a x i)
    turn_inside e =
        let o = b.ranks_order i k in let m = b.ranks_most i k in let c = b.turns_count in let l = k.1 in
        let first = (turn_span box i).least in let last = (turn_span box i).most in
        let y = shift_of a x i in
        let low : number (shift_at a i first) <ℚ y = not-≤ℚ _ _ (λ g. rank_not_found a i y first (last + 1 - first) first e (omega arith) (omega arith) (≤ℚ_antisymm _ _ shift_least g)) in
        let r = rank_below a x i in
        let least : first ≤ r = last_least a i y (shift_count a i) first (omega arith) low in
        let under : number (shift_at a i r) <ℚ y = last_is_below a i y (shift_count a i) first (omega arith) low in
        let most : r < last = below_last r (last_in a i y (shift_count a i) (omega arith)) under in
        (k.0, omega arith, least, most)
      where
        below_last : (r : ℕ) → r < shift_count a i → number (shift_at a i r) <ℚ shift_of a x i → r < (turn_span box i).most
        below_last r s u = not_above r (turn_span box i).most (λ g.
            let rises = rising (shifts_of a i) 0 (turn_span box i).most r (shifts_ascend a i) g s in
            let over : number (shift_at a i (turn_span box i).most) ≤ℚ number (shift_at a i r) = whole-≤ℤ _ _ (omega (arith, ints)) in
            <ℚ_not-≤ℚ _ _ u (≤ℚ_trans _ _ _ shift_most over))

    -- the least of the box's ranks has a shift below it
    pub least_below : is_ranked a box x i ≡ false → number (shift_at a i (turn_span box i).least) <ℚ shift_of a x i
    least_below e =
        let o = b.ranks_order i k in
        let first = (turn_span box i).least in let last = (turn_span box i).most in
        not-≤ℚ _ _ (λ g. rank_not_found a i (shift_of a x i) first (last + 1 - first) first e (omega arith) (omega arith) (≤ℚ_antisymm _ _ shift_least g))

    -- a rank of the signal with the shift is one of the box
    rank_least : (s : HasRankedShift a x i) → (turn_span box i).least ≤ s.rank
    rank_least s =
        let o = b.ranks_order i k in let m = b.ranks_most i k in
        not_below (turn_span box i).least s.rank (λ l.
        let rises = rising_strictly (shifts_of a i) 0 s.rank (turn_span box i).least (shifts_ascend a i) l (omega arith) in
        let under = ≤ℤ_whole (pos (shift_at a i (turn_span box i).least)) (pos (shift_at a i s.rank)) (subst (λ y. number (shift_at a i (turn_span box i).least) ≤ℚ y) s.is shift_least) in
        absurd (omega (arith, ints, rises, under)))

    rank_most : (s : HasRankedShift a x i) → s.rank ≤ (turn_span box i).most
    rank_most s =
        not_below s.rank (turn_span box i).most (λ l.
        let rises = rising_strictly (shifts_of a i) 0 (turn_span box i).most s.rank (shifts_ascend a i) l s.there in
        let over = ≤ℤ_whole (pos (shift_at a i s.rank)) (pos (shift_at a i (turn_span box i).most)) (subst (λ y. y ≤ℚ number (shift_at a i (turn_span box i).most)) s.is shift_most) in
        absurd (omega (arith, ints, rises, over)))

    -- so where the box has no rank with it, the signal has none
    pub unranked : is_ranked a box x i ≡ false → HasRankedShift a x i → ⊥
    unranked e s =
        let least = rank_least s in let most = rank_most s in
        let first = (turn_span box i).least in let last = (turn_span box i).most in
        rank_not_found a i (shift_of a x i) first (last + 1 - first) s.rank e least (omega arith) (sym s.is)

-- ---- and where nothing is split
pub block_is_whole : (a : Street) (x : List ℚ) (i : ℕ) → is_whole_number (block_sum a x i) ≡ true → HasWholeBlock a x i
block_is_whole a x i e = record { turns = (block_sum a x i).num; is = number_is_whole (block_sum a x i) e }

pub turn_is_ranked : (a : Street) (box : Area) (x : List ℚ) → IsBoxOf a box → (i : ℕ) → HasSignal a i → is_ranked a box x i ≡ true → HasRankedShift a x i
turn_is_ranked a box x b i k e =
    let o = b.ranks_order i k in let m = b.ranks_most i k in
    let f = rank_found a i (shift_of a x i) (turn_span box i).least ((turn_span box i).most + 1 - (turn_span box i).least) e in
    let l = f.most in
    record { rank = f.rank; there = omega arith; is = sym f.is }
