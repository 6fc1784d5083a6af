-- The worked vertices of links, row by row.
use Rattle.std.proofs.Common.{◌≡◌, ℕ, zero, suc, ◌+◌, List, [], ◌∷◌, refl, sym, arith, true}
use Rattle.std.specs.Ordering.{is_le}
use Rattle.rational_theory.specs.Rational.{ℚ, whole, over, inverse_ℚ, neg_ℚ, ◌+ℚ◌, ◌*ℚ◌, ◌≤ℚ◌}
use Rattle.rational_theory.specs.Compare.{cmp_ℚ}
use Rattle.rational_theory.proofs.Compare.{le_true}
use Rattle.rational_theory.specs.Gcd.{gcd}
use Rattle.rational_theory.specs.Floor.{floor_ℚ, ceil_ℚ}
use Rattle.rational_theory.specs.Rows.{dot, IsMet, AllNonNegative}
use Rattle.progression.specs.Street.{Street, HasSignal, HasLink}
use Rattle.progression.specs.Speeds.{number}
use Rattle.progression.specs.Columns.{BandOf}
use Rattle.progression.specs.Worked.{two_signals}
use Rattle.progression.specs.declared.parts.Dir.{Dir}
use Rattle.progression.specs.declared.parts.Dir.TheVariants.{Outbound, Inbound}
use Rattle.linear_theory.specs.Places.{value_at}
use Rattle.linear_theory.specs.Boxes.{Area, root_box}
use Rattle.linear_theory.specs.Names.{WaitRow, FastRow, SlowRow, RiseRow, DropRow, CycleLowRow, CycleHighRow, RatioRow, LoopLowRow, LoopHighRow}
use Rattle.linear_theory.specs.Names.{TurnLowRow, TurnHighRow, LeastRow, EqualLowRow, EqualHighRow, NoRow}
use Rattle.link_theory.specs.declared.ends.LinkEnd.{LinkEnd}
use Rattle.link_theory.specs.declared.ends.LinkEnd.TheVariants.{Here, Next}
use Rattle.link_theory.specs.LinkNames.{LinkName, OfLines, NearRow, FarRow, LinkRatioRow, HasLinkRow, link_row}
use Rattle.link_theory.specs.LinkVertices.{IsLinkVertex}
use Rattle.multi_band.specs.Worked.{amid, late, WorkedLinkVertices}

-- ---- each of the street's parts
each_signal : (P : ℕ → Type 0) → P 1 → P 2 → (i : ℕ) → HasSignal two_signals i → P i
each_signal P p q zero h = absurd (omega (arith, h.0))
each_signal P p q (suc zero) h = p
each_signal P p q (suc (suc zero)) h = q
each_signal P p q (suc (suc (suc i))) h = absurd (omega (arith, h.1))

each_link : (P : ℕ → Type 0) → P 1 → (i : ℕ) → HasLink two_signals i → P i
each_link P p zero h = absurd (omega (arith, h.0))
each_link P p (suc zero) h = p
each_link P p (suc (suc i)) h = absurd (omega (arith, h.1))

no_next_link : (i : ℕ) → HasLink two_signals i → HasLink two_signals (i + 1) → ⊥
no_next_link i h k = absurd (omega (arith, h.0, k.1))

-- ---- rows of a point
module _ (x : List ℚ) where
  -- the row is met, which is decided by computing
  abbrev Meets : LinkName → Type 0
  Meets n = is_le (cmp_ℚ (dot (link_row two_signals (root_box two_signals) n).coefs x) (link_row two_signals (root_box two_signals) n).bound) ≡ true

  met : (n : LinkName) → Meets n → IsMet x (link_row two_signals (root_box two_signals) n)
  met n e = record { met = le_true _ _ (sym e) }

  -- the rows that two signals have
  record MeetsAll : Type 0 where
    fast : (d : Dir) → Meets (OfLines (FastRow d 1))
    slow : (d : Dir) → Meets (OfLines (SlowRow d 1))
    cycle_low : (i : ℕ) → Meets (OfLines (CycleLowRow i))
    cycle_high : (i : ℕ) → Meets (OfLines (CycleHighRow i))
    loop_low : Meets (OfLines (LoopLowRow 1))
    loop_high : Meets (OfLines (LoopHighRow 1))
    turn_low_here : Meets (OfLines (TurnLowRow 1))
    turn_low_there : Meets (OfLines (TurnLowRow 2))
    turn_high_here : Meets (OfLines (TurnHighRow 1))
    turn_high_there : Meets (OfLines (TurnHighRow 2))
    near : (d : Dir) (e : LinkEnd) → Meets (NearRow d e 1)
    far : (d : Dir) (e : LinkEnd) → Meets (FarRow d e 1)

  module _ (m : MeetsAll) where
    of_link : (n : ℕ → LinkName) → Meets (n 1) → (i : ℕ) → HasLink two_signals i → IsMet x (link_row two_signals (root_box two_signals) (n i))
    of_link n e = each_link (λ i. IsMet x (link_row two_signals (root_box two_signals) (n i))) (met (n 1) e)

    of_signal : (n : ℕ → LinkName) → Meets (n 1) → Meets (n 2) → (i : ℕ) → HasSignal two_signals i → IsMet x (link_row two_signals (root_box two_signals) (n i))
    of_signal n e f = each_signal (λ i. IsMet x (link_row two_signals (root_box two_signals) (n i))) (met (n 1) e) (met (n 2) f)

    rows : (n : LinkName) → HasLinkRow two_signals n → IsMet x (link_row two_signals (root_box two_signals) n)
    rows (OfLines (WaitRow d i)) h = absurd h.0
    rows (OfLines (FastRow d i)) h = of_link (λ i. OfLines (FastRow d i)) (m.fast d) i h.1
    rows (OfLines (SlowRow d i)) h = of_link (λ i. OfLines (SlowRow d i)) (m.slow d) i h.1
    rows (OfLines (RiseRow Outbound i)) h = absurd (no_next_link i h.1.0 h.1.1)
    rows (OfLines (RiseRow Inbound i)) h = absurd (no_next_link i h.1.0 h.1.1)
    rows (OfLines (DropRow Outbound i)) h = absurd (no_next_link i h.1.0 h.1.1)
    rows (OfLines (DropRow Inbound i)) h = absurd (no_next_link i h.1.0 h.1.1)
    rows (OfLines (CycleLowRow i)) h = met (OfLines (CycleLowRow i)) (m.cycle_low i)
    rows (OfLines (CycleHighRow i)) h = met (OfLines (CycleHighRow i)) (m.cycle_high i)
    rows (OfLines (RatioRow i)) h = absurd h.0
    rows (OfLines (LoopLowRow i)) h = of_link (λ i. OfLines (LoopLowRow i)) m.loop_low i h.1
    rows (OfLines (LoopHighRow i)) h = of_link (λ i. OfLines (LoopHighRow i)) m.loop_high i h.1
    rows (OfLines (TurnLowRow i)) h = of_signal (λ i. OfLines (TurnLowRow i)) m.turn_low_here m.turn_low_there i h.1
    rows (OfLines (TurnHighRow i)) h = of_signal (λ i. OfLines (TurnHighRow i)) m.turn_high_here m.turn_high_there i h.1
    rows (OfLines (LeastRow d i)) h = absurd h.0
    rows (OfLines (EqualLowRow i)) h = absurd h.0
    rows (OfLines (EqualHighRow i)) h = absurd h.0
    rows (OfLines NoRow) h = absurd h.0
    rows (NearRow d e i) h = of_link (λ i. NearRow d e i) (m.near d e) i h
    rows (FarRow d e i) h = of_link (λ i. FarRow d e i) (m.far d e) i h
    rows (LinkRatioRow i) h = absurd (h.1 refl)

-- ---- the two points
-- no value is below 0
at_least_zero : (y : ℚ) → is_le (cmp_ℚ (number 0) y) ≡ true → number 0 ≤ℚ y
at_least_zero y e = le_true _ _ (sym e)

-- by cases of direction and end
both : (P : Dir → Type 0) → P Outbound → P Inbound → (d : Dir) → P d
both P p q Outbound = p
both P p q Inbound = q

ends : (P : Dir → LinkEnd → Type 0) → P Outbound Here → P Outbound Next → P Inbound Here → P Inbound Next → (d : Dir) (e : LinkEnd) → P d e
ends P p q r s Outbound Here = p
ends P p q r s Outbound Next = q
ends P p q r s Inbound Here = r
ends P p q r s Inbound Next = s

amid_rows : MeetsAll amid
unfolding whole over inverse_ℚ neg_ℚ ◌+ℚ◌ ◌*ℚ◌ gcd floor_ℚ ceil_ℚ cmp_ℚ
amid_rows = record {
  fast = both (λ d. Meets amid (OfLines (FastRow d 1))) refl refl;
  slow = both (λ d. Meets amid (OfLines (SlowRow d 1))) refl refl;
  cycle_low = λ i. refl;
  cycle_high = λ i. refl;
  loop_low = refl;
  loop_high = refl;
  turn_low_here = refl;
  turn_low_there = refl;
  turn_high_here = refl;
  turn_high_there = refl;
  near = ends (λ d e. Meets amid (NearRow d e 1)) refl refl refl refl;
  far = ends (λ d e. Meets amid (FarRow d e 1)) refl refl refl refl;
}

late_rows : MeetsAll late
unfolding whole over inverse_ℚ neg_ℚ ◌+ℚ◌ ◌*ℚ◌ gcd floor_ℚ ceil_ℚ cmp_ℚ
late_rows = record {
  fast = both (λ d. Meets late (OfLines (FastRow d 1))) refl refl;
  slow = both (λ d. Meets late (OfLines (SlowRow d 1))) refl refl;
  cycle_low = λ i. refl;
  cycle_high = λ i. refl;
  loop_low = refl;
  loop_high = refl;
  turn_low_here = refl;
  turn_low_there = refl;
  turn_high_here = refl;
  turn_high_there = refl;
  near = ends (λ d e. Meets late (NearRow d e 1)) refl refl refl refl;
  far = ends (λ d e. Meets late (FarRow d e 1)) refl refl refl refl;
}

-- no value of a list is below 0
abbrev IsLeastZero : List ℚ → Type 0
IsLeastZero [] = Unit {0}
IsLeastZero (x ∷ xs) = (is_le (cmp_ℚ (number 0) x) ≡ true) × IsLeastZero xs

all_least_zero : (xs : List ℚ) → IsLeastZero xs → AllNonNegative xs
all_least_zero [] h = tt
all_least_zero (x ∷ xs) h = (at_least_zero x h.0, all_least_zero xs h.1)

no_bands : (x : List ℚ) → value_at 2 x (BandOf Outbound) ≡ number 0 → value_at 2 x (BandOf Inbound) ≡ number 0 → (d : Dir) → value_at 2 x (BandOf d) ≡ number 0
no_bands x p q Outbound = p
no_bands x p q Inbound = q

amid_is : IsLinkVertex two_signals (root_box two_signals) amid
unfolding whole over inverse_ℚ neg_ℚ ◌+ℚ◌ ◌*ℚ◌ gcd cmp_ℚ
amid_is = record {
  columns = refl;
  not_negative = all_least_zero amid (refl, (refl, (refl, (refl, (refl, (refl, (refl, (refl, (refl, (refl, (refl, (refl, (refl, tt)))))))))))));
  no_bands = no_bands amid refl refl;
  rows = rows amid amid_rows;
}

late_is : IsLinkVertex two_signals (root_box two_signals) late
unfolding whole over inverse_ℚ neg_ℚ ◌+ℚ◌ ◌*ℚ◌ gcd cmp_ℚ
late_is = record {
  columns = refl;
  not_negative = all_least_zero late (refl, (refl, (refl, (refl, (refl, (refl, (refl, (refl, (refl, (refl, (refl, (refl, (refl, tt)))))))))))));
  no_bands = no_bands late refl refl;
  rows = rows late late_rows;
}

-- however artery, box and point are named
pub link_vertex_as : (a b : Street) (box area : Area) (x y : List ℚ) → a ≡ b → box ≡ area → x ≡ y → IsLinkVertex b area y → IsLinkVertex a box x
link_vertex_as a b box area x y e f g v = rw (e, f, g) v

pub worked_link_vertices : WorkedLinkVertices
worked_link_vertices = record { amid = amid_is; late = late_is }
