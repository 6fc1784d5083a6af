-- What the greens at the ends of each link say in fractions of the cycle, and back.
use Rattle.std.proofs.Common.{◌↔◌, ℕ, ◌+◌, ◌-◌, ◌*◌, ◌<◌, ◌≤◌, arith}
use Rattle.std.proofs.Math.Nat.{le_of_mul-le-mul_right}
use Rattle.rational_theory.specs.Rational.{◌+ℚ◌, ◌≤ℚ◌}
use Rattle.rational_theory.proofs.Arithmetic.{IsRatio, ≤ℚ_out}
use Rattle.rational_theory.proofs.Shares.{one_cycle, less_ticks, joined_ticks, at_most_ticks}
use Rattle.progression.specs.Street.{Street, HasSignal, HasLink, red_parts}
use Rattle.progression.specs.BaseRecord.{cycle}
use Rattle.progression.specs.Green.{red_ticks}
use Rattle.progression.specs.Columns.{wait}
use Rattle.progression.specs.declared.parts.Dir.{Dir}
use Rattle.linear_theory.specs.Blocks.{green_part}
use Rattle.linear_theory.specs.Counts.{IsStreet}
use Rattle.linear_theory.proofs.Points.{share}
use Rattle.linear_theory.proofs.Shares.{cycle_above, ticked, parted}
use Rattle.linear_theory.proofs.Ranges.{parts_above}
use Rattle.link_theory.specs.LinkRecord.{LinkRecord, link_base, lines, half}
use Rattle.link_theory.specs.GoodLinks.{GoodLinks, IsGreenAround}
use Rattle.link_theory.specs.declared.ends.LinkEnd.{LinkEnd}
use Rattle.link_theory.specs.declared.ends.LinkEnd.TheVariants.{Here, Next}
use Rattle.link_theory.specs.LinkRows.{signal_at}
use Rattle.linear_theory.proofs.Ranges.{red_less}
use Rattle.link_theory.proofs.Surroundings.{around}

-- each end is a signal
pub end_there : (a : Street) (e : LinkEnd) (i : ℕ) → HasLink a i → HasSignal a (signal_at e i)
end_there a Here i k = let l = k.0 in let m = k.1 in (omega arith, omega arith)
end_there a Next i k = let l = k.0 in let m = k.1 in (omega arith, omega arith)

-- an order of multiples
divided_out : (p q c : ℕ) → 0 < c → p * c ≤ q * c → p ≤ q
divided_out p q c h l = le_of_mul-le-mul_right l h

module _ (a : Street) (t : LinkRecord) (h : IsStreet a) (u : 2 ≤ t.unit) where
  some_unit : 0 < t.unit
  some_unit = omega arith

  pub some_cycle : 0 < cycle a (link_base t)
  some_cycle = cycle_above a (lines t) (parts_above a h) some_unit

  tick : (k : ℕ) → IsRatio (share a (lines t) k) k 0 (cycle a (link_base t))
  tick k = ticked a (lines t) (parts_above a h) some_unit k

  -- the order of ticks is that of their shares
  share_order : (k m : ℕ) → share a (lines t) k ≤ℚ share a (lines t) m ↔ k ≤ m
  share_order k m = (
    λ l. let e = ≤ℚ_out _ _ _ _ _ _ _ _ (tick k) (tick m) l in divided_out k m (cycle a (link_base t)) some_cycle (omega arith),
    λ l. at_most_ticks (cycle a (link_base t)) some_cycle _ _ _ _ _ _ (tick k) (tick m) (omega arith),
  )

  module _ (d : Dir) (i k : ℕ) (s : HasSignal a i) where
    both_ticks : IsRatio (share a (lines t) (wait a (lines t) d i) +ℚ share a (lines t) k) (wait a (lines t) d i + k) (0 + 0) (cycle a (link_base t))
    both_ticks = joined_ticks (cycle a (link_base t)) some_cycle _ _ _ _ _ _ (tick (wait a (lines t) d i)) (tick k)

    green_ticks : IsRatio (green_part a d i) (cycle a (link_base t) + 0) (0 + red_parts a d i * t.unit) (cycle a (link_base t))
    green_ticks = less_ticks (cycle a (link_base t)) some_cycle _ _ _ _ _ _ (one_cycle (cycle a (link_base t)) some_cycle) (parted a (lines t) (parts_above a h) some_unit (red_parts a d i))

    -- a wait and a half fit into the green, in ticks and in shares
    fit_order : (share a (lines t) (wait a (lines t) d i) +ℚ share a (lines t) k) ≤ℚ green_part a d i ↔ wait a (lines t) d i + k ≤ cycle a (link_base t) - red_ticks a (link_base t) d i
    fit_order = (
      λ l. let r = red_less a (lines t) h u d i s in
          let e = ≤ℚ_out _ _ _ _ _ _ _ _ both_ticks green_ticks l in
          let f = divided_out (wait a (lines t) d i + k + red_parts a d i * t.unit) (cycle a (link_base t)) (cycle a (link_base t)) some_cycle (omega arith) in omega arith,
      λ l. let r = red_less a (lines t) h u d i s in at_most_ticks (cycle a (link_base t)) some_cycle _ _ _ _ _ _ both_ticks green_ticks (omega arith),
    )

    -- the symmetric window lemma in shares
    pub around_shares : IsGreenAround a t d i k
        ↔ ((share a (lines t) k ≤ℚ share a (lines t) (wait a (lines t) d i)) × ((share a (lines t) (wait a (lines t) d i) +ℚ share a (lines t) k) ≤ℚ green_part a d i))
    around_shares = (
      λ g. let w = (around a t h u d i k s).0 g in ((share_order k (wait a (lines t) d i)).1 w.0, fit_order.1 w.1),
      λ w. (around a t h u d i k s).1 ((share_order k (wait a (lines t) d i)).0 w.0, fit_order.0 w.1),
    )

-- the link's band at both ends
pub green_end : (a : Street) (t : LinkRecord) → GoodLinks a t → (d : Dir) (e : LinkEnd) (i : ℕ) → HasLink a i → IsGreenAround a t d (signal_at e i) (half t d i)
green_end a t g d Here i k = g.here d i k
green_end a t g d Next i k = g.there d i k
