-- The block sum of a good timing's point is a whole number.
use Rattle.std.proofs.Common.{◌≡◌, ℕ, ◌+◌, ◌*◌, ◌<◌, ◌≤◌, refl, ◌∙◌, arith, IsTrue}
use Rattle.std.proofs.lemmas.Int.{ints}
use Rattle.rational_theory.specs.Rational.{ℚ, whole, ◌+ℚ◌, ◌-ℚ◌}
use Rattle.rational_theory.proofs.Arithmetic.{IsRatio, rebase, same_ratio, whole_ratio}
use Rattle.rational_theory.proofs.Shares.{joined_ticks, less_ticks}
use Rattle.progression.specs.Street.{Street, count, signal_of, clearance, allows, HasLink}
use Rattle.progression.specs.TimingRecord.{TimingRecord, base}
use Rattle.progression.specs.BaseRecord.{cycle, pattern_of, run}
use Rattle.progression.specs.Columns.{WaitOf, RunOf, ShiftOf, wait, shift, point}
use Rattle.progression.specs.declared.parts.Dir.TheVariants.{Outbound, Inbound}
use Rattle.linear_theory.specs.Blocks.{block_of, red_here, clear_next, clear_here, block_sum}
use Rattle.linear_theory.proofs.Points.{share, point_at}
use Rattle.linear_theory.proofs.WholeBlocks.{block_plus, block_minus, turns_between, block_whole}
use Rattle.linear_theory.proofs.Shares.{cycle_above, ticked, parted}

-- the block sum of a timing in shares of the cycle
abbrev pub block_shares : Street → TimingRecord → ℕ → ℚ
block_shares a t i =
    block_of (share a t (wait a t Outbound i)) (share a t (wait a t Inbound i)) (share a t (wait a t Outbound (i + 1))) (share a t (wait a t Inbound (i + 1)))
    (share a t (run (base t) Outbound i)) (share a t (run (base t) Inbound i)) (share a t (shift a (base t) i * t.unit)) (share a t (shift a (base t) (i + 1) * t.unit))
    (red_here a i) (red_here a (i + 1)) (clear_next a i) (clear_here a i)

-- it is the block sum of the timing's point
pub block_sum_shares : (a : Street) (t : TimingRecord) (i : ℕ) → HasLink a i → block_sum a (point a t) i ≡ block_shares a t i
block_sum_shares a t i h =
    let k = h.0 in let m = h.1 in
    let l : 1 ≤ count a = omega arith in
    let here : (1 ≤ i) × (i ≤ count a) = (k, omega arith) in
    let next : (1 ≤ i + 1) × (i + 1 ≤ count a) = (omega arith, omega arith) in
    rw (
      point_at a t (WaitOf Outbound i) l here,
      point_at a t (WaitOf Inbound i) l here,
      point_at a t (WaitOf Outbound (i + 1)) l next,
      point_at a t (WaitOf Inbound (i + 1)) l next,
      point_at a t (RunOf Outbound i) l h,
      point_at a t (RunOf Inbound i) l h,
      point_at a t (ShiftOf i) l here,
      point_at a t (ShiftOf (i + 1)) l next,
    ) refl

module _ (a : Street) (t : TimingRecord) (some_parts : 0 < a.head.parts) (some_unit : 0 < t.unit) where
  -- sums and differences over the cycle
  plus : {x y : ℚ} {p n q m : ℕ} → IsRatio x p n (cycle a (base t)) → IsRatio y q m (cycle a (base t)) → IsRatio (x +ℚ y) (p + q) (n + m) (cycle a (base t))
  plus {x} {y} {p} {n} {q} {m} k l = joined_ticks (cycle a (base t)) (cycle_above a t some_parts some_unit) x y p n q m k l

  less : {x y : ℚ} {p n q m : ℕ} → IsRatio x p n (cycle a (base t)) → IsRatio y q m (cycle a (base t)) → IsRatio (x -ℚ y) (p + m) (n + q) (cycle a (base t))
  less {x} {y} {p} {n} {q} {m} k l = less_ticks (cycle a (base t)) (cycle_above a t some_parts some_unit) x y p n q m k l

  -- some ticks
  tick : (k : ℕ) → IsRatio (share a t k) k 0 (cycle a (base t))
  tick k = ticked a t some_parts some_unit k

  -- in ticks over the cycle
  block_ratio : (i : ℕ) → IsRatio (block_shares a t i) (block_plus a t i) (block_minus a t i) (cycle a (base t))
  block_ratio i =
      rebase _ _ _ _ _ _ _
      (less (less (less (plus (less (plus (plus (plus (less (less (plus
      (tick (wait a t Outbound i)) (tick (wait a t Inbound i))) (tick (wait a t Outbound (i + 1)))) (tick (wait a t Inbound (i + 1))))
      (tick (run (base t) Outbound i))) (tick (run (base t) Inbound i))) (tick (shift a (base t) i * t.unit))) (tick (shift a (base t) (i + 1) * t.unit)))
      (parted a t some_parts some_unit (signal_of a i).red)) (parted a t some_parts some_unit (signal_of a (i + 1)).red)) (parted a t some_parts some_unit (clearance a Outbound (i + 1))))
      (parted a t some_parts some_unit (clearance a Inbound i)))
      (cycle_above a t some_parts some_unit) (omega arith)

  -- the block sum in shares is the whole number of cycles
  pub shares_whole : (i : ℕ) → HasLink a i → IsTrue (allows a i (pattern_of (base t) i)) → IsTrue (allows a (i + 1) (pattern_of (base t) (i + 1)))
      → block_shares a t i ≡ whole (turns_between a t i)
  shares_whole i h v w =
      let e = block_whole a t i (cycle_above a t some_parts some_unit) h.0 h.1 v w in
      same_ratio _ _ _ _ _ _ _ _ (block_ratio i) (whole_ratio (turns_between a t i)) (omega (arith, ints, e))

  -- the block sum at a link between two signals with allowed patterns is whole
  pub block_sum_whole : (i : ℕ) → HasLink a i → IsTrue (allows a i (pattern_of (base t) i)) → IsTrue (allows a (i + 1) (pattern_of (base t) (i + 1)))
      → block_sum a (point a t) i ≡ whole (turns_between a t i)
  block_sum_whole i h v w = block_sum_shares a t i h ∙ shares_whole i h v w
