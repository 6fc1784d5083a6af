-- The block sum of a good timing, in ticks, is a whole number of cycles.
use Rattle.std.proofs.Common.{◌≡◌, ℕ, zero, suc, ℤ, pos, ◌+ℤ◌, ◌-ℤ◌, ◌*ℤ◌, neg_ℤ, ◌+◌, ◌-◌, ◌*◌, ◌<◌, ◌≤◌, refl, sym, ◌∙◌, ap, arith, true, false, IsTrue, true≢false}
use Rattle.std.specs.Prelude.{if◌then◌else◌, ◌==◌, nat_le, ◌&&◌, Bool, slice_index_or}
use Rattle.std.proofs.lemmas.Int.{ints}
use Rattle.std.proofs.lemmas.Bool.Decides.{nat_tests}
use Rattle.rational_theory.proofs.Integers.{+ℤ-*ℤ, neg_ℤ-*ℤ}
use Rattle.progression.specs.Street.{Street, count, signal_of, clearance, allows}
use Rattle.progression.specs.TimingRecord.{TimingRecord, base}
use Rattle.progression.specs.BaseRecord.{cycle, pattern_of, common_red, run}
use Rattle.progression.specs.Green.{is_early, red_start, red_ticks}
use Rattle.progression.specs.Lines.{crossing, line_at}
use Rattle.progression.specs.Columns.{shift, wait}
use Rattle.progression.specs.declared.parts.Dir.TheVariants.{Outbound, Inbound}
use Rattle.progression.proofs.Remainders.{quot_ℤ, split_ℤ}
use Rattle.progression.proofs.Crossings.{crossing_next}

-- ---- the lines
-- the outbound line from signal i to the next
pub line_out : (a : Street) (t : TimingRecord) (i : ℕ) → 1 ≤ i → line_at a t Outbound (i + 1) ≡ line_at a t Outbound i +ℤ (pos (run (base t) Outbound i) -ℤ pos (clearance a Outbound (i + 1) * t.unit))
line_out a t i h =
    let e : i + 1 - 1 ≡ i - 1 + 1 = omega arith in
    let f : i - 1 + 1 ≡ i = omega arith in
    ap (crossing a t Outbound) e ∙ crossing_next a (base t) Outbound t.first_out (i - 1)
    ∙ ap (λ k. crossing a t Outbound (i - 1) +ℤ (pos (run (base t) Outbound k) -ℤ pos (clearance a Outbound (k + 1) * t.unit))) f

-- the inbound line from the next signal to signal i
pub line_in : (a : Street) (t : TimingRecord) (i : ℕ) → 1 ≤ i → i < count a → line_at a t Inbound i ≡ line_at a t Inbound (i + 1) +ℤ
    (pos (run (base t) Inbound i) -ℤ pos (clearance a Inbound i * t.unit))
line_in a t i h l =
    let e : count a - i ≡ count a - (i + 1) + 1 = omega arith in
    let f : count a - 1 - (count a - (i + 1)) ≡ i = omega arith in
    let g : count a - (count a - (i + 1) + 1) ≡ i = omega arith in
    ap (crossing a t Inbound) e ∙ crossing_next a (base t) Inbound t.first_in (count a - (i + 1))
    ∙ ap (λ k. crossing a t Inbound (count a - (i + 1)) +ℤ (pos (run (base t) Inbound k) -ℤ pos (clearance a Inbound (count a - (count a - (i + 1) + 1)) * t.unit))) f
    ∙ ap (λ k. crossing a t Inbound (count a - (i + 1)) +ℤ (pos (run (base t) Inbound i) -ℤ pos (clearance a Inbound k * t.unit))) g

-- ---- the reds
-- from the start of the inbound red to the end of the outbound red: the common red and the shift, for each of the four patterns
ends_by : (r : ℤ) (red l m u p : ℕ) → 1 ≤ p → p ≤ 4
    → r -ℤ pos (if is_early Outbound p then m * u else 0) +ℤ pos ((red + m) * u)
    ≡ r -ℤ pos (if is_early Inbound p then l * u else 0) +ℤ pos ((red + (if p == 1 then 0 else (if p == 2 then l + m else (if p == 3 then m else l)))) * u)
ends_by r red l m u zero h k = absurd (omega arith)
ends_by r red l m u (suc zero) h k = omega (arith, ints)
ends_by r red l m u (suc (suc zero)) h k = omega (arith, ints)
ends_by r red l m u (suc (suc (suc zero))) h k = omega (arith, ints)
ends_by r red l m u (suc (suc (suc (suc zero)))) h k = omega (arith, ints)
ends_by r red l m u (suc (suc (suc (suc (suc p))))) h k = absurd (omega arith)

-- two tests of three
both : (a b c : Bool) → IsTrue (a && b && c) → IsTrue a × IsTrue b
both true true c h = (refl, refl)
both true false c h = absurd (true≢false (sym h))
both false b c h = absurd (true≢false (sym h))

-- an allowed pattern is one of the four
pub allowed_range : (a : Street) (i p : ℕ) → IsTrue (allows a i p) → (1 ≤ p) × (p ≤ 4)
allowed_range a i p h =
    let f = both (nat_le 1 p) (nat_le p 4) (slice_index_or (signal_of a i).patterns (p - 1) false) h in
    let l = f.0 in let m = f.1 in
    (grind (arith, nat_tests), grind (arith, nat_tests))

-- at signal i of a timing
pub ends : (a : Street) (t : TimingRecord) (i : ℕ) → IsTrue (allows a i (pattern_of (base t) i))
    → red_start a (base t) Outbound i +ℤ pos (red_ticks a (base t) Outbound i) ≡ red_start a (base t) Inbound i +ℤ pos (((signal_of a i).red + shift a (base t) i) * t.unit)
ends a t i h = let r = allowed_range a i (pattern_of (base t) i) h in
    ends_by (common_red (base t) i) (signal_of a i).red (signal_of a i).left_out (signal_of a i).left_in t.unit (pattern_of (base t) i) r.0 r.1

-- ---- the block sum
-- the whole cycles in the waits at signal i
abbrev pub turns_at : Street → TimingRecord → ℕ → ℤ
turns_at a t i =
    quot_ℤ (line_at a t Outbound i -ℤ (red_start a (base t) Outbound i +ℤ pos (red_ticks a (base t) Outbound i))) (cycle a (base t))
    +ℤ quot_ℤ (red_start a (base t) Inbound i -ℤ line_at a t Inbound i -ℤ pos t.band_in) (cycle a (base t))

-- the waits, the common red and the shift at signal i, and these cycles, reach from the inbound band's edge to the outbound line
balance : (a : Street) (t : TimingRecord) (i : ℕ) → 0 < cycle a (base t) → IsTrue (allows a i (pattern_of (base t) i))
    → pos (wait a t Outbound i + wait a t Inbound i + ((signal_of a i).red + shift a (base t) i) * t.unit) +ℤ turns_at a t i *ℤ pos (cycle a (base t)) ≡ line_at a t
    Outbound i -ℤ line_at a t Inbound i -ℤ pos t.band_in
balance a t i h w =
    let e = split_ℤ (line_at a t Outbound i -ℤ (red_start a (base t) Outbound i +ℤ pos (red_ticks a (base t) Outbound i))) (cycle a (base t)) h in
    let f = split_ℤ (red_start a (base t) Inbound i -ℤ line_at a t Inbound i -ℤ pos t.band_in) (cycle a (base t)) h in
    let d = +ℤ-*ℤ (quot_ℤ (line_at a t Outbound i -ℤ (red_start a (base t) Outbound i +ℤ pos (red_ticks a (base t) Outbound i))) (cycle a (base t)))
    (quot_ℤ (red_start a (base t) Inbound i -ℤ line_at a t Inbound i -ℤ pos t.band_in) (cycle a (base t))) (pos (cycle a (base t))) in
    let g = ends a t i w in
    omega (arith, ints, e, f, d, g)

-- what the block sum adds, in ticks
abbrev pub block_plus : Street → TimingRecord → ℕ → ℕ
block_plus a t i = wait a t Outbound i + wait a t Inbound i + run (base t) Outbound i + run (base t) Inbound i + shift a (base t) i * t.unit + (signal_of a i).red * t.unit

-- and what it takes away
abbrev pub block_minus : Street → TimingRecord → ℕ → ℕ
block_minus a t i =
    wait a t Outbound (i + 1) + wait a t Inbound (i + 1) + shift a (base t) (i + 1) * t.unit + (signal_of a (i + 1)).red * t.unit
    + clearance a Outbound (i + 1) * t.unit + clearance a Inbound i * t.unit

-- the whole cycles between them
abbrev pub turns_between : Street → TimingRecord → ℕ → ℤ
turns_between a t i = turns_at a t (i + 1) -ℤ turns_at a t i

-- they differ by whole cycles
pub block_whole : (a : Street) (t : TimingRecord) (i : ℕ) → 0 < cycle a (base t) → 1 ≤ i → i < count a → IsTrue (allows a i (pattern_of (base t) i)) → IsTrue
    (allows a (i + 1) (pattern_of (base t) (i + 1)))
    → pos (block_plus a t i) ≡ turns_between a t i *ℤ pos (cycle a (base t)) +ℤ pos (block_minus a t i)
block_whole a t i h k l v w =
    let e = balance a t i h v in
    let f = balance a t (i + 1) h w in
    let p = line_out a t i k in
    let q = line_in a t i k l in
    let d = +ℤ-*ℤ (turns_at a t (i + 1)) (neg_ℤ (turns_at a t i)) (pos (cycle a (base t))) in
    let n = neg_ℤ-*ℤ (turns_at a t i) (pos (cycle a (base t))) in
    omega (arith, ints, e, f, p, q, d, n)
