-- What a placed timing has at each signal and link.
use Rattle.std.proofs.Common.{◌≡◌, ℕ, zero, suc, pos, ◌+ℤ◌, ◌+◌, ◌-◌, ◌<◌, ◌≤◌, length, map, get_or, refl, ◌∙◌, ap, arith}
use Rattle.std.proofs.lemmas.Int.{ints}
use Rattle.std.proofs.lemmas.List.{get_or-map, length-map}
use Rattle.progression.specs.Street.{Street, count, HasSignal, HasLink}
use Rattle.progression.specs.TimingRecord.{base}
use Rattle.progression.specs.BaseRecord.{IsBaseRecord, pattern_of, common_red, run}
use Rattle.progression.specs.Lines.{crossing, advance, line_at}
use Rattle.progression.specs.Columns.{Column, Frequency, RunOf, numbered}
use Rattle.progression.specs.declared.parts.Dir.{Dir}
use Rattle.progression.specs.declared.parts.Dir.TheVariants.{Outbound, Inbound}
use Rattle.linear_theory.proofs.Points.{length-numbered, get-numbered}
use Rattle.recovery_theory.specs.Placing.{red_end, with_out, red_of, reds_of, placed}

-- the i-th of n numbered items, from 1
nth : {X : Type 0} (n i : ℕ) (f : ℕ → X) (d : X) → 1 ≤ i → i ≤ n → get_or (numbered n 1 f) (i - 1) d ≡ f i
nth n i f d h k = get-numbered n 1 (i - 1) f d (omega arith) ∙ ap f (omega arith)

module _ (a : Street) (unit : ℕ) (ticks : Column → ℕ) (pattern : ℕ → ℕ) where
  pub run_is : (d : Dir) (i : ℕ) → HasLink a i → run (base (placed a unit ticks pattern)) d i ≡ ticks (RunOf d i)
  run_is Outbound i h = let k = h.0 in let l = h.1 in nth (count a - 1) i (λ j. ticks (RunOf Outbound j)) 0 k (omega arith)
  run_is Inbound i h = let k = h.0 in let l = h.1 in nth (count a - 1) i (λ j. ticks (RunOf Inbound j)) 0 k (omega arith)

  pub pattern_is : (i : ℕ) → HasSignal a i → pattern_of (base (placed a unit ticks pattern)) i ≡ pattern i
  pattern_is i h = nth (count a) i pattern 0 h.0 h.1

  pub length-reds : 1 ≤ count a → length (reds_of a unit ticks pattern) ≡ count a
  length-reds h = let e = length-numbered (count a - 1) 2 (red_of a unit ticks pattern) in omega arith

  pub is_base : 1 ≤ count a → 1 ≤ ticks Frequency → 2 ≤ unit → IsBaseRecord (base (placed a unit ticks pattern))
  is_base h g u =
      let n = length-numbered (count a) 1 pattern in
      let r = length-map (reds_of a unit ticks pattern) pos in
      let s = length-reds h in
      let o = length-numbered (count a - 1) 1 (λ i. ticks (RunOf Outbound i)) in
      let b = length-numbered (count a - 1) 1 (λ i. ticks (RunOf Inbound i)) in
      record { grid = g; unit = u; reds = omega arith; run_out = omega arith; run_in = omega arith }

  pub next_red : (i : ℕ) → 2 ≤ i → i ≤ count a → common_red (base (placed a unit ticks pattern)) i ≡ pos (red_of a unit ticks pattern i)
  next_red i h k =
      let f = red_of a unit ticks pattern in
      let rest = numbered (count a - 1) 2 f in
      let e : i - 1 ≡ suc (i - 2) = omega arith in
      let g : 2 + (i - 2) ≡ i = omega arith in
      let w : i - 2 < length rest = (let l = length-numbered (count a - 1) 2 f in omega arith) in
      ap (λ m. get_or (map pos (reds_of a unit ticks pattern)) m (pos 0)) e
      ∙ get_or-map pos rest (i - 2) 0 (pos 0) w
      ∙ ap pos (get-numbered (count a - 1) 2 (i - 2) f 0 (omega arith) ∙ ap f g)

  -- the outbound line does not depend on the reds
  same_crossing : (j : ℕ) → crossing a (placed a unit ticks pattern) Outbound j ≡ crossing a (with_out a unit ticks pattern) Outbound j
  same_crossing zero = refl
  same_crossing (suc j) = ap (λ z. z +ℤ advance a (base (with_out a unit ticks pattern)) Outbound j) (same_crossing j)

  pub same_line : (i : ℕ) → line_at a (placed a unit ticks pattern) Outbound i ≡ line_at a (with_out a unit ticks pattern) Outbound i
  same_line i = same_crossing (i - 1)

  -- an outbound red ends its length after the common red's start, less what it begins before
  pub red_end_is : (i : ℕ) → red_end a (placed a unit ticks pattern) i ≡ common_red (base (placed a unit ticks pattern)) i +ℤ red_end a (with_out a unit ticks pattern) i
  red_end_is i = omega (arith, ints)
