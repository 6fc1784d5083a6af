-- The symmetric window lemma: a line with the same ticks to either side is green exactly where they are at most its wait, and wait
-- and ticks fit into the green. It holds for a line alone, and at the start of a red.
use Rattle.std.proofs.Common.{◌≡◌, ◌↔◌, ℕ, ℤ, pos, ◌+ℤ◌, ◌-ℤ◌, ◌+◌, ◌-◌, ◌*◌, ◌<◌, ◌≤◌, arith}
use Rattle.std.proofs.lemmas.Int.{ints}
use Rattle.progression.specs.Green.{BandIsGreen}
use Rattle.progression.proofs.Remainders.{mod_below, quot_ℤ, split_ℤ, mod_unique}
use Rattle.linear_theory.proofs.Windows.{wait_after, wait_before, window_after, window_before, wait_before_is}

module _ (c red : ℕ) (s p : ℤ) (h : ℕ) (two : 2 ≤ red) (less : red < c) where
  -- ---- the wait h ticks before the line
  -- where the earlier tick's wait leaves h ticks before the next red's end, the line's wait is h more
  later_wait : wait_after c s red (p -ℤ pos h) + h < c → wait_after c s red p ≡ wait_after c s red (p -ℤ pos h) + h
  later_wait w =
      let e = split_ℤ ((p -ℤ pos h) -ℤ (s +ℤ pos red)) c (omega arith) in
      mod_unique (p -ℤ (s +ℤ pos red)) (quot_ℤ ((p -ℤ pos h) -ℤ (s +ℤ pos red)) c) c (wait_after c s red (p -ℤ pos h) + h) (omega (arith, ints, e)) w

  -- and back
  earlier_wait : h ≤ wait_after c s red p → wait_after c s red (p -ℤ pos h) ≡ wait_after c s red p - h
  earlier_wait w =
      let e = split_ℤ (p -ℤ (s +ℤ pos red)) c (omega arith) in
      let b = mod_below (p -ℤ (s +ℤ pos red)) c (omega arith) in
      mod_unique ((p -ℤ pos h) -ℤ (s +ℤ pos red)) (quot_ℤ (p -ℤ (s +ℤ pos red)) c) c (wait_after c s red p - h) (omega (arith, ints, e)) (omega arith)

  -- ---- outbound, by the wait after the red
  pub around_after : BandIsGreen c s red (p -ℤ pos h) (2 * h) ↔ ((h ≤ wait_after c s red p) × (wait_after c s red p + h ≤ c - red))
  around_after = (
    λ g. let w = (window_after c red s (p -ℤ pos h) (2 * h) two less).0 g in let e = later_wait (omega arith) in (omega arith, omega arith),
    λ w. let low = w.0 in let high = w.1 in let e = earlier_wait low in (window_after c red s (p -ℤ pos h) (2 * h) two less).1 (omega arith),
  )

  -- ---- the line itself
  -- it is green where its surroundings are
  pub line_from_around : BandIsGreen c s red (p -ℤ pos h) (2 * h) → BandIsGreen c s red p 0
  line_from_around g = let w = around_after.0 g in let high = w.1 in (window_after c red s p 0 two less).1 (omega arith)

  -- ---- inbound, by the wait before the red
  pub around_before : BandIsGreen c s red (p -ℤ pos h) (2 * h) ↔ ((h ≤ wait_before c s p 0) × (wait_before c s p 0 + h ≤ c - red))
  around_before = (
    λ g. let w = around_after.0 g in let low = w.0 in let high = w.1 in
        let e = wait_before_is c red s p 0 two less (line_from_around g) in (omega arith, omega arith),
    λ w. let low = w.0 in let high = w.1 in
        let line = (window_before c red s p 0 two less).1 (omega arith) in
        let most = (window_after c red s p 0 two less).0 line in
        let e = wait_before_is c red s p 0 two less line in around_after.1 (omega arith, omega arith),
  )
