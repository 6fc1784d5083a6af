-- The first draw of seed 0, worked by hand.
use Rattle.std.specs.Prelude.{◌≡◌}
use Rattle.workload_maker.specs.Draws.{state, high_bits}
use Rattle.workload_maker.specs.Made.{made_signal}

pub record SeedZero : Type 0 where
  pub first_state : state 0 1 ≡ 1442695040888963407
  pub first_bits : high_bits (state 0 1) ≡ 167951807
  pub first_red : (made_signal 0 1).red ≡ 32
