-- The link timings that the program holds: whole numbers below 2 ^ 80 from 0 on, for 2 to 24 signals.
use Rattle.std.specs.Prelude.{◌≡◌, ℕ, ◌+◌, ◌<◌, ◌^◌, List, length, All, pos}
use Rattle.time_space.specs.Timing.{AreOfBase, base_of}
use Rattle.link_theory.specs.LinkRecord.{LinkRecord, link_banded}

-- so many halves as the base has links, each of them small
pub record AreHalves (patterns halves : List ℕ) : Type 0 where
  pub count : length halves + 1 ≡ length patterns
  pub each : All (λ n. n < 2 ^ 80) halves

-- the first line of each direction
pub record AreOfLines (first_out first_in : ℕ) : Type 0 where
  pub first_out_most : first_out < 2 ^ 80
  pub first_in_most : first_in < 2 ^ 80

pub record IsLinkTiming (grid unit : ℕ) (patterns reds run_out run_in : List ℕ) (first_out first_in : ℕ) (half_out half_in : List ℕ) : Type 0 where
  pub base : AreOfBase grid unit patterns reds run_out run_in
  pub lines : AreOfLines first_out first_in
  pub outbound : AreHalves patterns half_out
  pub inbound : AreHalves patterns half_in

-- the link timing of these numbers
abbrev pub link_timing_of : ℕ → ℕ → List ℕ → List ℕ → List ℕ → List ℕ → ℕ → ℕ → List ℕ → List ℕ → LinkRecord
link_timing_of grid unit patterns reds run_out run_in first_out first_in half_out half_in =
    link_banded (pos first_out) half_out (pos first_in) half_in (base_of grid unit patterns reds run_out run_in)

-- two lines, and halves for the links of a base with these patterns
pub record IsLinked (patterns : List ℕ) (first_out first_in : ℕ) (half_out half_in : List ℕ) : Type 0 where
  pub lines : AreOfLines first_out first_in
  pub outbound : AreHalves patterns half_out
  pub inbound : AreHalves patterns half_in
