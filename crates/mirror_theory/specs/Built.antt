-- A timing that is built from a line and a band that run: its reds are centred at 0 or half a cycle later.
use Rattle.std.specs.Prelude.{◌≡◌, ℕ, ◌+◌, nat_le, if◌then◌else◌, ℤ, pos, ◌+ℤ◌, ◌-ℤ◌, neg_ℤ}
use Rattle.progression.specs.Street.{Street, count, HasSignal}
use Rattle.progression.specs.TimingRecord.{TimingRecord, base}
use Rattle.progression.specs.BaseRecord.{cycle}
use Rattle.progression.specs.Green.{since, red_start, red_ticks}
use Rattle.progression.specs.declared.parts.Dir.TheVariants.{Outbound}
use Rattle.mirror_theory.specs.EqualBands.{Keeps}
use Rattle.mirror_theory.specs.Runs.{far, phase_wait}

-- z is y, or whole cycles from there
abbrev pub IsSameTick : ℕ → ℤ → ℤ → Type 0
IsSameTick c y z = since c y z ≡ 0

-- the phase with the shorter wait, of a line that crosses signal i here: 0, or half a cycle
abbrev pub phase_at : Street → TimingRecord → ℤ → ℕ → ℕ
phase_at a t here i = if nat_le (phase_wait (cycle a (base t)) (red_ticks a (base t) Outbound i) here 0) (phase_wait (cycle a (base t)) (red_ticks a (base t) Outbound i) here (cycle a (base t))) then 0 else cycle a (base t)

-- and of the line at x
abbrev pub phase_of : Street → TimingRecord → ℤ → ℕ → ℕ
phase_of a t x i = phase_at a t (x +ℤ far a t i) i

-- where the mirrored line begins at the last signal
abbrev pub mirrored : Street → TimingRecord → ℤ → ℕ → ℤ
mirrored a t x b = neg_ℤ (x +ℤ far a t (count a)) -ℤ pos b

-- s is built for the line at x and the band b: each red is centred in its better phase
pub record IsBuilt (a : Street) (t : TimingRecord) (x : ℤ) (b : ℕ) (s : TimingRecord) : Type 0 where
  pub keeps : Keeps t 2 s
  pub reds : (i : ℕ) → HasSignal a i → IsSameTick (cycle a (base t) + cycle a (base t)) (pos (phase_of a t x i) -ℤ pos (red_ticks a (base t) Outbound i)) (red_start a (base s) Outbound i)
  pub first_out : IsSameTick (cycle a (base t) + cycle a (base t)) x s.first_out
  pub first_in : IsSameTick (cycle a (base t) + cycle a (base t)) (mirrored a t x b) s.first_in
  pub band_out : s.band_out ≡ b
  pub band_in : s.band_in ≡ b
