-- The moves from offsets, in their order: of one signal but the first, then of all from it on; by +1, -1, +2 and -2 seconds; by signal.
use Rattle.std.specs.Prelude.{◌≡◌, ℕ, ◌+◌, ◌-◌, ◌*◌, ◌%◌, ◌<◌, nat_le, nat_lt, ◌&&◌, if◌then◌else◌, List, ◌++◌, map, Contains, length, slice_index}
use Rattle.std.specs.List.{range_with_len}
use Rattle.whole_offsets.specs.declared.moves.Move.{Move}
use Rattle.whole_offsets.specs.declared.moves.Reach.{Reach}
use Rattle.whole_offsets.specs.declared.moves.Reach.TheVariants.{One, On}

-- the offset at a place after a move, modulo k
abbrev pub moved : ℕ → List ℕ → Move → ℕ → ℕ
moved k offsets m i = if nat_le m.start i && nat_lt i m.stop then (slice_index offsets i + m.step) % k else slice_index offsets i

-- the offsets after a move
pub record IsMoved (k : ℕ) (offsets : List ℕ) (m : Move) (other : List ℕ) : Type 0 where
  pub as_many : length other ≡ length offsets
  pub each : (i : ℕ) → i < length offsets → slice_index other i ≡ moved k offsets m i

-- the place before which a move from a place ends, of n signals
abbrev pub stop_of : Reach → ℕ → ℕ → ℕ
stop_of One place n = place + 1
stop_of On place n = n

-- those by one step, modulo k: from each signal but the first
abbrev pub moves_by : Reach → ℕ → ℕ → List Move
moves_by reach step n = map (λ start. record { start = start; stop = stop_of reach start n; step = step }) (range_with_len 1 (n - 1))

-- by 1, -1, 2 and -2
abbrev pub moves_of : Reach → ℕ → ℕ → List Move
moves_of reach k n = moves_by reach 1 n ++ moves_by reach (k - 1) n ++ moves_by reach 2 n ++ moves_by reach (2 * k - 2) n

abbrev pub moves : ℕ → ℕ → List Move
moves k n = moves_of One k n ++ moves_of On k n

-- the offsets after one of the moves
abbrev pub IsMove : ℕ → List ℕ → List ℕ → Type 0
IsMove k offsets other = (m : Move) × (Contains (moves k (length offsets)) m × IsMoved k offsets m other)
