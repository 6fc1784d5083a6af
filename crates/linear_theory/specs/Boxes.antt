-- Boxes: for each link a span of block sums, for each signal a span of shift ranks; and the root, which has room for every good timing.
use Rattle.std.specs.Prelude.{◌≡◌, ℕ, ◌+◌, ◌-◌, ◌<◌, ◌≤◌, ◌⊎◌, List, length, slice_index_or, slice_set, ℤ, pos, ◌+ℤ◌, ◌≤ℤ◌, ◌<ℤ◌}
use Rattle.rational_theory.specs.Rational.{ℚ, whole, ◌/ℚ◌}
use Rattle.rational_theory.specs.Floor.{floor_ℚ, ceil_ℚ}
use Rattle.progression.specs.Street.{Street, count, HasSignal, HasLink}
use Rattle.progression.specs.Speeds.{number, run_low, run_high}
use Rattle.progression.specs.TimingRecord.{TimingRecord, base}
use Rattle.progression.specs.Columns.{shift, point, numbered}
use Rattle.progression.specs.declared.parts.Dir.{Dir}
use Rattle.progression.specs.declared.parts.Dir.TheVariants.{Outbound, Inbound}
use Rattle.linear_theory.specs.Shifts.{shift_at, shift_count}
use Rattle.linear_theory.specs.Blocks.{part, green_part, block_of, red_here, clear_next, clear_here, block_sum}

-- the whole numbers from least to most
pub record Span : Type 0 where
  pub least : ℤ
  pub most : ℤ

-- the ranks from least to most
pub record Ranks : Type 0 where
  pub least : ℕ
  pub most : ℕ

pub record Area : Type 0 where
  pub loops : List Span  -- of each link
  pub turns : List Ranks  -- of each signal

-- what stands past the end of a list
abbrev pub no_span : Span
no_span = record { least = pos 0; most = pos 0 }

abbrev pub no_ranks : Ranks
no_ranks = record { least = 0; most = 0 }

-- the span of link i, and the ranks of signal i
abbrev pub loop_span : Area → ℕ → Span
loop_span box i = slice_index_or box.loops (i - 1) no_span

abbrev pub turn_span : Area → ℕ → Ranks
turn_span box i = slice_index_or box.turns (i - 1) no_ranks

-- ---- the root
-- the least and the greatest run, and the least and the greatest shift, as fractions of the cycle
abbrev pub run_least : Street → Dir → ℕ → ℚ
run_least a d i = run_low a d i /ℚ a.head.cycle.most

abbrev pub run_greatest : Street → Dir → ℕ → ℚ
run_greatest a d i = run_high a d i /ℚ a.head.cycle.least

abbrev pub shift_least : Street → ℕ → ℚ
shift_least a i = part a (shift_at a i 0)

abbrev pub shift_greatest : Street → ℕ → ℚ
shift_greatest a i = part a (shift_at a i (shift_count a i - 1))

-- the block sum with each term, by itself, at the end of its range
abbrev pub least_sum : Street → ℕ → ℚ
least_sum a i =
    block_of (number 0) (number 0) (green_part a Outbound (i + 1)) (green_part a Inbound (i + 1))
    (run_least a Outbound i) (run_least a Inbound i) (shift_least a i) (shift_greatest a (i + 1))
    (red_here a i) (red_here a (i + 1)) (clear_next a i) (clear_here a i)

abbrev pub greatest_sum : Street → ℕ → ℚ
greatest_sum a i =
    block_of (green_part a Outbound i) (green_part a Inbound i) (number 0) (number 0)
    (run_greatest a Outbound i) (run_greatest a Inbound i) (shift_greatest a i) (shift_least a (i + 1))
    (red_here a i) (red_here a (i + 1)) (clear_next a i) (clear_here a i)

-- the whole numbers between those two
abbrev pub root_span : Street → ℕ → Span
root_span a i = record { least = ceil_ℚ (least_sum a i); most = floor_ℚ (greatest_sum a i) }

-- all ranks
abbrev pub root_ranks : Street → ℕ → Ranks
root_ranks a i = record { least = 0; most = shift_count a i - 1 }

-- the box of the root's spans
abbrev pub root_box : Street → Area
root_box a = record { loops = numbered (count a - 1) 1 (root_span a); turns = numbered (count a) 1 (root_ranks a) }

-- a box with these spans
pub record IsRoot (a : Street) (box : Area) : Type 0 where
  pub loops_count : length box.loops + 1 ≡ count a
  pub turns_count : length box.turns ≡ count a
  pub loops : (i : ℕ) → HasLink a i → loop_span box i ≡ root_span a i
  pub turns : (i : ℕ) → HasSignal a i → turn_span box i ≡ root_ranks a i

-- ---- boxes of an artery
-- a span is the root's, which may be empty, or is not empty and lies within it
abbrev pub IsSpanOf : Span → Span → Type 0
IsSpanOf root s = (s ≡ root) ⊎ ((s.least ≤ℤ s.most) × (root.least ≤ℤ s.least) × (s.most ≤ℤ root.most))

-- as many spans as links and signals, and ranks that the signals have
pub record IsBoxOf (a : Street) (box : Area) : Type 0 where
  pub loops_count : length box.loops + 1 ≡ count a
  pub turns_count : length box.turns ≡ count a
  pub spans : (i : ℕ) → HasLink a i → IsSpanOf (root_span a i) (loop_span box i)
  pub ranks_order : (i : ℕ) → HasSignal a i → (turn_span box i).least ≤ (turn_span box i).most
  pub ranks_most : (i : ℕ) → HasSignal a i → (turn_span box i).most < shift_count a i

-- ---- timings of a box
-- the block sum of link i is a whole number of its span
pub record LoopIn (a : Street) (box : Area) (t : TimingRecord) (i : ℕ) : Type 0 where
  pub number : ℤ
  pub is : block_sum a (point a t) i ≡ whole number
  pub least : (loop_span box i).least ≤ℤ number
  pub most : number ≤ℤ (loop_span box i).most

-- the shift of signal i has a rank of its span
pub record TurnIn (a : Street) (box : Area) (t : TimingRecord) (i : ℕ) : Type 0 where
  pub rank : ℕ
  pub is : shift_at a i rank ≡ shift a (base t) i
  pub least : (turn_span box i).least ≤ rank
  pub most : rank ≤ (turn_span box i).most

pub record InBox (a : Street) (box : Area) (t : TimingRecord) : Type 0 where
  pub loops : (i : ℕ) → HasLink a i → LoopIn a box t i
  pub turns : (i : ℕ) → HasSignal a i → TurnIn a box t i

-- ---- the parts of a box at a place
-- a block sum, or a rank, that leaves something on both sides
abbrev pub IsLoopPlace : Area → ℕ → ℤ → Type 0
IsLoopPlace box i at = (1 ≤ i) × (i ≤ length box.loops) × ((loop_span box i).least ≤ℤ at) × (at <ℤ (loop_span box i).most)

abbrev pub IsTurnPlace : Area → ℕ → ℕ → Type 0
IsTurnPlace box i rank = (1 ≤ i) × (i ≤ length box.turns) × ((turn_span box i).least ≤ rank) × (rank < (turn_span box i).most)

-- with another span for link i, or for signal i
abbrev pub with_loop : Area → ℕ → Span → Area
with_loop box i s = record { loops = slice_set box.loops (i - 1) s; turns = box.turns }

abbrev pub with_turn : Area → ℕ → Ranks → Area
with_turn box i r = record { loops = box.loops; turns = slice_set box.turns (i - 1) r }

-- up to a block sum or a rank, and from the next on
abbrev pub low_loop : Area → ℕ → ℤ → Area
low_loop box i at = with_loop box i (record { least = (loop_span box i).least; most = at })

abbrev pub high_loop : Area → ℕ → ℤ → Area
high_loop box i at = with_loop box i (record { least = at +ℤ pos 1; most = (loop_span box i).most })

abbrev pub low_turn : Area → ℕ → ℕ → Area
low_turn box i rank = with_turn box i (record { least = (turn_span box i).least; most = rank })

abbrev pub high_turn : Area → ℕ → ℕ → Area
high_turn box i rank = with_turn box i (record { least = rank + 1; most = (turn_span box i).most })
