-- The two parts of a box at a place.
use Rattle.std.specs.Prelude.{◌↔◌, ◌⊎◌, ◌≡◌, ℕ, ◌-◌, ◌≤◌, ◌^◌, ℤ, pos, ◌≤ℤ◌, ◌<ℤ◌, unsigned_abs, List, length, slice_index, slice_index_or, All}
use Rattle.progression.specs.Street.{Street}
use Rattle.progression.specs.TimingRecord.{TimingRecord}
use Rattle.linear_theory.specs.Boxes.{Area, IsBoxOf, IsSpanOf, InBox, IsLoopPlace, IsTurnPlace, low_loop, high_loop, low_turn, high_turn, Span, Ranks, loop_span, turn_span, with_loop, with_turn, root_box}
use Rattle.search_box.specs.declared.span.At.{At}
use Rattle.search_box.specs.declared.span.At.TheVariants.{Loop, Turn}

-- the link or signal is there, and something of its span lies on both sides
abbrev pub IsPlace : Area → At → Type 0
IsPlace box (Loop i at) = IsLoopPlace box i at
IsPlace box (Turn i rank) = IsTurnPlace box i rank

abbrev pub low_part : Area → At → Area
low_part box (Loop i at) = low_loop box i at
low_part box (Turn i rank) = low_turn box i rank

abbrev pub high_part : Area → At → Area
high_part box (Loop i at) = high_loop box i at
high_part box (Turn i rank) = high_turn box i rank

-- a place's own number
abbrev pub number_at : At → ℤ
number_at (Loop i at) = at
number_at (Turn i rank) = pos rank

-- ---- the span of a place's link or signal; the place's own number plays no part in it
-- the link or signal is there
abbrev pub HasSpan : Area → At → Type 0
HasSpan box (Loop i at) = (1 ≤ i) × (i ≤ length box.loops)
HasSpan box (Turn i rank) = (1 ≤ i) × (i ≤ length box.turns)

-- ranks are whole numbers here, like block sums
abbrev pub span_at : Area → At → Span
span_at box (Loop i at) = loop_span box i
span_at box (Turn i rank) = record { least = pos (turn_span box i).least; most = pos (turn_span box i).most }

-- the same box with another span there
abbrev pub with_span : Area → At → Span → Area
with_span box (Loop i at) s = with_loop box i s
with_span box (Turn i rank) s = with_turn box i (record { least = unsigned_abs s.least; most = unsigned_abs s.most })

-- both ends are numbers of 32 bits from 0 on; at a signal they have to be
abbrev pub AreRanks : Span → Type 0
AreRanks s = (pos 0 ≤ℤ s.least) × (s.least <ℤ pos (2 ^ 32)) × (pos 0 ≤ℤ s.most) × (s.most <ℤ pos (2 ^ 32))

abbrev pub FitsAt : At → Span → Type 0
FitsAt (Loop i at) s = Unit {0}
FitsAt (Turn i rank) s = AreRanks s

-- it is the root box's span there, or is not empty and lies within it
abbrev pub IsSpanAt : Street → At → Span → Type 0
IsSpanAt a place s = IsSpanOf (span_at (root_box a) place) s

-- a block sum within a span, and a rank within ranks
pub record IsWithin (s : Span) (sum : ℤ) : Type 0 where
  pub least : s.least ≤ℤ sum
  pub most : sum ≤ℤ s.most

pub record IsRanked (s : Ranks) (rank : ℕ) : Type 0 where
  pub least : s.least ≤ rank
  pub most : rank ≤ s.most

-- The box holds this list of block sums, one for each link, and this list of ranks, one for each signal.
pub record HoldsLists (box : Area) (sums : List ℤ) (ranks : List ℕ) : Type 0 where
  pub sums_count : length sums ≡ length box.loops
  pub ranks_count : length ranks ≡ length box.turns
  pub each_sum : (i : ℕ) → 1 ≤ i → i ≤ length box.loops → IsWithin (loop_span box i) (slice_index_or sums (i - 1) (pos 0))
  pub each_rank : (i : ℕ) → 1 ≤ i → i ≤ length box.turns → IsRanked (turn_span box i) (slice_index ranks (i - 1))

-- Two parts hold exactly the lists of block sums and ranks that the box holds, and none is in both.
pub record ShareLists (box low high : Area) : Type 0 where
  pub whole : (sums : List ℤ) (ranks : List ℕ) → HoldsLists box sums ranks ↔ (HoldsLists low sums ranks ⊎ HoldsLists high sums ranks)
  pub apart : (sums : List ℤ) (ranks : List ℕ) → HoldsLists low sums ranks → HoldsLists high sums ranks → ⊥

-- Two parts hold exactly the timings that the box holds, and none is in both; and so with the lists.
pub record AreParts (a : Street) (box low high : Area) : Type 0 where
  pub low_box : IsBoxOf a low
  pub high_box : IsBoxOf a high
  pub whole : (t : TimingRecord) → InBox a box t ↔ (InBox a low t ⊎ InBox a high t)
  pub apart : (t : TimingRecord) → InBox a low t → InBox a high t → ⊥
  pub lists : ShareLists box low high

-- every span has one number
abbrev pub IsSingle : Area → Type 0
IsSingle box = All (λ s. s.least ≡ s.most) box.loops × All (λ r. r.least ≡ r.most) box.turns
