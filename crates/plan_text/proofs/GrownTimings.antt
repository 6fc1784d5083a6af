-- The text of a timing, and the same with more bytes.
use Rattle.std.proofs.Common.{◌≡◌, ℕ, ◌+◌, ◌-◌, ◌≤◌, List, ◌++◌, length, Result, Ok, refl, ap, subst, arith}
use Rattle.std.specs.Prelude.{pos, slice_index}
use Rattle.progression.specs.BaseRecord.{BaseRecord}
use Rattle.progression.specs.TimingRecord.{TimingRecord, banded}
use Rattle.time_space.specs.Timing.{base_of}
use Rattle.plan_text.specs.declared.fault.BadText.{BadText}
use Rattle.plan_text.specs.declared.lines.NumberLine.{NumberLine}
use Rattle.plan_text.specs.Spelling.{grid_key, unit_key, pattern_key, red_key, run_out_key, run_in_key, first_key, band_key}
use Rattle.plan_text.specs.Lines.{◌>>=◌, numbers_at}
use Rattle.plan_text.specs.Reading.{place_of, pattern_place, scale_at, signals_at, both_ways_at, pair_at, base_at, timing_at}
use Rattle.plan_text.specs.FirstBad.{lines_in}
use Rattle.plan_text.proofs.Grown.{Part, Grows, Reaches, reaches_then, grows_by, after_line, one_and, two_and, numbers_grow, numbers_later}

-- ---- readers one after another

-- what reads on from a line, after a part that was read: the same with more bytes, and where it begins after the last line
pub record ReadsOn {X Y : Type 0} (p : Part X) (line : ℕ) (q : Part Y) (read : X → Result Y BadText) : Type 0 where
  pub grows : (last : ℕ) (x : X) (z : List ℕ) → line + lines_in (p.rest x) ≡ last → Grows q last z (read x) (read (p.more z x))
  pub later : (last : ℕ) (x : X) → last ≤ line → Reaches q last (read x)

-- what reads bytes
abbrev pub Reads : {Y : Type 0} → ℕ → Part Y → (List ℕ → Result Y BadText) → Type 0
Reads line q read = ReadsOn (after_line line) line q read

-- what follows a part is read
pub reads_rest : {X Y : Type 0} (p : Part X) (line : ℕ) (q : Part Y) (read : X → List ℕ → Result Y BadText) → ((x : X) → Reads line q (read x))
    → ((x : X) (z : List ℕ) → read x (p.rest x ++ z) ≡ read (p.more z x) (p.rest (p.more z x))) → ReadsOn p line q (λ x. read x (p.rest x))
reads_rest p line q read reads same = record {
  grows = λ last x z e. subst (λ s. Grows q last z (read x (p.rest x)) s) (same x z) ((reads x).grows last (p.rest x) z e);
  later = λ last x here. (reads x).later last (p.rest x) here;
}

-- and something is made of it
pub reads_made : {X Y Z : Type 0} (p : Part X) (line : ℕ) (m : Part Y) (q : Part Z) (read : X → Result Y BadText) (make : X → Y → Z) → ReadsOn p line m read
    → ((x : X) (y : Y) → q.next (make x y) ≡ m.next y) → ((x : X) (y : Y) → q.rest (make x y) ≡ m.rest y) → ((x : X) (y : Y) (z : List ℕ) → make (p.more z x) (m.more z y) ≡ q.more z (make x y))
    → ReadsOn p line q (λ x. read x >>= λ y. Ok (make x y))
reads_made p line m q read make reads next rest more = record {
  grows = λ last x z e. grows_by m q last z (read x) (read (p.more z x)) (λ y. Ok (make x y)) (λ y. Ok (make (p.more z x) y)) (reads.grows last x z e)
      (λ y is end. (rw (next x y, rest x y) end, ap (λ v. Ok v) (more x y z)))
      (λ y here. rw (next (p.more z x) y) here);
  later = λ last x here. reaches_then m q last (read x) (λ y. Ok (make x y)) (reads.later last x here) (λ y before. rw (next x y) before);
}

-- one reader after another, which sees of the part before both only what more bytes leave as it is
pub reads_then : {X Y Z : Type 0} (p : Part X) (line : ℕ) (m : Part Y) (next : ℕ) (q : Part Z) (first : X → Result Y BadText) (second : X → Y → Result Z BadText)
    → ReadsOn p line m first → ((x : X) → ReadsOn m next q (second x))
    → ((y : Y) → m.next y ≡ next) → ((x : X) (z : List ℕ) → second x ≡ second (p.more z x)) → ReadsOn p line q (λ x. first x >>= second x)
reads_then p line m next q first second one two there same = record {
  grows = λ last x z e. grows_by m q last z (first x) (first (p.more z x)) (second x) (second (p.more z x)) (one.grows last x z e)
      (λ y is end. let n = there y in subst (λ (s : _ → Result _ BadText). Grows q last z (second x y) (s (m.more z y))) (same x z) ((two x).grows last y z (omega (arith, end, n))))
      (λ y here. let n = there y in (two (p.more z x)).later last y (omega (arith, here, n)));
  later = λ last x here. reaches_then m q last (first x) (second x) (one.later last x here) (λ y before. let n = there y in (two x).later last y (omega (arith, before, n)));
}

-- ---- lines of numbers

numbers_read : (key : List ℕ) (place : NumberLine) → Reads place.line (one_and (place.line + 1)) (numbers_at key place)
numbers_read key place = record { grows = λ last bytes z e. numbers_grow last key place bytes z e; later = λ last bytes here. numbers_later last key place bytes here }

-- two such lines, with something of the numbers of each
two_read : {A B : Type 0} (f : List ℕ → A) (g : List ℕ → B) (line : ℕ) (one : List ℕ → Result (List ℕ × List ℕ) BadText) (two : List ℕ → List ℕ → Result (List ℕ × List ℕ) BadText)
    → Reads line (one_and (line + 1)) one
    → ((a : List ℕ) → Reads (line + 1) (one_and (line + 1 + 1)) (two a)) → Reads line (two_and (line + 2)) (λ bytes. one bytes >>= λ a. two a.0 a.1 >>= λ b. Ok (f a.0, g b.0, b.1))
two_read f g line one two first second =
    reads_then (after_line line) line (one_and (line + 1)) (line + 1) (two_and (line + 2)) one (λ bytes a. two a.0 a.1 >>= λ b. Ok (f a.0, g b.0, b.1)) first
    (λ bytes. reads_made (one_and (line + 1)) (line + 1) (one_and (line + 1 + 1)) (two_and (line + 2)) (λ a. two a.0 a.1) (λ a b. (f a.0, g b.0, b.1))
    (reads_rest (one_and (line + 1)) (line + 1) (one_and (line + 1 + 1)) (λ a. two a.0) (λ a. second a.0) (λ a z. refl)) (λ a b. omega arith) (λ a b. refl) (λ a b z. refl))
    (λ a. refl) (λ bytes z. refl)

scale_read : (line : ℕ) → Reads line (two_and (line + 2)) (scale_at line)
unfolding scale_at
scale_read line = two_read (λ a. slice_index a 0) (λ b. slice_index b 0) line (numbers_at grid_key (place_of line 1 1)) (λ a. numbers_at unit_key (place_of (line + 1) 1 2))
    (numbers_read grid_key (place_of line 1 1)) (λ a. numbers_read unit_key (place_of (line + 1) 1 2))

signals_read : (line : ℕ) → Reads line (two_and (line + 2)) (signals_at line)
unfolding signals_at
signals_read line =
    two_read (λ a. a) (λ b. b) line (numbers_at pattern_key (pattern_place line)) (λ a. numbers_at red_key (place_of (line + 1) (length a) 0))
    (numbers_read pattern_key (pattern_place line)) (λ a. numbers_read red_key (place_of (line + 1) (length a) 0))

pub ways_read : (out_key in_key : List ℕ) (line links : ℕ) → Reads line (two_and (line + 2)) (both_ways_at out_key in_key line links)
unfolding both_ways_at
ways_read out_key in_key line links = two_read (λ a. a) (λ b. b) line (numbers_at out_key (place_of line links 0)) (λ a. numbers_at in_key (place_of (line + 1) links 0))
    (numbers_read out_key (place_of line links 0)) (λ a. numbers_read in_key (place_of (line + 1) links 0))

pub pair_read : (key : List ℕ) (line : ℕ) → Reads line (two_and (line + 1)) (pair_at key line)
unfolding pair_at
pair_read key line =
    reads_made (after_line line) line (one_and (line + 1)) (two_and (line + 1)) (numbers_at key (place_of line 2 0)) (λ bytes a. (slice_index a.0 0, slice_index a.0 1, a.1))
    (numbers_read key (place_of line 2 0)) (λ x y. refl) (λ x y. refl) (λ x y z. refl)

-- ---- the lines of a base

abbrev Scale : Type 0
Scale = ℕ × ℕ × List ℕ

abbrev Lists : Type 0
Lists = List ℕ × List ℕ × List ℕ

abbrev Based : Type 0
Based = BaseRecord × List ℕ

abbrev base_is : Scale → Lists → Lists → Based
base_is scale signals runs = (base_of scale.0 scale.1 signals.0 signals.1 runs.0 runs.1, runs.2)

abbrev from_runs : ℕ → Scale → Lists → Result Based BadText
from_runs line scale signals = both_ways_at run_out_key run_in_key (line + 4) (length signals.0 - 1) signals.2 >>= λ runs. Ok (base_is scale signals runs)

abbrev from_signals : ℕ → Scale → Result Based BadText
from_signals line scale = signals_at (line + 2) scale.2 >>= from_runs line scale

runs_read : (line : ℕ) (scale : Scale) → ReadsOn (two_and (line + 2 + 2)) (line + 4) (one_and (line + 6)) (from_runs line scale)
runs_read line scale =
    let ways : Lists → List ℕ → Result Lists BadText = λ signals. both_ways_at run_out_key run_in_key (line + 4) (length signals.0 - 1) in
    let read = reads_rest (two_and (line + 2 + 2)) (line + 4) (two_and (line + 4 + 2)) ways (λ signals. ways_read run_out_key run_in_key (line + 4) (length signals.0 - 1)) (λ signals z. refl) in
    reads_made (two_and (line + 2 + 2)) (line + 4) (two_and (line + 4 + 2)) (one_and (line + 6)) (λ signals. ways signals signals.2) (base_is scale) read
    (λ signals runs. omega arith) (λ signals runs. refl) (λ signals runs z. refl)

later_read : (line : ℕ) → ReadsOn (two_and (line + 2)) (line + 2) (one_and (line + 6)) (from_signals line)
later_read line =
    reads_then (two_and (line + 2)) (line + 2) (two_and (line + 2 + 2)) (line + 4) (one_and (line + 6)) (λ scale. signals_at (line + 2) scale.2) (from_runs line)
    (reads_rest (two_and (line + 2)) (line + 2) (two_and (line + 2 + 2)) (λ scale. signals_at (line + 2)) (λ scale. signals_read (line + 2)) (λ scale z. refl))
    (runs_read line) (λ signals. omega arith) (λ scale z. refl)

pub base_read : (line : ℕ) → Reads line (one_and (line + 6)) (base_at line)
unfolding base_at
base_read line = reads_then (after_line line) line (two_and (line + 2)) (line + 2) (one_and (line + 6)) (scale_at line) (λ bytes. from_signals line)
    (scale_read line) (λ bytes. later_read line) (λ scale. refl) (λ bytes z. refl)

-- and the line after them
pub firsts_read : (line : ℕ) → ReadsOn (one_and (line + 6)) (line + 6) (two_and (line + 6 + 1)) (λ (b : Based). pair_at first_key (line + 6) b.1)
firsts_read line = reads_rest (one_and (line + 6)) (line + 6) (two_and (line + 6 + 1)) (λ b. pair_at first_key (line + 6)) (λ b. pair_read first_key (line + 6)) (λ b z. refl)

-- ---- the eight lines

abbrev Pair : Type 0
Pair = ℕ × ℕ × List ℕ

abbrev from_firsts : ℕ → Based → Pair → Result (TimingRecord × List ℕ) BadText
from_firsts line b first = pair_at band_key (line + 7) first.2 >>= λ band. Ok (banded (pos first.0) band.0 (pos first.1) band.1 b.0, band.2)

abbrev from_base : ℕ → Based → Result (TimingRecord × List ℕ) BadText
from_base line b = pair_at first_key (line + 6) b.1 >>= from_firsts line b

bands_read : (line : ℕ) (b : Based) → ReadsOn (two_and (line + 6 + 1)) (line + 7) (one_and (line + 8)) (from_firsts line b)
bands_read line b =
    reads_made (two_and (line + 6 + 1)) (line + 7) (two_and (line + 7 + 1)) (one_and (line + 8)) (λ first. pair_at band_key (line + 7) first.2)
    (λ first band. (banded (pos first.0) band.0 (pos first.1) band.1 b.0, band.2))
    (reads_rest (two_and (line + 6 + 1)) (line + 7) (two_and (line + 7 + 1)) (λ first. pair_at band_key (line + 7)) (λ first. pair_read band_key (line + 7)) (λ first z. refl))
    (λ first band. omega arith) (λ first band. refl) (λ first band z. refl)

numbers_after : (line : ℕ) → ReadsOn (one_and (line + 6)) (line + 6) (one_and (line + 8)) (from_base line)
numbers_after line =
    reads_then (one_and (line + 6)) (line + 6) (two_and (line + 6 + 1)) (line + 7) (one_and (line + 8)) (λ b. pair_at first_key (line + 6) b.1) (from_firsts line)
    (firsts_read line) (bands_read line) (λ first. omega arith) (λ b z. refl)

pub timing_read : (line : ℕ) → Reads line (one_and (line + 8)) (timing_at line)
unfolding timing_at
timing_read line = reads_then (after_line line) line (one_and (line + 6)) (line + 6) (one_and (line + 8)) (base_at line) (λ bytes. from_base line)
    (base_read line) (λ bytes. numbers_after line) (λ b. refl) (λ bytes z. refl)
