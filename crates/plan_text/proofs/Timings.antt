-- The two laws of the text of a timing and of its parts: what is read is spelled so, and what is spelled so is read.
use Rattle.std.proofs.Common.{◌≡◌, ℕ, ◌+◌, ◌-◌, ◌<◌, ◌≤◌, ◌^◌, List, [], ◌∷◌, ◌++◌, map, length, get_or, All, Result, Ok, Err, refl, sym, ap, subst, ◌∙◌, arith}
use Rattle.std.specs.Prelude.{ℤ, pos, unsigned_abs, IfOk, slice_index}
use Rattle.std.specs.List.{AllByRecursion}
use Rattle.std.proofs.lemmas.List.Elements.{All-from_recursion, recursion_from_All}
use Rattle.progression.specs.BaseRecord.{BaseRecord}
use Rattle.progression.specs.TimingRecord.{TimingRecord, base, banded}
use Rattle.time_space.specs.Timing.{AreOfBase, base_of}
use Rattle.plan_text.specs.declared.fault.TextEnd.{TextEnd}
use Rattle.plan_text.specs.declared.lines.NumberLine.{NumberLine}
use Rattle.plan_text.specs.Spelling.{spelled, head_line, grid_key, unit_key, pattern_key, red_key, run_out_key, run_in_key, first_key}
use Rattle.plan_text.specs.Spelling.{band_key, end_line, base_lines, firsts_line, number_lines, timing_text, IsHeldBase, IsHeldFirst, IsHeld}
use Rattle.plan_text.specs.Lines.{◌>>=◌, Gives, fixed_at, nothing_at, numbers_at}
use Rattle.plan_text.specs.Reading.{place_of, pattern_place, scale_at, signals_at, both_ways_at, pair_at, base_at, timing_at, timing_of}
use Rattle.plan_text.specs.TimingTexts.{one_band}
use Rattle.plan_text.proofs.WordLines.{ended_and}
use Rattle.plan_text.proofs.TextLaws.{IsTextOf}
use Rattle.plan_text.proofs.Fields.{bind_ok, ok_is, moved, fixed_takes, fixed_again, nothing_takes, numbers_take, numbers_again, IsKey, Suits, IsWithin}

-- ---- numbers at a place

abbrev pub IsSmall : ℕ → Type 0
IsSmall n = n < 2 ^ 80

one_of : (line least : ℕ) (ns : List ℕ) → Suits (place_of line 1 least) ns → (ns ≡ slice_index ns 0 ∷ []) × (least ≤ slice_index ns 0) × IsSmall (slice_index ns 0)
one_of line least [] s = let f = s.fewest in absurd (omega arith)
one_of line least (n ∷ []) s = (refl, s.each.0.least, s.each.0.limit)
one_of line least (n ∷ m ∷ ns) s = let f = s.most in absurd (omega arith)

two_of : (line : ℕ) (ns : List ℕ) → Suits (place_of line 2 0) ns → (ns ≡ slice_index ns 0 ∷ slice_index ns 1 ∷ []) × IsSmall (slice_index ns 0) × IsSmall (slice_index ns 1)
two_of line [] s = let f = s.fewest in absurd (omega arith)
two_of line (n ∷ []) s = let f = s.fewest in absurd (omega arith)
two_of line (n ∷ m ∷ []) s = (refl, s.each.0.limit, s.each.1.0.limit)
two_of line (n ∷ m ∷ k ∷ ns) s = let f = s.most in absurd (omega arith)

small_by : (place : NumberLine) (ns : List ℕ) → AllByRecursion (IsWithin place) ns → AllByRecursion IsSmall ns
small_by place [] fits = tt
small_by place (n ∷ ns) fits = (fits.0.limit, small_by place ns fits.1)

pub small_of : (place : NumberLine) (ns : List ℕ) → Suits place ns → All IsSmall ns
small_of place ns s = All-from_recursion IsSmall ns (small_by place ns s.each)

patterns_by : (line : ℕ) (ns : List ℕ) → AllByRecursion (IsWithin (pattern_place line)) ns → AllByRecursion (λ p. (1 ≤ p) × (p ≤ 4)) ns
patterns_by line [] fits = tt
patterns_by line (n ∷ ns) fits = ((fits.0.least, fits.0.greatest), patterns_by line ns fits.1)

within_small : (line count least n : ℕ) → least ≤ n → IsSmall n → IsWithin (place_of line count least) n
within_small line count least n low small = record { least = low; greatest = omega arith; limit = small }

within_by : (line count : ℕ) (ns : List ℕ) → AllByRecursion IsSmall ns → AllByRecursion (IsWithin (place_of line count 0)) ns
within_by line count [] small = tt
within_by line count (n ∷ ns) small = (within_small line count 0 n (omega arith) small.0, within_by line count ns small.1)

pub suits_small : (line : ℕ) (ns : List ℕ) (count : ℕ) → length ns ≡ count → All IsSmall ns → Suits (place_of line count 0) ns
suits_small line ns count len small = record { fewest = omega arith; most = omega arith; each = within_by line count ns (recursion_from_All IsSmall ns small) }

suits_one : (line least n : ℕ) → least ≤ n → IsSmall n → Suits (place_of line 1 least) (n ∷ [])
suits_one line least n low small = record { fewest = omega arith; most = omega arith; each = (within_small line 1 least n low small, tt) }

suits_two : (line n m : ℕ) → IsSmall n → IsSmall m → Suits (place_of line 2 0) (n ∷ m ∷ [])
suits_two line n m first second = record { fewest = omega arith; most = omega arith; each = (within_small line 2 0 n (omega arith) first, (within_small line 2 0 m (omega arith) second, tt)) }

pattern_within : (line : ℕ) (ns : List ℕ) → AllByRecursion (λ p. (1 ≤ p) × (p ≤ 4)) ns → AllByRecursion (IsWithin (pattern_place line)) ns
pattern_within line [] each = tt
pattern_within line (n ∷ ns) each = (record { least = each.0.0; greatest = each.0.1; limit = omega arith }, pattern_within line ns each.1)

-- ---- what the groups of lines are

record ScaleOf (bytes : List ℕ) (x : ℕ × ℕ × List ℕ) : Type 0 where
  parts : bytes ≡ spelled grid_key (x.0 ∷ []) ++ 10 ∷ (spelled unit_key (x.1 ∷ []) ++ 10 ∷ x.2)
  grid_least : 1 ≤ x.0
  grid_most : IsSmall x.0
  unit_least : 2 ≤ x.1
  unit_most : IsSmall x.1

record SignalsOf (line : ℕ) (bytes : List ℕ) (x : List ℕ × List ℕ × List ℕ) : Type 0 where
  parts : bytes ≡ spelled pattern_key x.0 ++ 10 ∷ (spelled red_key x.1 ++ 10 ∷ x.2)
  patterns : Suits (pattern_place line) x.0
  reds : Suits (place_of (line + 1) (length x.0) 0) x.1

pub record WaysOf (out_key in_key : List ℕ) (line links : ℕ) (bytes : List ℕ) (x : List ℕ × List ℕ × List ℕ) : Type 0 where
  pub parts : bytes ≡ spelled out_key x.0 ++ 10 ∷ (spelled in_key x.1 ++ 10 ∷ x.2)
  pub outbound : Suits (place_of line links 0) x.0
  pub inbound : Suits (place_of (line + 1) links 0) x.1

-- two numbers in a line with a key
pub record PairOf (key bytes : List ℕ) (x : ℕ × ℕ × List ℕ) : Type 0 where
  pub parts : bytes ≡ spelled key (x.0 ∷ x.1 ∷ []) ++ 10 ∷ x.2
  pub first : IsSmall x.0
  pub second : IsSmall x.1

scale_takes : (line : ℕ) (bytes : List ℕ) (x : ℕ × ℕ × List ℕ) → scale_at line bytes ≡ Ok x → ScaleOf bytes x
unfolding scale_at
scale_takes line bytes x e =
    let b = bind_ok (numbers_at grid_key (place_of line 1 1) bytes) (λ grid. numbers_at unit_key (place_of (line + 1) 1 2) grid.1 >>= λ unit. Ok
    (slice_index grid.0 0, slice_index unit.0 0, unit.1)) x e in
    let d = bind_ok (numbers_at unit_key (place_of (line + 1) 1 2) b.0.1) (λ unit. Ok (slice_index b.0.0 0, slice_index unit.0 0, unit.1)) x b.2 in
    let grid = numbers_take grid_key (place_of line 1 1) bytes b.0 b.1 in
    let unit = numbers_take unit_key (place_of (line + 1) 1 2) b.0.1 d.0 d.1 in
    let g = one_of line 1 b.0.0 grid.1 in
    let u = one_of (line + 1) 2 d.0.0 unit.1 in
    let second : b.0.1 ≡ spelled unit_key (slice_index d.0.0 0 ∷ []) ++ 10 ∷ d.0.1 = unit.0 ∙ ap (λ (ns : List ℕ). spelled unit_key ns ++ 10 ∷ d.0.1) u.0 in
    let first : bytes ≡ spelled grid_key (slice_index b.0.0 0 ∷ []) ++ 10 ∷ b.0.1 = grid.0 ∙ ap (λ (ns : List ℕ). spelled grid_key ns ++ 10 ∷ b.0.1) g.0 in
    let made : ℕ × ℕ × List ℕ = (slice_index b.0.0 0, slice_index d.0.0 0, d.0.1) in
    moved (ScaleOf bytes) made x d.2 (record {
      parts = first ∙ ap (λ (r : List ℕ). spelled grid_key (slice_index b.0.0 0 ∷ []) ++ 10 ∷ r) second;
      grid_least = g.1;
      grid_most = g.2;
      unit_least = u.1;
      unit_most = u.2;
    })

signals_take : (line : ℕ) (bytes : List ℕ) (x : List ℕ × List ℕ × List ℕ) → signals_at line bytes ≡ Ok x → SignalsOf line bytes x
unfolding signals_at
signals_take line bytes x e =
    let a = bind_ok (numbers_at pattern_key (pattern_place line) bytes) (λ patterns. numbers_at red_key (place_of (line + 1) (length patterns.0) 0)
    patterns.1 >>= λ reds. Ok (patterns.0, reds.0, reds.1)) x e in
    let b = bind_ok (numbers_at red_key (place_of (line + 1) (length a.0.0) 0) a.0.1) (λ reds. Ok (a.0.0, reds.0, reds.1)) x a.2 in
    let patterns = numbers_take pattern_key (pattern_place line) bytes a.0 a.1 in
    let reds = numbers_take red_key (place_of (line + 1) (length a.0.0) 0) a.0.1 b.0 b.1 in
    let made : List ℕ × List ℕ × List ℕ = (a.0.0, b.0.0, b.0.1) in
    moved (SignalsOf line bytes) made x b.2 (record {
      parts = patterns.0 ∙ ap (λ (r : List ℕ). spelled pattern_key a.0.0 ++ 10 ∷ r) reds.0;
      patterns = patterns.1;
      reds = reds.1;
    })

pub ways_take : (out_key in_key : List ℕ) (line links : ℕ) (bytes : List ℕ) (x : List ℕ × List ℕ × List ℕ) → both_ways_at out_key in_key line links bytes ≡ Ok x
    → WaysOf out_key in_key line links bytes x
unfolding both_ways_at
ways_take out_key in_key line links bytes x e =
    let a = bind_ok (numbers_at out_key (place_of line links 0) bytes) (λ outbound. numbers_at in_key (place_of (line + 1) links 0) outbound.1 >>=
    λ inbound. Ok (outbound.0, inbound.0, inbound.1)) x e in
    let b = bind_ok (numbers_at in_key (place_of (line + 1) links 0) a.0.1) (λ inbound. Ok (a.0.0, inbound.0, inbound.1)) x a.2 in
    let outbound = numbers_take out_key (place_of line links 0) bytes a.0 a.1 in
    let inbound = numbers_take in_key (place_of (line + 1) links 0) a.0.1 b.0 b.1 in
    let made : List ℕ × List ℕ × List ℕ = (a.0.0, b.0.0, b.0.1) in
    moved (WaysOf out_key in_key line links bytes) made x b.2 (record {
      parts = outbound.0 ∙ ap (λ (r : List ℕ). spelled out_key a.0.0 ++ 10 ∷ r) inbound.0;
      outbound = outbound.1;
      inbound = inbound.1;
    })

pub pair_takes : (key : List ℕ) (line : ℕ) (bytes : List ℕ) (x : ℕ × ℕ × List ℕ) → pair_at key line bytes ≡ Ok x → PairOf key bytes x
unfolding pair_at
pair_takes key line bytes x e =
    let a = bind_ok (numbers_at key (place_of line 2 0) bytes) (λ pair. Ok (slice_index pair.0 0, slice_index pair.0 1, pair.1)) x e in
    let pair = numbers_take key (place_of line 2 0) bytes a.0 a.1 in
    let two = two_of line a.0.0 pair.1 in
    let made : ℕ × ℕ × List ℕ = (slice_index a.0.0 0, slice_index a.0.0 1, a.0.1) in
    moved (PairOf key bytes) made x a.2 (record {
      parts = pair.0 ∙ ap (λ (ns : List ℕ). spelled key ns ++ 10 ∷ a.0.1) two.0;
      first = two.1;
      second = two.2;
    })

-- two numbers that were read are small
pub pair_small : (key : List ℕ) (line : ℕ) (bytes ns rest : List ℕ) → numbers_at key (place_of line 2 0) bytes ≡ Ok (ns, rest) → (k d : ℕ) → k < 2 → get_or ns k d < 2 ^ 80
pair_small key line bytes ns rest e k d lt =
    let suits = (numbers_take key (place_of line 2 0) bytes (ns, rest) e).1 in
    let few = suits.fewest in
    small_of (place_of line 2 0) ns suits k d (omega (arith, lt, few))

-- ---- the lines of a base

fits : (line : ℕ) (b0 b1 b2 : List ℕ) (s : ℕ × ℕ × List ℕ) (g r : List ℕ × List ℕ × List ℕ) → scale_at line b0 ≡ Ok s
    → signals_at (line + 2) b1 ≡ Ok g → both_ways_at run_out_key run_in_key (line + 4) (length g.0 - 1) b2 ≡ Ok r → AreOfBase s.0 s.1 g.0 g.1 r.0 r.1
fits line b0 b1 b2 s g r es eg er =
    let scale = scale_takes line b0 s es in
    let signals = signals_take (line + 2) b1 g eg in
    let runs = ways_take run_out_key run_in_key (line + 4) (length g.0 - 1) b2 r er in
    let p = signals.patterns in
    let q = signals.reds in
    let o = runs.outbound in
    let i = runs.inbound in
    record {
      grid_least = scale.grid_least;
      grid_most = scale.grid_most;
      unit_least = scale.unit_least;
      unit_most = scale.unit_most;
      few = p.fewest;
      many = p.most;
      reds_count = omega (arith, q.fewest, q.most);
      run_out_count = omega (arith, p.fewest, o.fewest, o.most);
      run_in_count = omega (arith, p.fewest, i.fewest, i.most);
      patterns_each = All-from_recursion (λ p. (1 ≤ p) × (p ≤ 4)) g.0 (patterns_by (line + 2) g.0 p.each);
      reds_each = small_of (place_of (line + 2 + 1) (length g.0) 0) g.1 q;
      run_out_each = small_of (place_of (line + 4) (length g.0 - 1) 0) r.0 o;
      run_in_each = small_of (place_of (line + 4 + 1) (length g.0 - 1) 0) r.1 i;
    }

-- the numbers that the code read
pub base_fits : (line grid unit : ℕ) (bytes after rest more patterns reds run_out run_in : List ℕ) → scale_at line bytes ≡ Ok (grid, unit, after)
    → signals_at (line + 2) after ≡ Ok (patterns, reds, rest) → both_ways_at run_out_key run_in_key (line + 4) (length patterns - 1) rest ≡ Ok (run_out, run_in, more)
    → AreOfBase grid unit patterns reds run_out run_in
base_fits line grid unit bytes after rest more patterns reds run_out run_in = fits line bytes after rest (grid, unit, after) (patterns, reds, rest) (run_out, run_in, more)

pub abs_pos : (ns : List ℕ) → map unsigned_abs (map pos ns) ≡ ns
abs_pos [] = refl
abs_pos (n ∷ ns) = ap (λ (x : List ℕ). n ∷ x) (abs_pos ns)

-- a base whose numbers are in their ranges is held
pub base_is_held : (b : BaseRecord) (reds : List ℕ) → AreOfBase b.grid b.unit b.patterns reds b.run_out b.run_in → map pos reds ≡ b.reds → IsHeldBase b
base_is_held b reds ranges is =
    let reds_are : reds ≡ map unsigned_abs b.reds = sym (abs_pos reds) ∙ ap (map unsigned_abs) is in
    record { ranges = rw (← reds_are) ranges; reds = sym is ∙ ap (map pos) reds_are }

-- a small tick from 0 on is held
pub first_is_held : (n : ℕ) → IsSmall n → IsHeldFirst (pos n)
first_is_held n small = record { most = small; least = refl }

-- what the six lines are, and that the program can hold a base of them
pub record BaseOf (bytes : List ℕ) (x : BaseRecord × List ℕ) : Type 0 where
  pub parts : bytes ≡ ended_and (base_lines x.0) x.1
  pub held : IsHeldBase x.0

pub base_takes : (line : ℕ) (bytes : List ℕ) (x : BaseRecord × List ℕ) → base_at line bytes ≡ Ok x → BaseOf bytes x
unfolding base_at
base_takes line bytes x e =
    let a = bind_ok (scale_at line bytes) (λ s. signals_at (line + 2) s.2 >>= λ g. both_ways_at run_out_key run_in_key (line + 4) (length g.0 - 1) g.2
    >>= λ r. Ok (base_of s.0 s.1 g.0 g.1 r.0 r.1, r.2)) x e in
    let s = a.0 in
    let c = bind_ok (signals_at (line + 2) s.2) (λ g. both_ways_at run_out_key run_in_key (line + 4) (length g.0 - 1) g.2
    >>= λ r. Ok (base_of s.0 s.1 g.0 g.1 r.0 r.1, r.2)) x a.2 in
    let g = c.0 in
    let d = bind_ok (both_ways_at run_out_key run_in_key (line + 4) (length g.0 - 1) g.2) (λ r. Ok (base_of s.0 s.1 g.0 g.1 r.0 r.1, r.2)) x c.2 in
    let r = d.0 in
    let scale = scale_takes line bytes s a.1 in
    let signals = signals_take (line + 2) s.2 g c.1 in
    let runs = ways_take run_out_key run_in_key (line + 4) (length g.0 - 1) g.2 r d.1 in
    let second = signals.parts ∙ (λ i. spelled pattern_key g.0 ++ 10 ∷ (spelled red_key (sym (abs_pos g.1) i) ++ 10 ∷ runs.parts i)) in
    moved (BaseOf bytes) (base_of s.0 s.1 g.0 g.1 r.0 r.1, r.2) x d.2 (record {
      parts = scale.parts ∙ ap (λ (y : List ℕ). spelled grid_key (s.0 ∷ []) ++ 10 ∷ (spelled unit_key (s.1 ∷ []) ++ 10 ∷ y)) second;
      held = base_is_held (base_of s.0 s.1 g.0 g.1 r.0 r.1) g.1 (fits line bytes s.2 g.2 s g r a.1 c.1 d.1) refl;
    })

-- ---- the eight lines

pub timing_numbers_take : (line : ℕ) (bytes : List ℕ) (x : TimingRecord × List ℕ) → timing_at line bytes ≡ Ok x → IsTextOf one_band bytes x
unfolding timing_at
timing_numbers_take line bytes x e =
    let a = bind_ok (base_at line bytes) (λ b. pair_at first_key (line + 6) b.1 >>= λ first. pair_at band_key (line + 7) first.2 >>= λ band. Ok
    (banded (pos first.0) band.0 (pos first.1) band.1 b.0, band.2)) x e in
    let b = a.0 in
    let c = bind_ok (pair_at first_key (line + 6) b.1) (λ first. pair_at band_key (line + 7) first.2 >>= λ band. Ok
    (banded (pos first.0) band.0 (pos first.1) band.1 b.0, band.2)) x a.2 in
    let f = c.0 in
    let d = bind_ok (pair_at band_key (line + 7) f.2) (λ band. Ok (banded (pos f.0) band.0 (pos f.1) band.1 b.0, band.2)) x c.2 in
    let own = base_takes line bytes b a.1 in
    let first = pair_takes first_key (line + 6) b.1 f c.1 in
    let band = pair_takes band_key (line + 7) f.2 d.0 d.1 in
    let later = first.parts ∙ ap (λ (y : List ℕ). firsts_line (pos f.0) (pos f.1) ++ 10 ∷ y) band.parts in
    moved (IsTextOf one_band bytes) (banded (pos f.0) d.0.0 (pos f.1) d.0.1 b.0, d.0.2) x d.2 (record {
      parts = own.parts ∙ ap (ended_and (base_lines b.0)) later;
      held = record {
        base = own.held;
        first_out = first_is_held f.0 first.first;
        first_in = first_is_held f.1 first.second;
        band_out = band.first;
        band_in = band.second;
      };
    })

-- the whole text, and that the program can hold the timing
pub timing_takes : (bytes : List ℕ) (t : TimingRecord) → timing_of bytes ≡ Ok t → (bytes ≡ timing_text t) × IsHeld t
unfolding timing_of
timing_takes bytes t e =
    let a = bind_ok (fixed_at 1 head_line bytes) (λ rest. timing_at 2 rest >>= λ timing. fixed_at 10 end_line timing.1 >>= λ more. nothing_at 11 more >>= λ nothing. Ok timing.0) t e in
    let b = bind_ok (timing_at 2 a.0) (λ timing. fixed_at 10 end_line timing.1 >>= λ more. nothing_at 11 more >>= λ nothing. Ok timing.0) t a.2 in
    let d = bind_ok (fixed_at 10 end_line b.0.1) (λ more. nothing_at 11 more >>= λ nothing. Ok b.0.0) t b.2 in
    let f = bind_ok (nothing_at 11 d.0) (λ nothing. Ok b.0.0) t d.2 in
    let last : b.0.1 ≡ end_line ++ 10 ∷ [] = fixed_takes 10 end_line b.0.1 d.0 d.1 ∙ ap (λ (r : List ℕ). end_line ++ 10 ∷ r) (nothing_takes 11 d.0 f.0 f.1) in
    let numbers = timing_numbers_take 2 a.0 b.0 b.1 in (
      fixed_takes 1 head_line bytes a.0 a.1
          ∙ ap (λ (y : List ℕ). head_line ++ 10 ∷ y) (numbers.parts ∙ ap (ended_and (number_lines b.0.0)) last)
          ∙ ap timing_text (ok_is b.0.0 t f.2),
      moved IsHeld b.0.0 t f.2 numbers.held,
    )

-- ---- and again

scale_again : (line grid unit : ℕ) (rest : List ℕ) → 1 ≤ grid → IsSmall grid → 2 ≤ unit → IsSmall unit
    → scale_at line (spelled grid_key (grid ∷ []) ++ 10 ∷ (spelled unit_key (unit ∷ []) ++ 10 ∷ rest)) ≡ Ok (grid, unit, rest)
unfolding scale_at
scale_again line grid unit rest low small least few =
    let second = numbers_again unit_key (place_of (line + 1) 1 2) (unit ∷ []) rest (record { spaces = refl; feeds = refl }) (suits_one (line + 1) 2 unit least few) in
    let first = numbers_again grid_key (place_of line 1 1) (grid ∷ []) (spelled unit_key (unit ∷ []) ++ 10 ∷ rest) (record { spaces = refl; feeds = refl }) (suits_one line 1 grid low small) in
    rw (first, second) refl

signals_again : (line : ℕ) (patterns reds rest : List ℕ) → Suits (pattern_place line) patterns → Suits (place_of (line + 1) (length patterns) 0) reds
    → signals_at line (spelled pattern_key patterns ++ 10 ∷ (spelled red_key reds ++ 10 ∷ rest)) ≡ Ok (patterns, reds, rest)
unfolding signals_at
signals_again line patterns reds rest p r =
    let second = numbers_again red_key (place_of (line + 1) (length patterns) 0) reds rest (record { spaces = refl; feeds = refl }) r in
    let first = numbers_again pattern_key (pattern_place line) patterns (spelled red_key reds ++ 10 ∷ rest) (record { spaces = refl; feeds = refl }) p in
    rw (first, second) refl

pub ways_again : (out_key in_key : List ℕ) (line links : ℕ) (outbound inbound rest : List ℕ) → IsKey out_key → IsKey in_key → Suits (place_of line links 0) outbound
    → Suits (place_of (line + 1) links 0) inbound
    → both_ways_at out_key in_key line links (spelled out_key outbound ++ 10 ∷ (spelled in_key inbound ++ 10 ∷ rest)) ≡ Ok (outbound, inbound, rest)
unfolding both_ways_at
ways_again out_key in_key line links outbound inbound rest k l o i =
    let second = numbers_again in_key (place_of (line + 1) links 0) inbound rest l i in
    let first = numbers_again out_key (place_of line links 0) outbound (spelled in_key inbound ++ 10 ∷ rest) k o in
    rw (first, second) refl

pair_again : (key : List ℕ) (line first second : ℕ) (rest : List ℕ) → IsKey key → IsSmall first → IsSmall second
    → pair_at key line (spelled key (first ∷ second ∷ []) ++ 10 ∷ rest) ≡ Ok (first, second, rest)
unfolding pair_at
pair_again key line first second rest is f s = rw (numbers_again key (place_of line 2 0) (first ∷ second ∷ []) rest is (suits_two line first second f s)) refl

-- its numbers make a held base
held_base : (b : BaseRecord) → IsHeldBase b → base_of b.grid b.unit b.patterns (map unsigned_abs b.reds) b.run_out b.run_in ≡ b
held_base b held = rw (← held.reds) refl

pub base_again : (line : ℕ) (b : BaseRecord) (rest : List ℕ) → IsHeldBase b → base_at line (ended_and (base_lines b) rest) ≡ Ok (b, rest)
unfolding base_at
base_again line b rest held =
    let k = held.ranges in
    let reds = map unsigned_abs b.reds in
    let links = length b.patterns - 1 in
    let rest2 = spelled run_out_key b.run_out ++ 10 ∷ (spelled run_in_key b.run_in ++ 10 ∷ rest) in
    let rest1 = spelled pattern_key b.patterns ++ 10 ∷ (spelled red_key reds ++ 10 ∷ rest2) in
    let p : Suits (pattern_place (line + 2)) b.patterns =
    record { fewest = k.few; most = k.many; each = pattern_within (line + 2) b.patterns (recursion_from_All (λ p. (1 ≤ p) × (p ≤ 4)) b.patterns k.patterns_each) } in
    let first = scale_again line b.grid b.unit rest1 k.grid_least k.grid_most k.unit_least k.unit_most in
    let second = signals_again (line + 2) b.patterns reds rest2 p (suits_small (line + 2 + 1) reds (length b.patterns) k.reds_count k.reds_each) in
    let third = ways_again run_out_key run_in_key (line + 4) links b.run_out b.run_in rest (record { spaces = refl; feeds = refl })
    (record { spaces = refl; feeds = refl }) (suits_small (line + 4) b.run_out links (omega arith) k.run_out_each) (suits_small (line + 4 + 1) b.run_in links (omega arith) k.run_in_each) in
    rw (first, second, third) (ap (λ (c : BaseRecord). Ok (c, rest)) (held_base b held))

pub firsts_again : (line : ℕ) (first_out first_in : ℤ) (rest : List ℕ) → IsHeldFirst first_out → IsHeldFirst first_in
    → pair_at first_key line (firsts_line first_out first_in ++ 10 ∷ rest) ≡ Ok (unsigned_abs first_out, unsigned_abs first_in, rest)
firsts_again line first_out first_in rest out in' = pair_again first_key line (unsigned_abs first_out) (unsigned_abs first_in) rest (record { spaces = refl; feeds = refl }) out.most in'.most

pub timing_numbers_again : (line : ℕ) (t : TimingRecord) (rest : List ℕ) → IsHeld t → timing_at line (ended_and (number_lines t) rest) ≡ Ok (t, rest)
unfolding timing_at
timing_numbers_again line t rest held =
    let rest2 = spelled band_key (t.band_out ∷ t.band_in ∷ []) ++ 10 ∷ rest in
    let first = base_again line (base t) (firsts_line t.first_out t.first_in ++ 10 ∷ rest2) held.base in
    let second = firsts_again (line + 6) t.first_out t.first_in rest2 held.first_out held.first_in in
    let third = pair_again band_key (line + 7) t.band_out t.band_in rest (record { spaces = refl; feeds = refl }) held.band_out held.band_in in
    rw (first, second, third) (λ i. Ok (banded (sym held.first_out.least i) t.band_out (sym held.first_in.least i) t.band_in (base t), rest))

pub timing_again : (t : TimingRecord) → IsHeld t → timing_of (timing_text t) ≡ Ok t
unfolding timing_of nothing_at
timing_again t held =
    let first = fixed_again 1 head_line (ended_and (number_lines t) (end_line ++ 10 ∷ [])) refl in
    let second = timing_numbers_again 2 t (end_line ++ 10 ∷ []) held in
    let third = fixed_again 10 end_line [] refl in
    rw (first, second, third) refl

pub is_found : (bytes : List ℕ) (r : Result TimingRecord TextEnd) → Gives (λ t. t) r (timing_of bytes) → IfOk r (λ t. bytes ≡ timing_text t)
is_found bytes (Ok t) given = (timing_takes bytes t given).0
is_found bytes (Err e) given = tt
