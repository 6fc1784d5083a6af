-- Finer grids bring nothing: the widest band of all grids begins, on this grid, at the end of a red.
use Rattle.std.proofs.Common.{◌≡◌, ℕ, ℤ, pos, ◌+ℤ◌, ◌-ℤ◌, ◌*ℤ◌, ◌*◌, ◌<◌, ◌≤◌, sym, subst, arith, inl, inr}
use Rattle.std.proofs.Math.Nat.{mul-le-mul_right}
use Rattle.std.proofs.lemmas.Bool.{cases_lt}
use Rattle.std.proofs.lemmas.Int.{ints}
use Rattle.progression.specs.Street.{Street, count}
use Rattle.progression.specs.BaseRecord.{BaseRecord, cycle}
use Rattle.progression.proofs.Remainders.{quot_ℤ, split_ℤ, mod_unique}
use Rattle.progression.specs.declared.parts.Dir.{Dir}
use Rattle.artery_model.specs.Valid.{IsValid}
use Rattle.time_space.specs.Finer.{finer_base}
use Rattle.band_measure.specs.Pairs.{FinerPairs}
use Rattle.progression.specs.Lines.{RunsOn}
use Rattle.band_measure.specs.Edges.{way, red_end, edge}
use Rattle.band_measure.specs.Widest.{NoneRuns, IsWidest, OneWidest}
use Rattle.band_measure.specs.Tried.{NoneAtEdges, IsWidestOfEdges}
use Rattle.time_space.proofs.Scale.{minus_scale}
use Rattle.band_measure.proofs.Gaps.{Gap, gap_turn}
use Rattle.band_measure.proofs.Coarse.{Reach, reach, gap_times, gap_untimed}
use Rattle.band_measure.proofs.Lines.{seen, long, long_least, gaps_of, runs_from, finer_gaps, finer_runs}

once : (z : ℤ) → z *ℤ pos 1 ≡ z
once z = omega (arith, ints)

-- a gap is one on the grid that is once as fine
pub gap_once : (c red : ℕ) (s x : ℤ) (b : ℕ) → Gap c s red x b → Gap (c * 1) (s *ℤ pos 1) (red * 1) x b
gap_once c red s x b g =
    let e : c * 1 ≡ c = omega arith in
    let f : red * 1 ≡ red = omega arith in
    let i : s *ℤ pos 1 ≡ s = once s in
    rw (e, f, i) g

module _ (a : Street) (t : BaseRecord) (h : IsValid a) (u : 2 ≤ t.unit) (d : Dir) where
  some_cycle : 0 < cycle a t
  some_cycle = let p = h.least_parts in grind arith

  -- the end of the j-th red, seen from the first crossing
  abbrev shown : ℕ → ℤ
  shown j = seen a t d j +ℤ pos (long a t d j)

  abbrev cycles : ℕ → ℤ
  cycles j = quot_ℤ (red_end a t d j -ℤ way a t d j) (cycle a t)

  -- the edge is the end of the red, some cycles away
  edge_is : (j : ℕ) → pos (edge a t d j) ≡ shown j +ℤ (pos 0 -ℤ cycles j) *ℤ pos (cycle a t)
  edge_is j =
      let z = red_end a t d j -ℤ way a t d j in
      let e = split_ℤ z (cycle a t) some_cycle in
      let f = minus_scale (pos 0) (cycles j) (cycle a t) in
      omega (arith, ints, e, f)

  -- and each first from 0 to cycle - 1 that is it is the edge
  edge_unique : (j x : ℕ) (turns : ℤ) → pos x ≡ shown j +ℤ turns *ℤ pos (cycle a t) → x < cycle a t → edge a t d j ≡ x
  edge_unique j x turns e l =
      let z = red_end a t d j -ℤ way a t d j in
      let f = minus_scale (pos 0) turns (cycle a t) in
      mod_unique z (pos 0 -ℤ turns) (cycle a t) x (omega (arith, ints, e, f)) l

  -- what lies in the gaps from the end of a red runs from its edge
  edge_runs : (j b : ℕ) → ((k : ℕ) → k < count a → Gap (cycle a t) (seen a t d k) (long a t d k) (shown j) b) → RunsOn a t d (pos (edge a t d j)) b
  edge_runs j b g = runs_from a t h u d (pos (edge a t d j)) b
      (λ k l. gap_turn (cycle a t) (long a t d k) (seen a t d k) (shown j) b (g k l) (pos (edge a t d j)) (pos 0 -ℤ cycles j) (edge_is j))

  reached : (m : ℕ) (x : ℤ) (b : ℕ) → 1 ≤ m → ((k : ℕ) → k < count a → Gap (cycle a t * m) (seen a t d k *ℤ pos m) (long a t d k * m) x b)
      → Reach (cycle a t) m (seen a t d) (long a t d) x b (count a)
  reached m x b q g = reach (cycle a t) m (seen a t d) (long a t d) x b (count a) (let n = h.few in omega arith) q g

  pub none_runs : NoneAtEdges a t d (count a) → NoneRuns a t d
  none_runs n m x b q g =
      let r = reached m x b q (finer_gaps a t h u d m x b q g) in
      n r.touch.at r.width r.touch.on (edge_runs r.touch.at r.width r.gaps)

  widest_runs : (first band : ℕ) → IsWidestOfEdges a t d (count a) first band → (m : ℕ) (x : ℤ) (b : ℕ) → 1 ≤ m → RunsOn a (finer_base m t) d x b → b ≤ m * band
  widest_runs first band o m x b q g =
      let r = reached m x b q (finer_gaps a t h u d m x b q g) in
      let w = o.widest r.touch.at r.width r.touch.on (edge_runs r.touch.at r.width r.gaps) in
      let v : r.width * m ≤ band * m = mul-le-mul_right m w in
      let wide = r.wide in
      omega (arith, v, wide)

  least_below : (first band : ℕ) → IsWidestOfEdges a t d (count a) first band → (x : ℕ) → x < cycle a t → RunsOn a t d (pos x) band → first ≤ x
  least_below first band o x l g =
      let n : cycle a t * 1 ≡ cycle a t = omega arith in
      let r = reached 1 (pos x) band (omega arith) (λ k p. gap_once (cycle a t) (long a t d k) (seen a t d k) (pos x) band (gaps_of a t h u d (pos x) band g k p)) in
      let w = o.widest r.touch.at r.width r.touch.on (edge_runs r.touch.at r.width r.gaps) in
      let wide = r.wide in
      let same : r.width ≡ band = omega (arith, w, wide) in
      let none : r.touch.back ≡ 0 = omega (arith, w, wide) in
      let one = once (seen a t d r.touch.at) in
      let ends = rw (n, none, one) at r.touch.ends in
      let e : edge a t d r.touch.at ≡ x = edge_unique r.touch.at x r.touch.turns (omega (arith, ints, ends)) l in
      let at_edge : first ≤ edge a t d r.touch.at = o.least r.touch.at r.touch.on (subst (λ b. RunsOn a t d (pos (edge a t d r.touch.at)) b) same (edge_runs r.touch.at r.width r.gaps)) in
      omega (arith, e, at_edge)

  pub widest_is : (first band : ℕ) → IsWidestOfEdges a t d (count a) first band → IsWidest a t d first band
  widest_is first band o = let below = o.below in record {
    runs = o.runs;
    below = o.below;
    widest = widest_runs first band o;
    least = λ x g. elim (cases_lt x (cycle a t)) [ inl l ↦ least_below first band o x l g | inr l ↦ omega arith ];
  }

  -- a band that runs is less wide than the cycle
  pub band_below : (x : ℤ) (b : ℕ) → RunsOn a t d x b → b < cycle a t
  band_below x b g =
      let some : 0 < count a = let n = h.few in omega arith in
      let red = long_least a t h u d 0 some in
      let gap = gaps_of a t h u d x b g 0 some in
      let free = gap.free in
      let within = gap.within in
      omega arith

  -- a pair runs on the grid that is once as fine
  pub runs_once : (x : ℤ) (b : ℕ) → RunsOn a t d x b → RunsOn a (finer_base 1 t) d x b
  runs_once x b g = finer_runs a t h u d 1 x b (omega arith) (λ k l. gap_once (cycle a t) (long a t d k) (seen a t d k) x b (gaps_of a t h u d x b g k l))

pub finer_pairs : FinerPairs
finer_pairs a t d m x b h u q = (
  (λ g. finer_runs a t h u d m (x *ℤ pos m) (b * m) q (λ k l. gap_times (cycle a t) (long a t d k) m b (seen a t d k) x (gaps_of a t h u d x b g k l))),
  (λ g. runs_from a t h u d x b (λ k l. gap_untimed (cycle a t) (long a t d k) m b (seen a t d k) x q (finer_gaps a t h u d m (x *ℤ pos m) (b * m) q g k l))),
)

pub one_widest : OneWidest
one_widest a t d f b g c h u p q =
    let more = p.widest 1 (pos g) c (omega arith) (runs_once a t h u d (pos g) c q.runs) in
    let less = q.widest 1 (pos f) b (omega arith) (runs_once a t h u d (pos f) b p.runs) in
    let same : b ≡ c = omega (arith, more, less) in
    let one = p.least g (subst (λ w. RunsOn a t d (pos g) w) (sym same) q.runs) in
    let other = q.least f (subst (λ w. RunsOn a t d (pos f) w) same p.runs) in
    ((let e : f ≡ g = omega arith in e), same)
