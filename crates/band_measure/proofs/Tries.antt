-- One edge more: what it gives is the best so far, or what was held stays the best.
use Rattle.std.proofs.Common.{◌≡◌, ℕ, pos, ◌+◌, ◌<◌, ◌≤◌, inl, inr, sym, subst, arith}
use Rattle.std.specs.Prelude.{Option, None, Some, MatchOption, IfSome}
use Rattle.std.proofs.lemmas.Bool.{cases_lt}
use Rattle.progression.specs.Street.{Street, count}
use Rattle.progression.specs.BaseRecord.{BaseRecord, cycle}
use Rattle.progression.specs.declared.parts.Dir.{Dir}
use Rattle.artery_model.specs.Valid.{IsValid}
use Rattle.progression.specs.Lines.{RunsOn}
use Rattle.band_measure.specs.Edges.{edge}
use Rattle.band_measure.specs.Widest.{NoneRuns, IsWidest}
use Rattle.band_measure.specs.Widths.{IsWidestFrom}
use Rattle.band_measure.specs.Tried.{NoneAtEdges, IsWidestOfEdges, FoundOfEdges}
use Rattle.band_measure.specs.declared.pair.Widest.{Widest}
use Rattle.band_measure.proofs.AllGrids.{none_runs, widest_is, runs_once, band_below}

module _ (a : Street) (t : BaseRecord) (d : Dir) (n : ℕ) where
  one_more : (P : ℕ → Type 0) → ((k : ℕ) → k < n → P k) → P n → (k : ℕ) → k < n + 1 → P k
  one_more P f p k l = elim (cases_lt k n) [ inl h ↦ f k h | inr h ↦ let e : n ≡ k = omega arith in subst P e p ]

  none_more : ((b : ℕ) → ¬ RunsOn a t d (pos (edge a t d n)) b) → NoneAtEdges a t d n → NoneAtEdges a t d (n + 1)
  none_more f h = λ k b l. one_more (λ j. ¬ RunsOn a t d (pos (edge a t d j)) b) (λ j i. h j b i) (f b) k l

  -- an edge at which no band starts changes nothing
  pub held_past_none : (found : Option Widest) (x : ℕ) → x ≡ edge a t d n → ((b : ℕ) → ¬ RunsOn a t d (pos x) b) → FoundOfEdges a t d n found → FoundOfEdges a t d (n + 1) found
  held_past_none None x e f h = none_more (subst (λ y. (b : ℕ) → ¬ RunsOn a t d (pos y) b) e f) h
  held_past_none (Some w) x e f h = let g = subst (λ y. (b : ℕ) → ¬ RunsOn a t d (pos y) b) e f in record {
    runs = h.runs;
    below = h.below;
    widest = λ k b l. one_more (λ j. RunsOn a t d (pos (edge a t d j)) b → b ≤ w.band) (λ j i. h.widest j b i) (λ r. absurd (g b r)) k l;
    least = one_more (λ j. RunsOn a t d (pos (edge a t d j)) w.band → w.first ≤ edge a t d j) h.least (λ r. absurd (g w.band r));
  }

  -- the first edge at which a band starts
  pub first_found : (x band : ℕ) → x ≡ edge a t d n → x < cycle a t → IsWidestFrom a t d (pos x) band → NoneAtEdges a t d n → IsWidestOfEdges a t d (n + 1) x band
  first_found x band e l f h = record {
    runs = f.runs;
    below = l;
    widest = λ k b i. one_more (λ j. RunsOn a t d (pos (edge a t d j)) b → b ≤ band) (λ j o r. absurd (h j b o r)) (λ r. f.most b (subst (λ y. RunsOn a t d (pos y) b) (sym e) r)) k i;
    least = one_more (λ j. RunsOn a t d (pos (edge a t d j)) band → x ≤ edge a t d j) (λ j o r. absurd (h j band o r)) (λ r. omega (arith, e));
  }

  module _ (x band first held : ℕ) (e : x ≡ edge a t d n) (f : IsWidestFrom a t d (pos x) band) (h : IsWidestOfEdges a t d n first held) where
    -- the edge gives a better one
    pub better_found : x < cycle a t → (held ≤ band) × (band ≡ held → x ≤ first) → IsWidestOfEdges a t d (n + 1) x band
    better_found l c = let wide = c.0 in record {
      runs = f.runs;
      below = l;
      widest = λ k b i. one_more (λ j. RunsOn a t d (pos (edge a t d j)) b → b ≤ band) (λ j o r. let w = h.widest j b o r in omega arith)
          (λ r. f.most b (subst (λ y. RunsOn a t d (pos y) b) (sym e) r)) k i;
      least = one_more (λ j. RunsOn a t d (pos (edge a t d j)) band → x ≤ edge a t d j)
          (λ j o r.
          let w = h.widest j band o r in
          let same : band ≡ held = omega arith in
          let p = c.1 same in
          let q = h.least j o (subst (λ b. RunsOn a t d (pos (edge a t d j)) b) same r) in
          omega arith)
          (λ r. omega (arith, e));
    }

    -- it gives none that is better
    pub better_held : (band ≤ held) × (band ≡ held → first ≤ x) → IsWidestOfEdges a t d (n + 1) first held
    better_held c = let wide = c.0 in record {
      runs = h.runs;
      below = h.below;
      widest = λ k b i. one_more (λ j. RunsOn a t d (pos (edge a t d j)) b → b ≤ held) (λ j o. h.widest j b o) (λ r. let w =
          f.most b (subst (λ y. RunsOn a t d (pos y) b) (sym e) r) in omega arith) k i;
      least = one_more (λ j. RunsOn a t d (pos (edge a t d j)) held → first ≤ edge a t d j)
          h.least
          (λ r.
          let w = f.most held (subst (λ y. RunsOn a t d (pos y) held) (sym e) r) in
          let p = c.1 (omega arith) in
          omega (arith, e, p));
    }

-- where there is a widest pair, not no pair runs
pub some_run : (a : Street) (t : BaseRecord) (d : Dir) (found : Option Widest) → IsValid a → 2 ≤ t.unit → FoundOfEdges a t d (count a) found → IfSome found (λ (w : Widest). ¬ NoneRuns a t d)
some_run a t d None h u f = tt
some_run a t d (Some w) h u f = λ n. n 1 (pos w.first) w.band (omega arith) (runs_once a t h u d (pos w.first) w.band f.runs)

pub first_below_cycle : (a : Street) (t : BaseRecord) (d : Dir) (found : Option Widest) → FoundOfEdges a t d (count a) found → IfSome found (λ (w : Widest). w.first < cycle a t)
first_below_cycle a t d None f = tt
first_below_cycle a t d (Some w) f = f.below

pub band_below_cycle : (a : Street) (t : BaseRecord) (d : Dir) (found : Option Widest) → IsValid a → 2 ≤ t.unit → FoundOfEdges a t d (count a) found
    → IfSome found (λ (w : Widest). w.band < cycle a t)
band_below_cycle a t d None h u f = tt
band_below_cycle a t d (Some w) h u f = band_below a t h u d (pos w.first) w.band f.runs

-- the best of all edges is the best of all
pub widest_of_edges : (a : Street) (t : BaseRecord) (d : Dir) (found : Option Widest) → IsValid a → 2 ≤ t.unit → FoundOfEdges a t d (count a) found
    → MatchOption found (NoneRuns a t d) (λ (w : Widest). IsWidest a t d w.first w.band)
widest_of_edges a t d None h u f = none_runs a t h u d f
widest_of_edges a t d (Some w) h u f = widest_is a t h u d w.first w.band f
