-- Bands as far as the first signal, and one signal further.
use Rattle.std.proofs.Common.{◌≡◌, ℕ, zero, suc, ℤ, pos, ◌+ℤ◌, ◌-ℤ◌, ◌+◌, ◌<◌, ◌≤◌, ◌≢◌, refl, sym}
use Rattle.std.proofs.Common.{◌∙◌, subst, arith, inl, inr, List, length, get_or, set, Option, None, Some, get_or-set_other, get_or-set_same, length-set}
use Rattle.std.specs.Prelude.{MatchOption, IfSome, slice_index_or}
use Rattle.std.proofs.lemmas.Int.{ints}
use Rattle.std.proofs.lemmas.Bool.{cases_lt}
use Rattle.progression.specs.Green.{BandIsGreen}
use Rattle.band_measure.specs.Widths.{IsWidestGreen}
use Rattle.band_measure.proofs.WidestGreens.{narrower}
use Rattle.band_measure.proofs.Gaps.{gap_from_green}
use Rattle.free_band.specs.Way.{Way, IsProper, RunsTo, NoneRuns, IsWidest, crossing}
use Rattle.free_band.specs.Rays.{Same, ray, Chain}
use Rattle.free_band.specs.Cells.{run_of, at_place, IsCell, NoCell, Comes, IsPick, NoPick, IsBest, NoBest, BestOf}
use Rattle.free_band.specs.declared.way.FreeBand.{FreeBand}
use Rattle.free_band.specs.declared.rows.Pick.{Pick}
use Rattle.free_band.proofs.Same.{same_of, same_back, same_then, same_plus, green_same}
use Rattle.free_band.proofs.Push.{moved_left}

-- runs that are the same before a place lead there alike
pub crossing_alike : (w : Way) (first : ℤ) (run other : ℕ → ℕ) (i : ℕ) → ((k : ℕ) → k < i → run k ≡ other k) → crossing w first run i ≡ crossing w first other i
crossing_alike w first run other zero h = refl
crossing_alike w first run other (suc i) h =
    let e = crossing_alike w first run other i (λ k l. h k (omega arith)) in
    let f = h i (omega arith) in
    omega (arith, ints, e, f)

module _ (w : Way) (v : IsProper w) (i j to : ℕ) (on : i < w.count) (s : Same w.cycle (pos to) (ray w j i)) where
  some : 0 < w.cycle
  some = let h = v.shorter i on in omega arith

  -- what crosses the place with the ray is green there from this tick on
  green_to : (x : ℕ → ℤ) (by : ℕ → ℕ) (b : ℕ) → Chain w i x by b → by i ≡ j → BandIsGreen w.cycle (w.start i) (w.red i) (pos to) b
  green_to x by b c e =
      let p = subst (λ k. Same w.cycle (x i) (ray w k i)) e (c.place i (omega arith)) in
      green_same w.cycle (w.red i) b (w.start i) (x i) (pos to) some (same_then w.cycle (x i) (ray w j i) (pos to) p (same_back w.cycle (pos to) (ray w j i) s)) (c.green i (omega arith))

  pub no_width_cell : ((b : ℕ) → ¬ BandIsGreen w.cycle (w.start i) (w.red i) (pos to) b) → NoCell w i j
  no_width_cell none x by b c e = none b (green_to x by b c e)

  pub width_most : (wide : ℕ) → IsWidestGreen w.cycle (w.start i) (w.red i) (pos to) wide → (x : ℕ → ℤ) (by : ℕ → ℕ) (b : ℕ) → Chain w i x by b → by i ≡ j → b ≤ wide
  width_most wide r x by b c e = r.most b (green_to x by b c e)

-- ---- the first signal
pub first_is : (w : Way) (v : IsProper w) (j to band : ℕ) (runs : List ℕ) → length runs ≡ 24 → to < w.cycle → Same w.cycle (pos to) (ray w j 0)
    → IsWidestGreen w.cycle (w.start 0) (w.red 0) (pos to) band
    → IsCell w 0 j (record { first = to; band = band; runs = runs })
first_is w v j to band runs n l s r = record {
  front = record {
    first = l;
    places = n;
    runs = record {
      least = λ i h. absurd (omega arith);
      most = λ i h. absurd (omega arith);
      green = λ i h. let e : 0 ≡ i = omega arith in
          subst (λ k. BandIsGreen w.cycle (w.start k) (w.red k) (crossing w (pos to) (λ n. get_or runs n 0) k) band) e r.green;
    };
  };
  place = s;
  most = width_most w v 0 j to v.some s band r;
}

-- ---- one signal further
module _ (w : Way) (v : IsProper w) (few : w.count ≤ 24) (i j to : ℕ) (on : suc i < w.count) (s : Same w.cycle (pos to) (ray w j (suc i))) where
  front_chain : (x : ℕ → ℤ) (by : ℕ → ℕ) (b : ℕ) → Chain w (suc i) x by b → by (suc i) ≡ j → Comes w i to x by b
  front_chain x by b c e = record {
    chain = record {
      on = λ k h. c.on k (omega arith);
      place = λ k h. c.place k (omega arith);
      step = λ k h. c.step k (omega arith);
      green = λ k h. c.green k (omega arith);
    };
    next = x (suc i);
    step = c.step i (omega arith);
    place = same_then w.cycle (x (suc i)) (ray w j (suc i)) (pos to) (subst (λ k. Same w.cycle (x (suc i)) (ray w k (suc i))) e (c.place (suc i) (omega arith)))
        (same_back w.cycle (pos to) (ray w j (suc i)) s);
  }

  pub no_pick_cell : NoPick w i to w.count → NoCell w (suc i) j
  no_pick_cell none x by b c e = none x by b (front_chain x by b c e) (c.on i (omega arith))

  module _ (row : List (Option FreeBand)) (p : Pick) (cell : FreeBand) (q : IsPick w row i to w.count p) (is : slice_index_or row p.from None ≡ Some cell)
      (f : IsCell w i p.from cell) (wide band : ℕ) (r : IsWidestGreen w.cycle (w.start (suc i)) (w.red (suc i)) (pos to) wide)
      (one : band ≤ wide) (other : band ≤ cell.band) (top : (b : ℕ) → b ≤ wide → b ≤ cell.band → b ≤ band) where
    abbrev run : ℕ
    run = w.least i + p.late

    abbrev new : FreeBand
    new = record { first = cell.first; band = band; runs = set cell.runs i run }

    run_before : (k : ℕ) → k < i → run_of new k ≡ run_of cell k
    run_before k h = let ne : k ≢ i = omega arith in get_or-set_other cell.runs i k run 0 ne

    run_here : run_of new i ≡ run
    run_here = let n = f.front.places in let long : i < length cell.runs = omega (arith, n, few, on) in get_or-set_same cell.runs i run 0 long

    at_before : (k : ℕ) → k ≤ i → at_place w new k ≡ at_place w cell k
    at_before k h = crossing_alike w (pos cell.first) (run_of new) (run_of cell) k (λ n l. run_before n (omega arith))

    at_here : at_place w new (suc i) ≡ at_place w cell i +ℤ (pos run -ℤ pos (w.clear i))
    at_here = let e = at_before i (omega arith) in let g = run_here in omega (arith, ints, e, g)

    at_to : Same w.cycle (at_place w new (suc i)) (pos to)
    at_to =
        let a = same_plus w.cycle (at_place w cell i) (ray w p.from i) (pos run -ℤ pos (w.clear i)) (pos run -ℤ pos (w.clear i)) f.place
        (same_of w.cycle (pos run -ℤ pos (w.clear i)) (pos run -ℤ pos (w.clear i)) refl) in
        let b = same_then w.cycle (at_place w cell i +ℤ (pos run -ℤ pos (w.clear i))) (ray w p.from i +ℤ (pos run -ℤ pos (w.clear i))) (pos to) a q.place in
        same_then w.cycle (at_place w new (suc i)) (at_place w cell i +ℤ (pos run -ℤ pos (w.clear i))) (pos to)
        (same_of w.cycle (at_place w new (suc i)) (at_place w cell i +ℤ (pos run -ℤ pos (w.clear i))) at_here) b

    cell_band : cell.band ≡ p.band
    cell_band = let e : Some cell ≡ Some q.cell = sym is ∙ q.is in let g = q.band in cc

    some_cycle : 0 < w.cycle
    some_cycle = let h = v.shorter (suc i) on in omega arith

    green_new : (k : ℕ) → k < suc (suc i) → BandIsGreen w.cycle (w.start k) (w.red k) (at_place w new k) band
    green_new k h = elim (cases_lt k (suc i)) [
      | inl l ↦ subst (λ x. BandIsGreen w.cycle (w.start k) (w.red k) x band) (sym (at_before k (omega arith)))
          (narrower w.cycle (w.start k) (w.red k) (at_place w cell k) cell.band band other (f.front.runs.green k l))
      | inr l ↦ let e : suc i ≡ k = omega arith in subst (λ n. BandIsGreen w.cycle (w.start n) (w.red n) (at_place w new n) band) e
          (green_same w.cycle (w.red (suc i)) band (w.start (suc i)) (pos to) (at_place w new (suc i)) some_cycle (same_back w.cycle (at_place w new (suc i)) (pos to) at_to)
          (narrower w.cycle (w.start (suc i)) (w.red (suc i)) (pos to) wide band one r.green))
    ]

    least_new : (k : ℕ) → k + 1 < suc (suc i) → w.least k ≤ run_of new k
    least_new k h = elim (cases_lt k i) [
      | inl l ↦ let e = run_before k l in let g = f.front.runs.least k (omega arith) in omega (arith, e, g)
      | inr l ↦ let e : i ≡ k = omega arith in subst (λ n. w.least n ≤ run_of new n) e (let g = run_here in omega (arith, g))
    ]

    most_new : (k : ℕ) → k + 1 < suc (suc i) → run_of new k ≤ w.most k
    most_new k h = elim (cases_lt k i) [
      | inl l ↦ let e = run_before k l in let g = f.front.runs.most k (omega arith) in omega (arith, e, g)
      | inr l ↦ let e : i ≡ k = omega arith in subst (λ n. run_of new n ≤ w.most n) e (let g = run_here in let m = q.late in omega (arith, g, m))
    ]

    pub next_is : IsCell w (suc i) j new
    next_is = record {
      front = record { first = f.front.first; places = let n = f.front.places in simp length-set n; runs = record { least = least_new; most = most_new; green = green_new } };
      place = same_then w.cycle (at_place w new (suc i)) (pos to) (ray w j (suc i)) at_to s;
      most = λ x by b c e.
          let g = q.most x by b (front_chain x by b c e) (c.on i (omega arith)) in
          let same = cell_band in
          top b (width_most w v (suc i) j to on s wide r x by b c e) (omega (arith, g, same));
    }

-- ---- all signals
pub none_is : (w : Way) (v : IsProper w) (i : ℕ) → i + 1 ≡ w.count → NoBest w i w.count → NoneRuns w
none_is w v i e none first run b g = let m = moved_left w v first run b g i (omega (arith, e)) in none m.x m.by b m.chain (m.chain.on i (omega arith))

pub widest_is : (w : Way) (v : IsProper w) (i : ℕ) (f : FreeBand) → i + 1 ≡ w.count → IsBest w i w.count f → IsWidest w (pos f.first) (run_of f) f.band
widest_is w v i f e h = record {
  runs = let n : suc i ≡ w.count = omega (arith, e) in subst (λ k. RunsTo w k (pos f.first) (run_of f) f.band) n h.front.runs;
  widest = λ first run b g. let m = moved_left w v first run b g i (omega (arith, e)) in h.most m.x m.by b m.chain (m.chain.on i (omega arith));
}

pub found_is : (w : Way) (v : IsProper w) (i : ℕ) (best : Option FreeBand) → i + 1 ≡ w.count → BestOf w i w.count best
    → MatchOption best (NoneRuns w) (λ f. IsWidest w (pos f.first) (run_of f) f.band)
found_is w v i None e h = none_is w v i e h
found_is w v i (Some f) e h = widest_is w v i f e h

pub band_below : (w : Way) (v : IsProper w) (best : Option FreeBand) → MatchOption best (NoneRuns w) (λ f. IsWidest w (pos f.first) (run_of f) f.band) → IfSome best (λ f. f.band < w.cycle)
band_below w v None e = tt
band_below w v (Some f) e =
    let red = v.inside 0 v.some in
    let g = gap_from_green w.cycle (w.red 0) (w.start 0) (pos f.first) f.band red (v.shorter 0 v.some) (e.runs.green 0 v.some) in
    let free = g.free in
    let within = g.within in
    omega arith
