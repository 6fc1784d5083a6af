-- What runs on the signals and links of a direction, and on the offsets of the base.
use Rattle.std.proofs.Common.{◌≡◌, ℕ, zero, suc, ℤ, pos, ◌+◌, ◌-◌, ◌<◌, ◌≤◌, ◌^◌, List, refl, subst, arith, Option, None, Some}
use Rattle.std.specs.Prelude.{MatchOption}
use Rattle.std.proofs.lemmas.Int.{ints}
use Rattle.progression.specs.Street.{Street, count}
use Rattle.progression.specs.BaseRecord.{BaseRecord, cycle, run}
use Rattle.progression.specs.Green.{BandIsGreen, red_start, red_ticks}
use Rattle.progression.specs.Lines.{stop, leg, crossing_from, RunsOn}
use Rattle.progression.specs.declared.parts.Dir.{Dir}
use Rattle.progression.specs.declared.parts.Dir.TheVariants.{Outbound, Inbound}
use Rattle.time_space.specs.LinkRules.{LinkHolds}
use Rattle.time_space.specs.declared.links.LinkRule.TheVariants as rule
use Rattle.free_band.specs.Way.{Way, way, IsWay, Runs, NoneRuns, IsWidest, crossing, start_of, red_of, least_of, most_of}
use Rattle.free_band.specs.Cells.{run_of}
use Rattle.free_band.specs.declared.way.WaySignal.{WaySignal}
use Rattle.free_band.specs.declared.way.WayLink.{WayLink}
use Rattle.free_band.specs.declared.way.FreeBand.{FreeBand}
use Rattle.free_runs.specs.Free.{with_runs, KeepsSpeeds, NoneFree, IsFree}
use Rattle.free_runs.specs.Street.{IsWayOf}

-- ---- the places of the links
pub leg_is : (d : Dir) (n j : ℕ) → j + 1 < n → (1 ≤ leg d n j) × (leg d n j < n)
leg_is Outbound n j h = (omega arith, omega arith)
leg_is Inbound n j h = (omega arith, omega arith)

-- the place from which a link leads on
place_of : Dir → ℕ → ℕ → ℕ
place_of Outbound n i = i - 1
place_of Inbound n i = n - 1 - i

module _ (d : Dir) (n i : ℕ) (one : 1 ≤ i) (last : i < n) where
  place_before : place_of d n i + 1 < n
  unfolding place_of
  place_before = elim d as (λ e. place_of e n i + 1 < n) [ Outbound ↦ omega arith | Inbound ↦ omega arith ]

  leg_of_place : leg d n (place_of d n i) ≡ i
  unfolding place_of
  leg_of_place = elim d as (λ e. leg e n (place_of e n i) ≡ i) [ Outbound ↦ omega arith | Inbound ↦ omega arith ]

module _ (a : Street) (t : BaseRecord) (d : Dir) (signals : List WaySignal) (links : List WayLink) (h : IsWayOf a t d signals links) where
  abbrev w : Way
  w = way (cycle a t) signals links

  -- ---- other runs on the same offsets
  module _ (out ins : List ℕ) where
    abbrev u : BaseRecord
    u = with_runs out ins t

    abbrev taken : ℕ → ℕ
    taken j = run u d (leg d (count a) j)

    module _ (x : ℤ) (r : ℕ → ℕ) (same : (j : ℕ) → j + 1 < count a → taken j ≡ r j) where
      crossing_is : (j : ℕ) → j < count a → crossing w x r j ≡ crossing_from a u d x j
      crossing_is zero l = omega (arith, ints)
      crossing_is (suc j) l =
          let e = crossing_is j (omega arith) in
          let f = same j (omega arith) in
          let g = (h.legs j (omega arith)).clear in
          omega (arith, ints, e, f, g)

      -- a green band at a place
      green_is : (P : ℤ → ℕ → ℤ → Type 0) (j : ℕ) → j < count a → P (red_start a t d (stop d (count a) j)) (red_ticks a t d (stop d (count a) j)) (crossing_from a u d x j)
          → P (start_of signals j) (red_of signals j) (crossing w x r j)
      green_is P j l p = rw ((h.stops j l).start, (h.stops j l).red, crossing_is j l) p

      green_was : (P : ℤ → ℕ → ℤ → Type 0) (j : ℕ) → j < count a → P (start_of signals j) (red_of signals j) (crossing w x r j)
          → P (red_start a t d (stop d (count a) j)) (red_ticks a t d (stop d (count a) j)) (crossing_from a u d x j)
      green_was P j l p = rw ((h.stops j l).start, (h.stops j l).red, crossing_is j l) at p

      pub runs_on : (b : ℕ) → Runs w x r b → RunsOn a u d x b
      runs_on b g = let n = h.count_signals in λ j l. green_was (λ s red y. BandIsGreen (cycle a t) s red y b) j l (g.green j (omega (arith, n, l)))

      pub speeds_kept : (b : ℕ) → Runs w x r b → KeepsSpeeds a u d
      speeds_kept b g = let n = h.count_signals in record {
        fast = λ i l.
            let j = place_of d (count a) i in
            let m = place_before d (count a) i l.0 l.1 in
            let e = same j m in
            let k = g.least j (omega (arith, n, m)) in
            subst (λ q. LinkHolds a u rule.Fast d q) (leg_of_place d (count a) i l.0 l.1) (((h.legs j m).limits.fast (taken j)).1 (omega (arith, e, k)));
        slow = λ i l.
            let j = place_of d (count a) i in
            let m = place_before d (count a) i l.0 l.1 in
            let e = same j m in
            let k = g.most j (omega (arith, n, m)) in
            subst (λ q. LinkHolds a u rule.Slow d q) (leg_of_place d (count a) i l.0 l.1) (((h.legs j m).limits.slow (taken j)).1 (omega (arith, e, k)));
      }

    -- ---- a base that keeps the limits
    module _ (k : KeepsSpeeds a u d) where
      pub low : (j : ℕ) → j + 1 < count a → least_of links j ≤ taken j
      low j l = let i = leg_is d (count a) j l in ((h.legs j l).limits.fast (taken j)).0 (k.fast (leg d (count a) j) i)

      pub high : (j : ℕ) → j + 1 < count a → taken j ≤ most_of links j
      high j l = let i = leg_is d (count a) j l in ((h.legs j l).limits.slow (taken j)).0 (k.slow (leg d (count a) j) i)

      pub on_runs : (x : ℤ) (b : ℕ) → RunsOn a u d x b → Runs w x taken b
      on_runs x b g = let n = h.count_signals in record {
        least = λ j l. low j (omega (arith, n, l));
        most = λ j l. high j (omega (arith, n, l));
        green = λ j l. let m : j < count a = omega (arith, n, l) in
            green_is x taken (λ i o. refl) (λ s red y. BandIsGreen (cycle a t) s red y b) j m (g j m);
      }

  -- ---- the answers
  none_free : NoneRuns w → NoneFree a t d
  none_free none out ins x b k g = none x (taken out ins) b (on_runs out ins k x b g)

  is_free : (f : FreeBand) → IsWidest w (pos f.first) (run_of f) f.band → IsFree a t d f
  is_free f e = record {
    speeds = λ out ins s. speeds_kept out ins (pos f.first) (run_of f) s f.band e.runs;
    runs = λ out ins s. runs_on out ins (pos f.first) (run_of f) s f.band e.runs;
    widest = λ out ins x b k g. e.widest x (taken out ins) b (on_runs out ins k x b g);
  }

  pub found_free : (best : Option FreeBand) → MatchOption best (NoneRuns w) (λ f. IsWidest w (pos f.first) (run_of f) f.band) → MatchOption best (NoneFree a t d) (λ f. IsFree a t d f)
  found_free None e = none_free e
  found_free (Some f) e = is_free f e

  -- where the speeds allow some run on each link it is a way
  pub way_is : (out ins : List ℕ) → KeepsSpeeds a (with_runs out ins t) d → 2 ≤ count a → count a ≤ 24 → cycle a t < 2 ^ 98 → IsWay w
  way_is out ins k two few small = let n = h.count_signals in record {
    proper = record {
      some = omega (arith, n);
      inside = λ j l. (h.stops j (omega (arith, n, l))).inside;
      shorter = λ j l. (h.stops j (omega (arith, n, l))).shorter;
      ordered = λ j l. let m : j + 1 < count a = omega (arith, n, l) in let p = low out ins k j m in let q = high out ins k j m in omega arith;
    };
    few = omega (arith, n);
    cycle = small;
    start = λ j l. (h.stops j (omega (arith, n, l))).near;
  }
