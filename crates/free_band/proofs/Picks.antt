-- One ray more among those that lead to a tick at the next signal.
use Rattle.std.proofs.Common.{◌≡◌, ℕ, ℤ, pos, ◌+ℤ◌, ◌-ℤ◌, ◌+◌, ◌-◌, ◌<◌, ◌≤◌, refl, sym, subst, arith, inl, inr, List, Option, None, Some}
use Rattle.std.specs.Prelude.{MatchOption, slice_index_or}
use Rattle.std.specs.Option.{option_or}
use Rattle.std.proofs.lemmas.Int.{ints}
use Rattle.std.proofs.lemmas.Bool.{cases_lt}
use Rattle.free_band.specs.Way.{Way}
use Rattle.free_band.specs.Rays.{Same, ray}
use Rattle.free_band.specs.Cells.{IsCell, NoCell, Comes, IsPick, PickOf}
use Rattle.free_band.specs.declared.way.FreeBand.{FreeBand}
use Rattle.free_band.specs.declared.rows.Pick.{Pick}
use Rattle.free_band.proofs.Same.{same_of, same_back, same_then, same_plus}

module _ (w : Way) (row : List (Option FreeBand)) (i to n : ℕ) where
  -- the ray gives nothing
  pub pick_none : (best : Option Pick) → NoCell w i n → PickOf w row i to n best → PickOf w row i to (n + 1) best
  pick_none None none h = λ x by b c l. elim (cases_lt (by i) n) [ inl k ↦ h x by b c k | inr k ↦ none x by b c.chain (omega arith) ]
  pick_none (Some p) none h = let on = h.on in record {
    on = omega arith;
    cell = h.cell;
    is = h.is;
    band = h.band;
    late = h.late;
    place = h.place;
    most = λ x by b c l. elim (cases_lt (by i) n) [ inl k ↦ h.most x by b c k | inr k ↦ absurd (none x by b c.chain (omega arith)) ];
  }

  -- its run is beyond the limits
  far : (left : ℕ) → Same w.cycle (pos left) (ray w n i +ℤ (pos (w.least i) -ℤ pos (w.clear i)))
      → ((more : ℕ) → more ≤ w.most i - w.least i → ¬ Same w.cycle (pos left +ℤ pos more) (pos to))
      → (x : ℕ → ℤ) (by : ℕ → ℕ) (b : ℕ) → Comes w i to x by b → ¬ (by i ≡ n)
  far left s never x by b c e =
      let k = c.step in
      let more = k.run - w.least i in
      let here = subst (λ j. Same w.cycle (x i) (ray w j i)) e (c.chain.place i (omega arith)) in
      let least = k.least in
      let most = k.most in
      let is = k.is in
      let p = same_plus w.cycle (x i) (ray w n i) (pos (w.least i) -ℤ pos (w.clear i)) (pos (w.least i) -ℤ pos (w.clear i)) here
      (same_of w.cycle (pos (w.least i) -ℤ pos (w.clear i)) (pos (w.least i) -ℤ pos (w.clear i)) refl) in
      let q = same_then w.cycle (pos left) (ray w n i +ℤ (pos (w.least i) -ℤ pos (w.clear i))) (x i +ℤ (pos (w.least i) -ℤ pos (w.clear i))) s
      (same_back w.cycle (x i +ℤ (pos (w.least i) -ℤ pos (w.clear i))) (ray w n i +ℤ (pos (w.least i) -ℤ pos (w.clear i))) p) in
      let f = q.is in
      let r : Same w.cycle (pos left +ℤ pos more) c.next = record { turns = q.turns; is = omega (arith, ints, f, is, least) } in
      never more (omega arith) (same_then w.cycle (pos left +ℤ pos more) c.next (pos to) r c.place)

  pick_far : (best : Option Pick) → ((x : ℕ → ℤ) (by : ℕ → ℕ) (b : ℕ) → Comes w i to x by b → ¬ (by i ≡ n)) → PickOf w row i to n best → PickOf w row i to (n + 1) best
  pick_far None none h = λ x by b c l. elim (cases_lt (by i) n) [ inl k ↦ h x by b c k | inr k ↦ none x by b c (omega arith) ]
  pick_far (Some p) none h = let on = h.on in record {
    on = omega arith;
    cell = h.cell;
    is = h.is;
    band = h.band;
    late = h.late;
    place = h.place;
    most = λ x by b c l. elim (cases_lt (by i) n) [ inl k ↦ h.most x by b c k | inr k ↦ absurd (none x by b c (omega arith)) ];
  }

  -- it is no wider than what is held
  pub pick_held : (best : Option Pick) (cell : FreeBand) → IsCell w i n cell → MatchOption best ⊥ (λ p. cell.band ≤ p.band) → PickOf w row i to n best → PickOf w row i to (n + 1) best
  pick_held None cell f wide h = absurd wide
  pick_held (Some p) cell f wide h = let on = h.on in record {
    on = omega arith;
    cell = h.cell;
    is = h.is;
    band = h.band;
    late = h.late;
    place = h.place;
    most = λ x by b c l. elim (cases_lt (by i) n) [ inl k ↦ h.most x by b c k | inr k ↦ let m = f.most x by b c.chain (omega arith) in omega arith ];
  }

  -- the widest of those before is no wider
  held_most : (best : Option Pick) (band : ℕ) → MatchOption best (Unit {0}) (λ p. p.band ≤ band) → PickOf w row i to n best → (x : ℕ → ℤ) (by : ℕ → ℕ) (b : ℕ) → Comes w i to x by b
      → by i < n → b ≤ band
  held_most None band wide h x by b c l = absurd (h x by b c l)
  held_most (Some p) band wide h x by b c l = let m = h.most x by b c l in omega arith

  pick_new : (best : Option Pick) (cell : FreeBand) (left late : ℕ) → IsCell w i n cell → slice_index_or row n None ≡ Some cell → MatchOption best (Unit {0}) (λ p. p.band ≤ cell.band)
      → Same w.cycle (pos left) (ray w n i +ℤ (pos (w.least i) -ℤ pos (w.clear i))) → w.least i ≤ w.most i → late ≤ w.most i - w.least i → Same w.cycle (pos left +ℤ pos late) (pos to)
      → PickOf w row i to n best → IsPick w row i to (n + 1) (record { from = n; late = late; band = cell.band })
  pick_new best cell left late f is wide s o l t h =
      let q = same_plus w.cycle (ray w n i +ℤ (pos (w.least i) -ℤ pos (w.clear i))) (pos left) (pos late) (pos late)
      (same_back w.cycle (pos left) (ray w n i +ℤ (pos (w.least i) -ℤ pos (w.clear i))) s) (same_of w.cycle (pos late) (pos late) refl) in
      let r = same_then w.cycle (ray w n i +ℤ (pos (w.least i) -ℤ pos (w.clear i)) +ℤ pos late) (pos left +ℤ pos late) (pos to) q t in
      let e = r.is in
      record {
        on = omega arith;
        cell = cell;
        is = is;
        band = refl;
        late = omega arith;
        place = record { turns = r.turns; is = omega (arith, ints, e) };
        most = λ x by b c k. elim (cases_lt (by i) n) [ inl g ↦ held_most best cell.band wide h x by b c g | inr g ↦ f.most x by b c.chain (omega arith) ];
      }

  is_pick : (p : Pick) (band : ℕ) → p.from ≡ n → p.band ≡ band → record { from = n; late = p.late; band = band } ≡ p
  is_pick p band e f = λ j. record { from = sym e j; late = p.late; band = sym f j }

  -- it is wider than what is held, if a run within the limits leads there
  pub pick_either : (best picked : Option Pick) (cell : FreeBand) (left : ℕ) → IsCell w i n cell → slice_index_or row n None ≡ Some cell → MatchOption best (Unit {0}) (λ p. p.band ≤ cell.band)
      → Same w.cycle (pos left) (ray w n i +ℤ (pos (w.least i) -ℤ pos (w.clear i))) → w.least i ≤ w.most i
      → MatchOption picked ((more : ℕ) → more ≤ w.most i - w.least i → ¬ Same w.cycle (pos left +ℤ pos more) (pos to))
      (λ p. (p.from ≡ n) × ((p.band ≡ cell.band) × ((p.late ≤ w.most i - w.least i) × Same w.cycle (pos left +ℤ pos p.late) (pos to))))
      → PickOf w row i to n best → PickOf w row i to (n + 1) (option_or picked best)
  pick_either best None cell left f is wide s o p h = pick_far best (far left s p) h
  pick_either best (Some x) cell left f is wide s o p h = subst (λ y. IsPick w row i to (n + 1) y) (is_pick x cell.band p.0 p.1.0) (pick_new best cell left x.late f is wide s o p.1.1.0 p.1.1.1 h)
