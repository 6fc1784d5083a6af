-- A plan has at most one timing.
use Rattle.std.proofs.Common.{◌≡◌, ℕ, ℤ, ◌+◌, ◌-◌, ◌*◌, ◌<◌, ◌≤◌, pos, length, get_or, refl, sym, ◌∙◌, ap, ap₂, subst, arith, unsigned_abs}
use Rattle.std.specs.Prelude.{◌+ℤ◌, ◌-ℤ◌, ◌*ℤ◌, neg_ℤ, slice_index, Option, None, Some}
use Rattle.std.proofs.lemmas.Int.{ints}
use Rattle.std.proofs.lemmas.List.{ext_get_or}
use native.Mathlib.Nat.{eq_of_mul-eq-mul_right}
use borrow.Author.Differences.{up, down, same_in}
use Rattle.rational_theory.specs.Rational.{over}
use Rattle.rational_theory.proofs.Arithmetic.{over_ratio}
use Rattle.rational_theory.proofs.Integers.{+ℤ-*ℤ, neg_ℤ-*ℤ}
use Rattle.progression.proofs.Remainders.{mod_unique}
use Rattle.progression.specs.Street.{Street, count, HasSignal, HasLink}
use Rattle.progression.specs.TimingRecord.{base}
use Rattle.progression.specs.BaseRecord.{BaseRecord, cycle, pattern_of, common_red, run}
use Rattle.progression.specs.declared.parts.Dir.{Dir}
use Rattle.progression.specs.declared.parts.Dir.TheVariants.{Outbound, Inbound}
use Rattle.artery_model.specs.Valid.{IsValid}
use Rattle.band_measure.specs.Widest.{IsWidestBand}
use Rattle.band_measure.specs.declared.pair.Widest.{Widest}
use Rattle.band_measure.specs.declared.bands.Bands.{Bands}
use Rattle.band_measure.proofs.Cuts.{one_cut_of}
use Rattle.band_measure.proofs.AllGrids.{finer_pairs, one_widest}
use Rattle.description_reader.specs.Typed.{Typed}
use Rattle.description_reader.specs.declared.measure.Reference.{Reference}
use Rattle.typed_plan.specs.Asked.{moment}
use Rattle.typed_plan.specs.Ends.{ArePut, pair_or_none, paired, IsTimingOf, OneTiming}
use Rattle.typed_plan.specs.Grid.{moment_part}
use Rattle.typed_plan.specs.declared.timing.Measured.{Measured}
use Rattle.typed_plan.proofs.Counted.{has_counts}
use Rattle.typed_plan.proofs.Moments.{moment_is}
use Rattle.typed_plan.proofs.Ticks.{cross_of}

-- over one number above 0, equal quotients have equal numerators
over_once : (z w : ℤ) (g f : ℕ) → 0 < g → g ≡ f → over z g ≡ over w f → z ≡ w
over_once z w g f h e k =
    let same : over z g ≡ over w g = k ∙ ap (over w) (sym e) in
    let c = cross_of _ _ _ _ _ _ _ _ (over_ratio z g h) (over_ratio w g h) same in
    let m : (up z + down w) * g ≡ (up w + down z) * g = omega (arith, c) in
    same_in z w (eq_of_mul-eq-mul_right g h _ _ m)

-- one moment a cycle is named by one tick of it
red_once : (r q c : ℕ) (u v x y : ℤ) → (pos r +ℤ u) -ℤ (pos 0 +ℤ v) +ℤ x *ℤ pos c ≡ (pos q +ℤ u) -ℤ (pos 0 +ℤ v) +ℤ y *ℤ pos c → r < c → q < c → r ≡ q
red_once r q c u v x y e l m =
    let k : (y -ℤ x) *ℤ pos c ≡ y *ℤ pos c +ℤ neg_ℤ (x *ℤ pos c) = +ℤ-*ℤ y (neg_ℤ x) (pos c) ∙ ap (λ z. y *ℤ pos c +ℤ z) (neg_ℤ-*ℤ x (pos c)) in
    let own : pos r ≡ pos 0 *ℤ pos c +ℤ pos r = omega (arith, ints) in
    let other : pos r ≡ (y -ℤ x) *ℤ pos c +ℤ pos q = omega (arith, ints, e, k) in
    sym (mod_unique (pos r) (pos 0) c r own l) ∙ mod_unique (pos r) (y -ℤ x) c q other m

-- from the start of the red to the moment from which the offset counts, where a part has so many ticks
abbrev lead_by : Street → Reference → ℕ → ℕ → ℕ → ℤ
lead_by a r pattern unit i = moment_part a r pattern i *ℤ pos unit

both_least : (m n : ℕ) → m ≤ n → n ≤ m → m ≡ n
both_least m n h k = omega arith

module _ (a : Street) (p : Typed) (m n : Measured) (valid : IsValid a) (h : IsTimingOf a p m) (k : IsTimingOf a p n) where
  abbrev t : BaseRecord
  t = base m.timing

  abbrev s : BaseRecord
  s = base n.timing

  same_grid : t.grid ≡ s.grid
  same_grid = both_least t.grid s.grid (h.least.grid s k.least.as_typed) (k.least.grid t h.least.as_typed)

  same_unit : t.unit ≡ s.unit
  same_unit = both_least t.unit s.unit (h.least.unit s k.least.as_typed) (k.least.unit t h.least.as_typed)

  same_cycle : cycle a t ≡ cycle a s
  same_cycle = ap (λ n. a.head.parts * n) same_unit

  same_patterns : t.patterns ≡ s.patterns
  same_patterns = h.least.as_typed.patterns ∙ sym k.least.as_typed.patterns

  wide : length t.patterns ≡ count a
  wide = let few = valid.few in ap length h.least.as_typed.patterns ∙ (has_counts a p (omega (arith, few)) h.counts).patterns

  same_run : (d : Dir) (i : ℕ) → HasLink a i → run t d i ≡ run s d i
  same_run d i l =
      ap unsigned_abs (over_once (pos (run t d i)) (pos (run s d i)) t.grid s.grid h.least.as_typed.formed.grid same_grid (h.least.as_typed.runs d i l ∙ sym (k.least.as_typed.runs d i l)))

  back_again : (i : ℕ) → i + 1 - 1 ≡ i
  back_again i = omega arith

  same_out : t.run_out ≡ s.run_out
  same_out =
      let own = h.least.as_typed.formed.run_out in let other = k.least.as_typed.formed.run_out in let pats = ap length same_patterns in let w = wide in
      ext_get_or 0 t.run_out s.run_out (omega (arith, own, other, pats)) (λ i l.
      subst (λ j. get_or t.run_out j 0 ≡ get_or s.run_out j 0) (back_again i) (same_run Outbound (i + 1) (omega arith, omega (arith, l, own, w))))

  same_in_runs : t.run_in ≡ s.run_in
  same_in_runs =
      let own = h.least.as_typed.formed.run_in in let other = k.least.as_typed.formed.run_in in let pats = ap length same_patterns in let w = wide in
      ext_get_or 0 t.run_in s.run_in (omega (arith, own, other, pats)) (λ i l.
      subst (λ j. get_or t.run_in j 0 ≡ get_or s.run_in j 0) (back_again i) (same_run Inbound (i + 1) (omega arith, omega (arith, l, own, w))))

  -- the moments, from the ticks of the reds
  from_reds : (r : ℕ) (v : BaseRecord) (i : ℕ) (x : ℤ) → common_red v i ≡ pos r → common_red v 1 ≡ pos 0 → v.unit ≡ t.unit → v.patterns ≡ t.patterns → cycle a v ≡ cycle a t
      → moment a p.reference v i -ℤ moment a p.reference v 1 +ℤ x *ℤ pos (cycle a v)
      ≡ (pos r +ℤ lead_by a p.reference (pattern_of t i) t.unit i) -ℤ (pos 0 +ℤ lead_by a p.reference (pattern_of t 1) t.unit 1) +ℤ x *ℤ pos (cycle a t)
  from_reds r v i x e f u l c =
      ap₂ (λ m n. m -ℤ n +ℤ x *ℤ pos (cycle a v)) (at i (pos r) e) (at 1 (pos 0) f)
      ∙ ap (λ n. (pos r +ℤ lead_by a p.reference (pattern_of t i) t.unit i) -ℤ (pos 0 +ℤ lead_by a p.reference (pattern_of t 1) t.unit 1) +ℤ x *ℤ pos n) c
    where
      at : (j : ℕ) (z : ℤ) → common_red v j ≡ z → moment a p.reference v j ≡ z +ℤ lead_by a p.reference (pattern_of t j) t.unit j
      at j z g =
          moment_is a p.reference v j ∙ ap₂ (λ m n. m +ℤ lead_by a p.reference (pattern_of v j) n j) g u
          ∙ ap (λ xs. z +ℤ lead_by a p.reference (slice_index xs (j - 1)) t.unit j) l

  same_red : (i : ℕ) → HasSignal a i → common_red t i ≡ common_red s i
  same_red i l =
      let x = h.least.as_typed.offsets i l in let y = k.least.as_typed.offsets i l in
      let r = h.reds i l in let q = k.reds i l in
      let e = over_once _ _ t.grid s.grid h.least.as_typed.formed.grid same_grid (x.later ∙ sym y.later) in
      let n : r.tick ≡ q.tick =
      red_once r.tick q.tick (cycle a t) (lead_by a p.reference (pattern_of t i) t.unit i) (lead_by a p.reference (pattern_of t 1) t.unit 1) x.k y.k
      (sym (from_reds r.tick t i x.k r.is h.first refl refl refl) ∙ e ∙ from_reds q.tick s i y.k q.is k.first (sym same_unit) (sym same_patterns) (sym same_cycle))
      r.below (subst (λ c. q.tick < c) (sym same_cycle) q.below) in
      r.is ∙ ap pos n ∙ sym q.is

  same_reds : t.reds ≡ s.reds
  same_reds =
      let own = h.least.as_typed.formed.reds in let other = k.least.as_typed.formed.reds in let pats = ap length same_patterns in let w = wide in
      ext_get_or (pos 0) t.reds s.reds (omega (arith, own, other, pats)) (λ i l.
      subst (λ j. get_or t.reds j (pos 0) ≡ get_or s.reds j (pos 0)) (back_again i) (same_red (i + 1) (omega arith, omega (arith, l, own, w))))

  same_base : t ≡ s
  same_base = λ i. record {
    grid = same_grid i;
    unit = same_unit i;
    patterns = same_patterns i;
    reds = same_reds i;
    run_out = same_out i;
    run_in = same_in_runs i;
  }

  -- of one direction
  some_runs : (d : Dir) (w : Widest) → IsWidestBand a t d (Some w) → IsWidestBand a t d None → ⊥
  some_runs d w widest none =
      none 1 (pos w.first *ℤ pos 1) (w.band * 1) (omega arith) ((finer_pairs a t d 1 (pos w.first) w.band valid h.least.as_typed.formed.unit (omega arith)).0 widest.runs)

  same_widest : (d : Dir) (x y : Option Widest) → IsWidestBand a t d x → IsWidestBand a t d y → x ≡ y
  same_widest d None None g l = refl
  same_widest d None (Some w) g l = absurd (some_runs d w l g)
  same_widest d (Some v) None g l = absurd (some_runs d v g l)
  same_widest d (Some v) (Some w) g l =
      let e = one_widest a t d v.first v.band w.first w.band valid h.least.as_typed.formed.unit g l in
      ap₂ (λ first band. Some (record { first = first; band = band })) e.0 e.1

  same_found : (d : Dir) (x y : Option Widest) → IsWidestBand a t d x → IsWidestBand a s d y → x ≡ y
  same_found d x y g l = same_widest d x y g (subst (λ v. IsWidestBand a v d y) (sym same_base) l)

  natural_ratio : pos (unsigned_abs a.head.ratio.num) ≡ a.head.ratio.num
  natural_ratio = let l = valid.ratio.least in omega (arith, ints, l)

  -- what is put of them
  same_put : (u v w x y z : Option Widest) → ArePut a u v w x → ArePut a u v y z → (w ≡ y) × (x ≡ z)
  same_put (Some u) (Some v) (Some w) (Some x) (Some y) (Some z) g l =
      let e = one_cut_of a (unsigned_abs a.head.ratio.num) natural_ratio (record { outbound = u.band; inbound = v.band }) (record { outbound = w.band; inbound = x.band })
      (record { outbound = y.band; inbound = z.band }) g.bands l.bands in (
        ap₂ (λ first band. Some (record { first = first; band = band })) (g.first_out ∙ sym l.first_out) (ap (λ (b : Bands). b.outbound) e),
        ap₂ (λ first band. Some (record { first = first; band = band })) (g.first_in ∙ sym l.first_in) (ap (λ (b : Bands). b.inbound) e),
      )
  same_put (Some u) (Some v) None x y z g l = absurd (let e = g.0 in cc)
  same_put (Some u) (Some v) (Some w) None y z g l = absurd (let e = g.1 in cc)
  same_put (Some u) (Some v) (Some w) (Some x) None z g l = absurd (let e = l.0 in cc)
  same_put (Some u) (Some v) (Some w) (Some x) (Some y) None g l = absurd (let e = l.1 in cc)
  same_put None v w x y z g l = (g.0 ∙ sym l.0, g.1 ∙ sym l.1)
  same_put (Some u) None w x y z g l = (g.0 ∙ sym l.0, g.1 ∙ sym l.1)

  same_there : h.there ≡ k.there
  same_there = same_found Outbound h.there k.there h.widest_out k.widest_out

  same_back : h.back ≡ k.back
  same_back = same_found Inbound h.back k.back h.widest_in k.widest_in

  same_pairs : (m.outbound ≡ n.outbound) × (m.inbound ≡ n.inbound)
  same_pairs =
      same_put h.there h.back m.outbound m.inbound n.outbound n.inbound h.put
      (subst (λ v. ArePut a h.there v n.outbound n.inbound) (sym same_back) (subst (λ u. ArePut a u k.back n.outbound n.inbound) (sym same_there) k.put))

  same_timing : m.timing ≡ n.timing
  same_timing =
      let e = same_pairs in
      h.pairs ∙ (λ i. paired (same_base i) (pair_or_none (e.0 i)) (pair_or_none (e.1 i))) ∙ sym k.pairs

  same_measured : m ≡ n
  same_measured = let e = same_pairs in λ i. record { timing = same_timing i; outbound = e.0 i; inbound = e.1 i }

pub one_timing : OneTiming
one_timing a p m n valid h k = same_measured a p m n valid h k
