-- The lines on bounds name the first signal with the least green, and no good timing has a wider band.
use Rattle.std.proofs.Common.{◌≡◌, ℕ, zero, suc, ◌+◌, ◌-◌, ◌*◌, ◌<◌, ◌≤◌, ℤ, Bool, true, false, if◌then◌else◌, nat_lt, refl, sym, ◌∙◌, ap, subst, arith}
use Rattle.std.proofs.lemmas.Bool.{ltb-true, ltb-false, cases_eq}
use Rattle.std.specs.Prelude.{◌⊎◌}
use Rattle.std.proofs.Common.{inl, inr}
use Rattle.progression.specs.Good.{Good}
use Rattle.progression.specs.Green.{BandIsGreen, red_start, red_ticks}
use Rattle.progression.specs.Lines.{IsGreenWay, stop, crossing}
use Rattle.progression.specs.Street.{Street, count, red_parts, HasSignal}
use Rattle.progression.specs.TimingRecord.{TimingRecord, base, band}
use Rattle.progression.specs.BaseRecord.{cycle}
use Rattle.progression.specs.declared.parts.Dir.{Dir}
use Rattle.progression.specs.declared.parts.Dir.TheVariants.{Outbound, Inbound}
use Rattle.progression.proofs.Fits.{Fits, fits_from_band}
use Rattle.artery_model.specs.Valid.{IsValid}
use Rattle.time_space.proofs.FinerGrids.{red_bounds, below}
use Rattle.street_words.specs.Streets.{green_parts}
use Rattle.street_words.specs.Bounds.{reddest, tightest}
use Rattle.street_words.specs.Laws.{IsTightest, BoundsSay}

-- ---- the first of the numbers 1 to n at which f is greatest
record IsFirstMost (f : ℕ → ℕ) (n i : ℕ) : Type 0 where
  first : 1 ≤ i
  last : i ≤ n
  most : (k : ℕ) → 1 ≤ k → k ≤ n → f k ≤ f i
  before : (k : ℕ) → 1 ≤ k → k < i → f k < f i

same_most : (f : ℕ → ℕ) (k i : ℕ) → k ≡ i → f k ≤ f i
same_most f k i e = let s : f k ≡ f i = ap f e in omega arith

module _ (f : ℕ → ℕ) (n m i : ℕ) (e : m ≡ n + 1) where
  most_next : (b : Bool) → nat_lt (f i) (f m) ≡ b → IsFirstMost f n i → (k : ℕ) → 1 ≤ k → k ≤ m → f k ≤ f (if b then m else i)
  most_next true t h k s l = elim (cases_eq k m) [
    | inl q ↦ same_most f k m q
    | inr q ↦ let old = h.most k s (omega arith) in let new = ltb-true (f i) (f m) t in omega arith
  ]
  most_next false t h k s l = elim (cases_eq k m) [
    | inl q ↦ let same = same_most f k m q in let new = ltb-false (f i) (f m) t in omega arith
    | inr q ↦ h.most k s (omega arith)
  ]

  before_next : (b : Bool) → nat_lt (f i) (f m) ≡ b → IsFirstMost f n i → (k : ℕ) → 1 ≤ k → k < (if b then m else i) → f k < f (if b then m else i)
  before_next true t h k s l = let old = h.most k s (omega arith) in let new = ltb-true (f i) (f m) t in omega arith
  before_next false t h k s l = h.before k s l

  first_next : (b : Bool) → IsFirstMost f n i → 1 ≤ (if b then m else i)
  first_next true h = omega arith
  first_next false h = h.first

  last_next : (b : Bool) → IsFirstMost f n i → (if b then m else i) ≤ m
  last_next true h = omega arith
  last_next false h = let l = h.last in omega arith

  next : (b : Bool) → nat_lt (f i) (f m) ≡ b → IsFirstMost f n i → IsFirstMost f m (if b then m else i)
  next b t h = record { first = first_next b h; last = last_next b h; most = most_next b t h; before = before_next b t h }

module _ (a : Street) (d : Dir) where
  first_alone : (k : ℕ) → 1 ≤ k → k ≤ 0 + 1 → red_parts a d k ≤ red_parts a d 1
  first_alone k s l = same_most (red_parts a d) k 1 (omega arith)

  reddest_is : (j : ℕ) → IsFirstMost (red_parts a d) (j + 1) (reddest a d j)
  reddest_is zero = record { first = omega arith; last = omega arith; most = first_alone; before = λ k s l. absurd (omega arith) }
  reddest_is (suc j) =
      let more : j + 2 ≡ suc j + 1 = omega arith in
      subst (λ n. IsFirstMost (red_parts a d) n (reddest a d (suc j))) more
      (next (red_parts a d) (j + 1) (j + 2) (reddest a d j) (omega arith) (nat_lt (red_parts a d (reddest a d j)) (red_parts a d (j + 2))) refl (reddest_is j))

  tightest_is : 1 ≤ count a → IsFirstMost (red_parts a d) (count a) (tightest a d)
  tightest_is some = let whole : count a - 1 + 1 ≡ count a = omega arith in subst (λ n. IsFirstMost (red_parts a d) n (tightest a d)) whole (reddest_is (count a - 1))

-- ---- what a red leaves of a cycle holds the band
-- beside a red of q parts of u ticks, of m + q parts
over_room : (m q p u r b : ℕ) → m + q ≡ p → r + b ≤ p * u → q * u ≤ r → b ≤ m * u
over_room m q p u r b e h k = let s : p * u ≡ m * u + q * u = ap (λ n. n * u) (sym e) ∙ omega arith in omega arith

no_less : (b m : ℕ) → b ≡ 0 → b ≤ m
no_less b m e = omega arith

fitting : (m q p u r b : ℕ) → m + q ≡ p → Fits (p * u) (q * u) r b → b ≤ m * u
fitting m q p u r b e f = elim f.free [
  | inl z ↦ no_less b (m * u) z.1
  | inr k ↦ over_room m q p u r b e f.room k
]

module _ (a : Street) (t : TimingRecord) (h : IsValid a) (g : Good a t) where
  two_ticks : (q u : ℕ) → 1 ≤ q → 2 ≤ u → 2 ≤ q * u
  two_ticks q u k l = grind arith

  -- at the signal that comes as the j-th in travel order
  green_at : (d : Dir) (j i : ℕ) → stop d (count a) j ≡ i → HasSignal a i → j < count a → IsGreenWay a t d → band t d ≤ green_parts a d i * t.unit
  green_at d j i e l k way =
      let r = red_bounds a h d i (omega (arith, l.0, l.1)) in
      let unit = g.base.formed.unit in
      let here = subst (λ n. BandIsGreen (cycle a (base t)) (red_start a (base t) d n) (red_ticks a (base t) d n) (crossing a t d j) (band t d)) e (way j k) in
      let some : 2 ≤ red_ticks a (base t) d i = two_ticks (red_parts a d i) t.unit r.0 unit in
      let less : red_ticks a (base t) d i < cycle a (base t) = below r.1 (omega (arith, unit)) in
      fitting (green_parts a d i) (red_parts a d i) a.head.parts t.unit _ _ (omega (arith, r.1))
      (fits_from_band (cycle a (base t)) (red_ticks a (base t) d i) (red_start a (base t) d i) (crossing a t d j) (band t d) some less here)

  band_at : (d : Dir) (i : ℕ) → HasSignal a i → band t d ≤ green_parts a d i * t.unit
  band_at Outbound i l = green_at Outbound (i - 1) i (omega (arith, l.0)) l (omega (arith, l.0, l.1)) g.outbound
  band_at Inbound i l = green_at Inbound (count a - i) i (omega (arith, l.1)) l (omega (arith, l.0, l.1)) g.inbound

-- ---- the least green
less_green : (p r s : ℕ) → r ≤ s → p - s ≤ p - r
less_green p r s h = omega arith

fewer_green : (p r s : ℕ) → r < s → s < p → p - s < p - r
fewer_green p r s h k = omega arith

tightest_of : (a : Street) → IsValid a → (d : Dir) → IsTightest a d (tightest a d)
tightest_of a h d =
    let few = h.few in
    let m = tightest_is a d (omega (arith, few)) in
    let r = red_bounds a h d (tightest a d) (omega (arith, m.first, m.last)) in
    record {
      there = (m.first, m.last);
      least = λ j l. less_green a.head.parts (red_parts a d j) (red_parts a d (tightest a d)) (m.most j l.0 l.1);
      first = λ j l k. fewer_green a.head.parts (red_parts a d j) (red_parts a d (tightest a d)) (m.before j l.0 k) r.1;
      bounds = λ t g. band_at a t h g d (tightest a d) (m.first, m.last);
    }

pub bounds_say : BoundsSay
bounds_say a h d = tightest_of a h d
