-- The bands of a good timing, each about its middle on a grid twice as fine, are bands of all links; and the two bands of a link timing of two signals are those of a
-- timing.
use Rattle.std.proofs.Common.{◌≡◌, ℕ, zero, suc, ◌+◌, ◌-◌, ◌*◌, ◌<◌, ◌≤◌, List, [], ◌∷◌, length, get_or, map, refl, ap, ap₂, sym, ◌∙◌, subst, arith, Bool, IsTrue, false}
use Rattle.std.specs.Prelude.{ℤ, pos, neg_ℤ, ◌+ℤ◌, ◌-ℤ◌, ◌*ℤ◌}
use Rattle.std.specs.List.{sum}
use Rattle.std.proofs.lemmas.Int.{ints}
use Rattle.std.proofs.lemmas.List.{length-map}
use Rattle.std.proofs.lemmas.List.Sums.{sum_by-cons}
use Rattle.rational_theory.specs.Rational.{ℚ, whole, ◌+ℚ◌, ◌*ℚ◌, ◌/ℚ◌, ◌≤ℚ◌, inverse_ℚ}
use Rattle.rational_theory.proofs.Arithmetic.{*ℚ-one}
use Rattle.rational_theory.proofs.Order.{whole-*ℤ, *ℚ-inverse, *ℚ_cancel, whole_not_zero, whole-≤ℤ, ≤ℚ_antisymm}
use Rattle.rational_theory.proofs.Ring.{ring, at, ◌⊕◌, ◌⊗◌, one-*ℚ, zero-*ℚ}
use Rattle.progression.specs.Street.{Street, count, HasSignal, HasLink, least_band}
use Rattle.progression.specs.Speeds.{number}
use Rattle.progression.specs.TimingRecord.{TimingRecord, base, banded, band}
use Rattle.progression.specs.BaseRecord.{BaseRecord, IsBaseRecord, cycle}
use Rattle.progression.specs.Green.{BandIsGreen, red_start, red_ticks}
use Rattle.progression.specs.Lines.{advance, crossing, line_at, IsGreenAt}
use Rattle.progression.specs.Good.{IsBase, RatioHolds, HasLeastBand, Good}
use Rattle.progression.specs.Best.{weighted_band, Best}
use Rattle.progression.specs.declared.parts.Dir.{Dir}
use Rattle.progression.specs.declared.parts.Dir.TheVariants.{Outbound, Inbound}
use Rattle.artery_model.specs.Valid.{IsValid}
use Rattle.time_space.specs.Finer.{finer_base, finer}
use Rattle.time_space.proofs.FinerGrids.{finer_law, mul-le}
use Rattle.time_space.proofs.Multiples.{ratio_finer}
use Rattle.link_theory.specs.LinkRecord.{LinkRecord, link_base, link_banded, lines, half}
use Rattle.link_theory.specs.GoodLinks.{GoodLinks, IsGreenAround}
use Rattle.link_theory.specs.BestLinks.{link_value, BestLinks}
use Rattle.link_theory.specs.Plain.{plain}
use Rattle.link_space.specs.LinksAsWide.{LinksAsWide}

later : (u v w x : ℤ) → u ≡ v +ℤ x → u +ℤ w ≡ v +ℤ w +ℤ x
later u v w x e = omega (arith, ints, e)

-- ---- another line and another band on the same offsets
-- the first lines so much later, with bands of these widths
abbrev moved : TimingRecord → ℤ → ℤ → ℕ → ℕ → TimingRecord
moved t x y b c = banded (t.first_out +ℤ x) b (t.first_in +ℤ y) c (base t)

module _ (a : Street) (t : TimingRecord) (x y : ℤ) (b c : ℕ) where
  abbrev there : TimingRecord
  there = moved t x y b c

  crossing_out : (j : ℕ) → crossing a there Outbound j ≡ crossing a t Outbound j +ℤ x
  crossing_out zero = refl
  crossing_out (suc j) =
      let e = crossing_out j in
      later (crossing a there Outbound j) (crossing a t Outbound j) (advance a (base t) Outbound j) x e

  crossing_in : (j : ℕ) → crossing a there Inbound j ≡ crossing a t Inbound j +ℤ y
  crossing_in zero = refl
  crossing_in (suc j) =
      let e = crossing_in j in
      later (crossing a there Inbound j) (crossing a t Inbound j) (advance a (base t) Inbound j) y e

-- ---- the same half for each link
const_at : (xs : List ℕ) (b k : ℕ) → k < length xs → get_or (map (λ n. b) xs) k 0 ≡ b
const_at [] b k l = absurd (omega arith)
const_at (x ∷ xs) b zero l = refl
const_at (x ∷ xs) b (suc k) l = const_at xs b k (omega arith)

const_sum : (xs : List ℕ) (b : ℕ) → sum (map (λ n. b) xs) ≡ length xs * b
const_sum [] b = omega arith
const_sum (x ∷ xs) b =
    let e = const_sum xs b in
    let first : sum (map (λ n. b) (x ∷ xs)) ≡ b + sum (map (λ n. b) xs) = sum_by-cons (λ n. n) b (map (λ n. b) xs) in
    omega (arith, e, first)

-- ---- values
number_times : (n m : ℕ) → number (n * m) ≡ number n *ℚ number m
number_times n m = whole-*ℤ (pos n) (pos m)

above_apart : (n : ℕ) → 0 < n → pos n ≡ pos 0 → ⊥
above_apart n l e = omega (arith, ints, e)

number_apart : (n : ℕ) → 0 < n → number n ≡ whole (pos 0) → ⊥
number_apart n l = whole_not_zero (pos n) (above_apart n l)

-- twice the halves
twice_out : (k : ℚ) (o i : ℕ) → number (o * 2) +ℚ k *ℚ number (i * 2) ≡ number 2 *ℚ (number o +ℚ k *ℚ number i)
twice_out k o i =
    rw (number_times o 2, number_times i 2)
    (ring (at 1 ⊗ at 0 ⊕ at 2 ⊗ (at 3 ⊗ at 0)) (at 0 ⊗ (at 1 ⊕ at 2 ⊗ at 3)) (number 2 ∷ number o ∷ k ∷ number i ∷ []) refl)

-- on a grid twice as fine
module _ (k : ℚ) (m o i c : ℕ) (l : 0 < c) where
  abbrev wb : ℚ
  wb = number o +ℚ k *ℚ number i

  abbrev lv : ℚ
  lv = number 2 *ℚ (number (m * o) +ℚ k *ℚ number (m * i))

  abbrev c2 : ℚ
  c2 = number (c * 2)

  left_times : number m *ℚ (wb /ℚ number c) *ℚ c2 ≡ number m *ℚ wb *ℚ number 2
  left_times =
      let one : number c *ℚ inverse_ℚ (number c) ≡ whole (pos 1) = *ℚ-inverse (number c) (number_apart c l) in
      rw (number_times c 2)
      (ring ((at 0 ⊗ (at 1 ⊗ at 2)) ⊗ (at 3 ⊗ at 4)) ((at 0 ⊗ at 1 ⊗ at 4) ⊗ (at 3 ⊗ at 2)) (number m ∷ wb ∷ inverse_ℚ (number c) ∷ number c ∷ number 2 ∷ []) refl
      ∙ ap (λ x. number m *ℚ wb *ℚ number 2 *ℚ x) one ∙ *ℚ-one (number m *ℚ wb *ℚ number 2))

  spread_out : lv ≡ number m *ℚ wb *ℚ number 2
  spread_out =
      rw (number_times m o, number_times m i)
      (ring (at 4 ⊗ (at 0 ⊗ at 1 ⊕ at 2 ⊗ (at 0 ⊗ at 3))) ((at 0 ⊗ (at 1 ⊕ at 2 ⊗ at 3)) ⊗ at 4) (number m ∷ number o ∷ k ∷ number i ∷ number 2 ∷ []) refl)

  right_times : lv /ℚ c2 *ℚ c2 ≡ number m *ℚ wb *ℚ number 2
  right_times =
      let some : 0 < c * 2 = omega arith in
      let one : c2 *ℚ inverse_ℚ c2 ≡ whole (pos 1) = *ℚ-inverse c2 (number_apart (c * 2) some) in
      ring ((at 0 ⊗ at 1) ⊗ at 2) (at 0 ⊗ (at 2 ⊗ at 1)) (lv ∷ inverse_ℚ c2 ∷ c2 ∷ []) refl
      ∙ ap (λ x. lv *ℚ x) one ∙ *ℚ-one lv ∙ spread_out

  pub same_value : number m *ℚ (wb /ℚ number c) ≡ lv /ℚ c2
  same_value = *ℚ_cancel (number m *ℚ (wb /ℚ number c)) (lv /ℚ c2) c2 (number_apart (c * 2) (omega arith)) (left_times ∙ sym right_times)

-- ---- from a timing to a link timing
-- its bands about their middles, on a grid twice as fine
abbrev pub spread : TimingRecord → LinkRecord
spread s =
    link_banded (s.first_out *ℤ pos 2 +ℤ pos s.band_out) (map (λ n. s.band_out) s.run_out) (s.first_in *ℤ pos 2 +ℤ pos s.band_in) (map (λ n. s.band_in) s.run_in)
    (finer_base 2 (base s))

less_one : (m n : ℕ) → m + 1 ≡ n → m ≡ n - 1
less_one m n e = omega (arith, e)

ticks_above : (a : Street) (s : BaseRecord) → IsValid a → IsBaseRecord s → 0 < cycle a s
ticks_above a s valid p =
    let parts : 1 ≤ a.head.parts = let p = valid.least_parts in omega (arith, p) in
    let u : 1 ≤ s.unit = let w = p.unit in omega (arith, w) in
    let q : 1 * 1 ≤ a.head.parts * s.unit = mul-le parts u in
    omega (arith, q)

back : (x y : ℤ) (h : ℕ) → x ≡ y +ℤ pos h → x -ℤ pos h ≡ y
back x y h e = omega (arith, ints, e)

module _ (a : Street) (s : TimingRecord) (valid : IsValid a) (good : Good a s) where
  abbrev fine : TimingRecord
  fine = finer 2 s

  abbrev around : LinkRecord
  around = spread s

  fine_good : Good a fine
  fine_good = (finer_law a s 2 valid good.base.formed.unit (omega arith)).0 good

  around_base : IsBase a (link_base around)
  around_base = fine_good.base

  links_out : length s.run_out + 1 ≡ count a
  links_out = good.base.formed.run_out ∙ good.base.shape

  links_in : length s.run_in + 1 ≡ count a
  links_in = good.base.formed.run_in ∙ good.base.shape

  half_is : (d : Dir) (i : ℕ) → HasLink a i → half around d i ≡ band s d
  half_is Outbound i l = let e = links_out in const_at s.run_out s.band_out (i - 1) (omega (arith, l.0, l.1, e))
  half_is Inbound i l = let e = links_in in const_at s.run_in s.band_in (i - 1) (omega (arith, l.0, l.1, e))

  edge_out : (i : ℕ) → line_at a (lines around) Outbound i -ℤ pos s.band_out ≡ crossing a fine Outbound (i - 1)
  edge_out i = back (line_at a (lines around) Outbound i) (crossing a fine Outbound (i - 1)) s.band_out (crossing_out a fine (pos s.band_out) (pos s.band_in) 0 0 (i - 1))

  edge_in : (i : ℕ) → line_at a (lines around) Inbound i -ℤ pos s.band_in ≡ crossing a fine Inbound (count a - i)
  edge_in i = back (line_at a (lines around) Inbound i) (crossing a fine Inbound (count a - i)) s.band_in (crossing_in a fine (pos s.band_out) (pos s.band_in) 0 0 (count a - i))

  green_out : (i : ℕ) → HasSignal a i → IsGreenAround a around Outbound i s.band_out
  green_out i h =
      let at : i - 1 + 1 ≡ i = omega (arith, h.0) in
      let wide : s.band_out * 2 ≡ 2 * s.band_out = omega arith in
      let g = fine_good.outbound (i - 1) (omega (arith, h.0, h.1)) in
      subst (λ b. BandIsGreen (cycle a (base fine)) (red_start a (base fine) Outbound i) (red_ticks a (base fine) Outbound i) (line_at a (lines around) Outbound i -ℤ pos s.band_out) b) wide
      (subst (λ x. BandIsGreen (cycle a (base fine)) (red_start a (base fine) Outbound i) (red_ticks a (base fine) Outbound i) x (s.band_out * 2)) (sym (edge_out i))
      (subst (λ k. BandIsGreen (cycle a (base fine)) (red_start a (base fine) Outbound k) (red_ticks a (base fine) Outbound k) (crossing a fine Outbound (i - 1)) (s.band_out * 2)) at g))

  green_in : (i : ℕ) → HasSignal a i → IsGreenAround a around Inbound i s.band_in
  green_in i h =
      let at : count a - (count a - i) ≡ i = omega (arith, h.0, h.1) in
      let wide : s.band_in * 2 ≡ 2 * s.band_in = omega arith in
      let g = fine_good.inbound (count a - i) (omega (arith, h.0, h.1)) in
      subst (λ b. BandIsGreen (cycle a (base fine)) (red_start a (base fine) Inbound i) (red_ticks a (base fine) Inbound i) (line_at a (lines around) Inbound i -ℤ pos s.band_in) b) wide
      (subst (λ x. BandIsGreen (cycle a (base fine)) (red_start a (base fine) Inbound i) (red_ticks a (base fine) Inbound i) x (s.band_in * 2)) (sym (edge_in i))
      (subst (λ k. BandIsGreen (cycle a (base fine)) (red_start a (base fine) Inbound k) (red_ticks a (base fine) Inbound k) (crossing a fine Inbound (count a - i)) (s.band_in * 2)) at g))

  green_at : (d : Dir) (i k : ℕ) → HasSignal a k → HasLink a i → IsGreenAround a around d k (half around d i)
  green_at Outbound i k h l = subst (λ b. IsGreenAround a around Outbound k b) (sym (half_is Outbound i l)) (green_out k h)
  green_at Inbound i k h l = subst (λ b. IsGreenAround a around Inbound k b) (sym (half_is Inbound i l)) (green_in k h)

  ratio_at : (i : ℕ) → HasLink a i → RatioHolds a.head.ratio (half around Outbound i) (half around Inbound i)
  ratio_at i l = subst (λ o. RatioHolds a.head.ratio o (half around Inbound i)) (sym (half_is Outbound i l)) (subst (λ b. RatioHolds a.head.ratio s.band_out b) (sym (half_is Inbound i l)) good.ratio)

  pub spread_good : GoodLinks a around
  spread_good = record {
    formed = record {
      base = around_base.formed;
      half_out = ap (λ n. n + 1) (length-map s.run_out (λ n. s.band_out)) ∙ good.base.formed.run_out;
      half_in = ap (λ n. n + 1) (length-map s.run_in (λ n. s.band_in)) ∙ good.base.formed.run_in;
    };
    base = around_base;
    ratio = ratio_at;
    here = λ d i l. green_at d i i (omega (arith, l.0, l.1), omega (arith, l.0, l.1)) l;
    there = λ d i l. green_at d i (i + 1) (omega (arith, l.0, l.1), omega (arith, l.0, l.1)) l;
  }

  parts_above : 0 < cycle a (base s)
  parts_above = ticks_above a (base s) valid good.base.formed

  pub spread_value : number (count a - 1) *ℚ weighted_band a s ≡ link_value a around
  spread_value =
      let out : sum around.half_out ≡ (count a - 1) * s.band_out = const_sum s.run_out s.band_out ∙ ap (λ n. n * s.band_out) (less_one (length s.run_out) (count a) links_out) in
      let in_ : sum around.half_in ≡ (count a - 1) * s.band_in = const_sum s.run_in s.band_in ∙ ap (λ n. n * s.band_in) (less_one (length s.run_in) (count a) links_in) in
      let ticks : cycle a (base s) * 2 ≡ cycle a (link_base around) = omega arith in
      same_value a.head.ratio (count a - 1) s.band_out s.band_in (cycle a (base s)) parts_above
      ∙ ap₂ (λ x y. (number 2 *ℚ (number x +ℚ a.head.ratio *ℚ number y)) /ℚ number (cycle a (base s) * 2)) (sym out) (sym in_)
      ∙ ap (λ c. (number 2 *ℚ (number (sum around.half_out) +ℚ a.head.ratio *ℚ number (sum around.half_in))) /ℚ number c) ticks

as_wide : (a : Street) (t : LinkRecord) (s : TimingRecord) → IsValid a → BestLinks a t → Good a s → (number (count a - 1) *ℚ weighted_band a s) ≤ℚ link_value a t
as_wide a t s valid best good = subst (λ v. v ≤ℚ link_value a t) (sym (spread_value a s valid good)) (best.greatest (spread s) (spread_good a s valid good))

-- ---- from a link timing of two signals to a timing
-- the widths of the only link
abbrev pub only : LinkRecord → TimingRecord
only t = moved (lines t) (neg_ℤ (pos (half t Outbound 1))) (neg_ℤ (pos (half t Inbound 1))) (half t Outbound 1 * 2) (half t Inbound 1 * 2)

one_item : (xs : List ℕ) → length xs ≡ 1 → sum xs ≡ get_or xs 0 0
one_item [] e = absurd (omega (arith, e))
one_item (x ∷ []) e = omega arith
one_item (x ∷ y ∷ more) e = absurd (omega (arith, e))

no_least : (c b : ℕ) → (number 0 *ℚ number c) ≤ℚ number b
no_least c b = subst (λ x. x ≤ℚ number b) (sym (zero-*ℚ (number c))) (whole-≤ℤ (pos 0) (pos b) (omega (arith, ints)))

not_asked : (e : Bool) → false ≡ e → IsTrue e → ⊥
not_asked e is h = cc

module _ (a : Street) (t : LinkRecord) (valid : IsValid a) (bare : plain a ≡ a) (two : count a ≡ 2) (good : GoodLinks a t) where
  abbrev out : ℕ
  out = half t Outbound 1

  abbrev back_in : ℕ
  back_in = half t Inbound 1

  abbrev timing : TimingRecord
  timing = only t

  only_link : HasLink a 1
  only_link = (omega arith, omega (arith, two))

  least_zero : (d : Dir) → number 0 ≡ least_band a d
  least_zero Outbound = ap (λ (b : Street). b.head.least_out) bare
  least_zero Inbound = ap (λ (b : Street). b.head.least_in) bare

  equal_false : false ≡ a.head.equal
  equal_false = ap (λ (b : Street). b.head.equal) bare

  green_from : (d : Dir) (i : ℕ) (x : ℤ) → line_at a (lines t) d i -ℤ pos (half t d 1) ≡ x → IsGreenAround a t d i (half t d 1)
      → BandIsGreen (cycle a (link_base t)) (red_start a (link_base t) d i) (red_ticks a (link_base t) d i) x (half t d 1 * 2)
  green_from d i x e g =
      let wide : 2 * half t d 1 ≡ half t d 1 * 2 = omega arith in
      subst (λ b. BandIsGreen (cycle a (link_base t)) (red_start a (link_base t) d i) (red_ticks a (link_base t) d i) x b) wide
      (subst (λ y. BandIsGreen (cycle a (link_base t)) (red_start a (link_base t) d i) (red_ticks a (link_base t) d i) y (2 * half t d 1)) e g)

  edge_there : (j : ℕ) → crossing a (lines t) Outbound j -ℤ pos out ≡ crossing a timing Outbound j
  edge_there j = sym (crossing_out a (lines t) (neg_ℤ (pos out)) (neg_ℤ (pos back_in)) (out * 2) (back_in * 2) j)

  edge_back : (j : ℕ) → crossing a (lines t) Inbound j -ℤ pos back_in ≡ crossing a timing Inbound j
  edge_back j = sym (crossing_in a (lines t) (neg_ℤ (pos out)) (neg_ℤ (pos back_in)) (out * 2) (back_in * 2) j)

  way_there : (j : ℕ) → j < count a → IsGreenAt a timing Outbound j
  way_there zero l = green_from Outbound 1 (crossing a timing Outbound 0) (edge_there 0) (good.here Outbound 1 only_link)
  way_there (suc zero) l = green_from Outbound 2 (crossing a timing Outbound 1) (edge_there 1) (good.there Outbound 1 only_link)
  way_there (suc (suc j)) l = absurd (omega (arith, l, two))

  -- the far signal comes first on the way back
  stop_back : (j i : ℕ) → count a - j ≡ i → BandIsGreen (cycle a (base timing)) (red_start a (base timing) Inbound i) (red_ticks a (base timing) Inbound i) (crossing a timing Inbound j) (back_in * 2)
      → IsGreenAt a timing Inbound j
  stop_back j i e g = subst (λ k. BandIsGreen (cycle a (base timing)) (red_start a (base timing) Inbound k) (red_ticks a (base timing) Inbound k) (crossing a timing Inbound j) (back_in * 2)) (sym e) g

  line_back : (i j : ℕ) → count a - i ≡ j → line_at a (lines t) Inbound i -ℤ pos back_in ≡ crossing a timing Inbound j
  line_back i j e = ap (λ k. crossing a (lines t) Inbound k -ℤ pos back_in) e ∙ edge_back j

  way_back : (j : ℕ) → j < count a → IsGreenAt a timing Inbound j
  way_back zero l = stop_back 0 2 (omega (arith, two)) (green_from Inbound 2 (crossing a timing Inbound 0) (line_back 2 0 (omega (arith, two))) (good.there Inbound 1 only_link))
  way_back (suc zero) l = stop_back 1 1 (omega (arith, two)) (green_from Inbound 1 (crossing a timing Inbound 1) (line_back 1 1 (omega (arith, two))) (good.here Inbound 1 only_link))
  way_back (suc (suc j)) l = absurd (omega (arith, l, two))

  least_kept : (d : Dir) → HasLeastBand a timing d
  least_kept Outbound = subst (λ x. (x *ℚ number (cycle a (base timing))) ≤ℚ number (out * 2)) (least_zero Outbound) (no_least (cycle a (base timing)) (out * 2))
  least_kept Inbound = subst (λ x. (x *ℚ number (cycle a (base timing))) ≤ℚ number (back_in * 2)) (least_zero Inbound) (no_least (cycle a (base timing)) (back_in * 2))

  pub only_good : Good a timing
  only_good = record {
    base = good.base;
    ratio = (ratio_finer a.head.ratio out back_in 2 (omega arith)).0 (good.ratio 1 only_link);
    least = least_kept;
    equal = λ e. absurd (not_asked a.head.equal equal_false e);
    outbound = way_there;
    inbound = way_back;
  }

  one_half : (halves : List ℕ) → length halves + 1 ≡ length t.patterns → sum halves ≡ get_or halves 0 0
  one_half halves e = let n = good.base.shape in one_item halves (omega (arith, e, n, two))

  pub only_value : link_value a t ≡ weighted_band a timing
  only_value =
      ap₂ (λ x y. (number 2 *ℚ (number x +ℚ a.head.ratio *ℚ number y)) /ℚ number (cycle a (base timing))) (one_half t.half_out good.formed.half_out) (one_half t.half_in good.formed.half_in)
      ∙ ap (λ x. x /ℚ number (cycle a (base timing))) (sym (twice_out a.head.ratio out back_in))

two_signals : (a : Street) (t : LinkRecord) (s : TimingRecord) → IsValid a → plain a ≡ a → count a ≡ 2 → BestLinks a t → Best a s → link_value a t ≡ weighted_band a s
two_signals a t s valid bare two best whole =
    let one : count a - 1 ≡ 1 = omega (arith, two) in
    let wide : (number 1 *ℚ weighted_band a s) ≤ℚ link_value a t = subst (λ n. (number n *ℚ weighted_band a s) ≤ℚ link_value a t) one (as_wide a t s valid best whole.good) in
    ≤ℚ_antisymm (link_value a t) (weighted_band a s)
    (subst (λ x. x ≤ℚ weighted_band a s) (sym (only_value a t valid bare two best.good)) (whole.greatest (only t) (only_good a t valid bare two best.good)))
    (subst (λ x. x ≤ℚ link_value a t) (one-*ℚ (weighted_band a s)) wide)

pub links_as_wide : LinksAsWide
links_as_wide = record { as_wide = as_wide; two_signals = two_signals }
