-- A band leaves and enters a link exactly where the pieces that are drawn do.
use Rattle.std.proofs.Common.{◌≡◌, ℕ, suc, ℤ, pos, negsuc, ◌+ℤ◌, ◌-ℤ◌, ◌*ℤ◌, ◌≤ℤ◌, ◌+◌, ◌*◌, ◌/◌, ◌<◌, ◌≤◌, Bool, true, false, not, nat_le}
use Rattle.std.proofs.Common.{IsTrue, true≢false, refl, sym, ap, subst, ◌∙◌, arith, inl, inr, mul-pos}
use Rattle.std.specs.Prelude.{◌<ℤ◌, ◌⊎◌, int_le, int_lt}
use Rattle.std.proofs.lemmas.Int.{ints}
use Rattle.std.proofs.lemmas.Bool.{cases_lt, leb-true, le-leb}
use Rattle.std.proofs.Math.Nat.{mul-div_cancel}
use Rattle.progression.specs.Street.{Street}
use Rattle.progression.specs.TimingRecord.{TimingRecord, base, band}
use Rattle.progression.specs.BaseRecord.{cycle, run, common_red}
use Rattle.progression.specs.Green.{mod_ℤ, red_ticks}
use Rattle.progression.specs.Lines.{line_at}
use Rattle.progression.specs.declared.parts.Dir.{Dir}
use Rattle.progression.proofs.Remainders.{quot_ℤ, split_ℤ, mod_below, mod_unique}
use Rattle.time_space.proofs.Scale.{minus_scale}
use Rattle.time_space.proofs.FinerGrids.{plus_scale, mul-le}
use Rattle.diagram_draw.specs.declared.frame.Frame.{Frame}
use Rattle.diagram_draw.specs.declared.bands.BandPart.{BandPart}
use Rattle.diagram_draw.specs.declared.bands.Edge.{Edge}
use Rattle.diagram_draw.specs.declared.bands.Edge.TheVariants.{Leaving, Entering}
use Rattle.diagram_draw.specs.Bands.{tail, is_seen, is_chosen, band_in_cycle, band_part}
use Rattle.diagram_draw.specs.Members.{IsDrawnPart}
use Rattle.diagram_draw.specs.Laws.{IsWithin, IsBandShown, BandsAreShown, PiecesAreSeen, PiecesAreOnce}
use Rattle.diagram_draw.proofs.Apart.{gap_there, red_some}
use Rattle.timing_words.proofs.GreenWays.{both_true, true_both}

-- ---- what is seen
le_true : (x y : ℤ) → x ≤ℤ y → int_le x y ≡ true
le_true x y h = by (int_le x y) refl
  where
    by : (b : Bool) → int_le x y ≡ b → int_le x y ≡ true
    by true e = e
    by false e = absurd (omega (arith, ints, e, h))

lt_true : (x y : ℤ) → x <ℤ y → int_lt x y ≡ true
lt_true x y h = by (int_lt x y) refl
  where
    by : (b : Bool) → int_lt x y ≡ b → int_lt x y ≡ true
    by true e = e
    by false e = absurd (omega (arith, ints, e, h))

-- not before the first moment that is shown, and not after the last
pub record Seen (x : ℤ) (b whole : ℕ) : Type 0 where
  pub after : pos 0 ≤ℤ (x +ℤ pos b)
  pub before : x <ℤ pos whole

module _ (f : Frame) (x : ℤ) (b : ℕ) where
  seen_is : IsTrue (is_seen f x b) → Seen x b (f.cycles * f.cycle)
  seen_is h =
      let both = both_true (int_le (pos 0) (x +ℤ pos b)) (int_lt x (pos (f.cycles * f.cycle))) h in
      let one = both.0 in
      let other = both.1 in
      record { after = omega (arith, ints, one); before = omega (arith, ints, other) }

  is_seen_so : Seen x b (f.cycles * f.cycle) → IsTrue (is_seen f x b)
  is_seen_so s = true_both (int_le (pos 0) (x +ℤ pos b)) (int_lt x (pos (f.cycles * f.cycle))) (le_true (pos 0) (x +ℤ pos b) s.after) (lt_true x (pos (f.cycles * f.cycle)) s.before)

-- what is within is seen
within_seen : (x : ℤ) (b whole n : ℕ) → n < whole → IsWithin x b (pos n) → Seen x b whole
within_seen x b whole n l w =
    let begun = w.begun in
    let lasting = w.lasting in
    record { after = omega (arith, ints, lasting); before = omega (arith, ints, begun, l) }

-- and what is seen is within somewhere
seen_within : (x : ℤ) (b whole : ℕ) → 0 < whole → Seen x b whole → (n : ℕ) × (n < whole) × IsWithin x b (pos n)
seen_within (pos k) b whole some s = let before = s.before in (k, omega (arith, ints, before), record { begun = omega (arith, ints); lasting = omega (arith, ints) })
seen_within (negsuc k) b whole some s = let after = s.after in (0, some, record { begun = omega (arith, ints); lasting = omega (arith, ints, after) })

-- ---- numbers of cycles
-- what is seen and is some cycles after a remainder is so in one of the cycles that are looked at
number_seen : (k x : ℤ) (c b r cycles : ℕ) → r < c → b ≤ c → x ≡ pos r -ℤ pos (1 * c) +ℤ k *ℤ pos c → Seen x b (cycles * c) → (m : ℕ) × (m < cycles + 1) × (k ≡ pos m)
number_seen (pos m) x c b r cycles l h e s = elim (cases_lt m (cycles + 1)) [
  | inl p ↦ (m, p, refl)
  | inr p ↦ (let far : (cycles + 1) * c ≤ m * c = mul-le p (let q : c ≤ c = omega arith in q) in
      let one : (cycles + 1) * c ≡ cycles * c + c = grind arith in
      let before = s.before in
      absurd (omega (arith, ints, e, before, far, one)))
]
number_seen (negsuc j) x c b r cycles l h e s =
    let far : 1 * c ≤ suc j * c = mul-le (let q : 1 ≤ suc j = omega arith in q) (let q : c ≤ c = omega arith in q) in
    let after = s.after in
    absurd (omega (arith, ints, e, l, h, far, after))

-- a number that isn't negative
whole_of : (z : ℤ) → pos 0 ≤ℤ z → (k : ℕ) × (z ≡ pos k)
whole_of (pos k) h = (k, refl)
whole_of (negsuc k) h = absurd (omega (arith, ints, h))

-- ---- a line that comes again
module _ (c b : ℕ) (line o : ℤ) (some : 0 < c) (below : b < c) (cycles n : ℕ) (shown : n < cycles * c) where
  -- passing, it is within a cycle that is looked at
  within_some : IsTrue (nat_le (mod_ℤ (o +ℤ pos n -ℤ line) c) b) → (m : ℕ) × (m < cycles + 1) × IsWithin (pos (mod_ℤ (line -ℤ o) c) -ℤ pos (1 * c) +ℤ pos (m * c)) b (pos n)
  within_some g =
      let ago = mod_ℤ (o +ℤ pos n -ℤ line) c in
      let q = quot_ℤ (line -ℤ o) c in
      let k = quot_ℤ (o +ℤ pos n -ℤ line) c in
      let r = mod_ℤ (line -ℤ o) c in
      let near : ago ≤ b = leb-true ago b g in
      let e = split_ℤ (line -ℤ o) c some in
      let w = split_ℤ (o +ℤ pos n -ℤ line) c some in
      let one = plus_scale q k c in
      let two = plus_scale (q +ℤ k) (pos 1) c in
      let x = pos n -ℤ pos ago in
      let here : x ≡ pos r -ℤ pos (1 * c) +ℤ (q +ℤ k +ℤ pos 1) *ℤ pos c = omega (arith, ints, e, w, one, two) in
      let found = number_seen (q +ℤ k +ℤ pos 1) x c b r cycles (mod_below (line -ℤ o) c some) (omega (arith, below)) here
      (record { after = omega (arith, ints, near); before = omega (arith, ints, shown) }) in
      let number = ap (λ z. z *ℤ pos c) found.2 in
      (found.0, found.1, record { begun = omega (arith, ints, here, number); lasting = omega (arith, ints, here, number, near) })

  -- and within any cycle it is passing
  passing_within : (k x : ℤ) → x ≡ pos (mod_ℤ (line -ℤ o) c) -ℤ pos (1 * c) +ℤ k *ℤ pos c → IsWithin x b (pos n) → IsTrue (nat_le (mod_ℤ (o +ℤ pos n -ℤ line) c) b)
  passing_within k x is w =
      let begun = w.begun in
      let lasting = w.lasting in
      let q = quot_ℤ (line -ℤ o) c in
      let r = mod_ℤ (line -ℤ o) c in
      let e = split_ℤ (line -ℤ o) c some in
      let one = minus_scale k (pos 1) c in
      let two = minus_scale (k -ℤ pos 1) q c in
      let gap = whole_of (pos n -ℤ x) (omega (arith, ints, begun)) in
      let back = gap.1 in
      let near : gap.0 ≤ b = omega (arith, ints, back, lasting) in
      let there : o +ℤ pos n -ℤ line ≡ (k -ℤ pos 1 -ℤ q) *ℤ pos c +ℤ pos gap.0 = omega (arith, ints, e, is, one, two, back) in
      let since_is = mod_unique (o +ℤ pos n -ℤ line) (k -ℤ pos 1 -ℤ q) c gap.0 there (omega (arith, near, below)) in
      subst (λ r. IsTrue (nat_le r b)) (sym since_is) (le-leb gap.0 b near)

-- ---- the two ends of a link
-- where a part leaves and where it enters, in whole cycles after either of the remainders
module _ (c r : ℕ) (line o : ℤ) (some : 0 < c) where
  leaves_at : (m : ℕ) → pos (mod_ℤ (line +ℤ pos r -ℤ o) c) -ℤ pos (1 * c) -ℤ pos r +ℤ pos (m * c)
      ≡ pos (mod_ℤ (line -ℤ o) c) -ℤ pos (1 * c) +ℤ (quot_ℤ (line -ℤ o) c -ℤ quot_ℤ (line +ℤ pos r -ℤ o) c +ℤ pos m) *ℤ pos c
  leaves_at m =
      let p = quot_ℤ (line -ℤ o) c in
      let q = quot_ℤ (line +ℤ pos r -ℤ o) c in
      let e = split_ℤ (line -ℤ o) c some in
      let w = split_ℤ (line +ℤ pos r -ℤ o) c some in
      let one = minus_scale p q c in
      let two = plus_scale (p -ℤ q) (pos m) c in
      omega (arith, ints, e, w, one, two)

  enters_at : (m : ℕ) → pos (mod_ℤ (line -ℤ o) c) -ℤ pos (1 * c) +ℤ pos (m * c) +ℤ pos r
      ≡ pos (mod_ℤ (line +ℤ pos r -ℤ o) c) -ℤ pos (1 * c) +ℤ (quot_ℤ (line +ℤ pos r -ℤ o) c -ℤ quot_ℤ (line -ℤ o) c +ℤ pos m) *ℤ pos c
  enters_at m =
      let p = quot_ℤ (line -ℤ o) c in
      let q = quot_ℤ (line +ℤ pos r -ℤ o) c in
      let e = split_ℤ (line -ℤ o) c some in
      let w = split_ℤ (line +ℤ pos r -ℤ o) c some in
      let one = minus_scale q p c in
      let two = plus_scale (q -ℤ p) (pos m) c in
      omega (arith, ints, e, w, one, two)

same_after : (x : ℤ) (c m : ℕ) → x +ℤ pos (m * c) ≡ x +ℤ pos m *ℤ pos c
same_after x c m = omega (arith, ints)

back_again : (y r c m : ℕ) → pos y -ℤ pos (1 * c) -ℤ pos r +ℤ pos (m * c) +ℤ pos r ≡ pos y -ℤ pos (1 * c) +ℤ pos (m * c)
back_again y r c m = omega (arith, ints)

-- ---- the parts that are drawn
module _ (f : Frame) (a : Street) (t : TimingRecord) (d : Dir) (l : ℕ) (e : f.cycle ≡ cycle a (base t)) where
  abbrev line_out : ℤ
  line_out = line_at a t d (tail d l)

  abbrev part_of : Edge → ℕ → BandPart
  part_of g m = band_in_cycle f (band_part f a t d g l) m

  leaving_begin : (m : ℕ) → (part_of Leaving m).begin ≡ pos (mod_ℤ (line_out -ℤ common_red (base t) 1) f.cycle) -ℤ pos (1 * f.cycle) +ℤ pos (m * f.cycle)
  leaving_begin m = ap (λ c. pos (mod_ℤ (line_out -ℤ common_red (base t) 1) c) -ℤ pos (1 * f.cycle) +ℤ pos (m * f.cycle)) (sym e)

  entering_begin : (m : ℕ) → (part_of Entering m).begin
      ≡ pos (mod_ℤ (line_out +ℤ pos (run (base t) d l) -ℤ common_red (base t) 1) f.cycle) -ℤ pos (1 * f.cycle) -ℤ pos (run (base t) d l) +ℤ pos (m * f.cycle)
  entering_begin m = ap (λ c. pos (mod_ℤ (line_out +ℤ pos (run (base t) d l) -ℤ common_red (base t) 1) c) -ℤ pos (1 * f.cycle) -ℤ pos (run (base t) d l) +ℤ pos (m * f.cycle)) (sym e)

  is_drawn : (g : Edge) (m : ℕ) → m < f.cycles + 1 → IsTrue (is_chosen f g (part_of g m)) → IsDrawnPart f a t d l (part_of g m)
  is_drawn g m lt chosen = record { edge = g; cycle = m; shown = lt; is = refl; chosen = chosen }

  module _ (some : 0 < f.cycle) (below : band t d < f.cycle) (n : ℕ) (w : n < f.cycles * f.cycle) where
    passes_leaving : (g : Edge) (m : ℕ) → IsWithin (part_of g m).begin (band t d) (pos n) → IsTrue (nat_le (mod_ℤ (common_red (base t) 1 +ℤ pos n -ℤ line_out) f.cycle) (band t d))
    passes_leaving Leaving m h =
        passing_within f.cycle (band t d) line_out (common_red (base t) 1) some below f.cycles n w (pos m) (part_of Leaving m).begin
        (leaving_begin m ∙ same_after (pos (mod_ℤ (line_out -ℤ common_red (base t) 1) f.cycle) -ℤ pos (1 * f.cycle)) f.cycle m) h
    passes_leaving Entering m h =
        passing_within f.cycle (band t d) line_out (common_red (base t) 1) some below f.cycles n w _ (part_of Entering m).begin
        (entering_begin m ∙ leaves_at f.cycle (run (base t) d l) line_out (common_red (base t) 1) some m) h

    passes_entering : (g : Edge) (m : ℕ) → IsWithin ((part_of g m).begin +ℤ pos (run (base t) d l)) (band t d) (pos n)
        → IsTrue (nat_le (mod_ℤ (common_red (base t) 1 +ℤ pos n -ℤ (line_out +ℤ pos (run (base t) d l))) f.cycle) (band t d))
    passes_entering Leaving m h =
        passing_within f.cycle (band t d) (line_out +ℤ pos (run (base t) d l)) (common_red (base t) 1) some below f.cycles n w _ ((part_of Leaving m).begin +ℤ pos (run (base t) d l))
        (ap (λ x. x +ℤ pos (run (base t) d l)) (leaving_begin m) ∙ enters_at f.cycle (run (base t) d l) line_out (common_red (base t) 1) some m) h
    passes_entering Entering m h =
        passing_within f.cycle (band t d) (line_out +ℤ pos (run (base t) d l)) (common_red (base t) 1) some below f.cycles n w (pos m) ((part_of Entering m).begin +ℤ pos (run (base t) d l))
        (ap (λ x. x +ℤ pos (run (base t) d l)) (entering_begin m) ∙ (back_again _ (run (base t) d l) f.cycle m ∙ same_after _ f.cycle m)) h

    leaves : IsTrue (nat_le (mod_ℤ (common_red (base t) 1 +ℤ pos n -ℤ line_out) f.cycle) (band t d)) → (part : BandPart) × IsDrawnPart f a t d l part × IsWithin part.begin part.band (pos n)
    leaves g =
        let found = within_some f.cycle (band t d) line_out (common_red (base t) 1) some below f.cycles n w g in
        let within : IsWithin (part_of Leaving found.0).begin (band t d) (pos n) = subst (λ x. IsWithin x (band t d) (pos n)) (sym (leaving_begin found.0)) found.2 in
        (part_of Leaving found.0, is_drawn Leaving found.0 found.1 (is_seen_so f (part_of Leaving found.0).begin (band t d) (within_seen _ (band t d) (f.cycles * f.cycle) n w within)), within)

    -- a part that leaves within the time that is shown, where it begins with one that enters
    same_part : (m : ℕ) → IsWithin ((part_of Entering m).begin +ℤ pos (run (base t) d l)) (band t d) (pos n) → IsTrue (is_seen f (part_of Entering m).begin (band t d))
        → (part : BandPart) × IsDrawnPart f a t d l part × IsWithin (part.begin +ℤ pos part.run) part.band (pos n)
    same_part m h seen =
        let there = entering_begin m ∙ leaves_at f.cycle (run (base t) d l) line_out (common_red (base t) 1) some m in
        let found = number_seen _ (part_of Entering m).begin f.cycle (band t d) (mod_ℤ (line_out -ℤ common_red (base t) 1) f.cycle) f.cycles
        (mod_below (line_out -ℤ common_red (base t) 1) f.cycle some) (omega (arith, below)) there (seen_is f (part_of Entering m).begin (band t d) seen) in
        let same : (part_of Entering m).begin ≡ (part_of Leaving found.0).begin
        = there ∙ (ap (λ k. pos (mod_ℤ (line_out -ℤ common_red (base t) 1) f.cycle) -ℤ pos (1 * f.cycle) +ℤ k *ℤ pos f.cycle) found.2
        ∙ sym (leaving_begin found.0 ∙ same_after _ f.cycle found.0)) in (
          part_of Leaving found.0,
          is_drawn Leaving found.0 found.1 (subst (λ x. IsTrue (is_seen f x (band t d))) same seen),
          subst (λ x. IsWithin (x +ℤ pos (run (base t) d l)) (band t d) (pos n)) same h,
        )

    enters_by : (m : ℕ) → m < f.cycles + 1 → IsWithin ((part_of Entering m).begin +ℤ pos (run (base t) d l)) (band t d) (pos n) → (b : Bool) → is_seen f (part_of Entering m).begin (band t d) ≡ b
        → (part : BandPart) × IsDrawnPart f a t d l part × IsWithin (part.begin +ℤ pos part.run) part.band (pos n)
    enters_by m lt h true q = same_part m h q
    enters_by m lt h false q =
        let seen = is_seen_so f ((part_of Entering m).begin +ℤ pos (run (base t) d l)) (band t d) (within_seen _ (band t d) (f.cycles * f.cycle) n w h) in
        (part_of Entering m, is_drawn Entering m lt (true_both _ (not (is_seen f (part_of Entering m).begin (band t d))) seen (ap not q)), h)

    enters : IsTrue (nat_le (mod_ℤ (common_red (base t) 1 +ℤ pos n -ℤ (line_out +ℤ pos (run (base t) d l))) f.cycle) (band t d))
        → (part : BandPart) × IsDrawnPart f a t d l part × IsWithin (part.begin +ℤ pos part.run) part.band (pos n)
    enters g =
        let found = within_some f.cycle (band t d) (line_out +ℤ pos (run (base t) d l)) (common_red (base t) 1) some below f.cycles n w g in
        let there = ap (λ x. x +ℤ pos (run (base t) d l)) (entering_begin found.0) ∙ back_again _ (run (base t) d l) f.cycle found.0 in
        enters_by found.0 found.1 (subst (λ x. IsWithin x (band t d) (pos n)) (sym there) found.2) (is_seen f (part_of Entering found.0).begin (band t d)) refl

    band_shown : IsBandShown f a t d l n
    band_shown = record {
      leaving = (
        (λ g. leaves (subst (λ c. IsTrue (nat_le (mod_ℤ (common_red (base t) 1 +ℤ pos n -ℤ line_out) c) (band t d))) (sym e) g)),
        (λ p. let drawn = p.1 in
            subst (λ c. IsTrue (nat_le (mod_ℤ (common_red (base t) 1 +ℤ pos n -ℤ line_out) c) (band t d))) e
            (passes_leaving drawn.edge drawn.cycle (subst (λ (b : BandPart). IsWithin b.begin b.band (pos n)) drawn.is p.2))),
      );
      entering = (
        (λ g. enters (subst (λ c. IsTrue (nat_le (mod_ℤ (common_red (base t) 1 +ℤ pos n -ℤ (line_out +ℤ pos (run (base t) d l))) c) (band t d))) (sym e) g)),
        (λ p. let drawn = p.1 in
            subst (λ c. IsTrue (nat_le (mod_ℤ (common_red (base t) 1 +ℤ pos n -ℤ (line_out +ℤ pos (run (base t) d l))) c) (band t d))) e
            (passes_entering drawn.edge drawn.cycle (subst (λ (b : BandPart). IsWithin (b.begin +ℤ pos b.run) b.band (pos n)) drawn.is p.2))),
      );
    }

pub bands_are_shown : BandsAreShown
bands_are_shown f a t d l n h e v u there g w =
    let some : 0 < f.cycle = let k = h.cycle_least in omega (arith, k) in
    let here = there.0 in
    let last = there.1 in
    let gap = gap_there a t d l v u (here, omega (arith, last)) g in
    let within = gap.within in
    let free = gap.free in
    let least : 1 ≤ red_ticks a (base t) d l = red_some a (base t) d l v u (here, omega (arith, last)) in
    band_shown f a t d l e some (omega (arith, e, within, free, least)) n w

-- ---- each is seen
seen_by : (f : Frame) (g : Edge) (part : BandPart) → 0 < f.cycles * f.cycle → IsTrue (is_chosen f g part)
    → (n : ℕ) × (n < f.cycles * f.cycle) × (IsWithin part.begin part.band (pos n) ⊎ IsWithin (part.begin +ℤ pos part.run) part.band (pos n))
seen_by f Leaving part some h = let s = seen_within part.begin part.band (f.cycles * f.cycle) some (seen_is f part.begin part.band h) in (s.0, s.1, inl s.2)
seen_by f Entering part some h =
    let both = both_true (is_seen f (part.begin +ℤ pos part.run) part.band) (not (is_seen f part.begin part.band)) h in
    let s = seen_within (part.begin +ℤ pos part.run) part.band (f.cycles * f.cycle) some (seen_is f (part.begin +ℤ pos part.run) part.band both.0) in
    (s.0, s.1, inr s.2)

pub pieces_are_seen : PiecesAreSeen
pieces_are_seen f a t d l part h drawn =
    let some : 0 < f.cycles * f.cycle = mul-pos (let k = h.cycles_least in omega (arith, k)) (let k = h.cycle_least in omega (arith, k)) in
    seen_by f drawn.edge part some drawn.chosen

-- ---- none is there twice
same_number : (x : ℤ) (c m n : ℕ) → 0 < c → x +ℤ pos (m * c) ≡ x +ℤ pos (n * c) → m ≡ n
same_number x c m n some e =
    let products : m * c ≡ n * c = omega (arith, ints, e) in
    sym (mul-div_cancel m some) ∙ (ap (λ p. p / c) products ∙ mul-div_cancel n some)

not_seen : (f : Frame) (x y : ℤ) (b : ℕ) → IsTrue (is_seen f x b) → IsTrue (not (is_seen f y b)) → x ≡ y → ⊥
not_seen f x y b h k e = true≢false (sym h ∙ (ap (λ z. is_seen f z b) e ∙ not_true (is_seen f y b) k))
  where
    not_true : (t : Bool) → IsTrue (not t) → t ≡ false
    not_true false q = refl
    not_true true q = absurd (true≢false (sym q))

pub pieces_are_once : PiecesAreOnce
pieces_are_once f a t d l Leaving Leaving m n h c k e = (refl, same_number _ f.cycle m n (let q = h.cycle_least in omega (arith, q)) e)
pieces_are_once f a t d l Entering Entering m n h c k e = (refl, same_number _ f.cycle m n (let q = h.cycle_least in omega (arith, q)) e)
pieces_are_once f a t d l Leaving Entering m n h c k e = absurd (not_seen f _ _ (band t d) c (both_true _ _ k).1 e)
pieces_are_once f a t d l Entering Leaving m n h c k e = absurd (not_seen f _ _ (band t d) k (both_true _ _ c).1 (sym e))
