-- Lemmas on the definitions of `Capped`.
use Rattle.std.specs.Prelude.{◌≡◌, ◌⊎◌, ℤ, pos, ◌-ℤ◌, ◌≤ℤ◌, ◌<ℤ◌, Bool, true, false, List, [], ◌∷◌}
use Rattle.std.proofs.Common.{inl, inr, refl, subst, arith}
use Rattle.std.proofs.lemmas.Int.{ints}
use lib.Signed.{lt_z}
use Rattle.rational_theory.specs.Rational.{whole, ◌≤ℚ◌}
use Rattle.rational_theory.proofs.Order.{≤ℚ_refl, whole-≤ℤ}
use Rattle.linear_theory.specs.Boxes.{Area, Span, Ranks, loop_span}
use Rattle.search_box.specs.declared.span.At.{At}
use Rattle.search_box.specs.declared.span.At.TheVariants.{Loop}
use Rattle.search_box.specs.Places.{IsPlace, low_part, high_part}
use Rattle.branch_and_bound.specs.Choices.{HasNumbers}
use Rattle.branch_and_bound.specs.Lineages.{Empty, Reads, Cuts, IsOptimal}
use Rattle.engine_tests.specs.Capped.{ending_span, ending_of, bound_of, HasNone}

-- ---- laws
-- the three ends of a span
pub data Case (cap : ℤ) (s : Span) : Type 0 where
  is_empty : (s.most <ℤ s.least) ⊎ (cap <ℤ s.least) → ending_span cap s ≡ Empty → Case cap s
  is_cut : s.least ≤ℤ cap → cap <ℤ s.most → ending_span cap s ≡ Cuts (Loop 1 (s.most -ℤ pos 1)) → Case cap s
  is_read : s.least ≤ℤ s.most → s.most ≤ℤ cap → ending_span cap s ≡ Reads → Case cap s

below : (a b : ℤ) → lt_z a b ≡ true → a <ℤ b
below a b h = grind (arith, ints)

above : (a b : ℤ) → lt_z a b ≡ false → b ≤ℤ a
above a b h = grind (arith, ints)

pub case_of : (cap : ℤ) (s : Span) → Case cap s
case_of cap s = by_tests cap s (lt_z s.most s.least) (lt_z cap s.least) (lt_z cap s.most) refl refl refl
  where
    by_tests : (cap : ℤ) (s : Span) (a b c : Bool) → lt_z s.most s.least ≡ a → lt_z cap s.least ≡ b → lt_z cap s.most ≡ c → Case cap s
    by_tests cap s true b c e f g = is_empty (inl (below s.most s.least e)) (rw e refl)
    by_tests cap s false true c e f g = is_empty (inr (below cap s.least f)) (rw (e, f) refl)
    by_tests cap s false false true e f g = is_cut (above cap s.least f) (below cap s.most g) (rw (e, f, g) refl)
    by_tests cap s false false false e f g = is_read (above s.most s.least e) (above cap s.most g) (rw (e, f, g) refl)

-- a span that is cut, with its place
pub record IsCutSpan (cap : ℤ) (s : Span) (place : At) : Type 0 where
  pub least : s.least ≤ℤ cap
  pub most : cap <ℤ s.most
  pub place_is : Loop 1 (s.most -ℤ pos 1) ≡ place

cut_span : (cap : ℤ) (s : Span) (place : At) → Case cap s → ending_span cap s ≡ Cuts place → IsCutSpan cap s place
cut_span cap s place (is_empty h k) e = cc
cut_span cap s place (is_cut h k f) e = record { least = h; most = k; place_is = cc }
cut_span cap s place (is_read h k f) e = cc

abbrev pub box_of : List Span → List Ranks → Area
box_of loops turns = record { loops = loops; turns = turns }

pub inside_of : (cap : ℤ) (loops : List Span) (turns : List Ranks) (place : At) → ending_of cap loops ≡ Cuts place → IsPlace (box_of loops turns) place
inside_of cap [] turns place e = cc
inside_of cap (s ∷ t ∷ ss) turns place e = cc
inside_of cap (s ∷ []) turns place e =
    let h = cut_span cap s place (case_of cap s) e in
    let least = h.least in let most = h.most in
    subst (λ p. IsPlace (box_of (s ∷ []) turns) p) h.place_is (omega arith, omega arith, omega (arith, ints), omega (arith, ints))

pub has_numbers_of : (cap : ℤ) (loops : List Span) (turns : List Ranks) (place : At) → ending_of cap loops ≡ Cuts place → HasNumbers (box_of loops turns)
has_numbers_of cap [] turns place e i h k = cc
has_numbers_of cap (s ∷ t ∷ ss) turns place e i h k = cc
has_numbers_of cap (s ∷ []) turns place e i h k =
    let c = cut_span cap s place (case_of cap s) e in
    let least = c.least in let most = c.most in
    let here : s.least ≤ℤ s.most = omega (arith, ints) in
    let first : 1 ≡ i = omega arith in
    subst (λ j. (loop_span (box_of (s ∷ []) turns) j).least ≤ℤ (loop_span (box_of (s ∷ []) turns) j).most) first here

pub low_falls_of : (cap : ℤ) (loops : List Span) (turns : List Ranks) (place : At) → ending_of cap loops ≡ Cuts place → bound_of (low_part (box_of loops turns) place).loops ≤ℚ bound_of loops
low_falls_of cap [] turns place e = cc
low_falls_of cap (s ∷ t ∷ ss) turns place e = cc
low_falls_of cap (s ∷ []) turns place e =
    let h = cut_span cap s place (case_of cap s) e in
    subst (λ p. bound_of (low_part (box_of (s ∷ []) turns) p).loops ≤ℚ whole s.most) h.place_is (whole-≤ℤ (s.most -ℤ pos 1) s.most (omega (arith, ints)))

pub high_falls_of : (cap : ℤ) (loops : List Span) (turns : List Ranks) (place : At) → ending_of cap loops ≡ Cuts place → bound_of (high_part (box_of loops turns) place).loops ≤ℚ bound_of loops
high_falls_of cap [] turns place e = cc
high_falls_of cap (s ∷ t ∷ ss) turns place e = cc
high_falls_of cap (s ∷ []) turns place e =
    let h = cut_span cap s place (case_of cap s) e in
    subst (λ p. bound_of (high_part (box_of (s ∷ []) turns) p).loops ≤ℚ whole s.most) h.place_is (≤ℚ_refl (whole s.most))

pub some_number : (cap : ℤ) (loops : List Span) → IsOptimal (ending_of cap loops) → HasNone cap loops → ⊥
some_number cap [] o none = absurd o
some_number cap (s ∷ t ∷ ss) o none = absurd o
some_number cap (s ∷ []) o none = by_case cap s (case_of cap s) o none
  where
    by_case : (cap : ℤ) (s : Span) → Case cap s → IsOptimal (ending_span cap s) → HasNone cap (s ∷ []) → ⊥
    by_case cap s (is_empty h k) o none = absurd (subst IsOptimal k o)
    by_case cap s (is_cut h k f) o none = none s.least (omega (arith, ints), omega (arith, ints), h)
    by_case cap s (is_read h k f) o none = none s.most (h, omega (arith, ints), k)
