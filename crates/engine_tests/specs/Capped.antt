-- A relaxation for the tests: the greatest block sum of the only link that is at most a cap; with more links there is none. Each
-- box costs one pivot. A refused operation is named by the count of pivots.
use Rattle.std.specs.Prelude.{ℤ, pos, ◌-ℤ◌, ◌≤ℤ◌, cond, List, [], ◌∷◌}
use lib.Signed.{lt_z}
use Rattle.rational_theory.specs.Rational.{ℚ, whole, ◌≤ℚ◌}
use Rattle.linear_theory.specs.Boxes.{Span}
use Rattle.search_box.specs.declared.span.At.TheVariants.{Loop}
use Rattle.branch_and_bound.specs.Lineages.{Ending, Empty, Reads, Cuts}

-- ---- the end of a box
-- a span above the cap is split before its greatest number
abbrev pub ending_span : ℤ → Span → Ending
ending_span cap s = cond (lt_z s.most s.least) Empty (cond (lt_z cap s.least) Empty (cond (lt_z cap s.most) (Cuts (Loop 1 (s.most -ℤ pos 1))) Reads))

abbrev pub ending_of : ℤ → List Span → Ending
ending_of cap (s ∷ []) = ending_span cap s
ending_of cap _ = Empty

abbrev pub bound_of : List Span → ℚ
bound_of [] = whole (pos 0)
bound_of (s ∷ ss) = whole s.most

-- the number is in the span of the only link, and at most the cap
abbrev pub IsNumber : ℤ → List Span → ℤ → Type 0
IsNumber cap (s ∷ []) x = (s.least ≤ℤ x) × (x ≤ℤ s.most) × (x ≤ℤ cap)
IsNumber cap _ x = ⊥

abbrev pub CoversNumbers : ℤ → List Span → ℚ → Type 0
CoversNumbers cap loops v = (x : ℤ) → IsNumber cap loops x → whole x ≤ℚ v

abbrev pub HasNone : ℤ → List Span → Type 0
HasNone cap loops = (x : ℤ) → IsNumber cap loops x → ⊥
