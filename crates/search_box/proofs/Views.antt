-- Spans of a box as its fields and as contracts see it.
use Rattle.std.proofs.Common.{◌≡◌, ◌↔◌, ℕ, ℤ, pos, ◌+ℤ◌, ◌-◌, ◌≤◌, List, slice_set, map, All, Bool, true, false, true≢false, IsTrue, refl, sym, ◌∙◌, subst, arith}
use Rattle.std.proofs.lemmas.List.{map-set, get_or-map, length-map}
use Rattle.std.proofs.lemmas.List.Elements.{All-map}
use Rattle.progression.specs.Street.{Street, count, HasSignal}
use Rattle.linear_theory.specs.Shifts.{shift_count}
use Rattle.linear_theory.specs.Boxes as boxes
use Rattle.linear_theory.proofs.RootBoxes.{root_is, root_boxed}
use Rattle.search_box.specs.declared.span.Span.{Span}
use Rattle.search_box.specs.declared.area.RankSpan.{RankSpan}
use Rattle.search_box.specs.Seen.{span_of, ranks_of}
use Rattle.search_box.specs.Places.{IsSingle}

-- the fields of a box
abbrev pub seen : List Span → List RankSpan → boxes.Area
seen loops turns = record { loops = map span_of loops; turns = map ranks_of turns }

-- a span is put for a link
pub loop_put : (loops new : List Span) (turns same : List RankSpan) (box : boxes.Area) (i : ℕ) (s : Span)
    → seen loops turns ≡ box → new ≡ slice_set loops (i - 1) s → same ≡ turns → seen new same ≡ boxes.with_loop box i (span_of s)
loop_put loops new turns same box i s v e f = rw (e, f, ← v, map-set span_of loops (i - 1) s) refl

-- ranks are put for a signal
pub turn_put : (loops same : List Span) (turns new : List RankSpan) (box : boxes.Area) (i : ℕ) (r : RankSpan)
    → seen loops turns ≡ box → same ≡ loops → new ≡ slice_set turns (i - 1) r → seen same new ≡ boxes.with_turn box i (ranks_of r)
turn_put loops same turns new box i r v e f = rw (e, f, ← v, map-set ranks_of turns (i - 1) r) refl

-- ---- spans of one number
all_seen : {X Y : Type 0} (P : Y → Type 0) (f : X → Y) (xs : List X) → All P (map f xs) → All (λ x. P (f x)) xs
all_seen P f xs h = λ k d lt. subst P (get_or-map f xs k d (f d) lt) (h k (f d) (omega (arith, length-map xs f)))

abbrev pub one_loop : Span → Type 0
one_loop s = s.least ≡ s.most

abbrev pub one_rank : RankSpan → Type 0
one_rank r = r.least ≡ r.most

pub single : (loops : List Span) (turns : List RankSpan) (box : boxes.Area) (p q : Bool) → seen loops turns ≡ box
    → IsTrue p ↔ All one_loop loops → IsTrue q ↔ All one_rank turns → p ≡ true → IsTrue q ↔ IsSingle box
single loops turns box p q v h k e = subst (λ b. IsTrue q ↔ IsSingle b) v (
  λ t. (All-map (λ (s : boxes.Span). s.least ≡ s.most) span_of loops (h.0 e), All-map (λ (r : boxes.Ranks). r.least ≡ r.most) ranks_of turns (k.0 t)),
  λ s. k.1 (all_seen (λ (r : boxes.Ranks). r.least ≡ r.most) ranks_of turns s.1),
)

pub not_single : (loops : List Span) (turns : List RankSpan) (box : boxes.Area) (p : Bool) → seen loops turns ≡ box
    → IsTrue p ↔ All one_loop loops → p ≡ false → IsTrue p ↔ IsSingle box
not_single loops turns box p v h e = subst (λ b. IsTrue p ↔ IsSingle b) v (
  λ t. absurd (true≢false (sym t ∙ e)),
  λ s. h.1 (all_seen (λ (s : boxes.Span). s.least ≡ s.most) span_of loops s.0),
)

-- ---- the root
-- what has the root's spans is the root, and a box of the artery where each signal has a shift
module _ (a : Street) (loops : List Span) (turns : List RankSpan) (e : map span_of loops ≡ (boxes.root_box a).loops) (f : map ranks_of turns ≡ (boxes.root_box a).turns) (h : 1 ≤ count a) where
  pub root_of : boxes.IsRoot a (seen loops turns)
  root_of =
      let g : seen loops turns ≡ boxes.root_box a = rw (e, f) refl in
      subst (λ b. boxes.IsRoot a b) (sym g) (root_is a h)

  pub root_boxed_of : ((i : ℕ) → HasSignal a i → 1 ≤ shift_count a i) → boxes.IsBoxOf a (seen loops turns)
  root_boxed_of s = root_boxed a (seen loops turns) s root_of
