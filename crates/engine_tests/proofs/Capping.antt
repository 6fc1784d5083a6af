-- What opening a box of the tests' relaxation answers.
use Rattle.std.proofs.Common.{◌≡◌, ℕ, ◌+◌, ◌-◌, ℤ, pos, ◌-ℤ◌, ◌≤ℤ◌, ◌<ℤ◌, inl, inr, List, [], ◌∷◌, length, sym, subst, ap, ◌∙◌, arith, refl}
use Rattle.std.proofs.lemmas.Int.{ints}
use Rattle.std.proofs.lemmas.List.{length-set}
use Rattle.rational_theory.specs.Rational.{ℚ, whole, ◌≤ℚ◌}
use Rattle.rational_theory.proofs.Order.{whole-≤ℤ}
use Rattle.progression.specs.Street.{Street}
use Rattle.linear_theory.specs.Boxes.{Area, Span, Ranks, loop_span}
use Rattle.search_box.specs.declared.span.At.{At}
use Rattle.search_box.specs.declared.span.At.TheVariants.{Loop, Turn}
use Rattle.search_box.specs.Places.{low_part, high_part}
use Rattle.named_row.specs.declared.leaves.Leaf.{Leaf}
use Rattle.named_row.specs.declared.leaves.Point.{Point}
use Rattle.branch_and_bound.specs.Lines.{BoxLine}
use Rattle.branch_and_bound.specs.Lineages.{Reads, Cuts}
use Rattle.work_meter.specs.Work.{IsWithin, capped}
use Rattle.branch_and_bound.specs.OpenedNodes.{IsPart, HasBound, OpensTimed, OpensCut, Opens}
use Rattle.engine_tests.specs.CappedRules.{capped_rules, EndsAs}
use Rattle.engine_tests.specs.laws.Capped.{Case, is_empty, is_cut, is_read, case_of, box_of}
use Rattle.engine_tests.specs.Capped.{ending_span, ending_of, bound_of, IsNumber, CoversNumbers}
use Rattle.work_meter.specs.declared.meter.Meter.{Meter}
use Rattle.branch_and_bound.specs.declared.opened.Opened.{Opened}
use Rattle.branch_and_bound.specs.declared.opened.Opened.TheVariants.{Infeasible, Timed, Splits, Unread, WorkOut, Wide}

-- a part has one link too
one_link : (cap : ℤ) (loops : List Span) (place : At) → ending_of cap loops ≡ Cuts place → length loops ≡ 1
one_link cap [] place e = cc
one_link cap (s ∷ t ∷ ss) place e = cc
one_link cap (s ∷ []) place e = refl

-- the span of the only link tells everything
pub record IsOnly (cap : ℤ) (loops : List Span) (s : Span) : Type 0 where
  pub end : ending_of cap loops ≡ ending_span cap s
  pub bound : bound_of loops ≡ whole s.most
  pub number : (x : ℤ) → IsNumber cap loops x → x ≤ℤ s.most

only_of_loops : (cap : ℤ) (loops : List Span) (turns : List Ranks) (s : Span) → length loops ≡ 1 → s ≡ loop_span (box_of loops turns) 1 → IsOnly cap loops s
only_of_loops cap [] turns s h e = absurd (omega arith)
only_of_loops cap (t ∷ u ∷ us) turns s h e = absurd (omega arith)
only_of_loops cap (t ∷ []) turns s h e = record {
  end = ap (ending_span cap) (sym e);
  bound = ap (λ (u : Span). whole u.most) (sym e);
  number = λ x p. subst (λ (u : Span). x ≤ℤ u.most) (sym e) p.1;
}

pub only_is : (cap : ℤ) (area : Area) (s : Span) → length area.loops ≡ 1 → s ≡ loop_span area 1 → IsOnly cap area.loops s
only_is cap area s h e = only_of_loops cap area.loops area.turns s h e

numbers_under : (cap : ℤ) (loops : List Span) (turns : List Ranks) (s : Span) → s ≡ loop_span (box_of loops turns) 1 → (x : ℤ) → IsNumber cap loops x → x ≤ℤ s.most
numbers_under cap [] turns s e x p = absurd p
numbers_under cap (t ∷ u ∷ us) turns s e x p = absurd p
numbers_under cap (t ∷ []) turns s e x p = subst (λ (u : Span). x ≤ℤ u.most) (sym e) p.1

-- of any box: a number is at most the greatest of the first span
pub number_under : (cap : ℤ) (area : Area) (s : Span) → s ≡ loop_span area 1 → (x : ℤ) → IsNumber cap area.loops x → x ≤ℤ s.most
number_under cap area s e x p = numbers_under cap area.loops area.turns s e x p

reads_at : (cap : ℤ) (s : Span) → Case cap s → s.least ≤ℤ s.most → s.most ≤ℤ cap → ending_span cap s ≡ Reads
reads_at cap s (is_empty (inl h) e) p q = absurd (omega (arith, ints))
reads_at cap s (is_empty (inr h) e) p q = absurd (omega (arith, ints))
reads_at cap s (is_cut h k e) p q = absurd (omega (arith, ints))
reads_at cap s (is_read h k e) p q = e

cuts_at : (cap : ℤ) (s : Span) → Case cap s → s.least ≤ℤ cap → cap <ℤ s.most → ending_span cap s ≡ Cuts (Loop 1 (s.most -ℤ pos 1))
cuts_at cap s (is_empty (inl h) e) p q = absurd (omega (arith, ints))
cuts_at cap s (is_empty (inr h) e) p q = absurd (omega (arith, ints))
cuts_at cap s (is_cut h k e) p q = e
cuts_at cap s (is_read h k e) p q = absurd (omega (arith, ints))

has_bound : (a : Street) (cap : ℤ) (line : BoxLine) (area : Area) (s : Span) (leaf : Leaf) (bound : ℚ) → line.area ≡ area → IsOnly cap area.loops s
    → bound ≡ whole s.most → HasBound (capped_rules a cap) line leaf bound
has_bound a cap line area s leaf bound e f g =
    let here : CoversNumbers cap area.loops bound = λ x p. subst (λ v. whole x ≤ℚ v) (sym g) (whole-≤ℤ x s.most (f.number x p)) in
    record {
      leaf_is = tt;
      bound_is = g ∙ sym f.bound ∙ sym (ap (λ (b : Area). bound_of b.loops) e);
      covers = subst (λ (b : Area). CoversNumbers cap b.loops bound) (sym e) here;
    }

pub opens_timed : (a : Street) (cap : ℤ) (line : BoxLine) (area : Area) (s : Span) (leaf : Leaf) (bound : ℚ) (timing : ℤ)
    → line.area ≡ area → IsOnly cap area.loops s → s.least ≤ℤ s.most → s.most ≤ℤ cap → bound ≡ whole s.most → timing ≡ s.most
    → OpensTimed (capped_rules a cap) line leaf bound timing
opens_timed a cap line area s leaf bound timing e f p q g h = record {
  end = ap (λ (b : Area). ending_of cap b.loops) e ∙ f.end ∙ reads_at cap s (case_of cap s) p q;
  bounds = has_bound a cap line area s leaf bound e f g;
  good = (g ∙ ap whole (sym h), subst (λ t. t ≤ℤ cap) (sym h) q);
}

pub opens_cut : (a : Street) (cap : ℤ) (line : BoxLine) (area : Area) (s : Span) (leaf : Leaf) (bound : ℚ) (at : ℤ) (point : Point) (kept : ℕ)
    → line.area ≡ area → IsOnly cap area.loops s → s.least ≤ℤ cap → cap <ℤ s.most → bound ≡ whole s.most → at ≡ s.most -ℤ pos 1
    → OpensCut (capped_rules a cap) line leaf bound (Loop 1 at) point kept
opens_cut a cap line area s leaf bound at point kept e f p q g h = record {
  end = ap (λ (b : Area). ending_of cap b.loops) e ∙ f.end ∙ cuts_at cap s (case_of cap s) p q ∙ ap (λ x. Cuts (Loop 1 x)) (sym h);
  bounds = has_bound a cap line area s leaf bound e f g;
  vertex_is = tt;
  kept_is = tt;
}

pub finished : (a : Street) (cap : ℤ) (line : BoxLine) (before between after : Meter) (opened : Opened ℤ ℕ ℕ)
    → EndsAs a cap line opened → between.spent ≡ capped (before.spent + 1) → after.spent ≡ capped (between.spent + 1) → IsWithin after.spent after.limit
    → Opens (capped_rules a cap) line before after opened
finished a cap line before between after (Infeasible leaf) h e f w = (h, record { spent = omega arith; within = w })
finished a cap line before between after (Timed leaf bound timing) h e f w = (h, record { spent = omega arith; within = w })
finished a cap line before between after (Splits leaf bound place point kept) h e f w = (h, record { spent = omega arith; within = w })
finished a cap line before between after (Unread leaf bound pivots part) h e f w = absurd h
finished a cap line before between after WorkOut h e f w = absurd h
finished a cap line before between after (Wide pivots part) h e f w = absurd h

-- the loops of a part are as many as its box's
part_length : (box : Area) (place : At) → (length (low_part box place).loops ≡ length box.loops) × (length (high_part box place).loops ≡ length box.loops)
part_length box (Loop i at) = (length-set box.loops (i - 1) _, length-set box.loops (i - 1) _)
part_length box (Turn i rank) = (refl, refl)

pub part_link : (a : Street) (cap : ℤ) (parent line : BoxLine) (place : At) (kept : ℕ) (area : Area) → IsPart (capped_rules a cap) parent place line kept area → length area.loops ≡ 1
part_link a cap parent line place kept area h =
    let one = one_link cap parent.area.loops place h.cut in
    let size = part_length parent.area place in
    let here : length line.area.loops ≡ 1 = elim (h.side) [
      | inl e ↦ ap (λ (l : BoxLine). length l.area.loops) e ∙ size.0 ∙ one
      | inr e ↦ ap (λ (l : BoxLine). length l.area.loops) e ∙ size.1 ∙ one
    ] in
    ap (λ (b : Area). length b.loops) h.area_is ∙ here
