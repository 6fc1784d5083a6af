-- The two parts of a box hold exactly what the box holds, and nothing twice.
use Rattle.std.proofs.Common.{◌≡◌, ℤ, pos, ◌+ℤ◌, ◌≤ℤ◌, ◌↔◌, ◌⊎◌, refl, arith}
use Rattle.std.proofs.lemmas.Int.{ints}
use Rattle.std.specs.Prelude.{◌<ℤ◌}
use Rattle.progression.specs.Street.{Street}
use Rattle.progression.specs.TimingRecord.{TimingRecord}
use Rattle.linear_theory.specs.Boxes.{Area, Span, IsBoxOf, InBox}
use Rattle.linear_theory.proofs.Splits.{loop_split, loop_joined, loop_once}
use Rattle.linear_theory.proofs.TurnSplits.{turn_split, turn_joined, turn_once}
use Rattle.linear_theory.proofs.PartBoxes.{low_loop_boxed, high_loop_boxed, low_turn_boxed, high_turn_boxed}
use Rattle.search_box.specs.declared.span.At.{At}
use Rattle.search_box.specs.declared.span.At.TheVariants.{Loop, Turn}
use Rattle.search_box.proofs.SharedLists.{shared}
use Rattle.search_box.specs.Places.{HasSpan, FitsAt, number_at, span_at, with_span, IsPlace, low_part, high_part, AreParts}

-- ---- a place of either kind
pub has_span : (box : Area) (place : At) → IsPlace box place → HasSpan box place
has_span box (Loop i at) p = (p.0, p.1)
has_span box (Turn i rank) p = (p.0, p.1)

-- the place's number has something of the span on both sides
abbrev pub IsInside : Area → At → Type 0
IsInside box place = ((span_at box place).least ≤ℤ number_at place) × (number_at place <ℤ (span_at box place).most)

pub inside_of : (box : Area) (place : At) → IsPlace box place → IsInside box place
inside_of box (Loop i at) p = (p.2, p.3)
inside_of box (Turn i rank) p = let l = p.2 in let m = p.3 in (omega (arith, ints), omega (arith, ints))

pub place_of : (box : Area) (place : At) → HasSpan box place → IsInside box place → IsPlace box place
place_of box (Loop i at) h p = (h.0, h.1, p.0, p.1)
place_of box (Turn i rank) h p = let l = p.0 in let m = p.1 in (h.0, h.1, omega (arith, ints), omega (arith, ints))

-- ---- the spans of the two parts
pub low_fits : (place : At) (s : Span) (least most at : ℤ) → least ≡ s.least → most ≡ at → FitsAt place s → FitsAt place (record { least = at; most = at })
    → FitsAt place (record { least = least; most = most })
low_fits (Loop i own) s least most at e f g n = tt
low_fits (Turn i rank) s least most at e f g n = rw (e, f) (g.0, g.1, n.2, n.3)

pub high_fits : (place : At) (s : Span) (least most at : ℤ) → least ≡ at +ℤ pos 1 → most ≡ s.most → at <ℤ s.most → FitsAt place s
    → FitsAt place (record { least = at; most = at }) → FitsAt place (record { least = least; most = most })
high_fits (Loop i own) s least most at e f l g n = tt
high_fits (Turn i rank) s least most at e f l g n = let z = n.0 in let m = g.3 in rw (e, f) (omega (arith, ints), omega (arith, ints), g.2, g.3)

low_is : (box : Area) (place : At) → with_span box place (record { least = (span_at box place).least; most = number_at place }) ≡ low_part box place
low_is box (Loop i at) = refl
low_is box (Turn i rank) = refl

high_is : (box : Area) (place : At) → with_span box place (record { least = number_at place +ℤ pos 1; most = (span_at box place).most }) ≡ high_part box place
high_is box (Loop i at) = refl
high_is box (Turn i rank) = refl

-- a box with such a span is the part
pub low_made : (box low : Area) (place : At) (s : Span) (least most : ℤ) → low ≡ with_span box place (record { least = least; most = most }) → least ≡ s.least
    → most ≡ number_at place → s ≡ span_at box place → low ≡ low_part box place
low_made box low place s least most e f g h = rw (e, f, g, h) (low_is box place)

pub high_made : (box high : Area) (place : At) (s : Span) (least most : ℤ) → high ≡ with_span box place (record { least = least; most = most })
    → least ≡ number_at place +ℤ pos 1 → most ≡ s.most → s ≡ span_at box place → high ≡ high_part box place
high_made box high place s least most e f g h = rw (e, f, g, h) (high_is box place)

-- ---- what they hold
-- both are boxes of the artery
pub parts_boxed : (a : Street) (box : Area) (place : At) → IsPlace box place → IsBoxOf a box → IsBoxOf a (low_part box place) × IsBoxOf a (high_part box place)
parts_boxed a box (Loop i at) p b = (low_loop_boxed a box b i at p, high_loop_boxed a box b i at p)
parts_boxed a box (Turn i rank) p b = (low_turn_boxed a box b i rank p, high_turn_boxed a box b i rank p)

parts_whole : (a : Street) (box : Area) (place : At) (t : TimingRecord) → IsBoxOf a box → IsPlace box place → InBox a box t ↔ (InBox a (low_part box place) t ⊎ InBox a (high_part box place) t)
parts_whole a box (Loop i at) t b p = (loop_split a box t i at b p, loop_joined a box t i at b p)
parts_whole a box (Turn i rank) t b p = (turn_split a box t i rank b p, turn_joined a box t i rank b p)

parts_apart : (a : Street) (box : Area) (place : At) (t : TimingRecord) → IsBoxOf a box → IsPlace box place → InBox a (low_part box place) t → InBox a (high_part box place) t → ⊥
parts_apart a box (Loop i at) t b p = loop_once a box t i at b p
parts_apart a box (Turn i rank) t b p = turn_once a box t i rank b p

pub parts_of : (a : Street) (box : Area) (place : At) → IsBoxOf a box → IsPlace box place → AreParts a box (low_part box place) (high_part box place)
parts_of a box place b p = let boxed = parts_boxed a box place p b in record {
  low_box = boxed.0;
  high_box = boxed.1;
  whole = λ t. parts_whole a box place t b p;
  apart = λ t. parts_apart a box place t b p;
  lists = shared box place p;
}
