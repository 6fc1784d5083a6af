-- The boxes that still want a tree, from the next one and the splits on the way down to it.
use Rattle.std.specs.Prelude.{Bool, true, false, ℤ, pos, List, [], ◌∷◌}
use Rattle.linear_theory.specs.Boxes.{Area}
use Rattle.search_box.specs.declared.span.At.{At}
use Rattle.search_box.specs.declared.span.At.TheVariants.{Loop, Turn}
use Rattle.search_box.specs.Seen.{span_of}
use Rattle.search_box.specs.Places.{IsPlace, FitsAt, high_part, with_span}
use Rattle.certificate_checker.specs.declared.way.Entry.{Entry}

-- a place's number
abbrev pub number_at : At → ℤ
number_at (Loop i at) = at
number_at (Turn i rank) = pos rank

-- the box that was split, from either of its parts or from a box in these that the way has left
abbrev pub whole_of : Area → Entry → Area
whole_of box e = with_span box e.place (span_of e.former)

-- the high part of a box waits, unless it is under way
abbrev pub with_high : Bool → Area → At → List Area → List Area
with_high true whole place boxes = boxes
with_high false whole place boxes = high_part whole place ∷ boxes

-- the boxes that wait, from the innermost split on
abbrev pub waiting : Area → List Entry → List Area
waiting box [] = []
waiting box (e ∷ es) = with_high e.on_high (whole_of box e) e.place (waiting (whole_of box e) es)

-- before them the box itself, where it is wanted
abbrev pub owed_of : Bool → Area → List Entry → List Area
owed_of true box es = box ∷ waiting box es
owed_of false box es = []

-- each split is at a place of its box
abbrev pub AreSplits : Area → List Entry → Type 0
AreSplits box [] = Unit {0}
AreSplits box (e ∷ es) = FitsAt e.place (span_of e.former) × IsPlace (whole_of box e) e.place × AreSplits (whole_of box e) es

-- the next box
abbrev pub first_of : List Area → Area
first_of [] = record { loops = []; turns = [] }
first_of (box ∷ boxes) = box
