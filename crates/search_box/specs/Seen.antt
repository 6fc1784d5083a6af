-- What contracts see of a box.
use Rattle.std.specs.Prelude.{map, pos}
use Rattle.linear_theory.specs.Boxes as boxes
use Rattle.search_box.specs.declared.span.Span.{Span}
use Rattle.search_box.specs.declared.area.RankSpan.{RankSpan}
use Rattle.search_box.specs.declared.area.SearchBox.TheInside.{Inside}

abbrev pub span_of : Span → boxes.Span
span_of s = record { least = s.least; most = s.most }

abbrev pub ranks_of : RankSpan → boxes.Ranks
ranks_of r = record { least = r.least; most = r.most }

abbrev pub area_of : Inside → boxes.Area
area_of s = record { loops = map span_of s.loops.items; turns = map ranks_of s.turns.items }

-- a span of ranks, as whole numbers
abbrev pub span_of_ranks : boxes.Ranks → Span
span_of_ranks r = record { least = pos r.least; most = pos r.most }
