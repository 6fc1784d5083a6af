-- The measure by which a search ends: the choices of a box, where an empty span counts as one number, so that no box has none.
use Rattle.std.specs.Prelude.{ℕ, ◌+◌, ◌*◌, ◌-ℤ◌}
use Rattle.linear_theory.specs.Boxes.{Span, Area}
use Rattle.branch_and_bound.specs.Choices.{natural, product, ranks_count}

abbrev pub span_size : Span → ℕ
span_size s = natural (s.most -ℤ s.least) + 1

abbrev pub volume : Area → ℕ
volume box = product span_size box.loops * product ranks_count box.turns
