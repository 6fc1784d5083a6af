-- A box with a vertex has choices of block sums.
use Rattle.std.specs.Prelude.{List}
use Rattle.std.proofs.Common.{arith}
use Rattle.rational_theory.specs.Rational.{ℚ}
use Rattle.progression.specs.Street.{Street}
use Rattle.artery_model.specs.Valid.{IsValid}
use Rattle.linear_theory.specs.Boxes.{Area, IsBoxOf}
use Rattle.search_box.proofs.Streets.{street_of}
use Rattle.recovery_theory.specs.Vertices.{IsVertex}
use Rattle.recovery_theory.proofs.Kept.{long_vertex}
use Rattle.recovery_theory.proofs.Inside.{span_order}
use Rattle.branch_and_bound.specs.Choices.{HasNumbers}

-- the vertex meets the rows of both ends of each span
pub vertex_numbers : (a : Street) (box : Area) (x : List ℚ) → IsValid a → IsBoxOf a box → IsVertex a box x → HasNumbers box
vertex_numbers a box x v b p i first last = let c = b.loops_count in span_order a box x (street_of a v) b (long_vertex a box x p) i (first, omega arith)
