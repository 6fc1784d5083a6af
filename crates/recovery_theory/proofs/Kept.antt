-- The promises are kept.
use Rattle.std.proofs.Common.{List, arith}
use Rattle.rational_theory.specs.Rational.{ℚ}
use Rattle.progression.specs.Street.{Street}
use Rattle.linear_theory.specs.Boxes.{Area}
use Rattle.recovery_theory.specs.Vertices.{IsVertex, IsLongVertex}
use Rattle.recovery_theory.proofs.Rules.{timing_good, timing_band}
use Rattle.recovery_theory.proofs.Inside.{loop_inside, turn_inside, block_is_whole, turn_is_ranked}
use Rattle.recovery_theory.specs.Promises.{VerticesRecover, LongVerticesRecover}

pub long_vertices_recover : LongVerticesRecover
long_vertices_recover = record {
  good = timing_good;
  band = timing_band;
  loops = λ a box x i h b v k e. loop_inside a box x h b v i k e;
  turns = λ a box x i h b v k e. turn_inside a box x h b v i k e;
  whole = λ a box x b f g. record { blocks = λ i k. block_is_whole a x i (f i k); shifts = λ i k. turn_is_ranked a box x b i k (g i k) };
}

-- a vertex is one with no further columns
pub long_vertex : (a : Street) (box : Area) (x : List ℚ) → IsVertex a box x → IsLongVertex a box x
long_vertex a box x v = record { columns = let e = v.columns in omega arith; not_negative = v.not_negative; rows = v.rows }

pub vertices_recover : VerticesRecover
vertices_recover = record {
  good = λ a box x h v w. timing_good a box x h (long_vertex a box x v) w;
  band = λ a box x h v w. timing_band a box x h (long_vertex a box x v) w;
  loops = λ a box x i h b v k e. loop_inside a box x h b (long_vertex a box x v) i k e;
  turns = λ a box x i h b v k e. turn_inside a box x h b (long_vertex a box x v) i k e;
  whole = long_vertices_recover.whole;
}
