-- Lemmas on the definitions of `Meeting`.
use Rattle.std.specs.Prelude.{List}
use Rattle.std.proofs.Common.{subst, sym}
use Rattle.rational_theory.specs.Rational.{ℚ}
use Rattle.rational_theory.specs.Rows.{Row, IsMet}
use Rattle.progression.specs.Street.{Street}
use Rattle.progression.specs.TimingRecord.{TimingRecord}
use Rattle.progression.specs.Columns.{point}
use Rattle.linear_theory.specs.Boxes.{Area}
use Rattle.linear_theory.specs.Rows.{Form, line}
use Rattle.linear_theory.specs.Counts.{Counts, IsGoodPoint}
use Rattle.named_row.specs.Sheets.{row_of}
use Rattle.loop_rows.specs.Writing.{written}
use Rattle.loop_rows.specs.laws.Writing.{written_row}

-- what the point of every timing meets that counts, every point meets that counts
pub at_points : (a : Street) (box : Area) (x : List ℚ) (r : Row) → IsGoodPoint a box x → ((t : TimingRecord) → Counts a box t → IsMet (point a t) r) → IsMet x r
at_points a box x r h m = subst (λ y. IsMet y r) (sym h.is) (m h.timing h.counts)

-- and where the row is a form's, as it is written
pub at_written : (a : Street) (box : Area) (x : List ℚ) (f : Form) → IsGoodPoint a box x → ((t : TimingRecord) → Counts a box t → IsMet (point a t) (line a f)) → IsMet x (row_of (written a f))
at_written a box x f h m = rw (written_row a f) (at_points a box x (line a f) h m)
