-- The ends of lines of boxes keep what they promise.
use Rattle.std.proofs.Common.{ap}
use Rattle.search_box.proofs.Parts.{parts_of}
use Rattle.box_search.specs.VertexOutcomes.{outcome_of}
use Rattle.branch_tree.specs.ArteryProgram.{program_of}
use Rattle.branch_tree.specs.Promises.{BoxesEnd}
use Rattle.branch_tree.specs.laws.BoxLaws as laws
use Rattle.box_search.specs.laws.RunLaws as runs
use Rattle.box_search.proofs.Runs.{due_before, one_site, wide_sum_optimal, wide_vertex}
use Rattle.box_search.proofs.Units.{steps_few}
use Rattle.branch_tree.proofs.Units.{boxes_short}
use Rattle.branch_tree.proofs.BoxProofs.{start_covers}

pub boxes_end : BoxesEnd
boxes_end = record {
  comes = λ a line v. record { few = steps_few (program_of a) line v; ends = laws.comes_to_an_end a line v };
  empty = λ a line v e. let r = laws.ends_infeasible a line v e in record { rows = r.rows; refutes = r.refutes };
  bounded = λ a line v o.
      let r = laws.ends_optimal a line v o in
      record { vertex = r.vertex; goal = r.goal; rows = r.rows; covers = r.covers; bound = r.bound; greatest = λ x p. laws.vertex_greatest a line v x o p };
  reads = λ a line t v b e f. laws.reads_good a line v b t e f;
  cuts = λ a line place v b e.
      let p = laws.cuts_inside a line v b place e in
      record { inside = p; parts = parts_of a line.area place b p; low = laws.low_falls a line v b place e; high = laws.high_falls a line v b place e };
  no_basis_twice = λ a line i k v h l b. runs.no_basis_twice (program_of a) line v i k h l b;
  due = λ a line k v d. due_before (program_of a) line v k d;
  stops = λ a line k m p q g h. one_site (program_of a) line k m p q g h;
  sum = λ a line k row at r e f. wide_sum_optimal (program_of a) line k row at r e f;
  vertex = λ a line k wide r e f g. wide_vertex (program_of a) line k _ r e f (ap outcome_of g);
  short = boxes_short;
  start = start_covers;
}
