use Rattle.std.proofs.Common.{◌∙◌, ap}
use Rattle.linear_theory.specs.Boxes.{root_box}
use Rattle.recovery_theory.specs.Worked.{quarter_point}
use Rattle.offset_recovery.proofs.Vertices.{vertex_as}
use Rattle.row_tests.proofs.tests.offset_recovery_tests.outcome_in_root.Goals as goal

pub recover-requires-clause-vertex : goal.recover-requires-clause-vertex
recover-requires-clause-vertex c =
    vertex_as c.in_ok-artery.artery _ c.in_ok-area.area _ c.in_ok-point.point.values.items _ c.in_ok-artery.ensures (c.in_ok-area.ensures.value ∙ ap root_box c.in_ok-artery.ensures)
    (c.in_ok-point.ensures ∙ ap quarter_point c.whole.ensures) c.law_worked_vertices.ensures.root_vertex
