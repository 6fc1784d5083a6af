use Rattle.std.proofs.Common.{◌∙◌, ap, ap₂}
use Rattle.rational_theory.specs.Rational.{◌/ℚ◌}
use Rattle.progression.specs.Speeds.{number}
use Rattle.linear_theory.specs.Boxes.{root_box}
use Rattle.multi_band.specs.Worked.{worked_vertex}
use Rattle.multi_band.proofs.WorkedVerticesKept.{link_vertex_as}
use Rattle.search_tests.proofs.multi_band_tests.recovery_tests.outcome_amid.Goals as goal

pub recover_links-requires-clause-vertex : goal.recover_links-requires-clause-vertex
recover_links-requires-clause-vertex c =
    link_vertex_as c.in_ok-artery.artery _ c.in_ok-area.area _ c.in_ok-point.point.values.items _ c.in_ok-artery.ensures (c.in_ok-area.ensures.value ∙ ap root_box c.in_ok-artery.ensures)
    (c.in_ok-point.ensures ∙ ap₂ (λ w h. worked_vertex (number 1 /ℚ number 2) w (number 1 /ℚ number 4) h) c.in_ok-wait.ensures c.in_ok-half.ensures) c.law_worked_link_vertices.ensures.amid
