-- The promises are kept.
use Rattle.linear_theory.specs.Boxes.{root_box}
use Rattle.linear_theory.proofs.Ranges.{some_signal}
use Rattle.linear_theory.proofs.RootBoxes.{root_is}
use Rattle.link_theory.specs.Promises.{NoLinkTimingIsLost, LinkVerticesRecover}
use Rattle.link_theory.proofs.PlainVertices.{vertex_loops, vertex_turns}
use Rattle.link_theory.proofs.LinesAreGood as lines
use Rattle.link_theory.proofs.NamedLinkRows.{link_row_at_point}
use Rattle.link_theory.proofs.LinkGoals.{link_goal_value}
use Rattle.link_theory.proofs.LinkTreeLaws as trees
use Rattle.link_theory.proofs.Recovered.{point_is, links_good, value_is_goal}

pub no_link_timing_is_lost : NoLinkTimingIsLost
no_link_timing_is_lost = record {
  good_lines = λ a t h g. lines.good_lines a t h g;
  in_the_root = λ a t h g. trees.lines_in_root a t h g (root_box a) (root_is a (some_signal a h));
  rows_met = λ a box x p n h. link_row_at_point a box x p n h;
  value = λ a t h g. link_goal_value a t h g;
  bounded = λ a tree value h c. trees.bounded a (root_box a) tree value h (root_is a (some_signal a h)) c;
  no_timing = λ a tree h c. trees.no_timing a (root_box a) tree h (root_is a (some_signal a h)) c;
}

pub link_vertices_recover : LinkVerticesRecover
link_vertices_recover = record {
  point = λ a box x h v w. point_is a box x h v w;
  good = λ a box x h v w. links_good a box x h v w;
  value = λ a box x h v w. value_is_goal a box x h v w;
  loops = λ a box x i h b v k e. vertex_loops a box x h b v i k e;
  turns = λ a box x i h b v k e. vertex_turns a box x h b v i k e;
}
