-- The promises are kept.
use Rattle.linear_theory.specs.Boxes.{root_box}
use Rattle.linear_theory.specs.Promises.{NothingIsLost}
use Rattle.linear_theory.proofs.NamedRows.{row_at_point}
use Rattle.linear_theory.proofs.Splits.{loop_split, loop_joined, loop_once}
use Rattle.linear_theory.proofs.TurnSplits.{turn_split, turn_joined, turn_once}
use Rattle.linear_theory.proofs.Roots.{root_law}
use Rattle.linear_theory.proofs.RootBoxes.{root_is}
use Rattle.linear_theory.proofs.TreeLaws as trees
use Rattle.linear_theory.proofs.Ranges.{some_signal}

pub nothing_is_lost : NothingIsLost
nothing_is_lost = record {
  in_the_root = λ a t h g. root_law a t h g (root_box a) (root_is a (some_signal a h));
  link_parts = λ a box t i at b p. (loop_split a box t i at b p, loop_joined a box t i at b p);
  link_once = λ a box t i at b p. loop_once a box t i at b p;
  signal_parts = λ a box t i rank b p. (turn_split a box t i rank b p, turn_joined a box t i rank b p);
  signal_once = λ a box t i rank b p. turn_once a box t i rank b p;
  rows_met = λ a box x c n h. row_at_point a box x c n h;
  bounded = λ a tree value h c. trees.bounded a (root_box a) tree value h (root_is a (some_signal a h)) c;
  no_timing = λ a tree h c. trees.no_timing a (root_box a) tree h (root_is a (some_signal a h)) c;
}
