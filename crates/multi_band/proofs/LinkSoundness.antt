-- The outcomes of vertices of links are sound.
use Rattle.multi_band.specs.LinkSoundness.{LinkOutcomesAreSound}
use Rattle.multi_band.specs.laws.LinkRecoveries.{splits_inside}
use Rattle.multi_band.proofs.LinkRecoveries.{gives_good}

pub link_outcomes_are_sound : LinkOutcomesAreSound
link_outcomes_are_sound = record {
  good = λ a box x t h b v e. (gives_good a box x h b v t e).0;
  value = λ a box x t h b v e. (gives_good a box x h b v t e).1;
  place = λ a box x place h b v e. splits_inside a box x h b v place e;
}
