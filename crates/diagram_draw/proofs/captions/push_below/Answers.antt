use Rattle.std.proofs.Common.{◌++◌}
use Rattle.std.proofs.lemmas.Result.{on_ok_weaker}
use Rattle.diagram_draw.specs.Captions.{band_words, below, notes, queue_notes, red_words, second_numbers}
use Rattle.diagram_draw.proofs.Chains.{four_rows, two_rows}
use Rattle.diagram_draw.proofs.captions.push_below.Goals as goal

pub returns : goal.returns
unfolding below
returns c =
    let f = c.args.frame in
    let a = c.args.artery.now in
    on_ok_weaker c.push_queue_notes.result
    (λ e. two_rows _ _ _ (second_numbers f c.args.base.now) (red_words f ++ (band_words f ++ (notes f ++ queue_notes f a))) c.in_ok-push_second_numbers.ensures
    (four_rows _ _ _ _ _ (red_words f) (band_words f) (notes f) (queue_notes f a) c.in_ok-push_red_words.ensures c.in_ok-push_band_words.ensures c.in_ok-push_notes.ensures e))
    c.push_queue_notes.ensures
