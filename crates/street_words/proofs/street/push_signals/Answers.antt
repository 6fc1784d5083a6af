use Rattle.std.proofs.Common.{◌++◌, ◌∙◌, flat_map}
use Rattle.std.specs.List.{range_with_len}
use Rattle.street_words.specs.Streets.{signal_lines}
use Rattle.street_words.proofs.Loops.{piece_written, ends_up}
use Rattle.street_words.proofs.street.push_signals.Goals as goal

pub loop-signal-preserved : goal.loop-signal-preserved
loop-signal-preserved c =
    piece_written c.args.out.now.items _ _ c.loop-signal.signal c.loop-signal.invariant.0 (signal_lines c.args.artery.now) c.in_ok-push_signal.ensures c.loop-signal.invariant.1

pub returns : goal.returns
returns c =
    let f = signal_lines c.args.artery.now in
    c.loop-signal.invariant.1
    ∙ ends_up (λ n. c.args.out.now.items ++ flat_map f (range_with_len 1 n)) _ _ _ c.loop-signal.auto.signal-end c.loop-signal-test.false c.count-signal-end.ensures.value
