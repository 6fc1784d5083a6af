use Rattle.std.proofs.Common.{◌++◌, ◌∙◌, flat_map}
use Rattle.std.specs.List.{range_with_len}
use Rattle.diagram_draw.specs.Pages.{signal_about}
use Rattle.diagram_draw.proofs.Chains.{piece_written_up, ends_up}
use Rattle.diagram_draw.proofs.page.push_signals_about.Goals as goal

pub loop-signal-preserved : goal.loop-signal-preserved
loop-signal-preserved c =
    piece_written_up c.args.out.now.items _ _ c.loop-signal.signal c.loop-signal.invariant.0 (signal_about c.args.artery.now c.args.base.now)
    c.in_ok-push_signal_about.ensures c.loop-signal.invariant.1

pub returns : goal.returns
returns c =
    let f = signal_about c.args.artery.now c.args.base.now in
    c.loop-signal.invariant.1
    ∙ ends_up (λ n. c.args.out.now.items ++ flat_map f (range_with_len 1 n)) _ _ _ c.loop-signal.auto.signal-end c.loop-signal-test.false c.count-signal-end.ensures.value
