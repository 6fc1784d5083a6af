use Rattle.std.proofs.Common.{◌≡◌, ◌+◌, ◌*◌, ◌∙◌, ap, arith}
use Rattle.workload_maker.specs.Draws.{state}
use Rattle.workload_maker.specs.Made.{made_signal}
use Rattle.workload_maker.proofs.Steps.{no_step, steps_add, signal_at, one_more}
use Rattle.workload_maker.proofs.artery.draw_signals.Goals as goal

pub loop-index-init : goal.loop-index-init
loop-index-init c = record { drawn = no_step c.args.draws.now; made = c.new-signals.ensures.items }

pub loop-index-preserved : goal.loop-index-preserved
loop-index-preserved c =
    let seed = c.args.draws.now in
    let i = c.loop-index.index in
    let three_more : 3 * i + 3 ≡ 3 * (i + 1) = omega arith in
    record {
      drawn = c.draw_signal.ensures.drawn ∙ ap (λ x. state x 3) c.loop-index.invariant.drawn ∙ steps_add seed (3 * i) 3 ∙ ap (state seed) three_more;
      made = one_more (made_signal seed) i c.loop-index.signals.items c.push.new.self.items c.in_ok-signal.signal c.in_ok-push.ensures.items c.loop-index.invariant.made
          (c.in_ok-signal.ensures.value ∙ signal_at seed i c.loop-index.draws c.loop-index.invariant.drawn);
    }
