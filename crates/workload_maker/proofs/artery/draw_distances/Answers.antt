use Rattle.std.proofs.Common.{◌≡◌, ◌+◌, ◌*◌, ◌∙◌, ap, refl}
use Rattle.workload_maker.specs.Draws.{state, draw}
use Rattle.workload_maker.specs.Made.{distance_drawn}
use Rattle.workload_maker.proofs.Steps.{no_step, steps_add, draw_at, one_more}
use Rattle.workload_maker.proofs.artery.draw_distances.Goals as goal

pub loop-init : goal.loop-init
loop-init c = record { drawn = no_step c.args.draws.now; made = c.new-distances.ensures.items }

pub loop-preserved : goal.loop-preserved
loop-preserved c =
    let seed = c.args.draws.now in
    let i = c.loop.counter in
    let next : c.next.result ≡ draw seed (i + 1) 41 = c.next.ensures.value ∙ ap (λ x. draw x 1 41) c.loop.invariant.drawn ∙ draw_at seed i 1 (i + 1) 41 refl in
    record {
      drawn = c.next.ensures.drawn ∙ ap (λ x. state x 1) c.loop.invariant.drawn ∙ steps_add seed i 1;
      made = one_more (distance_drawn seed) i c.loop.distances.items c.push.new.self.items _ c.in_ok-push.ensures.items c.loop.invariant.made (ap (λ d. 200 + 10 * d) next);
    }
