use Rattle.std.proofs.Common.{◌≡◌, ◌∙◌, ap, refl}
use Rattle.workload_maker.specs.Draws.{state, draw}
use Rattle.workload_maker.proofs.Steps.{two_steps, three_steps, draw_at}
use Rattle.workload_maker.proofs.artery.draw_signal.Goals as goal

pub returns-clause-drawn : goal.returns-clause-drawn
returns-clause-drawn c = three_steps c.args.draws.now _ _ _ c.next-red.ensures.drawn c.next-left_out.ensures.drawn c.next-left_in.ensures.drawn

pub returns-in_err-signal_name-clause-drawn : goal.returns-in_err-signal_name-clause-drawn
returns-in_err-signal_name-clause-drawn c = three_steps c.args.draws.now _ _ _ c.next-red.ensures.drawn c.next-left_out.ensures.drawn c.next-left_in.ensures.drawn

pub returns-clause-value : goal.returns-clause-value
returns-clause-value c =
    let start = c.args.draws.now in
    let one : c.next-red.new.self ≡ state start 1 = c.next-red.ensures.drawn in
    let two : c.next-left_out.new.self ≡ state start 2 = two_steps start _ _ one c.next-left_out.ensures.drawn in
    let left_out : c.next-left_out.result ≡ draw start 2 3 = c.next-left_out.ensures.value ∙ ap (λ x. draw x 1 3) one ∙ draw_at start 1 1 2 3 refl in
    let left_in : c.next-left_in.result ≡ draw start 3 3 = c.next-left_in.ensures.value ∙ ap (λ x. draw x 1 3) two ∙ draw_at start 2 1 3 3 refl in
    rw (c.in_ok-signal_name.ensures, c.next-red.ensures.value, left_out, left_in) refl
