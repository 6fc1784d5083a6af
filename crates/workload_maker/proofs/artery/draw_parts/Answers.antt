use Rattle.std.proofs.Common.{◌≡◌, ◌-◌, ◌*◌, ◌∙◌, ap, map}
use Rattle.std.specs.List.{range_with_len}
use Rattle.workload_maker.specs.Draws.{state}
use Rattle.workload_maker.specs.Made.{link_with}
use Rattle.workload_maker.proofs.Steps.{links_at}
use Rattle.workload_maker.proofs.artery.draw_parts.Goals as goal

pub returns-clause-links : goal.returns-clause-links
returns-clause-links c =
    let n = c.args.count in
    let seed = c.args.seed in
    let start : c.draw_signals.new.draws ≡ state seed (3 * n) = c.in_ok-signals.ensures.drawn ∙ ap (λ x. state x (3 * n)) c.new-draws.ensures in
    c.in_ok-links.ensures ∙ ap (map link_with) (c.as_slice.ensures.value ∙ c.in_ok-distances.ensures) ∙ links_at seed n c.draw_signals.new.draws (range_with_len 1 (n - 1)) start
