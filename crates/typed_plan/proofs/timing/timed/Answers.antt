use Rattle.std.proofs.Common.{◌≡◌, ◌<◌, ◌^◌, sym, subst}
use Rattle.progression.specs.BaseRecord.{cycle}
use Rattle.progression.specs.TimingRecord.{base}
use Rattle.typed_plan.specs.Ends.{IsBelow}
use Rattle.typed_plan.specs.Grid.{least_base}
use Rattle.typed_plan.proofs.Fine.{is_fine}
use Rattle.typed_plan.proofs.Timed.{below_of, is_timing}
use Rattle.typed_plan.proofs.timing.timed.Goals as goal

pub put_on_base-requires-clause-cycle : goal.put_on_base-requires-clause-cycle
put_on_base-requires-clause-cycle c =
    let a = c.args.artery.now in let p = c.args.plan.now in
    let is : c.in_ok-on.on ≡ least_base a p = c.in_ok-on.ensures in
    subst (λ b. cycle a b < 2 ^ 80) (sym is) (is_fine a p c.requires.fine).cycle

pub put_on_base-requires-clause-outbound : goal.put_on_base-requires-clause-outbound
put_on_base-requires-clause-outbound c =
    below_of (cycle c.args.artery.now c.in_ok-on.on) c.widest_on-outbound.result c.widest_on-outbound.ensures.first c.widest_on-outbound.ensures.band

pub put_on_base-requires-clause-inbound : goal.put_on_base-requires-clause-inbound
put_on_base-requires-clause-inbound c =
    below_of (cycle c.args.artery.now c.in_ok-on.on) c.widest_on-inbound.result c.widest_on-inbound.ensures.first c.widest_on-inbound.ensures.band

pub returns-clause-timing : goal.returns-clause-timing
returns-clause-timing c =
    is_timing c.args.artery.now c.args.plan.now c.known_valid.ensures c.known_within.ensures c.requires.counts c.requires.fault c.requires.fine
    c.put_on_base.result c.widest_on-outbound.result c.widest_on-inbound.result c.in_ok-on.on c.in_ok-on.ensures
    c.put_on_base.ensures.timing c.widest_on-outbound.ensures.widest c.widest_on-inbound.ensures.widest c.put_on_base.ensures.put

pub returns-clause-outbound : goal.returns-clause-outbound
returns-clause-outbound c =
    subst (λ t. IsBelow (cycle c.args.artery.now (base t)) c.put_on_base.result.outbound) (sym c.put_on_base.ensures.timing) c.put_on_base.ensures.outbound

pub returns-clause-inbound : goal.returns-clause-inbound
returns-clause-inbound c =
    subst (λ t. IsBelow (cycle c.args.artery.now (base t)) c.put_on_base.result.inbound) (sym c.put_on_base.ensures.timing) c.put_on_base.ensures.inbound
