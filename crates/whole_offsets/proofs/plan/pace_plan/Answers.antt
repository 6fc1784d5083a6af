use Rattle.std.proofs.Common.{◌∙◌, ◌+◌, ◌≤◌, ap, ap₂, subst, arith, pos}
use Rattle.progression.specs.BaseRecord.{BaseRecord, cycle}
use Rattle.progression.specs.TimingRecord.{banded}
use Rattle.progression.specs.declared.parts.Dir.TheVariants.{Outbound, Inbound}
use Rattle.band_measure.specs.Cut.{IsCut}
use Rattle.band_measure.specs.Widest.{IsWidestBand}
use Rattle.band_measure.specs.declared.pair.Widest.{Widest}
use Rattle.second_plan.specs.Grid.{in_seconds}
use Rattle.whole_offsets.specs.Measured.{or_nothing}
use Rattle.whole_offsets.proofs.Timings.{pace_below, pace_measured}
use Rattle.whole_offsets.proofs.plan.pace_plan.Goals as goal

pub banded-timing-requires-clause-first_out : goal.banded-timing-requires-clause-first_out
banded-timing-requires-clause-first_out c =
    (pace_below c.args.artery.now c.args.base.now c.known_valid.ensures c.requires.base c.args.rounded.now.seconds c.requires.some c.requires.fine c.widest_on-found_out.result
    (cycle c.args.artery.now c.in_ok-on.on) (ap (cycle c.args.artery.now) c.in_ok-on.ensures) c.widest_on-found_out.ensures.first c.widest_on-found_out.ensures.band
    c.or_nothing-out.result c.or_nothing-out.ensures).0

pub banded-timing-requires-clause-band_out : goal.banded-timing-requires-clause-band_out
banded-timing-requires-clause-band_out c =
    let b = (pace_below c.args.artery.now c.args.base.now c.known_valid.ensures c.requires.base c.args.rounded.now.seconds c.requires.some c.requires.fine c.widest_on-found_out.result
    (cycle c.args.artery.now c.in_ok-on.on) (ap (cycle c.args.artery.now) c.in_ok-on.ensures) c.widest_on-found_out.ensures.first c.widest_on-found_out.ensures.band
    c.or_nothing-out.result c.or_nothing-out.ensures).1 in
    let l = c.cut-bands.ensures.outbound in omega (arith, b, l)

pub banded-timing-requires-clause-first_in : goal.banded-timing-requires-clause-first_in
banded-timing-requires-clause-first_in c =
    (pace_below c.args.artery.now c.args.base.now c.known_valid.ensures c.requires.base c.args.rounded.now.seconds c.requires.some c.requires.fine c.widest_on-found_in.result
    (cycle c.args.artery.now c.in_ok-on.on) (ap (cycle c.args.artery.now) c.in_ok-on.ensures) c.widest_on-found_in.ensures.first c.widest_on-found_in.ensures.band
    c.or_nothing-back.result c.or_nothing-back.ensures).0

pub banded-timing-requires-clause-band_in : goal.banded-timing-requires-clause-band_in
banded-timing-requires-clause-band_in c =
    let b = (pace_below c.args.artery.now c.args.base.now c.known_valid.ensures c.requires.base c.args.rounded.now.seconds c.requires.some c.requires.fine c.widest_on-found_in.result
    (cycle c.args.artery.now c.in_ok-on.on) (ap (cycle c.args.artery.now) c.in_ok-on.ensures) c.widest_on-found_in.ensures.first c.widest_on-found_in.ensures.band
    c.or_nothing-back.result c.or_nothing-back.ensures).1 in
    let l = c.cut-bands.ensures.inbound in omega (arith, b, l)

pub returns : goal.returns
returns c =
    let a = c.args.artery.now in let t = c.args.base.now in let k = c.args.rounded.now.seconds in let offsets = c.args.rounded.now.offsets.items in
    let g = in_seconds a t k offsets in
    let bands = c.cut-bands.result in
    let o : IsWidestBand a g Outbound c.widest_on-found_out.result = subst (λ r. IsWidestBand a r Outbound c.widest_on-found_out.result) c.in_ok-on.ensures c.widest_on-found_out.ensures.widest in
    let b : IsWidestBand a g Inbound c.widest_on-found_in.result = subst (λ r. IsWidestBand a r Inbound c.widest_on-found_in.result) c.in_ok-on.ensures c.widest_on-found_in.ensures.widest in
    let out = c.or_nothing-out.ensures in
    let back = c.or_nothing-back.ensures in
    pace_measured a c.known_valid.ensures c.law_finer_pairs.ensures t c.requires.base k offsets c.requires.whole c.requires.some c.requires.within c.requires.limited
    c.widest_on-found_out.result c.widest_on-found_in.result bands o b
    (subst (λ (v : Widest). IsCut a (record { outbound = v.band; inbound = (or_nothing c.widest_on-found_in.result).band }) bands) out
    (subst (λ (w : Widest). IsCut a (record { outbound = c.or_nothing-out.result.band; inbound = w.band }) bands) back c.cut-bands.ensures.cut))
    (subst (λ (v : Widest). bands.outbound ≤ v.band) out c.cut-bands.ensures.outbound)
    (subst (λ (v : Widest). bands.inbound ≤ v.band) back c.cut-bands.ensures.inbound)
    c.banded-timing.result (c.lacking.result + c.lacking-2.result)
    (c.banded-timing.ensures
    ∙ ap₂ (λ (v w : Widest). banded (pos v.first) bands.outbound (pos w.first) bands.inbound c.in_ok-on.on) out back
    ∙ ap (λ (r : BaseRecord). banded (pos (or_nothing c.widest_on-found_out.result).first) bands.outbound (pos (or_nothing c.widest_on-found_in.result).first) bands.inbound r) c.in_ok-on.ensures)
    (ap₂ (λ m n. m + n) c.lacking.ensures.value c.lacking-2.ensures.value)
