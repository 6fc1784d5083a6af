use Rattle.std.proofs.Common.{◌∙◌, refl, sym, ap, subst, arith, pos}
use Rattle.progression.specs.BaseRecord.{BaseRecord}
use Rattle.progression.specs.TimingRecord.{banded}
use Rattle.progression.specs.declared.parts.Dir.TheVariants.{Outbound, Inbound}
use Rattle.free_runs.specs.Free.{with_runs}
use Rattle.whole_offsets.specs.Lines.{HasRuns, IsDirectionBand}
use Rattle.whole_offsets.specs.Measured.{on_offsets}
use Rattle.whole_offsets.proofs.Sizes.{scale_held}
use Rattle.whole_offsets.proofs.Runs.{kept_small}
use Rattle.whole_offsets.proofs.Timings.{scale_runs, free_runs_small, free_measured}
use Rattle.whole_offsets.proofs.plan.free_plan.Goals as goal

pub direction_band-requires-clause-runs : goal.direction_band-requires-clause-runs
direction_band-requires-clause-runs c =
    subst (λ (r : BaseRecord). HasRuns c.args.artery.now r.grid) (sym c.in_ok-on.ensures)
    (scale_runs c.args.artery.now c.args.base.now c.args.rounded.now.seconds c.args.scale.grid c.args.scale.unit c.requires.scale c.known_valid.ensures c.requires.base c.requires.free)

pub direction_band-requires-2-clause-runs : goal.direction_band-requires-2-clause-runs
direction_band-requires-2-clause-runs c =
    subst (λ (r : BaseRecord). HasRuns c.args.artery.now r.grid) (sym c.in_ok-on.ensures)
    (scale_runs c.args.artery.now c.args.base.now c.args.rounded.now.seconds c.args.scale.grid c.args.scale.unit c.requires.scale c.known_valid.ensures c.requires.base c.requires.free)

pub with_found-requires-clause-runs_out : goal.with_found-requires-clause-runs_out
with_found-requires-clause-runs_out c =
    let a = c.args.artery.now in let t = c.args.base.now in
    let f = on_offsets c.args.scale.grid c.args.scale.unit c.args.rounded.now.offsets.items t in
    let o : IsDirectionBand a f Outbound c.in_ok-out.out = subst (λ r. IsDirectionBand a r Outbound c.in_ok-out.out) c.in_ok-on.ensures c.in_ok-out.ensures in
    kept_small a f Outbound c.in_ok-out.out.runs.items c.known_valid.ensures
    (free_runs_small a t c.args.rounded.now.seconds c.args.scale.grid c.args.scale.unit c.requires.scale c.requires.free Outbound) o.long o.kept

pub with_found-requires-clause-runs_in : goal.with_found-requires-clause-runs_in
with_found-requires-clause-runs_in c =
    let a = c.args.artery.now in let t = c.args.base.now in
    let f = on_offsets c.args.scale.grid c.args.scale.unit c.args.rounded.now.offsets.items t in
    let o : IsDirectionBand a f Inbound c.in_ok-back.back = subst (λ r. IsDirectionBand a r Inbound c.in_ok-back.back) c.in_ok-on.ensures c.in_ok-back.ensures in
    kept_small a f Inbound c.in_ok-back.back.runs.items c.known_valid.ensures
    (free_runs_small a t c.args.rounded.now.seconds c.args.scale.grid c.args.scale.unit c.requires.scale c.requires.free Inbound) o.long o.kept

pub with_found-requires-clause-first_out : goal.with_found-requires-clause-first_out
with_found-requires-clause-first_out c =
    let a = c.args.artery.now in let t = c.args.base.now in
    let f = on_offsets c.args.scale.grid c.args.scale.unit c.args.rounded.now.offsets.items t in
    let o : IsDirectionBand a f Outbound c.in_ok-out.out = subst (λ r. IsDirectionBand a r Outbound c.in_ok-out.out) c.in_ok-on.ensures c.in_ok-out.ensures in
    let l = o.first_below in
    let h = (scale_held a t c.known_valid.ensures c.requires.base c.args.rounded.now.seconds c.requires.scale.some c.args.scale.grid c.args.scale.unit c.requires.scale).cycle_most in
    omega (arith, l, h)

pub with_found-requires-clause-first_in : goal.with_found-requires-clause-first_in
with_found-requires-clause-first_in c =
    let a = c.args.artery.now in let t = c.args.base.now in
    let f = on_offsets c.args.scale.grid c.args.scale.unit c.args.rounded.now.offsets.items t in
    let o : IsDirectionBand a f Inbound c.in_ok-back.back = subst (λ r. IsDirectionBand a r Inbound c.in_ok-back.back) c.in_ok-on.ensures c.in_ok-back.ensures in
    let l = o.first_below in
    let h = (scale_held a t c.known_valid.ensures c.requires.base c.args.rounded.now.seconds c.requires.scale.some c.args.scale.grid c.args.scale.unit c.requires.scale).cycle_most in
    omega (arith, l, h)

pub with_found-requires-clause-band_out : goal.with_found-requires-clause-band_out
with_found-requires-clause-band_out c =
    let a = c.args.artery.now in let t = c.args.base.now in
    let f = on_offsets c.args.scale.grid c.args.scale.unit c.args.rounded.now.offsets.items t in
    let o : IsDirectionBand a f Outbound c.in_ok-out.out = subst (λ r. IsDirectionBand a r Outbound c.in_ok-out.out) c.in_ok-on.ensures c.in_ok-out.ensures in
    let l = o.band_below in
    let less = c.cut-bands.ensures.outbound in
    let h = (scale_held a t c.known_valid.ensures c.requires.base c.args.rounded.now.seconds c.requires.scale.some c.args.scale.grid c.args.scale.unit c.requires.scale).cycle_most in
    omega (arith, l, less, h)

pub with_found-requires-clause-band_in : goal.with_found-requires-clause-band_in
with_found-requires-clause-band_in c =
    let a = c.args.artery.now in let t = c.args.base.now in
    let f = on_offsets c.args.scale.grid c.args.scale.unit c.args.rounded.now.offsets.items t in
    let o : IsDirectionBand a f Inbound c.in_ok-back.back = subst (λ r. IsDirectionBand a r Inbound c.in_ok-back.back) c.in_ok-on.ensures c.in_ok-back.ensures in
    let l = o.band_below in
    let less = c.cut-bands.ensures.inbound in
    let h = (scale_held a t c.known_valid.ensures c.requires.base c.args.rounded.now.seconds c.requires.scale.some c.args.scale.grid c.args.scale.unit c.requires.scale).cycle_most in
    omega (arith, l, less, h)

pub returns : goal.returns
returns c =
    let a = c.args.artery.now in let t = c.args.base.now in
    let f = on_offsets c.args.scale.grid c.args.scale.unit c.args.rounded.now.offsets.items t in
    let o : IsDirectionBand a f Outbound c.in_ok-out.out = subst (λ r. IsDirectionBand a r Outbound c.in_ok-out.out) c.in_ok-on.ensures c.in_ok-out.ensures in
    let b : IsDirectionBand a f Inbound c.in_ok-back.back = subst (λ r. IsDirectionBand a r Inbound c.in_ok-back.back) c.in_ok-on.ensures c.in_ok-back.ensures in
    free_measured a c.known_valid.ensures t c.args.rounded.now.seconds c.args.rounded.now.offsets.items c.args.scale.grid c.args.scale.unit c.requires.scale c.requires.free
    c.in_ok-out.out c.in_ok-back.back c.cut-bands.result o b c.cut-bands.ensures.cut c.cut-bands.ensures.outbound c.cut-bands.ensures.inbound
    c.in_ok-timing.timing _
    (c.in_ok-timing.ensures ∙ ap (λ (r : BaseRecord). banded (pos c.in_ok-out.out.pair.first) c.cut-bands.result.outbound (pos c.in_ok-back.back.pair.first) c.cut-bands.result.inbound
    (with_runs c.in_ok-out.out.runs.items c.in_ok-back.back.runs.items r)) c.in_ok-on.ensures)
    refl
