use Rattle.std.proofs.Common.{◌∙◌}
use Rattle.link_theory.specs.LinkRecord.{link_base}
use Rattle.multi_band.proofs.LinkTimings.{halves_copied}
use Rattle.multi_band.proofs.copying.copied_links.Goals as goal

pub around-requires-clause-half_out : goal.around-requires-clause-half_out
around-requires-clause-half_out c =
    let h = c.half_out in
    halves_copied (link_base c.args.timing.now) c.in_ok-base.base h.result.now c.in_ok-half_out.half_out.items (c.in_ok-base.ensures ∙ c.base.ensures)
    c.in_ok-half_out.ensures h.ensures.count h.ensures.most

pub around-requires-clause-half_in : goal.around-requires-clause-half_in
around-requires-clause-half_in c =
    let h = c.half_in in
    halves_copied (link_base c.args.timing.now) c.in_ok-base.base h.result.now c.in_ok-half_in.half_in.items (c.in_ok-base.ensures ∙ c.base.ensures)
    c.in_ok-half_in.ensures h.ensures.count h.ensures.most
