use Rattle.std.proofs.Common.{◌≡◌, ◌+◌, ◌-◌, ◌*◌, sym, ◌∙◌, ap, arith}
use Rattle.progression.specs.declared.parts.Dir.TheVariants.{Outbound, Inbound}
use Rattle.multi_band.specs.LinkOpening.{rows_before}
use Rattle.multi_band.proofs.FarRows.{rows_from}
use Rattle.multi_band.proofs.building.far_row.Goals as goal

pub overflow_sub-result : goal.overflow_sub-result
overflow_sub-result c =
    let e = rows_from c.args.artery.now Outbound c.ratio_rows-extra.result c.ratio_rows-extra.ensures.one c.ratio_rows-extra.ensures.other in
    omega (arith, e, c.requires, c.count-links.ensures.value, c.rows.ensures.count)

pub overflow_sub-result-in-Inbound : goal.overflow_sub-result-in-Inbound
overflow_sub-result-in-Inbound c =
    let e = rows_from c.args.artery.now Inbound c.ratio_rows-extra.result c.ratio_rows-extra.ensures.one c.ratio_rows-extra.ensures.other in
    omega (arith, e, c.requires, c.count-links.ensures.value, c.rows-in-Inbound.ensures.count)

pub returns-in-Outbound : goal.returns-in-Outbound
returns-in-Outbound c =
    let e = rows_from c.args.artery.now Outbound c.ratio_rows-extra.result c.ratio_rows-extra.ensures.one c.ratio_rows-extra.ensures.other in
    let r : c.rows.result - (6 * (c.count-links.result - 1) + c.ratio_rows-extra.result) ≡ rows_before c.args.artery.now Outbound =
    omega (arith, e, c.requires, c.count-links.ensures.value, c.rows.ensures.count) in
    r ∙ ap (rows_before c.args.artery.now) (sym c.in-Outbound.is)

pub returns-in-Inbound : goal.returns-in-Inbound
returns-in-Inbound c =
    let e = rows_from c.args.artery.now Inbound c.ratio_rows-extra.result c.ratio_rows-extra.ensures.one c.ratio_rows-extra.ensures.other in
    let r : c.rows-in-Inbound.result - (2 * (c.count-links.result - 1) + c.ratio_rows-extra.result) ≡ rows_before c.args.artery.now Inbound =
    omega (arith, e, c.requires, c.count-links.ensures.value, c.rows-in-Inbound.ensures.count) in
    r ∙ ap (rows_before c.args.artery.now) (sym c.in-Inbound.is)
