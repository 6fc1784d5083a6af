use Rattle.std.proofs.Common.{◌≡◌, ◌-◌, ◌++◌, flat_map, ap, ◌∙◌, arith}
use Rattle.std.specs.List.{range_with_len}
use Rattle.progression.specs.Street.{count}
use Rattle.timing_measures.proofs.Pieces.{piece_next}
use Rattle.quantity_text.proofs.Pushed.{one_more}
use Rattle.multi_band.specs.LinkReport.{both_band_lines}
use Rattle.multi_band.proofs.band_lines.push_link_bands.Goals as goal

pub loop-link-preserved : goal.loop-link-preserved
loop-link-preserved c =
    one_more c.args.out.now.items _ _ _ _ _ c.loop-link.invariant c.in_ok-push_both_bands.ensures (piece_next (both_band_lines c.args.artery.now c.args.timing.now) c.loop-link.link (omega arith))

pub returns : goal.returns
returns c =
    let f = both_band_lines c.args.artery.now c.args.timing.now in
    let end : c.loop-link.link ≡ count c.args.artery.now = omega arith in
    c.loop-link.invariant ∙ ap (λ n. c.args.out.now.items ++ flat_map f (range_with_len 1 (n - 1))) end
