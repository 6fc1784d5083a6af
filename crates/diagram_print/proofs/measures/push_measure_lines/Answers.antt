use Rattle.std.proofs.lemmas.Result.{on_ok_weaker}
use Rattle.progression.specs.declared.parts.Dir.TheVariants.{Outbound, Inbound}
use Rattle.progression.specs.TimingRecord.{base}
use Rattle.diagram_print.specs.Measures.{weighted_line, band_line, cycle_line}
use Rattle.quantity_text.proofs.Pushed.{four_pushed}
use Rattle.diagram_print.proofs.measures.push_measure_lines.Goals as goal

pub returns : goal.returns
returns c =
    let a = c.args.artery.now in
    let t = c.args.timing.now in
    let whole = four_pushed c.args.out.now.items _ _ _ c.push_cycle_line.new.out.items (weighted_line a t) (band_line a t Outbound) (band_line a t Inbound) (cycle_line a (base t))
    c.in_ok-push_weighted_line.ensures c.in_ok-push_band_line.ensures c.in_ok-push_band_line-2.ensures in
    on_ok_weaker c.push_cycle_line.result whole (rw c.base.ensures at c.push_cycle_line.ensures)
