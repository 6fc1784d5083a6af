use Rattle.std.proofs.Common.{◌++◌, ◌∙◌, flat_map, arith}
use Rattle.std.specs.List.{range_with_len}
use Rattle.timing_sheet.specs.Records.{record_text}
use Rattle.timing_sheet.proofs.Ends.{ends_at}
use Rattle.quantity_text.proofs.Pushed.{one_more}
use Rattle.timing_measures.proofs.Pieces.{piece_next}
use Rattle.timing_sheet.proofs.table.push_records.Goals as goal

pub loop-signal-preserved : goal.loop-signal-preserved
loop-signal-preserved c =
    let f = record_text c.args.artery.now c.args.timing.now c.args.reference in
    (omega arith, one_more _ _ _ _ _ _ c.loop-signal.invariant.1 c.in_ok-push_signal_record.ensures (piece_next f c.loop-signal.signal c.loop-signal.invariant.0))

pub returns : goal.returns
returns c =
    let f = record_text c.args.artery.now c.args.timing.now c.args.reference in
    c.loop-signal.invariant.1
    ∙ ends_at (λ n. c.args.out.now.items ++ flat_map f (range_with_len 1 n)) _ _ _ c.loop-signal.auto.signal-end c.loop-signal-test.false c.count-signal-end.ensures.value
