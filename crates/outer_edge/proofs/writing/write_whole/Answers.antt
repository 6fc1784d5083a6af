use Rattle.std.proofs.Common.{◌≡◌, ◌-◌, arith, take, drop, length, length-drop, length-take}
use Rattle.std.proofs.lemmas.List.{take_all}
use Rattle.outer_edge.proofs.Fronts.{appends_more}
use Rattle.outer_edge.proofs.writing.write_whole.Goals as goal

pub loop-done-preserved : goal.loop-done-preserved
loop-done-preserved g c =
    let e = c.in_ok-done.ensures in
    let i = c.loop-done.done in
    let bytes = c.args.bytes.now in
    let rest : take (length bytes - i) (drop i bytes) ≡ drop i bytes = take_all (length bytes - i) (drop i bytes) (omega (arith, length-drop i bytes)) in
    record {
      front = appends_more _ _ _ _ _ _ c.loop-done.invariant.front (rw rest at e.appended);
      within = omega (arith, e.count.1, length-take (length bytes - i) (drop i bytes), length-drop i bytes);
      room = omega (arith, e.room);
      faults = omega (arith, e.none_failed);
    }
