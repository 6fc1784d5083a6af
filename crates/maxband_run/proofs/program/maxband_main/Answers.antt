use Rattle.std.proofs.Common.{inr}
use Rattle.std.specs.Prelude.{string_bytes}
use Rattle.std.specs.Vec.Iter.{into_iter_items}
use Rattle.maxband_run.proofs.LastFrame.{is_run}
use Rattle.maxband_run.proofs.program.maxband_main.Goals as goal

pub returns : goal.returns
returns g c = inr (is_run into_iter_items string_bytes _ _ _ _ _ _ c.words.result _ _ _ _ c.words.ensures.given c.words.ensures.error c.in-Ok.ensures.opened
    c.close.ensures c.run_program-status.ensures)
