use Rattle.std.proofs.Common.{refl}
use Rattle.run_commands.proofs.draw.draw_shaped.Goals as goal

pub returns-clause-finds : goal.returns-clause-finds
returns-clause-finds c =
    let text = c.in_ok-bytes.bytes.items in
    (text, refl, record { shape = c.requires; broken = c.broken.result; judged = c.broken.ensures; lines_are = c.in_ok-lines.ensures; text_is = c.in_ok-bytes.ensures })
