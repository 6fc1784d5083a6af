use Rattle.plan_text.proofs.WordLines.{words_read}
use Rattle.plan_text.proofs.lines.words_at.Goals as goal

pub returns : goal.returns
returns c = words_read _ _ _ _ _ c.in_ok-text.ensures c.in_ok-words.ensures
