use Rattle.quantity_text.proofs.ExactTexts.{one_spelling}
use Rattle.quantity_text.proofs.exact_read.law_one_spelling.Goals as goal

pub returns : goal.returns
returns c = one_spelling
