use Rattle.description_reader.proofs.CanonicalTexts.{same_text}
use Rattle.description_reader.proofs.print.law_one_text.Goals as goal

pub returns : goal.returns
returns c = record { same = same_text }
