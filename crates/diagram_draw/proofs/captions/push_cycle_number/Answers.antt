use Rattle.std.proofs.Common.{arith}
use Rattle.std.proofs.lemmas.Grind.{common_steps}
use Rattle.diagram_draw.specs.Shapes.{words_text}
use Rattle.diagram_draw.proofs.captions.push_cycle_number.Goals as goal

pub returns-in_err-push_words_opening : goal.returns-in_err-push_words_opening
unfolding words_text
returns-in_err-push_words_opening c = grind (arith, common_steps)

pub returns-in_err-push_cycles : goal.returns-in_err-push_cycles
unfolding words_text
returns-in_err-push_cycles c = grind (arith, common_steps)

pub returns : goal.returns
unfolding words_text
returns c = grind (arith, common_steps)
