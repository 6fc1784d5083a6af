use Rattle.std.proofs.Common.{sym, ◌∙◌, arith}
use Rattle.fraction_tableau.proofs.Merges.{inverse_some}
use Rattle.std.proofs.lemmas.Grind.{common_steps}
use Rattle.fraction_tableau.proofs.exchanging.clear_whole.Goals as goal

pub clear_narrow-requires-clause-own : goal.clear_narrow-requires-clause-own
clear_narrow-requires-clause-own c = λ z. inverse_some c.args.pivot.now.cell c.requires.pivot.some (sym c.requires.pivot.own ∙ z)

pub clear_narrow-requires-clause-width : goal.clear_narrow-requires-clause-width
clear_narrow-requires-clause-width c = grind (arith, common_steps)

pub clear_narrow-requires-clause-widths : goal.clear_narrow-requires-clause-widths
clear_narrow-requires-clause-widths c = grind (arith, common_steps)

pub clear_narrow-requires-clause-place : goal.clear_narrow-requires-clause-place
clear_narrow-requires-clause-place c = grind (arith, common_steps)

pub clear_narrow-requires-clause-factor : goal.clear_narrow-requires-clause-factor
clear_narrow-requires-clause-factor c = grind (arith, common_steps)

pub returns : goal.returns
returns c = grind (arith, common_steps)

pub clear_narrow-requires-clause-short : goal.clear_narrow-requires-clause-short
clear_narrow-requires-clause-short c = grind (arith, common_steps)
