use Rattle.std.proofs.Common.{◌∙◌, FitsSigned, rules}
use Rattle.std.specs.Int.{w128}
use Rattle.std.proofs.lemmas.Int.{to_z-of_z}
use Rattle.link_space.proofs.LinkGoalSheets.{twice_is}
use Rattle.link_space.proofs.goal.twice.Goals as goal

pub returns : goal.returns
returns c =
    let num : FitsSigned w128 c.num.result = search rules in
    let den : FitsSigned w128 c.den.result = search rules in
    let top : FitsSigned w128 c.doubled-top.result = search rules in
    c.reduced.ensures.value ∙ rw (
      to_z-of_z w128 c.doubled-top.result top,
      c.doubled-top.ensures.value,
      to_z-of_z w128 c.num.result num,
      c.num.ensures.value,
      c.unsigned_abs.ensures.value,
      to_z-of_z w128 c.den.result den,
      c.den.ensures.value,
    ) (twice_is c.args.ratio)
