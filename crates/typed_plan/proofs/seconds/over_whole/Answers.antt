use Rattle.std.proofs.Common.{◌∙◌, FitsSigned, rules}
use Rattle.std.specs.Int.{w128}
use Rattle.std.proofs.lemmas.Int.{to_z-of_z}
use Rattle.artery_model.proofs.Quotients.{over_whole}
use Rattle.typed_plan.proofs.seconds.over_whole.Goals as goal

pub returns-clause-value : goal.returns-clause-value
returns-clause-value c =
    let num : FitsSigned w128 c.num.result = search rules in
    let den : FitsSigned w128 c.den.result = search rules in
    c.reduced.ensures.value ∙ rw (to_z-of_z w128 c.num.result num, c.num.ensures.value, c.from.ensures, c.unsigned_abs.ensures.value, to_z-of_z w128 c.den.result den, c.den.ensures.value)
    (over_whole c.args.quantity c.args.by c.requires.by)
