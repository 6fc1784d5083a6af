use Rattle.std.proofs.Common.{◌<◌, ◌^◌, ◌++◌, [], ◌∷◌, sym, ◌∙◌, ap, subst, arith}
use Rattle.progression.specs.Columns.{numbered}
use Rattle.typed_plan.specs.Grid.{size}
use Rattle.typed_plan.specs.declared.times.Times.TheVariants.{Run}
use Rattle.typed_plan.proofs.First.{numbered_next}
use Rattle.typed_plan.proofs.Fine.{is_fine}
use Rattle.std.proofs.lemmas.Grind.{common_steps}
use Rattle.typed_plan.proofs.least.runs.Goals as goal

pub size-requires-clause-small : goal.size-requires-clause-small
size-requires-clause-small c = subst (λ n. n < 2 ^ 80) (sym c.requires.grid) (is_fine c.args.artery.now c.args.plan.now c.requires.fine).grid

pub loop-place-preserved : goal.loop-place-preserved
loop-place-preserved c =
    let k = c.loop-place.place in
    let f = size c.args.artery.now c.args.plan.now (Run c.args.dir) in
    c.in_ok-push.ensures.items ∙ ap (λ xs. xs ++ c.size.result ∷ []) c.loop-place.invariant ∙ ap (λ n. numbered k 1 f ++ n ∷ []) c.size.ensures.value ∙ sym (numbered_next k f)

pub returns-in_err-push : goal.returns-in_err-push
returns-in_err-push c = grind (arith, common_steps)

pub returns : goal.returns
returns c = grind (arith, common_steps)
