use Rattle.std.proofs.Common.{◌<◌, ◌^◌, ◌++◌, [], ◌∷◌, List, ℕ, sym, ◌∙◌, ap, subst, arith}
use Rattle.std.specs.Prelude.{All}
use Rattle.progression.specs.Columns.{numbered}
use Rattle.typed_plan.specs.Grid.{red_tick}
use Rattle.typed_plan.proofs.First.{numbered_next, all_next}
use Rattle.std.proofs.lemmas.Grind.{common_steps}
use Rattle.typed_plan.proofs.least.reds.Goals as goal

pub loop-place-preserved : goal.loop-place-preserved
loop-place-preserved c =
    let k = c.loop-place.place in
    let f = red_tick c.args.artery.now c.args.plan.now in
    let AllSmall : List ℕ → Type 0 = λ xs. All (λ n. n < 2 ^ 80) xs in
    record {
      value = c.in_ok-push.ensures.items ∙ ap (λ xs. xs ++ c.red_tick.result ∷ []) c.loop-place.invariant.value ∙ ap (λ n. numbered k 1 f ++ n ∷ []) c.red_tick.ensures.value ∙ sym (numbered_next k f);
      small = subst AllSmall (sym c.in_ok-push.ensures.items) (all_next c.loop-place.reds.items c.red_tick.result c.loop-place.invariant.small c.red_tick.ensures.small);
    }

pub returns-in_err-push : goal.returns-in_err-push
returns-in_err-push c = grind (arith, common_steps)
