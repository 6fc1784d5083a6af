use Rattle.std.proofs.Common.{◌≡◌, ℕ, List, Some, true, sym, subst, arith}
use Rattle.std.specs.Prelude.{string_bytes}
use Rattle.std.proofs.lemmas.List.Elements.{All-push}
use Rattle.run_inputs.specs.Cycles.{spells}
use Rattle.run_inputs.proofs.Cycling.{word_spelled, cycles_more}
use Rattle.std.proofs.lemmas.Grind.{elements}
use Rattle.run_inputs.proofs.cycles.cycles_in.Goals as goal

pub known-requires : goal.known-requires
known-requires g c =
    subst (λ (word : List ℕ). spells g.T.Cycle.value word ≡ true) (sym c.as_str.ensures.value)
    (word_spelled g.T.Cycle.value string_bytes c.args.words.now c.loop-word.word-index c.word-item.result c.loop-word-test.true c.word-item.is c.requires)

pub loop-word-preserved : goal.loop-word-preserved
loop-word-preserved g c =
    let before = c.loop-word.cycles.items in
    let cycle = c.known.result in
    record {
      cycles = cycles_more g.T.Cycle.value string_bytes c.args.words.now c.loop-word.word-index c.word-item.result before c.push.new.items.items cycle c.loop-word-test.true
          c.word-item.is c.in_ok-push.ensures
          c.loop-word.invariant.cycles (subst (λ (word : List ℕ). g.T.Cycle.value word ≡ Some cycle) c.as_str.ensures.value c.known.ensures.value);
      limits = rw c.in_ok-push.ensures (All-push g.T.Cycle.InLimits before cycle c.loop-word.invariant.limits c.known.ensures.limits);
    }

pub returns : goal.returns
returns g c = grind (arith, elements)
