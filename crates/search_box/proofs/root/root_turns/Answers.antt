use Rattle.std.proofs.Common.{◌≤◌, inl, inr, ◌∙◌, ap, sym, subst, map, arith}
use Rattle.std.proofs.lemmas.Bool.{cases_eq}
use Rattle.linear_theory.specs.Shifts.{shift_count}
use Rattle.linear_theory.specs.Boxes.{root_ranks}
use Rattle.search_box.specs.Seen.{ranks_of}
use Rattle.search_box.proofs.Numbered.{item_more}
use Rattle.search_box.proofs.root.root_turns.Goals as goal

pub loop-signal-preserved : goal.loop-signal-preserved
loop-signal-preserved c =
    let so_far = c.loop-signal.invariant in
    let a = c.args.artery.now in
    let signal = c.loop-signal.signal in
    record {
      items =
          ap (λ xs. map ranks_of xs) c.in_ok-push.ensures
          ∙ item_more ranks_of c.loop-signal.turns.items c.root_ranks.result (root_ranks a) signal c.loop-signal.auto.signal so_far.items c.root_ranks.ensures.value;
      some = λ i h k. elim (cases_eq i signal) [
        | inl e ↦ subst (λ j. 1 ≤ shift_count a j) (sym e) c.root_ranks.ensures.some
        | inr n ↦ so_far.some i h (omega arith)
      ];
    }
