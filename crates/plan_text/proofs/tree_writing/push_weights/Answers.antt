use Rattle.std.proofs.Common.{◌≡◌, ◌++◌, map, All, List, subst, sym, append-nil, arith}
use Rattle.std.proofs.lemmas.List.{take_all}
use Rattle.std.proofs.lemmas.List.Elements.{All-get_or, All-more}
use Rattle.named_row.specs.declared.leaves.Weight.{Weight}
use Rattle.plan_text.specs.CertificateText.{IsHeldWeight}
use Rattle.plan_text.specs.Spelling.{ended}
use Rattle.plan_text.specs.Leaves.{IsWritable}
use Rattle.plan_text.specs.Namings.{naming_of, weight_line, HasWords}
use Rattle.plan_text.proofs.Written.{more_mapped}
use Rattle.plan_text.proofs.tree_writing.push_weights.Goals as goal

pub loop-weight-init : goal.loop-weight-init
loop-weight-init c = record { text = sym (append-nil c.args.out.now.items); held = λ k d lt. absurd (omega arith) }

pub push_weight-requires : goal.push_weight-requires
push_weight-requires c =
    let weights = c.args.weights.now in
    let place = c.loop-weight.weight-index in
    let here = sym c.weight-item.is in
    record {
      words = subst (λ (w : Weight). HasWords (naming_of c.args.names) w.row) here (All-get_or (λ w. HasWords (naming_of c.args.names) w.row) weights place _ c.loop-weight-test.true c.requires.words);
      writable = subst (IsWritable c.args.form) here (All-get_or (IsWritable c.args.form) weights place _ c.loop-weight-test.true c.requires.writable);
    }

pub loop-weight-preserved : goal.loop-weight-preserved
loop-weight-preserved c =
    let weights = c.args.weights.now in
    let place = c.loop-weight.weight-index in
    record {
      text = more_mapped (weight_line (naming_of c.args.names) c.args.form) c.args.out.now.items weights place _ c.weight-item.result c.loop-weight.out.items
          _ c.loop-weight-test.true c.weight-item.is c.loop-weight.invariant.text c.in_ok-push_weight.ensures.text;
      held = All-more IsHeldWeight weights place _ c.loop-weight-test.true c.loop-weight.invariant.held (subst IsHeldWeight c.weight-item.is c.push_weight.ensures.held);
    }

pub returns : goal.returns
returns c =
    let all = take_all c.loop-weight.weight-index c.args.weights.now c.loop-weight-test.false in
    record {
      text = subst (λ (ws : List Weight). c.loop-weight.out.items ≡ c.args.out.now.items ++ ended (map (weight_line (naming_of c.args.names) c.args.form) ws)) all c.loop-weight.invariant.text;
      held = subst (All IsHeldWeight) all c.loop-weight.invariant.held;
    }
