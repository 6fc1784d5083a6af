use Rattle.std.proofs.Common.{◌∙◌, map, ◌+◌, refl}
use Rattle.artery_model.proofs.Repeats.{found_twice, found_new}
use Rattle.artery_model.proofs.names.check_names.Goals as goal

pub returns-then-not-branch : goal.returns-then-not-branch
returns-then-not-branch c =
    let at = c.index-signals-index in
    let twice = found_twice (c.loop-index.index + 1) c.loop-index.index (map (λ k. k.now) c.loop-index.seen.keys) c.args.signals.now at.result c.as_str.result.now c.in_ok-note_name.field-0
    c.loop-index-test.true at.is c.as_str.ensures c.in_ok-note_name.ensures.repeated c.if-not-branch.true in
    rw (c.loop-index.invariant, twice) c.repeated.ensures

pub loop-index-preserved : goal.loop-index-preserved
loop-index-preserved c =
    let at = c.index-signals-index in
    let new = found_new (c.loop-index.index + 1) c.loop-index.index (map (λ k. k.now) c.loop-index.seen.keys) c.args.signals.now at.result c.as_str.result.now c.in_ok-note_name.field-0
    c.loop-index-test.true at.is c.as_str.ensures c.in_ok-note_name.ensures.repeated c.if-not-branch.false in
    c.loop-index.invariant ∙ new ∙ rw (c.in_ok-note_name.ensures.added c.if-not-branch.false) refl
