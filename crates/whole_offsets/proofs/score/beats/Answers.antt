use Rattle.std.proofs.Common.{sym, ◌∙◌}
use Rattle.rational_theory.proofs.Compare.{lt_says, ne_true, ne_false}
use Rattle.whole_offsets.proofs.Scores.{by_misses, by_weight}
use Rattle.whole_offsets.proofs.score.beats.Goals as goal

pub returns-then-ne : goal.returns-then-ne
returns-then-ne c =
    let one = c.args.one.now in let other = c.args.other.now in
    let t = by_misses one other c.if-one-other.false (ne_true one.misses other.misses (sym c.if-ne.true ∙ c.ne.ensures)) in
    let l = lt_says one.misses other.misses c.lt.result c.lt.ensures in
    (λ h. t.1 (l.0 h), λ b. l.1 (t.0 b))

pub returns : goal.returns
returns c =
    let one = c.args.one.now in let other = c.args.other.now in
    let t = by_weight one other c.if-one-other.false (ne_false one.misses other.misses (sym c.if-ne.false ∙ c.ne.ensures)) in
    let l = lt_says other.weighted one.weighted c.lt-2.result c.lt-2.ensures in
    (λ h. t.1 (l.0 h), λ b. l.1 (t.0 b))
