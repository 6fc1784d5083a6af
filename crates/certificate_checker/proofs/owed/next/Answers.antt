use Rattle.std.proofs.Common.{◌≡◌, Bool, true, false, not, drop, refl, sym, ◌∙◌, ap, subst, rules}
use Rattle.certificate_checker.specs.Owed.{AreSplits, waiting}
use Rattle.certificate_checker.proofs.Ways.{high_in, high_owed}
use Rattle.certificate_checker.proofs.owed.next.Goals as goal

is_low : (b : Bool) → not b ≡ true → b ≡ false
is_low true e = sym e
is_low false e = refl

pub returns-then-not-entry-clause-next : goal.returns-then-not-entry-clause-next
returns-then-not-entry-clause-next c =
    let box = c.loop-entry.area in
    let splits = subst (AreSplits box) c.in-Some.ensures c.loop-entry.invariant.splits in
    rw (c.to_high.ensures.high, c.replace.ensures)
    (high_owed box c.in-Some.entry (drop 1 c.loop-entry.way) splits (is_low c.in-Some.entry.on_high c.if-not-entry.true)
    ∙ ap (waiting box) (sym c.in-Some.ensures) ∙ c.loop-entry.invariant.same)

pub returns-then-not-entry-clause-splits : goal.returns-then-not-entry-clause-splits
returns-then-not-entry-clause-splits c =
    let box = c.loop-entry.area in
    rw (c.to_high.ensures.high, c.replace.ensures) (high_in box c.in-Some.entry (drop 1 c.loop-entry.way) (subst (AreSplits box) c.in-Some.ensures c.loop-entry.invariant.splits))

pub loop-entry-preserved : goal.loop-entry-preserved
loop-entry-preserved c = search rules
