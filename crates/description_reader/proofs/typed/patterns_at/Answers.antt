use Rattle.std.proofs.Common.{◌∙◌, ap, map, refl, rules, w64}
use Rattle.std.proofs.lemmas.Int.{to_z-of_z}
use mir.Val.{SFits}
use Rattle.description_reader.specs.Quantity.{integer_in}
use Rattle.description_reader.specs.Streets.{u32_or_zero}
use Rattle.description_reader.proofs.Views.{read_more, read_all}
use Rattle.description_reader.proofs.typed.patterns_at.Goals as goal

pub loop-item-init : goal.loop-item-init
loop-item-init c = rw c.new-patterns.ensures.items refl

pub loop-item-preserved : goal.loop-item-preserved
loop-item-preserved c =
    let f : SFits w64 c.integer_in.result = search rules in
    let e = simp (f, to_z-of_z) at c.u32_or_zero.ensures in
    read_more (λ d. u32_or_zero (integer_in d)) c.items_at-item-items.result.now c.loop-item.item-index c.item-item.result _ c.loop-item.patterns.items c.push.new.self.items
    c.u32_or_zero.result c.loop-item-test.true c.item-item.is (e ∙ ap u32_or_zero c.integer_in.ensures) c.in_ok-push.ensures.items c.loop-item.invariant

pub returns : goal.returns
returns c =
    read_all (λ d. u32_or_zero (integer_in d)) c.items_at-item-items.result.now c.loop-item.item-index _ c.loop-item.patterns.items c.loop-item-test.false c.loop-item.invariant
    ∙ ap (map (λ d. u32_or_zero (integer_in d))) c.items_at-item-items.ensures
