use Rattle.std.proofs.Common.{◌∙◌, ap, map, refl}
use Rattle.description_reader.specs.Quantity.{number_in}
use Rattle.description_reader.proofs.Views.{read_more, read_all}
use Rattle.description_reader.proofs.typed.numbers_at.Goals as goal

pub loop-item-init : goal.loop-item-init
loop-item-init c = rw c.new-numbers.ensures.items refl

pub loop-item-preserved : goal.loop-item-preserved
loop-item-preserved c =
    read_more number_in c.items_at-item-items.result.now c.loop-item.item-index c.item-item.result _ c.loop-item.numbers.items c.push.new.self.items c.number_in.result
    c.loop-item-test.true c.item-item.is c.number_in.ensures c.in_ok-push.ensures.items c.loop-item.invariant

pub returns : goal.returns
returns c =
    read_all number_in c.items_at-item-items.result.now c.loop-item.item-index _ c.loop-item.numbers.items c.loop-item-test.false c.loop-item.invariant
    ∙ ap (map number_in) c.items_at-item-items.ensures
