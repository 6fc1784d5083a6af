use Rattle.std.proofs.Common.{◌∙◌, ap}
use Rattle.branch_and_bound.specs.State.{split_from}
use Rattle.branch_and_bound.proofs.Splicing.{spliced_is}
use Rattle.branch_and_bound.proofs.grow.splice.Goals as goal

pub returns : goal.returns
returns g c = λ area leaf bound place point kept at.
    let split = c.split_from-split.ensures ∙ ap split_from c.replace.ensures.value in
    let one = rw c.replace.ensures.after at c.in_ok-insert.ensures.items in
    let two = c.in_ok-insert-2.ensures.items in
    spliced_is c.args.nodes.now.items c.insert.new.self.items c.insert-2.new.self.items c.args.index c.index_mut.result.now c.split_from-split.result c.args.low c.args.high
    area leaf bound place point kept at c.index_mut.ensures.value split one two
