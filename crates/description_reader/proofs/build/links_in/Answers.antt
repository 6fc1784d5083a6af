use Rattle.std.proofs.Common.{refl}
use Rattle.description_reader.specs.Streets.{link_in}
use Rattle.description_reader.proofs.Views.{read_more, read_all}
use Rattle.description_reader.proofs.build.links_in.Goals as goal

pub loop-table-init : goal.loop-table-init
loop-table-init c = rw c.new-links.ensures.items refl

pub loop-table-preserved : goal.loop-table-preserved
loop-table-preserved c =
    read_more link_in c.args.tables.now c.loop-table.table-index c.table-item.result _ c.loop-table.links.items c.push.new.self.items c.link_of.result
    c.loop-table-test.true c.table-item.is (rw (c.link_of.ensures, c.pair_at-speed_out.ensures, c.pair_at-speed_in.ensures) refl) c.in_ok-push.ensures.items c.loop-table.invariant

pub returns : goal.returns
returns c = read_all link_in c.args.tables.now c.loop-table.table-index _ c.loop-table.links.items c.loop-table-test.false c.loop-table.invariant
