use Rattle.std.proofs.Common.{rules}
use Rattle.std.proofs.lemmas.Iterator.{YieldsList-from_slice, YieldsList-from_map}
use Rattle.std.proofs.lemmas.Iterator.Adapters.{items_from_extend}
use Rattle.workload_maker.specs.Made.{link_with}
use Rattle.workload_maker.proofs.artery.links_of.Goals as goal

pub returns : goal.returns
returns c =
    let taken = items_from_extend c.extend.result c.extend.ensures.ran (YieldsList-from_map _ link_with (YieldsList-from_slice c.args.distances.now cc)
    c.map.ensures.closure (λ x r q k. search rules)) in
    search rules
