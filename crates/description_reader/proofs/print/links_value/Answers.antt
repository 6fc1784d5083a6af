use Rattle.std.proofs.Common.{◌∙◌, ap, map}
use Rattle.std.proofs.lemmas.List.{take_all}
use Rattle.toml.specs.Data.{array, table}
use Rattle.toml.specs.View.{items_of}
use Rattle.toml.specs.declared.value.Value.{Table}
use Rattle.toml.proofs.Views.{view-Array, view-Table}
use Rattle.description_reader.specs.Canonical.{link_data}
use Rattle.description_reader.proofs.CanonicalTables.{map_view_more}
use Rattle.description_reader.proofs.print.links_value.Goals as goal

pub loop-link-preserved : goal.loop-link-preserved
loop-link-preserved c =
    rw c.in_ok-push.ensures.items (map_view_more link_data c.loop-link.tables.items (Table c.in_ok-link_table.field-0) c.args.links.now c.loop-link.link-index c.link-item.result
    c.loop-link-test.true c.link-item.is (view-Table c.in_ok-link_table.field-0 ∙ ap table c.in_ok-link_table.ensures) c.loop-link.invariant)

pub returns : goal.returns
returns c =
    view-Array c.loop-link.tables
    ∙ ap (λ ds. array (items_of ds)) (c.loop-link.invariant ∙ ap (map link_data) (take_all c.loop-link.link-index c.args.links.now c.loop-link-test.false))
