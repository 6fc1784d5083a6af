use Rattle.std.proofs.Common.{sym, ◌∙◌, ap, map, string_bytes}
use Rattle.artery_model.specs.Faults.{first_fault}
use Rattle.description_reader.proofs.Views.{keys_of_view}
use Rattle.description_reader.specs.Keys.{unknown_fault}
use Rattle.description_reader.proofs.keys.check_table.Goals as goal

pub loop-key-init : goal.loop-key-init
loop-key-init c =
    ap (λ names. first_fault (map (unknown_fault c.args.facts c.args.section) names))
    (keys_of_view c.args.table.now.entries ∙ ap (map string_bytes) (sym (c.into_iter-key-iterator.ensures.into_iter_gives ∙ c.keys-key-items.ensures.rest)))
