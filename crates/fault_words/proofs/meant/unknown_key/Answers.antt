use Rattle.std.proofs.Common.{sym, ◌∙◌, ap, not, map, string_bytes}
use Rattle.std.specs.Prelude.{is_some}
use Rattle.std.specs.List.{find}
use Rattle.description_reader.proofs.Views.{keys_of_view}
use Rattle.fault_words.specs.Near.{known_key}
use Rattle.fault_words.proofs.meant.unknown_key.Goals as goal

pub loop-key-init : goal.loop-key-init
loop-key-init c =
    ap (λ names. find (λ name. not (is_some (known_key c.args.facts c.args.section name))) names)
    (keys_of_view c.args.table.now.entries ∙ ap (map string_bytes) (sym (c.into_iter-key-iterator.ensures.into_iter_gives ∙ c.keys-key-items.ensures.rest)))
