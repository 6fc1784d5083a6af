use Rattle.std.proofs.Common.{◌++◌, ◌-◌, ◌∙◌, List, ℕ, flat_map, ap, sym}
use Rattle.std.specs.List.{range_with_len}
use Rattle.std.proofs.lemmas.Result.{on_ok_weaker}
use Rattle.quantity_text.proofs.Pushed.{four_pushed}
use Rattle.progression.specs.Street.{count}
use Rattle.street_words.specs.Warnings.{told, link_warnings, signal_warnings, name_warnings, street_warnings, warning_lines}
use Rattle.street_words.proofs.Tolds.{four_texts}
use Rattle.street_words.proofs.warnings.push_warnings.Goals as goal

pub returns : goal.returns
unfolding warning_lines
returns c =
    let n = count c.args.artery.now in
    let links = flat_map link_warnings (range_with_len 1 (n - 1)) in
    let signals = flat_map signal_warnings (range_with_len 1 n) in
    let names = flat_map name_warnings (range_with_len 1 (n - 1)) in
    on_ok_weaker c.push_of_street.result
    (λ e. four_pushed _ _ _ _ _ _ _ _ _ c.in_ok-push_of_links.ensures c.in_ok-push_of_signals.ensures c.in_ok-push_of_names.ensures e
    ∙ ap (λ (t : List ℕ). c.args.out.now.items ++ t) (sym (four_texts (told c.args.artery.now) links signals names street_warnings)))
    c.push_of_street.ensures
