use Rattle.std.proofs.Common.{◌∙◌, sym, ap, length, map, get_or, below_more}
use Rattle.std.proofs.lemmas.List.{get_or_default, take_all}
use Rattle.progression.specs.declared.parts.Signal.{Signal}
use Rattle.toml.specs.Data.{array, table}
use Rattle.toml.specs.View.{items_of}
use Rattle.toml.specs.declared.value.Value.{Table}
use Rattle.toml.proofs.Views.{view-Array, view-Table}
use Rattle.description_reader.specs.Canonical.{signal_data, HasFour}
use Rattle.description_reader.proofs.CanonicalTables.{map_view_more}
use Rattle.description_reader.proofs.print.signals_value.Goals as goal

pub loop-signal-preserved : goal.loop-signal-preserved
loop-signal-preserved c =
    let xs = c.args.signals.now in
    let i = c.loop-signal.signal-index in
    let x = c.signal-item.result in
    record {
      made = rw c.in_ok-push.ensures.items (map_view_more signal_data c.loop-signal.tables.items (Table c.in_ok-signal_table.field-0) xs i x c.loop-signal-test.true c.signal-item.is
          (view-Table c.in_ok-signal_table.field-0 ∙ ap table c.in_ok-signal_table.ensures.made) c.loop-signal.invariant.made);
      four = λ k s h. below_more (λ n. (t : Signal) → HasFour (get_or xs n t)) i (λ n below t. c.loop-signal.invariant.four n t below)
          (λ t. ap (λ (u : Signal). length u.patterns) (get_or_default xs i t x c.loop-signal-test.true ∙ sym c.signal-item.is) ∙ c.in_ok-signal_table.ensures.four) k h s;
    }

pub returns-clause-made : goal.returns-clause-made
returns-clause-made c =
    view-Array c.loop-signal.tables
    ∙ ap (λ ds. array (items_of ds)) (c.loop-signal.invariant.made ∙ ap (map signal_data) (take_all c.loop-signal.signal-index c.args.signals.now c.loop-signal-test.false))
