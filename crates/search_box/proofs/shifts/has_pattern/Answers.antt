use Rattle.std.proofs.Common.{◌≡◌, ◌-◌, slice_index_or, ◌∙◌, sym, ap, arith}
use Rattle.std.specs.List.{list_any}
use Rattle.std.proofs.lemmas.List.{get_or_read}
use Rattle.progression.specs.Street.{no_signal}
use Rattle.progression.specs.declared.parts.Signal.{Signal}
use Rattle.search_box.proofs.Allowed.{allows_some}
use Rattle.search_box.proofs.shifts.has_pattern.Goals as goal

pub returns-clause-some : goal.returns-clause-some
returns-clause-some c =
    let a = c.args.artery.now in
    let was = c.index-signals-signal.is in
    let is = rw c.signals.ensures at was in
    let e = get_or_read a.signals (c.args.signal - 1) c.index-signals-signal.result (omega arith) is no_signal in
    let f : slice_index_or c.signals.result.now (c.args.signal - 1) c.index-signals-signal.result ≡ slice_index_or a.signals (c.args.signal - 1) no_signal = rw c.signals.ensures (sym is ∙ e) in
    c.allows_one.ensures.one ∙ ap (λ (x : Signal). list_any (λ b. b) x.patterns) f ∙ allows_some a c.args.signal c.known_valid.ensures (omega arith) (omega arith)
