use Rattle.std.proofs.Common.{◌≡◌, ◌+◌, ◌-◌, ◌∙◌, ℕ, List, length, Ok, sym, subst, arith}
use Rattle.time_space.specs.Timing.{AreOfBase}
use Rattle.plan_text.specs.Spelling.{run_out_key, run_in_key}
use Rattle.plan_text.specs.Reading.{both_ways_at}
use Rattle.plan_text.proofs.Timings.{base_fits}
use Rattle.plan_text.proofs.reading.base_at.Goals as goal

pub unreachable-requires : goal.unreachable-requires
unreachable-requires c =
    let scale = c.in_ok-grid in
    let signals = c.in_ok-patterns in
    let patterns = signals.patterns.items in
    let reds = signals.reds.items in
    let out = c.in_ok-runs.runs.outbound.items in
    let in' = c.in_ok-runs.runs.inbound.items in
    let is = c.len-links.ensures in
    let links : c.len-links.result ≡ length patterns = omega (arith, is) in
    let runs = subst (λ (n : ℕ). both_ways_at run_out_key run_in_key (c.args.line + 4) (n - 1) signals.rest.now ≡ Ok (out, in', c.in_ok-runs.rest.now)) links c.in_ok-runs.ensures in
    let narrow : c.in_ok-patterns-2.patterns.items ≡ patterns = c.in_ok-patterns-2.ensures ∙ c.as_slice.ensures.value in
    c.in-None.ensures.none (subst (λ (ns : List ℕ). AreOfBase scale.grid scale.unit ns reds out in') (sym narrow)
    (base_fits c.args.line scale.grid scale.unit c.args.bytes.now scale.rest.now signals.rest.now c.in_ok-runs.rest.now patterns reds out in'
    scale.ensures.exact signals.ensures.exact runs))
