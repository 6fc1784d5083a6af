use Rattle.std.proofs.Common.{◌≡◌, ◌+◌, ◌<◌, ◌≤◌, ◌^◌, ◌∙◌, ◌∷◌, ◌++◌, [], ℕ, List, length, ap, sym, subst, map, append-nil, All}
use Rattle.std.specs.Prelude.{unsigned_abs}
use Rattle.time_space.specs.Timing.{AreOfBase}
use Rattle.plan_text.specs.Spelling.{ended, spelled, grid_key, unit_key, pattern_key, red_key, run_out_key, run_in_key}
use Rattle.plan_text.proofs.Timings.{abs_pos, base_is_held}
use Rattle.plan_text.proofs.Written.{one_more}
use Rattle.artery_model.specs.Bounds.{least_signals, most_signals}
use Rattle.plan_text.proofs.writing.push_base.Goals as goal

pub returns-clause-text : goal.returns-clause-text
returns-clause-text c =
    let b = c.args.base.now in
    let l2 = spelled grid_key (c.grid.result ∷ []) in
    let l3 = spelled unit_key (c.unit.result ∷ []) in
    let l4 = spelled pattern_key c.as_slice.result.now in
    let l5 = spelled red_key c.reds.result.now in
    let l6 = spelled run_out_key c.run_out.result.now in
    let l7 = spelled run_in_key c.run_in.result.now in
    let old = c.args.out.now.items in
    let e0 = sym (append-nil old) in
    let e1 = one_more old [] l2 _ _ e0 c.in_ok-push_numbers.ensures in
    let e2 = one_more old (l2 ∷ []) l3 _ _ e1 c.in_ok-push_numbers-2.ensures in
    let e3 = one_more old (l2 ∷ l3 ∷ []) l4 _ _ e2 c.in_ok-push_numbers-3.ensures in
    let e4 = one_more old (l2 ∷ l3 ∷ l4 ∷ []) l5 _ _ e3 c.in_ok-push_numbers-4.ensures in
    let e5 = one_more old (l2 ∷ l3 ∷ l4 ∷ l5 ∷ []) l6 _ _ e4 c.in_ok-push_numbers-5.ensures in
    let e6 = one_more old (l2 ∷ l3 ∷ l4 ∷ l5 ∷ l6 ∷ []) l7 _ _ e5 c.in_ok-push_numbers-6.ensures in
    let patterns : c.as_slice.result.now ≡ b.patterns = c.as_slice.ensures.value ∙ c.in_ok-patterns.ensures ∙ c.patterns.ensures.value in
    let reds : c.reds.result.now ≡ map unsigned_abs b.reds = sym (abs_pos c.reds.result.now) ∙ ap (map unsigned_abs) c.reds.ensures.value in
    e6 ∙ (λ i. old ++ ended (
    spelled grid_key (c.grid.ensures.value i ∷ [])
    ∷ spelled unit_key (c.unit.ensures.value i ∷ [])
    ∷ spelled pattern_key (patterns i)
    ∷ spelled red_key (reds i)
    ∷ spelled run_out_key (c.run_out.ensures.value i)
    ∷ spelled run_in_key (c.run_in.ensures.value i)
    ∷ []))

pub returns-clause-held : goal.returns-clause-held
returns-clause-held c =
    let b = c.args.base.now in
    let patterns : c.patterns.result.now ≡ b.patterns = c.patterns.ensures.value in
    let ranges : AreOfBase b.grid b.unit b.patterns c.reds.result.now b.run_out b.run_in = record {
      grid_least = subst (λ (n : ℕ). 1 ≤ n) c.grid.ensures.value c.grid.ensures.least;
      grid_most = subst (λ (n : ℕ). n < 2 ^ 80) c.grid.ensures.value c.grid.ensures.most;
      unit_least = subst (λ (n : ℕ). 2 ≤ n) c.unit.ensures.value c.unit.ensures.least;
      unit_most = subst (λ (n : ℕ). n < 2 ^ 80) c.unit.ensures.value c.unit.ensures.most;
      few = subst (λ (ns : List ℕ). least_signals ≤ length ns) patterns c.patterns.ensures.few;
      many = subst (λ (ns : List ℕ). length ns ≤ most_signals) patterns c.patterns.ensures.many;
      reds_count = c.reds.ensures.count;
      run_out_count = subst (λ (ns : List ℕ). length ns + 1 ≡ length b.patterns) c.run_out.ensures.value c.run_out.ensures.count;
      run_in_count = subst (λ (ns : List ℕ). length ns + 1 ≡ length b.patterns) c.run_in.ensures.value c.run_in.ensures.count;
      patterns_each = subst (All (λ p. (1 ≤ p) × (p ≤ 4))) patterns c.patterns.ensures.each;
      reds_each = c.reds.ensures.most;
      run_out_each = subst (All (λ n. n < 2 ^ 80)) c.run_out.ensures.value c.run_out.ensures.most;
      run_in_each = subst (All (λ n. n < 2 ^ 80)) c.run_in.ensures.value c.run_in.ensures.most;
    } in
    base_is_held b c.reds.result.now ranges c.reds.ensures.value
