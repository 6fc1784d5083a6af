use Rattle.std.proofs.Common.{◌∷◌, ◌++◌, ◌∙◌, ◌<◌, ◌^◌, ℕ, [], pos, sym, subst}
use Rattle.plan_text.specs.Spelling.{ended, spelled, base_lines, firsts_line, band_key, IsHeldBase, IsHeldFirst}
use Rattle.plan_text.proofs.Timings.{first_is_held}
use Rattle.plan_text.proofs.Written.{one_more, more_lines}
use Rattle.plan_text.proofs.writing.push_timing.Goals as goal

pub returns-clause-text : goal.returns-clause-text
returns-clause-text c =
    let old = c.args.out.now.items in
    let lines = base_lines c.base.result.now in
    let firsts = firsts_line (pos c.first_of-first_out.result) (pos c.first_of-first_in.result) in
    let e = more_lines old lines (firsts ∷ []) _ _ c.in_ok-push_base.ensures.text c.in_ok-push_firsts.ensures in
    one_more old (lines ++ firsts ∷ []) (spelled band_key (c.band.result ∷ c.band-2.result ∷ [])) _ _ e c.in_ok-push_numbers.ensures
    ∙ (λ i. old ++ ended (base_lines (c.base.ensures i) ++ firsts_line (sym c.first_of-first_out.ensures.value i) (sym c.first_of-first_in.ensures.value i)
    ∷ spelled band_key (c.band.ensures.value i ∷ c.band-2.ensures.value i ∷ []) ∷ []))

pub returns-clause-held : goal.returns-clause-held
returns-clause-held c =
    record {
      base = subst IsHeldBase c.base.ensures c.in_ok-push_base.ensures.held;
      first_out = subst IsHeldFirst (sym c.first_of-first_out.ensures.value) (first_is_held c.first_of-first_out.result c.first_of-first_out.ensures.most);
      first_in = subst IsHeldFirst (sym c.first_of-first_in.ensures.value) (first_is_held c.first_of-first_in.result c.first_of-first_in.ensures.most);
      band_out = subst (λ (n : ℕ). n < 2 ^ 80) c.band.ensures.value c.band.ensures.most;
      band_in = subst (λ (n : ℕ). n < 2 ^ 80) c.band-2.ensures.value c.band-2.ensures.most;
    }
