use Rattle.std.proofs.Common.{◌++◌, ◌∷◌, ◌∙◌, [], pos, sym, subst}
use Rattle.plan_text.specs.Spelling.{ended, spelled, base_lines, firsts_line, IsHeldBase, IsHeldFirst}
use Rattle.plan_text.proofs.Timings.{first_is_held}
use Rattle.plan_text.proofs.Written.{one_more, more_lines}
use Rattle.link_space.specs.LinkTiming.{AreHalves}
use Rattle.link_proof.specs.LinkTimingTexts.{half_out_key, half_in_key}
use Rattle.link_proof.proofs.timing_text.LinkCertificateCertificateKind.push_timing.Goals as goal

pub returns-clause-text : goal.returns-clause-text
returns-clause-text c =
    let old = c.args.out.now.items in
    let base = base_lines c.base.result.now in
    let firsts = firsts_line (pos c.first_of-first_out.result) (pos c.first_of-first_in.result) in
    let first = spelled half_out_key c.half_out.result.now in
    let second = spelled half_in_key c.half_in.result.now in
    let d = more_lines old base (firsts ∷ []) _ _ c.in_ok-push_base.ensures.text c.in_ok-push_firsts.ensures in
    let e = one_more old (base ++ firsts ∷ []) first _ _ d c.in_ok-push_numbers.ensures in
    one_more old (base ++ firsts ∷ first ∷ []) second _ _ e c.in_ok-push_numbers-2.ensures
    ∙ (λ i. old ++ ended (base_lines (c.base.ensures i) ++ firsts_line (sym c.first_of-first_out.ensures.value i) (sym c.first_of-first_in.ensures.value i)
    ∷ spelled half_out_key (c.half_out.ensures.value i) ∷ spelled half_in_key (c.half_in.ensures.value i) ∷ []))

pub returns-clause-held : goal.returns-clause-held
returns-clause-held c =
    let patterns = c.args.timing.now.patterns in
    record {
      base = subst IsHeldBase c.base.ensures c.in_ok-push_base.ensures.held;
      first_out = subst IsHeldFirst (sym c.first_of-first_out.ensures.value) (first_is_held c.first_of-first_out.result c.first_of-first_out.ensures.most);
      first_in = subst IsHeldFirst (sym c.first_of-first_in.ensures.value) (first_is_held c.first_of-first_in.result c.first_of-first_in.ensures.most);
      half_out = subst (AreHalves patterns) c.half_out.ensures.value (record { count = c.half_out.ensures.count; each = c.half_out.ensures.most });
      half_in = subst (AreHalves patterns) c.half_in.ensures.value (record { count = c.half_in.ensures.count; each = c.half_in.ensures.most });
    }
