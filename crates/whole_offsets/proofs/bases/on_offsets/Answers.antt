use Rattle.std.proofs.Common.{◌∙◌, ◌*◌, map, ap, subst}
use Rattle.std.specs.Prelude.{All, ◌<◌, ◌≤◌, ◌^◌}
use Rattle.whole_offsets.proofs.Sizes.{scale_held}
use Rattle.whole_offsets.proofs.Timings.{listed_as, on_offsets_is}
use Rattle.whole_offsets.proofs.bases.on_offsets.Goals as goal

pub unreachable-requires : goal.unreachable-requires
unreachable-requires c =
    let a = c.args.artery.now in let t = c.args.base.now in let k = c.args.rounded.now.seconds in
    c.in-None.ensures.none
    (listed_as a t k c.args.rounded.now.offsets.items c.args.scale.grid c.args.scale.unit
    (scale_held a t c.known_valid.ensures c.requires.base k c.requires.scale.some c.args.scale.grid c.args.scale.unit c.requires.scale)
    c.requires.base c.known_valid.ensures c.requires.within
    (subst (λ xs. All (λ p. (1 ≤ p) × (p ≤ 4)) xs) c.patterns.ensures.value c.patterns.ensures.each)
    (subst (λ xs. All (λ n. n < 2 ^ 80) xs) c.run_out.ensures.value c.run_out.ensures.most)
    (subst (λ xs. All (λ n. n < 2 ^ 80) xs) c.run_in.ensures.value c.run_in.ensures.most)
    _ _ _ _
    (c.in_ok-patterns.ensures.items ∙ c.patterns.ensures.value)
    (c.in_ok-reds.ensures ∙ ap (map (λ offset. offset * c.args.scale.grid)) c.as_slice.ensures.value)
    (c.in_ok-run_out.ensures.items ∙ c.run_out.ensures.value)
    (c.in_ok-run_in.ensures.items ∙ c.run_in.ensures.value))

pub returns : goal.returns
returns c =
    c.in-Some.ensures.value
    ∙ on_offsets_is c.args.base.now c.args.rounded.now.offsets.items c.args.scale.grid c.args.scale.unit
    _ _ _ _
    (c.in_ok-patterns.ensures.items ∙ c.patterns.ensures.value)
    (c.in_ok-reds.ensures ∙ ap (map (λ offset. offset * c.args.scale.grid)) c.as_slice.ensures.value)
    (c.in_ok-run_out.ensures.items ∙ c.run_out.ensures.value)
    (c.in_ok-run_in.ensures.items ∙ c.run_in.ensures.value)
