use Rattle.std.proofs.Common.{◌≡◌, ◌∙◌, sym, ap, ap₂, ℕ, [], ◌∷◌, map, ◌*◌, ◌^◌, Option}
use Rattle.std.specs.Prelude.{find, nat_le, List}
use Rattle.std.specs.Option.{option_or}
use Rattle.progression.specs.BaseRecord.{cycle}
use Rattle.second_plan.specs.Grid.{fineness, in_seconds}
use Rattle.second_plan.proofs.Fine.{first_of_four}
use Rattle.second_plan.proofs.grid.too_fine.Goals as goal

abbrev large_of : List ℕ → Option ℕ
large_of xs = find (λ n. nat_le (2 ^ 80) n) xs

pub returns : goal.returns
returns c =
    let a = c.args.artery.now in let t = c.args.base.now in
    let grid = t.grid * fineness a ∷ [] in
    let there = map (λ n. n * fineness a) t.run_out in
    let back = map (λ n. n * fineness a) t.run_in in
    let whole = cycle a (in_seconds a t c.args.seconds []) ∷ [] in
    let one : c.large.result ≡ large_of grid = c.large.ensures ∙ ap (λ n. large_of (n ∷ [])) c.grid.ensures.value in
    let out : c.large_run.result ≡ large_of there = c.large_run.ensures ∙ ap₂ (λ m xs. large_of (map (λ n. n * m) xs)) c.fineness-fineness.ensures.value c.run_out.ensures.value in
    let inward : c.large_run-2.result ≡ large_of back = c.large_run-2.ensures ∙ ap₂ (λ m xs. large_of (map (λ n. n * m) xs)) c.fineness-fineness.ensures.value c.run_in.ensures.value in
    let last : c.large_cycle.result ≡ large_of whole = c.large_cycle.ensures in
    let two : c.or.result ≡ option_or (large_of grid) (large_of there) = c.or.ensures ∙ ap₂ option_or one out in
    let three : c.or-2.result ≡ option_or (option_or (large_of grid) (large_of there)) (large_of back) = c.or-2.ensures ∙ ap₂ option_or two inward in
    let four : c.or-3.result ≡ option_or (option_or (option_or (large_of grid) (large_of there)) (large_of back)) (large_of whole) = c.or-3.ensures ∙ ap₂ option_or three last in
    four ∙ sym (first_of_four (λ n. nat_le (2 ^ 80) n) grid there back whole)
