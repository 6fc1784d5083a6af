use Rattle.std.proofs.Common.{◌≡◌, pos, ◌+ℤ◌, to_z, of_z, SFits, ap, ◌∙◌, arith}
use Rattle.std.specs.Int.{w64}
use Rattle.std.proofs.lemmas.Int.{ints, to_z-of_z}
use Rattle.linear_theory.specs.Boxes as boxes
use Rattle.search_box.specs.Seen.{span_of}
use Rattle.search_box.specs.Places.{number_at, span_at}
use Rattle.search_box.proofs.Parts.{inside_of, low_made, high_made, parts_of}
use Rattle.search_box.proofs.area.SearchBox.split.Goals as goal

pub returns-clause-low : goal.returns-clause-low
returns-clause-low c =
    let s = c.span_at-least.result in
    let at = c.number-at.result in
    let least : to_z w64 (of_z w64 s.least) ≡ s.least = omega (arith, ints) in
    let own : to_z w64 (of_z w64 at) ≡ at = omega (arith, ints) in
    low_made c.args.self.now c.in_ok-low.low c.args.place (span_of s) _ _ c.in_ok-low.ensures least (own ∙ c.number-at.ensures.value) c.span_at-least.ensures.span

pub returns-clause-high : goal.returns-clause-high
returns-clause-high c =
    let box = c.args.self.now in
    let place = c.args.place in
    let s = c.span_at-least.result in
    let at = c.number-at.result in
    let same = c.number-at.ensures.value in
    let top : s.most ≡ (span_at box place).most = ap (λ (x : boxes.Span). x.most) c.span_at-least.ensures.span in
    let below = (inside_of box place (c.is_place.ensures.0 c.if-not-is_place.false)).1 in
    let own : to_z w64 (of_z w64 at) ≡ at = omega (arith, ints) in
    let fits : SFits w64 (at +ℤ pos 1) = omega (arith, ints, below, top, same) in
    let least : to_z w64 (of_z w64 (to_z w64 (of_z w64 at) +ℤ pos 1)) ≡ at +ℤ pos 1 = rw own (to_z-of_z w64 (at +ℤ pos 1) fits) in
    let most : to_z w64 (of_z w64 s.most) ≡ s.most = omega (arith, ints) in
    high_made box c.in_ok-high.high place (span_of s) _ _ c.in_ok-high.ensures (least ∙ ap (λ z. z +ℤ pos 1) same) most c.span_at-least.ensures.span

pub returns-clause-parts : goal.returns-clause-parts
returns-clause-parts c a b =
    rw (returns-clause-low c, returns-clause-high c)
    (parts_of a c.args.self.now c.args.place b (c.is_place.ensures.0 c.if-not-is_place.false))
