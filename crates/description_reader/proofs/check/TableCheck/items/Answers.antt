use Rattle.std.proofs.Common.{◌∙◌, ◌+◌, sym, ap, subst, rules, w64}
use Rattle.std.proofs.lemmas.Int.{to_z-of_z}
use mir.Val.{SFits}
use Rattle.std.proofs.lemmas.Result.{err_from_is_err_and}
use Rattle.artery_model.specs.Faults.{first_fault, each_numbered, unless, Names}
use Rattle.description_reader.specs.Checks.{items_fault, item_fault}
use Rattle.description_reader.specs.Places.{item_place}
use Rattle.description_reader.proofs.Numbered.{named_at, numbered_more, numbered_all}
use Rattle.description_reader.proofs.check.TableCheck.items.Goals as goal

pub loop-index-preserved : goal.loop-index-preserved
loop-index-preserved c =
    let t = c.args.self in
    let i = c.loop-index.index in
    let fits : SFits w64 t.parts = search rules in
    let met = simp (fits, to_z-of_z) at c.meets-passes.ensures in
    let passed = ap (λ b. unless b t.kind (item_place t.section c.args.name.now (i + 1))) (sym met) ∙ c.in_ok-check_item.ensures in
    numbered_more (item_fault t.kind t.parts t.section c.args.demand c.args.name.now) c.items_at-items.result.now i c.index-items-index.result _ c.loop-index-test.true
    c.index-items-index.is passed c.loop-index.invariant

pub returns-in_err-check_item : goal.returns-in_err-check_item
unfolding items_fault
returns-in_err-check_item c =
    let t = c.args.self in
    let i = c.loop-index.index in
    let test = item_fault t.kind t.parts t.section c.args.demand c.args.name.now in
    let flaw = c.in_err-check_item.field-0.0 in
    let p = err_from_is_err_and c.from_residual.result c.from_residual.ensures.1 in
    let fits : SFits w64 t.parts = search rules in
    let met = simp (fits, to_z-of_z) at c.meets-passes.ensures in
    let named = subst (λ b. Names flaw (unless b t.kind (item_place t.section c.args.name.now (i + 1)))) met c.in_err-check_item.ensures in
    rw (p.1, p.2) (named_at test c.items_at-items.result.now i c.index-items-index.result _ flaw c.loop-index-test.true c.index-items-index.is
    (rw (← c.items_at-items.ensures) c.loop-index.invariant) named)

pub returns : goal.returns
unfolding items_fault
returns c =
    let t = c.args.self in
    let test = item_fault t.kind t.parts t.section c.args.demand c.args.name.now in
    ap (λ ds. first_fault (each_numbered test 1 ds)) (sym c.items_at-items.ensures)
    ∙ numbered_all test c.items_at-items.result.now c.loop-index.index _ c.loop-index-test.false c.loop-index.invariant
