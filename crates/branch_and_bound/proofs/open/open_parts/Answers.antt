use Rattle.std.proofs.Common.{◌∙◌, arith}
use Rattle.std.proofs.lemmas.Result.{err_from_is_err_and}
use Rattle.branch_and_bound.specs.Lines.{low_line, high_line}
use Rattle.branch_and_bound.specs.Lineages.{at_low}
use Rattle.branch_and_bound.proofs.Settling.{low_is, high_is, low_halted, high_halted}
use Rattle.std.proofs.lemmas.Grind.{common_steps}
use Rattle.branch_and_bound.proofs.open.open_parts.Goals as goal

pub open_side-requires-clause-part : goal.open_side-requires-clause-part
open_side-requires-clause-part g c =
    let line = c.requires.cut.0 in let place = c.args.cut.now.place in
    (line, low_line place line, place, low_is _ line _ _ _ _ c.requires.cut.1 c.in_ok-low_box.ensures.low)

pub returns-in_err-low_box : goal.returns-in_err-low_box
returns-in_err-low_box g c = grind (arith, common_steps)

pub returns-in_err-low-clause-ends : goal.returns-in_err-low-clause-ends
returns-in_err-low-clause-ends g c = λ line cut.
    let r = g.P.Relaxation.rules c.args.relaxation.now in let place = c.args.cut.now.place in
    let p = err_from_is_err_and c.from_residual-in_err-low.result c.from_residual-in_err-low.ensures.1 in
    let low = low_is r line _ _ _ _ cut c.in_ok-low_box.ensures.low in
    rw (p.1, p.2) (low_halted r line place c.args.progress.now c.open_side.new.progress _ (c.in_err-low.ensures.ends line (low_line place line) place low))

pub open_side-requires-2-clause-part : goal.open_side-requires-2-clause-part
open_side-requires-2-clause-part g c =
    let line = c.requires.cut.0 in let place = c.args.cut.now.place in
    (line, high_line place line, place, high_is _ line _ _ _ _ c.requires.cut.1 c.in_ok-low_box.ensures.high)

pub returns-in_err-high-clause-ends : goal.returns-in_err-high-clause-ends
returns-in_err-high-clause-ends g c = λ line cut.
    let r = g.P.Relaxation.rules c.args.relaxation.now in let place = c.args.cut.now.place in
    let p = err_from_is_err_and c.from_residual-in_err-high.result c.from_residual-in_err-high.ensures.1 in
    let low = c.in_ok-low.ensures.ends line (low_line place line) place (low_is r line _ _ _ _ cut c.in_ok-low_box.ensures.low) in
    let high = c.in_err-high.ensures.ends line (high_line place line) place (high_is r line _ _ _ _ cut c.in_ok-low_box.ensures.high) in
    rw (p.1, p.2) (high_halted r line place c.args.progress.now c.open_side.new.progress c.open_side-2.new.progress c.in_ok-low.low _ (at_low line place cut.lineage cut.end) low.0 low.1 high)

pub returns-clause-ends : goal.returns-clause-ends
returns-clause-ends g c = λ line cut.
    let r = g.P.Relaxation.rules c.args.relaxation.now in let place = c.args.cut.now.place in
    let low = c.in_ok-low.ensures.ends line (low_line place line) place (low_is r line _ _ _ _ cut c.in_ok-low_box.ensures.low) in
    let high = c.in_ok-high.ensures.ends line (high_line place line) place (high_is r line _ _ _ _ cut c.in_ok-low_box.ensures.high) in
    record { middle = c.open_side.new.progress; low_is = low.0; low_cost = low.1; high_is = high.0; high_cost = high.1 }

pub open_side-requires-2-clause-within : goal.open_side-requires-2-clause-within
open_side-requires-2-clause-within g c =
    let line = c.requires.cut.0 in let place = c.args.cut.now.place in
    let low = c.in_ok-low.ensures.ends line (low_line place line) place (low_is _ line _ _ _ _ c.requires.cut.1 c.in_ok-low_box.ensures.low) in
    low.1.within

pub returns-in_err-high-clause-limit : goal.returns-in_err-high-clause-limit
returns-in_err-high-clause-limit g c = c.in_err-high.ensures.limit ∙ c.in_ok-low.ensures.limit

pub returns-clause-limit : goal.returns-clause-limit
returns-clause-limit g c = c.in_ok-high.ensures.limit ∙ c.in_ok-low.ensures.limit
