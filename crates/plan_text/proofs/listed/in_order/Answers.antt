use Rattle.std.proofs.Common.{◌∙◌, ◌++◌, sym, ap, map-id, rules}
use Rattle.std.proofs.lemmas.Iterator.Consumers.{YieldsList-from_rest}
use Rattle.std.proofs.lemmas.Iterator.Adapters.{fact_from_extend}
use Rattle.plan_text.proofs.listed.in_order.Goals as goal

pub returns : goal.returns
returns c =
    let keys = c.args.rows.keys in
    let taken = fact_from_extend (λ x. x) c.extend.result c.extend.ensures.ran (λ it b. YieldsList-from_rest keys b.0) (λ xs e h. h.0 ∙ ap (λ y. c.in_ok-list.list.items ++ y) (sym (map-id xs) ∙ e)) in
    search rules
