use Rattle.box_search.specs.Meaning.{rules_from}
use Rattle.box_search.proofs.Opens.{ok_map}
use Rattle.box_search.proofs.Telling.{found_tells}
use Rattle.box_search.proofs.searching.search_sought.Goals as goal

pub returns-clause-answer : goal.returns-clause-answer
returns-clause-answer g c = ok_map c.search.result _ _ (λ found h.
    let s = c.args.sought.now in
    (found_tells (rules_from (g.S.Sought.program s) (g.S.Sought.meaning s)) (g.S.Sought.kind s) c.known_program.ensures.sought c.args.limit found
    c.known_program.ensures.searchable c.law_enough.ensures h).answer) c.search.ensures

pub returns-clause-good : goal.returns-clause-good
returns-clause-good g c = ok_map c.search.result _ _ (λ found h.
    let s = c.args.sought.now in
    (found_tells (rules_from (g.S.Sought.program s) (g.S.Sought.meaning s)) (g.S.Sought.kind s) c.known_program.ensures.sought c.args.limit found
    c.known_program.ensures.searchable c.law_enough.ensures h).good) c.search.ensures

pub returns-clause-tells : goal.returns-clause-tells
returns-clause-tells g c = ok_map c.search.result _ _ (λ found h.
    let s = c.args.sought.now in
    (found_tells (rules_from (g.S.Sought.program s) (g.S.Sought.meaning s)) (g.S.Sought.kind s) c.known_program.ensures.sought c.args.limit found
    c.known_program.ensures.searchable c.law_enough.ensures h).tells) c.search.ensures

pub returns-clause-certifiable : goal.returns-clause-certifiable
returns-clause-certifiable g c = ok_map c.search.result _ _ (λ found h.
    let s = c.args.sought.now in
    (found_tells (rules_from (g.S.Sought.program s) (g.S.Sought.meaning s)) (g.S.Sought.kind s) c.known_program.ensures.sought c.args.limit found
    c.known_program.ensures.searchable c.law_enough.ensures h).certifiable) c.search.ensures

pub returns-clause-site : goal.returns-clause-site
returns-clause-site g c = ok_map c.search.result _ _ (λ found h.
    let s = c.args.sought.now in
    (found_tells (rules_from (g.S.Sought.program s) (g.S.Sought.meaning s)) (g.S.Sought.kind s) c.known_program.ensures.sought c.args.limit found
    c.known_program.ensures.searchable c.law_enough.ensures h).site) c.search.ensures

pub returns-clause-enough : goal.returns-clause-enough
returns-clause-enough g c = ok_map c.search.result _ _ (λ found h.
    let s = c.args.sought.now in
    (found_tells (rules_from (g.S.Sought.program s) (g.S.Sought.meaning s)) (g.S.Sought.kind s) c.known_program.ensures.sought c.args.limit found
    c.known_program.ensures.searchable c.law_enough.ensures h).enough) c.search.ensures
