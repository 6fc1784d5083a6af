use Rattle.std.proofs.Common.{subst}
use Rattle.box_search.specs.Meaning.{rules_from}
use Rattle.box_search.proofs.Telling.{found_proves}
use Rattle.box_search.proofs.checked.search_and_confirm.Goals as goal

pub confirm-requires : goal.confirm-requires
confirm-requires g c = c.in_ok-certificate.ensures.accepted c.args.limit c.in_ok-found.ensures.answer

pub returns-clause-searched : goal.returns-clause-searched
returns-clause-searched g c =
    let s = c.args.sought.now in
    let k = g.S.Sought.kind s in
    record {
      search = c.in_ok-found.ensures.answer;
      enough = c.in_ok-found.ensures.enough;
      site = c.in_ok-found.ensures.site;
      proves =
          found_proves (rules_from (g.S.Sought.program s) (g.S.Sought.meaning s)) k c.in_ok-found.found (g.S.Sought.warrant c.in_ok-certificate.certificate) c.in_ok-found.ensures.good
          c.in_ok-found.ensures.tells c.in_ok-certificate.ensures.certificate c.in_ok-confirm.ensures;
      accepted = subst k.IsAccepted c.in_ok-certificate.ensures.certificate (c.in_ok-certificate.ensures.accepted c.args.limit c.in_ok-found.ensures.answer);
    }

pub returns-clause-timed : goal.returns-clause-timed
returns-clause-timed g c = c.in_ok-found.ensures.certifiable.timing
