use Rattle.std.proofs.Common.{refl}
use Rattle.box_search.proofs.EndsAt.{ends_at}
use Rattle.run_commands.proofs.solve.solve_artery.Goals as goal

pub report-requires-clause-site : goal.report-requires-clause-site
report-requires-clause-site c = ends_at (λ site h. h.boxed) c.in_ok-searched.searched.found.verdict c.in_ok-searched.ensures.searched.site

pub returns-clause-finds : goal.returns-clause-finds
returns-clause-finds c = (
  c.in_ok-searched.searched.text.items,
  refl,
  record {
    found = c.in_ok-searched.searched.found;
    searched = c.in_ok-searched.ensures.searched;
    cause_is = c.cause_of.ensures.value;
    lines_are = c.in_ok-lines.ensures;
    certificate_is = c.in_ok-searched.ensures.text;
  },
)
