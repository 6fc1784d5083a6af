use Rattle.box_search.proofs.EndsAt.{ends_at}
use Rattle.multi_band.proofs.report.link_report.Goals as goal

pub verdict_lines-requires : goal.verdict_lines-requires
verdict_lines-requires c = ends_at (λ site h. h.boxed) c.args.found.now.verdict c.requires.site
