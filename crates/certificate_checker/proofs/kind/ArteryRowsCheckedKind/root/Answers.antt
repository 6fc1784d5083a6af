use Rattle.linear_theory.specs.Rows.{goal_form}
use Rattle.loop_rows.proofs.Writing.{written_width}
use Rattle.certificate_checker.proofs.kind.ArteryRowsCheckedKind.root.Goals as goal

pub returns-clause-width : goal.returns-clause-width
returns-clause-width c = λ box. written_width c.args.self.now.artery.now (goal_form c.args.self.now.artery.now)
