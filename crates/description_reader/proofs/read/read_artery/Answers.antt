use Rattle.toml.specs.View.{view}
use Rattle.description_reader.specs.Streets.{street_in, description_fault}
use Rattle.description_reader.proofs.Answers.{read_of, refused_of, unread_by}
use Rattle.description_reader.proofs.read.read_artery.Goals as goal

pub returns-in-Ok-clause-described : goal.returns-in-Ok-clause-described
returns-in-Ok-clause-described c =
    read_of description_fault street_in c.args.bytes.now (view c.in-Ok.root) c.judge.result c.in-Ok.ensures.read c.judge.ensures.made c.judge.ensures.judged

pub returns-in-Ok-clause-refused : goal.returns-in-Ok-clause-refused
returns-in-Ok-clause-refused c = refused_of description_fault street_in c.args.bytes.now (view c.in-Ok.root) c.judge.result c.in-Ok.ensures.read c.judge.ensures.judged

pub returns-in-Err-clause-refused : goal.returns-in-Err-clause-refused
returns-in-Err-clause-refused c = unread_by description_fault c.args.bytes.now c.in-Err.flaw c.in-Err.ensures.refused
