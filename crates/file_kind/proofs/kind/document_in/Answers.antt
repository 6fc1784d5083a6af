use Rattle.file_kind.proofs.Roots.{kind_refused}
use Rattle.file_kind.proofs.kind.document_in.Goals as goal

pub returns-in-Err-Refused : goal.returns-in-Err-Refused
returns-in-Err-Refused c = kind_refused c.args.bytes.now c.in-Err-Refused.field-0-0 (rw c.in-Err-Refused.field-0-is at c.in-Err-Refused.ensures.refused)
