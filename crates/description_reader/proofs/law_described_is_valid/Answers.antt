use Rattle.description_reader.proofs.Validity.{described_is_valid}
use Rattle.description_reader.proofs.law_described_is_valid.Goals as goal

pub returns : goal.returns
returns c = described_is_valid c.law_no_fault_is_valid.ensures
