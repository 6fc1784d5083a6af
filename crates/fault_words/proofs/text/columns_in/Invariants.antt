use Rattle.std.proofs.Common.{◌≡◌, ◌≤◌, fold, take}
use Rattle.fault_words.specs.TextWords.{next_column}
use Rattle.fault_words.proofs.text.columns_in.Given as goal

abbrev pub invariant-loop-byte : goal.invariant-loop-byte
invariant-loop-byte l = (l.column ≡ fold next_column 0 (take l.byte-index l.front)) × (l.column ≤ l.byte-index)
