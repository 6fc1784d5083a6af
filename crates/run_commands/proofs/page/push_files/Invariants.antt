use Rattle.std.proofs.Common.{◌≡◌, ◌++◌, flat_map, map, take}
use Rattle.run_commands.specs.Pages.{file_label, label_line}
use Rattle.run_commands.proofs.page.push_files.Given as goal

abbrev pub invariant-loop-reader : goal.invariant-loop-reader
invariant-loop-reader l = l.out.items ≡ l.fn.out.items ++ flat_map label_line (map file_label (take l.reader-index l.readers))
