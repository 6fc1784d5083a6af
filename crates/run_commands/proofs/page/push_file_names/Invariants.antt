use Rattle.std.proofs.Common.{◌≡◌, ◌++◌, flat_map, map, take}
use Rattle.run_commands.specs.Pages.{file_label, name_text}
use Rattle.run_commands.proofs.page.push_file_names.Given as goal

abbrev pub invariant-loop-reader : goal.invariant-loop-reader
invariant-loop-reader l = l.out.items ≡ l.fn.out.items ++ flat_map name_text (map file_label (take l.reader-index l.readers))
