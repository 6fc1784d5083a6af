use Rattle.std.proofs.Common.{◌≡◌, ◌++◌, flat_map, map, take}
use Rattle.run_commands.specs.Pages.{label_line}
use Rattle.run_commands.specs.Settings.{setting_label}
use Rattle.run_commands.proofs.page.push_settings.Given as goal

abbrev pub invariant-loop-setting : goal.invariant-loop-setting
invariant-loop-setting l = l.out.items ≡ l.fn.out.items ++ flat_map label_line (map setting_label (take l.setting-index l.settings))
