-- What the words say that name no file, in the order of a command's row.
use Rattle.std.specs.Prelude.{ℕ, ◌≤◌, List, [], Option, Some, None, map, string_bytes, option_map, IfSome, IsTrue}
use Rattle.work_meter.specs.Work.{IsBelow}
use Rattle.artery_model.specs.Bounds.{least_signals, most_first_signals}
use Rattle.artery_model.specs.Limits.{is_name}
use Rattle.description_reader.specs.declared.measure.Reference as moment
use Rattle.description_reader.specs.declared.measure.Reference.TheVariants.{Red}
use Rattle.run_inputs.specs.Numbers.{usual_work}
use Rattle.run_inputs.specs.Cycles.{cycle_of, seconds_of, Spell}
use Rattle.run_inputs.specs.Labels.{Label, label}
use Rattle.run_commands.specs.declared.settings.Setting.{Setting}
use Rattle.run_commands.specs.declared.settings.Setting.TheVariants as setting
use Rattle.run_commands.specs.declared.settings.Settings as code
use Rattle.run_commands.specs.declared.settings.TheConstants.{SIGNALS, SEED, LIMIT, WORK, CYCLES, WHOLE_CYCLES, TITLE, REFERENCE, WORD}
use Rattle.run_commands.specs.declared.table.Usage.{Usage}

pub record Settings : Type 0 where
  pub limit : Option ℕ  -- the units of work that a search may spend, where there is a limit
  pub signals : ℕ  -- how many to make
  pub seed : ℕ
  pub cycles : List (List ℕ)  -- the words that spell them
  pub whole_cycles : List (List ℕ)  -- the words that spell those in whole seconds
  pub title : Option (List ℕ)
  pub reference : moment.Reference  -- from which offsets count
  pub about : Option Usage  -- the command that is asked about

abbrev pub settings_view : code.Settings → Settings
settings_view s = record { limit = s.limit; signals = s.signals; seed = s.seed; cycles = map string_bytes s.cycles.now; whole_cycles = map string_bytes s.whole_cycles.now; title = option_map (λ word. word.now) s.title; reference = s.reference; about = s.about }

-- where no word says them
abbrev pub unsaid : Settings
unsaid = record { limit = Some usual_work; signals = least_signals; seed = 0; cycles = []; whole_cycles = []; title = None; reference = Red; about = None }

-- a search has work to spend, 2 to 16 signals are made, each word of a cycle spells one, and a title is such a name as signals have
pub record InLimits (s : Settings) : Type 0 where
  pub limit : IsBelow 0 s.limit
  pub least : least_signals ≤ s.signals
  pub most : s.signals ≤ most_first_signals
  pub cycles : Spell cycle_of s.cycles
  pub whole_cycles : Spell seconds_of s.whole_cycles
  pub title : IfSome s.title (λ word. IsTrue (is_name word))

-- what stands for such a word in a usage, and what it is
abbrev pub setting_label : Setting → Label
setting_label setting.Signals = label SIGNALS
setting_label setting.Seed = label SEED
setting_label setting.Limit = label LIMIT
setting_label setting.Work = label WORK
setting_label setting.Cycles = label CYCLES
setting_label setting.WholeCycles = label WHOLE_CYCLES
setting_label setting.Title = label TITLE
setting_label setting.Reference = label REFERENCE
setting_label setting.Word = label WORD
