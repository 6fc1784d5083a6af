-- What the words after the program's name ask for: the command of the first, with names of files and settings by its row.
use Rattle.std.specs.Prelude.{ℕ, Bool, true, false, List, [], ◌∷◌, Option, Some, None, ◌&&◌, length, take, drop, nat_le, map, string_bytes, option_map, option_and_then, if◌then◌else◌}
use Rattle.std.specs.Str.{bytes_eq}
use Rattle.artery_model.specs.Limits.{is_name}
use Rattle.description_reader.specs.References.{reference_named}
use Rattle.run_inputs.specs.Numbers.{signals_of, seed_of, limit_of}
use Rattle.run_inputs.specs.Cycles.{cycle_of, seconds_of, are_spelled}
use Rattle.run_commands.specs.Settings.{Settings, settings_view, unsaid}
use Rattle.run_commands.specs.Table.{row, readers}
use Rattle.run_commands.specs.declared.settings.Setting.{Setting}
use Rattle.run_commands.specs.declared.settings.Setting.TheVariants.{Signals, Seed, Limit, Work, Cycles, WholeCycles, Title, Reference, Word}
use Rattle.run_commands.specs.declared.table.Usage.{Usage}
use Rattle.run_commands.specs.declared.table.TheConstants.{USAGES}
use Rattle.run_commands.specs.declared.request.Request as code

-- the first command of this word
abbrev pub named : List Usage → List ℕ → Option Usage
named [] w = None
named (u ∷ us) w = if bytes_eq (row u).word w then Some u else named us w

-- ---- the words that name no file
-- with what this word says
abbrev pub said : Setting → List ℕ → Settings → Option Settings
said Signals w s = option_map (λ n. record s { signals = n }) (signals_of w)
said Seed w s = option_map (λ n. record s { seed = n }) (seed_of w)
said Limit w s = option_map (λ n. record s { limit = n }) (limit_of w)
said Work w s = option_map (λ n. record s { limit = n }) (limit_of w)
said Cycles w s = None
said WholeCycles w s = None
said Word w s = option_map (λ u. record s { about = Some u }) (named USAGES w)
said Reference w s = option_map (λ r. record s { reference = r }) (reference_named w)
said Title w s = if is_name w then Some (record s { title = Some w }) else None

-- where it stands last it may be left out
abbrev pub may_be_left_out : Setting → Bool
may_be_left_out Work = true
may_be_left_out WholeCycles = true
may_be_left_out Title = true
may_be_left_out Reference = true
may_be_left_out Word = true
may_be_left_out k = false

-- it takes all words that are left
abbrev pub takes_all : Setting → Bool
takes_all Cycles = true
takes_all WholeCycles = true
takes_all k = false

abbrev pub all_left : Setting → List (List ℕ) → Settings → Option Settings
all_left Cycles ws s = if are_spelled cycle_of ws then Some (record s { cycles = ws }) else None
all_left WholeCycles ws s = if are_spelled seconds_of ws then Some (record s { whole_cycles = ws }) else None
all_left k ws s = None

abbrev pub none_left : List Setting → Bool
none_left [] = true
none_left (k ∷ ks) = false

-- a word for each, but for a last one that takes all or is left out
abbrev pub all_said : List Setting → List (List ℕ) → Settings → Option Settings
all_said [] [] s = Some s
all_said [] (w ∷ ws) s = None
all_said (k ∷ ks) (w ∷ ws) s = if takes_all k then all_left k (w ∷ ws) s else option_and_then (all_said ks ws) (said k w s)
all_said (k ∷ ks) [] s = if may_be_left_out k && none_left ks then Some s else None

-- ---- all words
-- a command with the names of the files that it reads, of the one that it may put, where there is one, and its settings
pub record Request : Type 0 where
  pub usage : Usage
  pub reads : List (List ℕ)
  pub output : Option (List ℕ)
  pub settings : Settings

abbrev pub request : Usage → List (List ℕ) → Option (List ℕ) → Settings → Request
request u reads output settings = record { usage = u; reads = reads; output = output; settings = settings }

abbrev pub view : code.Request → Request
view r = request r.usage (map string_bytes r.reads.now) (option_map (λ name. name.now) r.output) (settings_view r.settings)

-- the words behind the names of the files that are read
abbrev pub with_output : Usage → List (List ℕ) → Bool → List (List ℕ) → Option Request
with_output u reads false ws = option_map (request u reads None) (all_said (row u).settings ws unsaid)
with_output u reads true [] = None
with_output u reads true (w ∷ ws) = option_map (request u reads (Some w)) (all_said (row u).settings ws unsaid)

abbrev pub asked_with : List (List ℕ) → Usage → Option Request
asked_with ws u =
    if nat_le (length (readers u)) (length ws) then with_output u (take (length (readers u)) ws) (row u).puts (drop (length (readers u)) ws) else None

abbrev pub request_of : List (List ℕ) → Option Request
request_of [] = None
request_of (w ∷ ws) = option_and_then (asked_with ws) (named USAGES w)
