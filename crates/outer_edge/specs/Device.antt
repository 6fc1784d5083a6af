-- A store of files whose calls are numbered from 1, those of a list being made to fail.
use Rattle.std.specs.Prelude.{ℕ, Bool, ◌==◌, ◌||◌, List, is_none, if◌then◌else◌}
use Rattle.std.specs.List.{list_any}
use Rattle.outer_edge.specs.Counts.{next_count}
use Rattle.outer_edge.specs.Store.{StoredFile, found}

-- the numbers of failing calls, the calls made, and the failed reads and puts
pub record Ledger : Type 0 where
  pub fail : List ℕ
  pub calls : ℕ
  pub read_faults : ℕ
  pub put_faults : ℕ

pub record Device : Type 0 where
  pub files : List StoredFile
  pub ledger : Ledger

-- the next call's number stands in the list
abbrev pub next_fails : List ℕ → ℕ → Bool
next_fails fail calls = list_any (λ number. number == next_count calls) fail

-- a read fails by its number, or because the name isn't there
abbrev pub read_fails : Device → List ℕ → Bool
read_fails d name = next_fails d.ledger.fail d.ledger.calls || is_none (found d.files name)

abbrev pub count_if : Bool → ℕ → ℕ
count_if failed n = if failed then next_count n else n

abbrev pub after_read : Ledger → Bool → Ledger
after_read l failed = record l { calls = next_count l.calls; read_faults = count_if failed l.read_faults }

abbrev pub after_put : Ledger → Bool → Ledger
after_put l failed = record l { calls = next_count l.calls; put_faults = count_if failed l.put_faults }
