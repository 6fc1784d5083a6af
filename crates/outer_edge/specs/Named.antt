-- Files of the program, seen as stored files.
use Rattle.std.specs.Prelude.{List, map, string_bytes}
use Rattle.outer_edge.specs.Store.{StoredFile}
use Rattle.outer_edge.specs.declared.stored.Named.{Named}

abbrev pub stored : List Named → List StoredFile
stored files = map (λ f. record { name = string_bytes f.name; bytes = f.bytes.items }) files
