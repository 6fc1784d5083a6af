use Rattle.std.proofs.Common.{◌+◌, ◌≤◌, vec_len, ◌-◌}
use Rattle.std.specs.Prelude.{IfSome}
use Rattle.outer_edge.specs.Counts.{SameCounts}
use Rattle.outer_edge.specs.Held.{SameFiles}
use Rattle.outer_edge.specs.Held.{IsFront}
use Rattle.outer_edge.proofs.reading.read_whole.Given as goal

-- what was taken is the front of the file, and no read or put failed
abbrev pub invariant-turns : goal.invariant-turns
invariant-turns g l = record {
  files : SameFiles (g.F.Files.holds l.initial.files) (g.F.Files.holds l.files);
  front : IfSome (g.F.Files.holds l.initial.files l.name) (λ file. IsFront file l.all.items);
  within : vec_len l.all ≤ l.limit;
  reads : SameCounts (g.F.Files.read_faults l.initial.files) (g.F.Files.read_faults l.files);
  puts : SameCounts (g.F.Files.put_faults l.initial.files) (g.F.Files.put_faults l.files);
}

abbrev pub decreases-turns : goal.decreases-turns
decreases-turns g l = l.limit + 1 - vec_len l.all
