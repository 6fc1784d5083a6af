use Rattle.std.proofs.Common.{◌≡◌, length}
use Rattle.link_space.proofs.Copies.{copied}
use Rattle.link_space.proofs.rows.copy_row.Given as goal

-- the cells so far
abbrev pub invariant-loop-column : goal.invariant-loop-column
invariant-loop-column l = record {
  value : l.into ≡ copied l.from.coefs l.column (length l.initial.into.coefs);
  width : length l.into.coefs ≡ length l.initial.into.coefs;
}
