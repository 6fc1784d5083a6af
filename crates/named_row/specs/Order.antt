-- The order of the names of rows: by family, and then by index.
use Rattle.std.specs.Prelude.{◌≡◌, ◌<◌, ◌⊎◌, ◌==◌, ◌||◌, ◌&&◌, nat_lt, Bool}
use Rattle.named_row.specs.declared.names.RowId.{RowId}

abbrev pub IsBelow : RowId → RowId → Type 0
IsBelow r s = (r.family < s.family) ⊎ ((r.family ≡ s.family) × (r.index < s.index))

-- as a test
abbrev pub is_below : RowId → RowId → Bool
is_below r s = nat_lt r.family s.family || ((r.family == s.family) && nat_lt r.index s.index)
