-- Members with one more key.
use Rattle.std.specs.Prelude.{ℕ, List, Option, None, Some}
use Rattle.std.specs.Ordering.{nat_cmp, match_ordering}
use Rattle.std.specs.Cmp.Lexicographic.{slice_cmp}
use Rattle.toml.specs.Data.{Data, Members, no_members, member}

-- the key's value in the order of the bytes of the keys, in place of one that stood there
abbrev pub with_member : List ℕ → Data → Members → Members
with_member key d no_members = member key d no_members
with_member key d (member l e ms) = match_ordering (slice_cmp nat_cmp key l) (member key d (member l e ms)) (member l d ms) (member l e (with_member key d ms))

-- the same, where there is a value
abbrev pub with_member_if_there : List ℕ → Option Data → Members → Members
with_member_if_there key None ms = ms
with_member_if_there key (Some d) ms = with_member key d ms
