-- Which files may be replaced by new ones, how the new ones are named and made, and which errors say what.
use Rattle.std.specs.Prelude.{◌==◌, ◌&&◌, ◌||◌, nat_le, ℕ, Bool, true, false, List, ◌++◌, Option, Some, None, codes, bit_and}
use Rattle.std.specs.Fmt.{decimal}
use Rattle.std.specs.List.{starts_with}
use Rattle.std.specs.declared.io.ErrorKind.{ErrorKind}
use Rattle.std.specs.declared.io.ErrorKind.TheVariants.{AlreadyExists, NotFound, StorageFull, QuotaExceeded}
use Rattle.outer_edge.specs.declared.facts.Facts.{Facts}

-- a regular file of one name
abbrev pub is_regular : Facts → Bool
is_regular f = f.is_file && nat_le f.names 1

-- the same owner and the same group
abbrev pub is_of_one_owner : Facts → Facts → Bool
is_of_one_owner f g = (f.owner == g.owner) && (f.group == g.group)

-- also the same permissions
abbrev pub is_alike : Facts → Facts → Bool
is_alike f g = is_of_one_owner f g && (g.mode == f.mode)

-- the name of the new file of this number: the file's own, with `.new` and the number at its end
abbrev pub new_name : List ℕ → ℕ → List ℕ
new_name name number = name ++ (codes ".new" ++ decimal number)

-- the greatest number of a new file
abbrev pub greatest_number : ℕ
greatest_number = 100

-- the permissions of a new file: those of the old one; where there was none, reading and writing, less what the user's mask takes away
abbrev pub new_mode : Option Facts → ℕ
new_mode (Some f) = bit_and f.mode 0o777
new_mode None = 0o666

-- the error says that there is no such file
abbrev pub is_absence : ErrorKind → Bool
is_absence NotFound = true
is_absence _ = false

-- the error says that the name is taken
abbrev pub is_taken : ErrorKind → Bool
is_taken AlreadyExists = true
is_taken _ = false

-- the error says that the disk is full
abbrev pub is_want_of_room : ErrorKind → Bool
is_want_of_room StorageFull = true
is_want_of_room QuotaExceeded = true
is_want_of_room _ = false

-- a link of the system, which stands for a file that is open
abbrev pub is_of_system : List ℕ → Bool
is_of_system name = starts_with (λ a b. a == b) name (codes "/dev/") || starts_with (λ a b. a == b) name (codes "/proc/")
