-- Room for the lines of files that can't be read.
use Rattle.std.proofs.Common.{◌≡◌, ℕ, ◌≤◌, List, [], ◌∷◌, arith}
use Rattle.run_inputs.specs.Reading.{inputs, IsRoomForFaults}
use Rattle.run_inputs.specs.declared.reader.ReadAs.{ReadAs}
use Rattle.run_commands.specs.Requested.{room_of}

is_room : (rs : List ReadAs) (names : List (List ℕ)) (room : ℕ) → room_of names ≤ room → IsRoomForFaults (inputs rs names) room
is_room [] names room h = tt
is_room (r ∷ rs) [] room h = tt
is_room (r ∷ rs) (n ∷ ns) room h = (grind (arith, h), is_room rs ns room (grind (arith, h)))

pub request_room : (rs : List ReadAs) (names : List (List ℕ)) (room : ℕ) → room ≡ room_of names → IsRoomForFaults (inputs rs names) room
request_room rs names room h = is_room rs names room (grind (arith, h))
