-- A sentence for each kind of fault, and for each reason why a key is one of some files alone.
use Rattle.std.specs.Prelude.{ℕ, List, [], codes}
use Rattle.artery_model.specs.declared.kind.Kind.{Kind}
use Rattle.artery_model.specs.declared.kind.Kind.TheVariants.{NotUtf8, NotToml, UnknownKey, Missing, WrongType, BadNumber, OutOfRange, CountMismatch, RepeatedName, NoPattern, NoGreen, LimitsCrossed}
use Rattle.description_reader.specs.declared.key_table.When.{When}
use Rattle.description_reader.specs.declared.key_table.When.TheVariants.{Always, First, Second, SpeedOut, TravelOut, SpeedIn, TravelIn}

abbrev pub kind_line : Kind → List ℕ
kind_line NotUtf8 = codes "the bytes of the file are no UTF-8: save it as UTF-8\n"
kind_line NotToml = codes "the text is no TOML: look for a missing quote or bracket, or a key that stands twice\n"
kind_line UnknownKey = codes "this key isn't known here\n"
kind_line Missing = codes "this key is needed, and it isn't there\n"
kind_line WrongType = codes "the value has another type than the key wants\n"
kind_line BadNumber = codes "the text is no number of this form: 1 to 18 digits, or a decimal as \"49.5\" or a fraction as \"99/2\" with 1 to 18 digits on each side and no zero below\n"
kind_line OutOfRange = codes "the value is outside its limits\n"
kind_line CountMismatch = codes "there has to be one link fewer than there are signals\n"
kind_line RepeatedName = codes "an earlier signal has this name: each signal needs a name of its own\n"
kind_line NoPattern = codes "the signal allows no pattern: name at least one, or leave the key out for all four\n"
kind_line NoGreen = codes "the common red and this left turn leave no green\n"
kind_line LimitsCrossed = codes "the first of the two limits is above the second: exchange them\n"

-- why a key that stands in some files isn't known in this one
abbrev pub absent_line : When → List ℕ
absent_line Always = codes "the last link has no such key, since no link comes after it\n"
absent_line First = codes "this key is one of a file without version = 2\n"
absent_line Second = codes "this key wants version = 2 as the first line of the file\n"
absent_line SpeedOut = codes "a direction has either speeds or times of travel: leave out speed_out or travel_out\n"
absent_line TravelOut = codes "a direction has either speeds or times of travel: leave out speed_out or travel_out\n"
absent_line SpeedIn = codes "a direction has either speeds or times of travel: leave out speed_in or travel_in\n"
absent_line TravelIn = codes "a direction has either speeds or times of travel: leave out speed_in or travel_in\n"

-- what another file would have
abbrev pub other_line : When → List ℕ
other_line Always = []
other_line First = codes "with version = 2 as the first line of the file there may be 24 of them\n"
other_line Second = []
other_line SpeedOut = codes "or times of travel in its place, in seconds: travel_out\n"
other_line TravelOut = codes "or speeds in its place: speed_out\n"
other_line SpeedIn = codes "or times of travel in its place, in seconds: travel_in\n"
other_line TravelIn = codes "or speeds in its place: speed_in\n"
