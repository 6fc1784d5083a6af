-- The artery without least bands and equal bands, which play no part in link timings.
use Rattle.std.specs.Prelude.{false}
use Rattle.progression.specs.Street.{Street}
use Rattle.progression.specs.Speeds.{number}

abbrev pub plain : Street → Street
plain a = record a { head = record a.head { least_out = number 0; least_in = number 0; equal = false } }
