-- The words for the moments of a signal's cycle from which an offset may count.
use Rattle.std.specs.Prelude.{ℕ, List, Option, Some, None, codes, bytes_eq, if◌then◌else◌}
use Rattle.description_reader.specs.declared.measure.Reference.{Reference}
use Rattle.description_reader.specs.declared.measure.Reference.TheVariants.{Red, GreenOut, GreenIn, FirstGreen, EndOut, EndIn}

-- the moment that a text names
abbrev pub reference_named : List ℕ → Option Reference
reference_named text =
    if bytes_eq text (codes "red") then Some Red
    else (if bytes_eq text (codes "green_out") then Some GreenOut
    else (if bytes_eq text (codes "green_in") then Some GreenIn
    else (if bytes_eq text (codes "first_green") then Some FirstGreen
    else (if bytes_eq text (codes "end_out") then Some EndOut
    else (if bytes_eq text (codes "end_in") then Some EndIn
    else None)))))
