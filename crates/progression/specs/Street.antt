-- An artery as contracts see it. Signals and links are numbered from 1; link i joins signals i and i + 1.
use Rattle.std.specs.Prelude.{ℕ, ◌+◌, ◌-◌, ◌<◌, ◌≤◌, nat_le, ◌&&◌, List, [], length, Bool, false, Option, None, slice_index_or, pos}
use Rattle.rational_theory.specs.Rational.{ℚ, whole}
use Rattle.progression.specs.declared.parts.Head.{Head}
use Rattle.progression.specs.declared.parts.Signal.{Signal}
use Rattle.progression.specs.declared.parts.Link.{Link}
use Rattle.progression.specs.declared.parts.Pair.{Pair}
use Rattle.progression.specs.declared.parts.Dir.{Dir}
use Rattle.progression.specs.declared.parts.Dir.TheVariants.{Outbound, Inbound}

pub record Street : Type 0 where
  pub head : Head
  pub signals : List Signal
  pub links : List Link

abbrev pub count : Street → ℕ
count a = length a.signals

abbrev pub HasSignal : Street → ℕ → Type 0
HasSignal a i = (1 ≤ i) × (i ≤ count a)

abbrev pub HasLink : Street → ℕ → Type 0
HasLink a i = (1 ≤ i) × (i < count a)

-- What is read past the end of a list. A valid artery has every signal from 1 to its count and every link before that, so
-- at no number of its own is one of these read.
abbrev pub no_signal : Signal
no_signal = record { name = []; red = 0; left_out = 0; left_in = 0; patterns = []; clear_out = 0; clear_in = 0 }

abbrev pub no_pair : Pair
no_pair = record { least = whole (pos 0); most = whole (pos 0) }

abbrev pub no_link : Link
no_link = record { distance_out = 0; distance_in = 0; speed_out = no_pair; speed_in = no_pair; change_out = None; change_in = None }

abbrev pub signal_of : Street → ℕ → Signal
signal_of a i = slice_index_or a.signals (i - 1) no_signal

abbrev pub link_of : Street → ℕ → Link
link_of a i = slice_index_or a.links (i - 1) no_link

-- the left turn against a direction, in parts: it goes while the direction's through traffic waits
abbrev pub left_against : Street → Dir → ℕ → ℕ
left_against a Outbound i = (signal_of a i).left_in
left_against a Inbound i = (signal_of a i).left_out

-- a direction's red, in parts: the common red and the left turn against it
abbrev pub red_parts : Street → Dir → ℕ → ℕ
red_parts a d i = (signal_of a i).red + left_against a d i

-- how many parts earlier a direction's line leaves a signal, so that the queue there clears
abbrev pub clearance : Street → Dir → ℕ → ℕ
clearance a Outbound i = (signal_of a i).clear_out
clearance a Inbound i = (signal_of a i).clear_in

-- there are the left turn patterns 1 to 4; a signal lists all four, so the false at the end of the list is never read
abbrev pub allows : Street → ℕ → ℕ → Bool
allows a i p = nat_le 1 p && nat_le p 4 && slice_index_or (signal_of a i).patterns (p - 1) false

abbrev pub distance : Street → Dir → ℕ → ℕ
distance a Outbound i = (link_of a i).distance_out
distance a Inbound i = (link_of a i).distance_in

abbrev pub speed : Street → Dir → ℕ → Pair
speed a Outbound i = (link_of a i).speed_out
speed a Inbound i = (link_of a i).speed_in

-- the limits of a change of pace as they are given
abbrev pub change_given : Street → Dir → ℕ → Option Pair
change_given a Outbound i = (link_of a i).change_out
change_given a Inbound i = (link_of a i).change_in

-- the least width of a direction's band, as a fraction of the cycle
abbrev pub least_band : Street → Dir → ℚ
least_band a Outbound = a.head.least_out
least_band a Inbound = a.head.least_in
