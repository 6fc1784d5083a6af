-- The moments of a sheet, in ticks after the last moment of signal 1 from which offsets count: from 0 to a cycle less one.
use Rattle.std.specs.Prelude.{ℕ, ℤ, pos, ◌+ℤ◌}
use Rattle.progression.specs.Street.{Street}
use Rattle.progression.specs.TimingRecord.{TimingRecord, base, band}
use Rattle.progression.specs.BaseRecord.{BaseRecord, cycle}
use Rattle.progression.specs.Green.{since}
use Rattle.progression.specs.Lines.{line_at}
use Rattle.progression.specs.declared.parts.Dir.{Dir}
use Rattle.description_reader.specs.declared.measure.Reference.{Reference}
use Rattle.typed_plan.specs.Asked.{moment}

abbrev pub after_moment : Street → BaseRecord → Reference → ℤ → ℕ
after_moment a b r tick = since (cycle a b) (moment a r b 1) tick

-- the offset of signal i: when its own moment comes
abbrev pub offset_ticks : Street → BaseRecord → Reference → ℕ → ℕ
offset_ticks a b r i = after_moment a b r (moment a r b i)

-- when the first line of a direction's band crosses signal i, and when the last does
abbrev pub first_ticks : Street → TimingRecord → Reference → Dir → ℕ → ℕ
first_ticks a t r d i = after_moment a (base t) r (line_at a t d i)

abbrev pub last_ticks : Street → TimingRecord → Reference → Dir → ℕ → ℕ
last_ticks a t r d i = after_moment a (base t) r (line_at a t d i +ℤ pos (band t d))
