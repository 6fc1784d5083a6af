-- What a base has to be so that it is the plan that people typed, as fractions of seconds.
use Rattle.std.specs.Prelude.{◌≡◌, ◌≤◌, ℕ, ◌-◌, ℤ, pos, ◌+ℤ◌, ◌-ℤ◌, ◌*ℤ◌, slice_index_or}
use Rattle.std.specs.Int.{int_min}
use Rattle.rational_theory.specs.Rational.{ℚ, whole, over, ◌-ℚ◌}
use Rattle.progression.specs.Green.{red_start, red_ticks}
use Rattle.progression.specs.Street.{Street, HasSignal, HasLink, distance}
use Rattle.progression.specs.Speeds.{seconds}
use Rattle.progression.specs.BaseRecord.{BaseRecord, IsBaseRecord, cycle, common_red, run}
use Rattle.progression.specs.declared.parts.Dir.{Dir}
use Rattle.progression.specs.declared.parts.Dir.TheVariants.{Outbound, Inbound}
use Rattle.progression.specs.declared.parts.Units.{Units}
use Rattle.description_reader.specs.Typed.{Typed, measure, measured}
use Rattle.description_reader.specs.declared.measure.Measure.{Measure}
use Rattle.description_reader.specs.declared.measure.Measure.TheVariants.{Speed, Travel}
use Rattle.description_reader.specs.declared.measure.Reference.{Reference}
use Rattle.description_reader.specs.declared.measure.Reference.TheVariants.{Red, GreenOut, GreenIn, FirstGreen, EndOut, EndIn}

-- how much later than signal 1's moment signal i's is, in seconds
abbrev pub offset : Typed → ℕ → ℚ
offset p i = slice_index_or p.offsets (i - 1) (whole (pos 0))

abbrev pub after : Typed → ℕ → ℚ
after p i = offset p i -ℚ offset p 1

-- the time on a link, in seconds: as it is typed, or at the speed that is
abbrev pub time_by : Measure → Units → ℕ → ℚ → ℚ
time_by Speed units distance q = seconds units distance q
time_by Travel units distance q = q

abbrev pub travel : Street → Typed → Dir → ℕ → ℚ
travel a p d i = time_by (measure p d) a.head.units (distance a d i) (slice_index_or (measured p d) (i - 1) (whole (pos 0)))

-- the tick at which a direction's green starts, as its red ends
abbrev pub green_start : Street → BaseRecord → Dir → ℕ → ℤ
green_start a b d i = red_start a b d i +ℤ pos (red_ticks a b d i)

-- The tick at which the moment comes from which a signal's offset counts. A green ends as the red of its direction starts.
abbrev pub moment : Street → Reference → BaseRecord → ℕ → ℤ
moment a Red b i = common_red b i
moment a GreenOut b i = green_start a b Outbound i
moment a GreenIn b i = green_start a b Inbound i
moment a FirstGreen b i = int_min (green_start a b Outbound i) (green_start a b Inbound i)
moment a EndOut b i = red_start a b Outbound i
moment a EndIn b i = red_start a b Inbound i

-- so many ticks, in seconds
abbrev pub in_seconds : BaseRecord → ℤ → ℚ
in_seconds b ticks = over ticks b.grid

-- the moment of signal i is so much later than that of signal 1, but for k whole cycles
pub record IsAfter (a : Street) (p : Typed) (b : BaseRecord) (i : ℕ) : Type 0 where
  pub k : ℤ
  pub later : in_seconds b (moment a p.reference b i -ℤ moment a p.reference b 1 +ℤ k *ℤ pos (cycle a b)) ≡ after p i

-- the base has the plan's cycle, patterns, offsets and times on the links
pub record IsAsTyped (a : Street) (p : Typed) (b : BaseRecord) : Type 0 where
  pub formed : IsBaseRecord b
  pub cycle : in_seconds b (pos (cycle a b)) ≡ p.cycle
  pub patterns : b.patterns ≡ p.patterns
  pub offsets : (i : ℕ) → HasSignal a i → IsAfter a p b i
  pub runs : (d : Dir) (i : ℕ) → HasLink a i → in_seconds b (pos (run b d i)) ≡ travel a p d i

-- and no such base has a coarser grid, or fewer ticks a part
pub record IsLeast (a : Street) (p : Typed) (b : BaseRecord) : Type 0 where
  pub as_typed : IsAsTyped a p b
  pub grid : (s : BaseRecord) → IsAsTyped a p s → b.grid ≤ s.grid
  pub unit : (s : BaseRecord) → IsAsTyped a p s → b.unit ≤ s.unit
