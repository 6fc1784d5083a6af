-- A row of an artery's columns that is filled entry by entry: the sum over all columns is the sum over its entries.
use Rattle.std.proofs.Common.{◌≡◌, ℕ, ◌+◌, ◌≤◌, List, [], ◌∷◌, length, refl, ◌∙◌, ap₂}
use Rattle.rational_theory.specs.Rational.{ℚ, ◌+ℚ◌, ◌*ℚ◌, ◌≤ℚ◌}
use Rattle.rational_theory.specs.Rows as maths
use Rattle.rational_theory.specs.Rows.{dot}
use Rattle.progression.specs.Street.{Street, count}
use Rattle.progression.specs.Speeds.{number}
use Rattle.progression.specs.TimingRecord.{TimingRecord}
use Rattle.progression.specs.Columns.{ticks, point}
use Rattle.linear_theory.specs.Places.{place, width}
use Rattle.linear_theory.proofs.Places.{IsColumn}
use Rattle.linear_theory.specs.Rows.{Entry, Form, places_of, line}
use Rattle.linear_theory.proofs.PlacedRows.{Rises, cells_sum, placed_total, placed_width}
use Rattle.linear_theory.proofs.Points.{share, point_at, place_below}

-- the columns exist, and are named in their order, from a place on
abbrev pub InOrder : ℕ → ℕ → List Entry → Type 0
InOrder n low [] = Unit {0}
InOrder n low (e ∷ es) = (low ≤ place n e.0) × IsColumn n e.0 × InOrder n (place n e.0 + 1) es

-- so their places rise
entries_rise : (n low : ℕ) (es : List Entry) → 1 ≤ n → InOrder n low es → Rises (width n) low (places_of n es)
entries_rise n low [] h r = tt
entries_rise n low (e ∷ es) h r = (r.0, place_below n e.0 h r.1, entries_rise n (place n e.0 + 1) es h r.2)

-- the sum of the entries at a point of n signals
abbrev pub total : ℕ → List Entry → List ℚ → ℚ
total n es x = cells_sum x (places_of n es)

-- the sum of the entries at the point of a timing
abbrev pub shares_of : Street → TimingRecord → List Entry → ℚ
shares_of a t [] = number 0
shares_of a t (e ∷ es) = e.1 *ℚ share a t (ticks a t e.0) +ℚ shares_of a t es

-- every row is as wide as the artery
pub line_width : (a : Street) (f : Form) → length (line a f).coefs ≡ width (count a)
line_width a f = placed_width (width (count a)) (places_of (count a) f.entries) f.bound

-- the sum of a row's form at any point
pub line_total : (a : Street) (f : Form) (x : List ℚ) → 1 ≤ count a → InOrder (count a) 0 f.entries → dot (line a f).coefs x ≡ total (count a) f.entries x
line_total a f x h r = placed_total (width (count a)) (places_of (count a) f.entries) f.bound x (entries_rise (count a) 0 f.entries h r)

-- at the point of a timing each entry counts its share
total_shares : (a : Street) (t : TimingRecord) (low : ℕ) (es : List Entry) → 1 ≤ count a → InOrder (count a) low es → total (count a) es (point a t) ≡ shares_of a t es
total_shares a t low [] h r = refl
total_shares a t low (e ∷ es) h r = ap₂ (λ u v. e.1 *ℚ u +ℚ v) (point_at a t e.0 h r.1) (total_shares a t (place (count a) e.0 + 1) es h r.2)

-- the sum of a row at the point of a timing
pub line_value : (a : Street) (t : TimingRecord) (f : Form) → 1 ≤ count a → InOrder (count a) 0 f.entries → dot (line a f).coefs (point a t) ≡ shares_of a t f.entries
line_value a t f h r = line_total a f (point a t) h r ∙ total_shares a t 0 f.entries h r

-- the point of a timing meets a row where its entries' shares do
pub line_met : (a : Street) (t : TimingRecord) (f : Form) → 1 ≤ count a → InOrder (count a) 0 f.entries → shares_of a t f.entries ≤ℚ f.bound → maths.IsMet (point a t) (line a f)
line_met a t f h r l = record { met = rw (line_value a t f h r) l }
