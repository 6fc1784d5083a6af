-- A base, two lines, and the halves about them.
use Rattle.std.proofs.Common.{◌≡◌, ℕ, List}
use Rattle.progression.specs.TimingRecord.{TimingRecord, base}
use Rattle.link_theory.specs.LinkRecord.{link_banded, lines}

-- a timing whose bands are lines is what halves about its lines have as theirs
pub lines_of : (t : TimingRecord) (half_out half_in : List ℕ) → t.band_out ≡ 0 → t.band_in ≡ 0 → t ≡ lines (link_banded t.first_out half_out t.first_in half_in (base t))
lines_of t half_out half_in out back = λ i. record t { band_out = out i; band_in = back i }
