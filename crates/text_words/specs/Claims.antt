-- What stands in a timing and in a certificate: its numbers, what it claims in a sentence, and which commands say more with its street.
use Rattle.std.specs.Prelude.{ℕ, ◌+◌, pos, ◌^◌, ◌&&◌, nat_le, int_le, if◌then◌else◌, Bool, true, false, List, [], ◌∷◌, ◌++◌, length, codes, Option, None, Some}
use Rattle.std.specs.Fmt.{decimal}
use Rattle.rational_theory.specs.Rational.{ℚ}
use Rattle.quantity_text.specs.Exact.{exact_spelling}
use Rattle.quantity_text.specs.Decimal.{decimal_spelling}
use Rattle.timing_words.specs.Numbers.{seconds_text}
use Rattle.progression.specs.TimingRecord.{TimingRecord, base}
use Rattle.certificate_model.specs.Warrants.{Node, SplitAt, LeafOf, Warrant}
use Rattle.certificate_model.specs.declared.certificate.Claim.{Claim}
use Rattle.certificate_model.specs.declared.certificate.Claim.TheVariants.{Best, NoTiming, Stopped}
use Rattle.link_proof.specs.LinkWarrants.{LinkWarrant}

-- ---- a timing
unfoldable pub signals_text : TimingRecord → List ℕ
signals_text t = codes "signals " ++ decimal (length t.patterns)

unfoldable pub grid_line : TimingRecord → List ℕ
grid_line t = signals_text t ++ (codes ", ticks a second " ++ (decimal t.grid ++ (codes ", ticks a part of the cycle " ++ (decimal t.unit ++ codes "\n"))))

-- a width in ticks, and in seconds as in a sheet
unfoldable pub width_text : TimingRecord → ℕ → List ℕ
width_text t ticks = decimal ticks ++ (codes " ticks = " ++ (seconds_text (base t) ticks ++ codes " s"))

unfoldable pub bands_line : TimingRecord → List ℕ
bands_line t = codes "band outbound " ++ (width_text t t.band_out ++ (codes ", inbound " ++ (width_text t t.band_in ++ codes "\n")))

abbrev pub timing_claim : List ℕ
timing_claim = codes "it says when each signal turns red and how wide the bands are, and claims nothing of other timings\n"

abbrev pub timing_more : List ℕ
timing_more = codes "its cycle in seconds wants the street: `maxband sheet STREET FILE SHEET`; its widest bands: `bands`; whether it keeps the rules: `hold`\n"

unfoldable pub timing_words : TimingRecord → List ℕ
timing_words t = grid_line t ++ (bands_line t ++ (timing_claim ++ timing_more))

-- ---- a claim
-- a number that can be cut at a decimal place
abbrev pub is_cut : ℚ → Bool
is_cut x = int_le (pos 0) x.num && nat_le x.den (2 ^ 120)

-- with six decimal places
abbrev pub cut_text : ℚ → List ℕ
cut_text x = if is_cut x then codes " = " ++ decimal_spelling x 6 else []

-- exact, and cut
unfoldable pub number_text : ℚ → List ℕ
number_text x = exact_spelling x ++ cut_text x

abbrev pub before_bound : Bool → List ℕ
before_bound links = if links then codes "it claims: no link timing of its street has a value above " else codes "it claims: no timing of its street has a weighted band above "

abbrev pub none_claim : Bool → List ℕ
none_claim links = if links then codes "it claims: no link timing of its street keeps all rules\n" else codes "it claims: no timing of its street keeps all rules\n"

-- that nothing is above a bound, and what follows
unfoldable pub bound_text : Bool → ℚ → List ℕ → List ℕ
bound_text links bound end = before_bound links ++ (number_text bound ++ end)

unfoldable pub between_text : Bool → ℚ → ℚ → List ℕ
between_text links bound value = bound_text links bound (codes ", and its own has ") ++ (number_text value ++ codes "\n")

abbrev pub stopped_line : Bool → ℚ → Option ℚ → List ℕ
stopped_line links bound None = bound_text links bound (codes ", and it has none\n")
stopped_line links bound (Some value) = between_text links bound value

abbrev pub claim_line : Bool → Claim → List ℕ
claim_line links (Best value) = bound_text links value (codes ", and its own has that\n")
claim_line links NoTiming = none_claim links
claim_line links (Stopped bound value) = stopped_line links bound value

-- ---- a tree
abbrev pub splits : List Node → ℕ
splits [] = 0
splits (SplitAt at ∷ ns) = splits ns + 1
splits (LeafOf ws ∷ ns) = splits ns

abbrev pub leaves : List Node → ℕ
leaves [] = 0
leaves (SplitAt at ∷ ns) = leaves ns
leaves (LeafOf ws ∷ ns) = leaves ns + 1

unfoldable pub sizes_line : ℕ → ℕ → List ℕ
sizes_line m n = codes "tree: splits " ++ (decimal m ++ (codes ", leaves " ++ (decimal n ++ codes "; each leaf has the grounds for its part of all timings\n")))

abbrev pub tree_line : List Node → List ℕ
tree_line ns = sizes_line (splits ns) (leaves ns)

-- ---- a certificate
abbrev pub timing_part : Option TimingRecord → List ℕ
timing_part None = []
timing_part (Some t) = grid_line t ++ bands_line t

abbrev pub certificate_more : List ℕ
certificate_more = codes "whether that follows wants the street: `maxband check STREET FILE`; its timing in seconds: `maxband sheet STREET FILE SHEET`\n"

unfoldable pub certificate_words : Warrant → List ℕ
certificate_words c = claim_line false c.claim ++ (timing_part c.timing ++ (tree_line c.nodes ++ certificate_more))

abbrev pub links_more : List ℕ
links_more = codes "whether that follows wants the street: `maxband check-links STREET FILE`\n"

unfoldable pub link_words : LinkWarrant → List ℕ
link_words c = claim_line true c.claim ++ (tree_line c.nodes ++ links_more)
