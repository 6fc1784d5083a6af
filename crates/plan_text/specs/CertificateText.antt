-- The words and lines of a certificate's texts, but for the lines of its tree.
use Rattle.std.specs.Prelude.{ℕ, ◌<◌, ◌^◌, List, [], ◌∷◌, All, codes, Option, None, Some, FitsSigned}
use Rattle.std.specs.Int.{w64}
use Rattle.std.specs.Fmt.{decimal, signed_decimal}
use Rattle.rational_theory.specs.Rational.{ℚ}
use Rattle.narrow_fraction.specs.Fraction.{FitsFrac}
use Rattle.quantity_text.specs.Exact.{exact_spelling}
use Rattle.named_row.specs.declared.leaves.Weight.{Weight}
use Rattle.search_box.specs.declared.span.At.{At}
use Rattle.search_box.specs.declared.span.At.TheVariants.{Loop, Turn}
use Rattle.certificate_model.specs.declared.certificate.Claim.{Claim}
use Rattle.certificate_model.specs.declared.certificate.Claim.TheVariants.{Best, NoTiming, Stopped}
use Rattle.certificate_model.specs.Words.{line_of}
use Rattle.plan_text.specs.TimingTexts.{TimingText, one_band}
use Rattle.certificate_model.specs.Families.{Table, ordinary}
use Rattle.certificate_model.specs.Warrants.{Node, SplitAt, LeafOf, WarrantWith, Warrant, IsCertificateIn}

-- lines that stand as they are
abbrev pub certificate_line : List ℕ
certificate_line = codes "maxband-certificate 1"

abbrev pub best_line : List ℕ
best_line = codes "verdict best"

abbrev pub none_line : List ℕ
none_line = codes "verdict none"

abbrev pub open_line : List ℕ
open_line = codes "verdict open"

abbrev pub no_timing_line : List ℕ
no_timing_line = codes "no timing"

abbrev pub tree_line : List ℕ
tree_line = codes "tree"

-- words that lines begin with
abbrev pub value_key : List ℕ
value_key = codes "value"

abbrev pub bound_key : List ℕ
bound_key = codes "bound"

abbrev pub split_key : List ℕ
split_key = codes "split"

abbrev pub loop_key : List ℕ
loop_key = codes "loop"

abbrev pub turn_key : List ℕ
turn_key = codes "turn"

abbrev pub leaf_key : List ℕ
leaf_key = codes "leaf"

-- a key and a fraction
abbrev pub fraction_words : List ℕ → ℚ → List (List ℕ)
fraction_words key x = key ∷ exact_spelling x ∷ []

abbrev pub split_words : At → List (List ℕ)
split_words (Loop link at) = split_key ∷ loop_key ∷ decimal link ∷ signed_decimal at ∷ []
split_words (Turn signal rank) = split_key ∷ turn_key ∷ decimal signal ∷ decimal rank ∷ []

abbrev pub timing_part : {T : Type 0} → TimingText T → Option T → List (List ℕ)
timing_part text None = []
timing_part text (Some t) = text.lines t

-- the lines from the second on up to the tree
unfoldable pub claim_lines : {T : Type 0} → TimingText T → Claim → Option T → List (List ℕ)
claim_lines text (Best value) timing = best_line ∷ line_of (fraction_words value_key value) ∷ timing_part text timing
claim_lines text NoTiming timing = none_line ∷ []
claim_lines text (Stopped bound None) timing = open_line ∷ line_of (fraction_words bound_key bound) ∷ no_timing_line ∷ []
claim_lines text (Stopped bound (Some value)) timing = open_line ∷ line_of (fraction_words bound_key bound) ∷ line_of (fraction_words value_key value) ∷ timing_part text timing

-- ---- certificates that the program can hold

abbrev pub IsHeldClaim : Claim → Type 0
IsHeldClaim (Best value) = FitsFrac value
IsHeldClaim NoTiming = Unit {0}
IsHeldClaim (Stopped bound None) = FitsFrac bound
IsHeldClaim (Stopped bound (Some value)) = FitsFrac bound × FitsFrac value

abbrev pub IsHeldTiming : {T : Type 0} → TimingText T → Option T → Type 0
IsHeldTiming text None = Unit {0}
IsHeldTiming text (Some t) = text.IsHeld t

-- an index of 32 bits, and a multiplier that fits
pub record IsHeldWeight (w : Weight) : Type 0 where
  pub index : w.row.index < 2 ^ 32
  pub by : FitsFrac w.by

abbrev pub IsHeldNode : Node → Type 0
IsHeldNode (SplitAt (Loop link at)) = (link < 2 ^ 32) × FitsSigned w64 at
IsHeldNode (SplitAt (Turn signal rank)) = (signal < 2 ^ 32) × (rank < 2 ^ 32)
IsHeldNode (LeafOf ws) = All IsHeldWeight ws

-- a warrant that a certificate of the program can be
pub record IsHeldWith {T : Type 0} (text : TimingText T) (table : Table) (c : WarrantWith T) : Type 0 where
  pub kept : IsCertificateIn table c
  pub claim : IsHeldClaim c.claim
  pub timing : IsHeldTiming text c.timing
  pub nodes : All IsHeldNode c.nodes

abbrev pub IsHeldWarrant : Warrant → Type 0
IsHeldWarrant c = IsHeldWith one_band ordinary c
