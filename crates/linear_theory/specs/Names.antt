-- The rows of an artery by name: a family's number, from 1 on, and the number of a signal or link, or 0. The table `families` has all families; what a
-- family's rows are, and where an artery has them, is its rule.
use Rattle.std.specs.Prelude.{◌≡◌, ◌≢◌, ℕ, ◌+◌, ◌==◌, if◌then◌else◌, List, [], ◌∷◌, length, codes, Bool, true, false, Option, None, Some, IsSome}
use Rattle.progression.specs.Street.{Street, HasSignal, HasLink, least_band}
use Rattle.progression.specs.Speeds.{number, change}
use Rattle.progression.specs.declared.parts.Pair.{Pair}
use Rattle.progression.specs.declared.parts.Dir.{Dir}
use Rattle.progression.specs.declared.parts.Dir.TheVariants.{Outbound, Inbound}
use Rattle.linear_theory.specs.Boxes.{Area}
use Rattle.linear_theory.specs.Rows.{Form, wait_form, fast_form, slow_form, rise_form, drop_form, cycle_low_form, cycle_high_form, ratio_form, loop_low_form, loop_high_form, turn_low_form, turn_high_form, least_form, equal_low_form, equal_high_form}

-- a row, by its family and the number of its signal or link
pub data Name : Type 0 where
  WaitRow : Dir → ℕ → Name
  FastRow : Dir → ℕ → Name
  SlowRow : Dir → ℕ → Name
  RiseRow : Dir → ℕ → Name
  DropRow : Dir → ℕ → Name
  CycleLowRow : ℕ → Name
  CycleHighRow : ℕ → Name
  RatioRow : ℕ → Name
  LoopLowRow : ℕ → Name
  LoopHighRow : ℕ → Name
  TurnLowRow : ℕ → Name
  TurnHighRow : ℕ → Name
  LeastRow : Dir → ℕ → Name
  EqualLowRow : ℕ → Name
  EqualHighRow : ℕ → Name
  NoRow : Name

-- ---- the families by their numbers
-- a family of rows with names of a kind: its name in a text, whether it has one row alone, which has no index there, and its row of an index
pub record FamilyOf (N : Type 0) : Type 0 where
  pub text : List ℕ
  pub lone : Bool
  pub row : ℕ → N

abbrev pub Family : Type 0
Family = FamilyOf Name

-- a family with a row for each signal or link
abbrev pub indexed : {N : Type 0} → List ℕ → (ℕ → N) → FamilyOf N
indexed text row = record { text = text; lone = false; row = row }

-- one with one row
abbrev pub alone : {N : Type 0} → List ℕ → (ℕ → N) → FamilyOf N
alone text row = record { text = text; lone = true; row = row }

-- all families, numbered from 1 on
abbrev pub families : List Family
families =
    indexed (codes "wout") (WaitRow Outbound)
    ∷ indexed (codes "win") (WaitRow Inbound)
    ∷ indexed (codes "fast_out") (FastRow Outbound)
    ∷ indexed (codes "fast_in") (FastRow Inbound)
    ∷ indexed (codes "slow_out") (SlowRow Outbound)
    ∷ indexed (codes "slow_in") (SlowRow Inbound)
    ∷ indexed (codes "rise_out") (RiseRow Outbound)
    ∷ indexed (codes "rise_in") (RiseRow Inbound)
    ∷ indexed (codes "drop_out") (DropRow Outbound)
    ∷ indexed (codes "drop_in") (DropRow Inbound)
    ∷ alone (codes "cycle_low") CycleLowRow
    ∷ alone (codes "cycle_high") CycleHighRow
    ∷ alone (codes "ratio") RatioRow
    ∷ indexed (codes "loop_lo") LoopLowRow
    ∷ indexed (codes "loop_hi") LoopHighRow
    ∷ indexed (codes "turn_lo") TurnLowRow
    ∷ indexed (codes "turn_hi") TurnHighRow
    ∷ alone (codes "least_out") (LeastRow Outbound)
    ∷ alone (codes "least_in") (LeastRow Inbound)
    ∷ alone (codes "equal_lo") EqualLowRow
    ∷ alone (codes "equal_hi") EqualHighRow
    ∷ []

-- the greatest number of a family
abbrev pub last_family : ℕ
last_family = length families

-- the row of a family's number and an index, where these families are numbered from n on, and other numbers have another row
abbrev pub row_among : {N : Type 0} → N → ℕ → List (FamilyOf N) → ℕ → ℕ → N
row_among other n [] family i = other
row_among other n (f ∷ fs) family i = if family == n then f.row i else row_among other (n + 1) fs family i

abbrev pub name_of : ℕ → ℕ → Name
name_of family i = row_among NoRow 1 families family i

-- ---- the rules of the families
-- where a row stands: at a signal, at a link, between a link and the next, by itself, or nowhere; by itself also where the ratio is not 1, where a
-- direction has a least band, or where the bands have to be equal
pub data RowPosition : Type 0 where
  AtSignal : ℕ → RowPosition
  AtLink : ℕ → RowPosition
  AtChange : Dir → ℕ → RowPosition
  ByItself : ℕ → RowPosition
  AtRatio : ℕ → RowPosition
  AtLeast : Dir → ℕ → RowPosition
  AtEqual : ℕ → RowPosition
  Nowhere : RowPosition

-- a change of pace from link i to the next is limited in this direction
abbrev pub HasChange : Street → Dir → ℕ → Type 0
HasChange a d i = HasLink a i × HasLink a (i + 1) × IsSome (change a d i)

-- the artery has it
abbrev pub HasRowPosition : Street → RowPosition → Type 0
HasRowPosition a (AtSignal i) = HasSignal a i
HasRowPosition a (AtLink i) = HasLink a i
HasRowPosition a (AtChange d i) = HasChange a d i
HasRowPosition a (ByItself i) = i ≡ 0
HasRowPosition a (AtRatio i) = (i ≡ 0) × (a.head.ratio ≢ number 1)
HasRowPosition a (AtLeast d i) = (i ≡ 0) × (least_band a d ≢ number 0)
HasRowPosition a (AtEqual i) = (i ≡ 0) × (a.head.equal ≡ true)
HasRowPosition a Nowhere = ⊥

-- the row that is none, and that of limits which may be missing
abbrev pub no_form : Form
no_form = record { entries = []; bound = number 0 }

abbrev pub limits_form : (Pair → Form) → Option Pair → Form
limits_form f None = no_form
limits_form f (Some c) = f c

-- where a row stands, and what it is for an artery and a box
pub record Rule : Type 0 where
  pub position : RowPosition
  pub form : Street → Area → Form

abbrev pub rule_of : Name → Rule
rule_of (WaitRow d i) = record { position = AtSignal i; form = λ a box. wait_form a d i }
rule_of (FastRow d i) = record { position = AtLink i; form = λ a box. fast_form a d i }
rule_of (SlowRow d i) = record { position = AtLink i; form = λ a box. slow_form a d i }
rule_of (RiseRow d i) = record { position = AtChange d i; form = λ a box. limits_form (rise_form a d i) (change a d i) }
rule_of (DropRow d i) = record { position = AtChange d i; form = λ a box. limits_form (drop_form a d i) (change a d i) }
rule_of (CycleLowRow i) = record { position = ByItself i; form = λ a box. cycle_low_form a }
rule_of (CycleHighRow i) = record { position = ByItself i; form = λ a box. cycle_high_form a }
rule_of (RatioRow i) = record { position = AtRatio i; form = λ a box. ratio_form a }
rule_of (LoopLowRow i) = record { position = AtLink i; form = λ a box. loop_low_form a box i }
rule_of (LoopHighRow i) = record { position = AtLink i; form = λ a box. loop_high_form a box i }
rule_of (TurnLowRow i) = record { position = AtSignal i; form = λ a box. turn_low_form a box i }
rule_of (TurnHighRow i) = record { position = AtSignal i; form = λ a box. turn_high_form a box i }
rule_of (LeastRow d i) = record { position = AtLeast d i; form = λ a box. least_form a d }
rule_of (EqualLowRow i) = record { position = AtEqual i; form = λ a box. equal_low_form }
rule_of (EqualHighRow i) = record { position = AtEqual i; form = λ a box. equal_high_form }
rule_of NoRow = record { position = Nowhere; form = λ a box. no_form }

-- the artery has the row
abbrev pub HasRow : Street → Name → Type 0
HasRow a n = HasRowPosition a (rule_of n).position

-- the row of a name, for a box
abbrev pub form_of : Street → Area → Name → Form
form_of a box n = (rule_of n).form a box
