-- The rows of an artery have a family's number, from 1 to the last, and an index: 0 exactly in the families of one row, and never above the number of signals.
use Rattle.std.proofs.Common.{◌≡◌, ℕ, ◌+◌, ◌<◌, ◌≤◌, ◌∙◌, List, [], ◌∷◌, length, Bool, true, false, true≢false, refl, sym, subst, arith, rules, if◌then◌else◌}
use Rattle.std.proofs.lemmas.Bool.{eqb-true}
use Rattle.std.specs.Prelude.{◌==◌, ◌||◌}
use Rattle.progression.specs.Street.{Street, count}
use Rattle.linear_theory.specs.Names.{Name, NoRow, Family, families, last_family, row_among, name_of, FamilyOf, RowPosition, AtSignal, AtLink}
use Rattle.linear_theory.specs.Names.{AtChange, ByItself, AtRatio, AtLeast, AtEqual, Nowhere, HasRowPosition, rule_of, HasRow}

-- the family has one row alone
abbrev pub lone_among : {N : Type 0} → ℕ → List (FamilyOf N) → ℕ → Bool
lone_among n [] family = false
lone_among n (f ∷ fs) family = if f.lone then (family == n) || lone_among (n + 1) fs family else lone_among (n + 1) fs family

abbrev pub is_lone : ℕ → Bool
is_lone family = lone_among 1 families family

-- ---- numbers
record IsWithin (n m g : ℕ) : Type 0 where
  least : n ≤ g
  below : g < m

within_first : (a : Street) (n m g : ℕ) (x y : Name) (b : Bool) → (g == n) ≡ b → n < m → (HasRow a y → IsWithin (n + 1) m g) → HasRow a (if b then x else y) → IsWithin n m g
within_first a n m g x y true e l more h = let q = eqb-true g n e in record { least = omega arith; below = omega arith }
within_first a n m g x y false e l more h = let w = more h in let p = w.least in record { least = omega arith; below = w.below }

within : (a : Street) (n m : ℕ) (fs : List Family) (g i : ℕ) → m ≡ n + length fs → HasRow a (row_among NoRow n fs g i) → IsWithin n m g
within a n m [] g i e h = absurd h
within a n m (f ∷ fs) g i e h =
    within_first a n m g (f.row i) (row_among NoRow (n + 1) fs g i) (g == n) refl (omega (arith, e)) (within a (n + 1) m fs g i (omega (arith, e))) h

pub family_least : (a : Street) (g i : ℕ) → HasRow a (name_of g i) → 1 ≤ g
family_least a g i h = (within a 1 (1 + last_family) families g i refl h).least

pub family_most : (a : Street) (g i : ℕ) → HasRow a (name_of g i) → g ≤ last_family
family_most a g i h = let l = (within a 1 (1 + last_family) families g i refl h).below in omega arith

-- ---- indices
-- a position of a family's row has the row's index, and is one for a single row where the family has one alone
abbrev Fits : Bool → RowPosition → ℕ → Type 0
Fits false (AtSignal j) i = j ≡ i
Fits false (AtLink j) i = j ≡ i
Fits false (AtChange d j) i = j ≡ i
Fits true (ByItself j) i = j ≡ i
Fits true (AtRatio j) i = j ≡ i
Fits true (AtLeast d j) i = j ≡ i
Fits true (AtEqual j) i = j ≡ i
Fits lone position i = ⊥

abbrev AllFit : List Family → ℕ → Type 0
AllFit [] i = Unit {0}
AllFit (f ∷ fs) i = Fits f.lone (rule_of (f.row i)).position i × AllFit fs i

all_fit : (i : ℕ) → AllFit families i
all_fit i = search rules

-- an index of a family that has one row alone, or has not
pub record IsIndex (a : Street) (lone : Bool) (i : ℕ) : Type 0 where
  pub none : lone ≡ true → i ≡ 0
  pub some : lone ≡ false → 1 ≤ i
  pub most : i ≤ count a

several : (a : Street) (i : ℕ) → 1 ≤ i → i ≤ count a → IsIndex a false i
several a i l m = record { none = λ e. absurd (true≢false (sym e)); some = λ e. l; most = m }

single : (a : Street) (i : ℕ) → i ≡ 0 → IsIndex a true i
single a i e = record { none = λ f. e; some = λ f. absurd (true≢false f); most = omega (arith, e) }

position_index : (a : Street) (lone : Bool) (s : RowPosition) (i : ℕ) → Fits lone s i → HasRowPosition a s → IsIndex a lone i
position_index a false (AtSignal j) i e h = subst (IsIndex a false) e (several a j h.0 h.1)
position_index a false (AtLink j) i e h = subst (IsIndex a false) e (several a j h.0 (omega (arith, h.1)))
position_index a false (AtChange d j) i e h = subst (IsIndex a false) e (several a j h.0.0 (omega (arith, h.0.1)))
position_index a false (ByItself j) i e h = absurd e
position_index a false (AtRatio j) i e h = absurd e
position_index a false (AtLeast d j) i e h = absurd e
position_index a false (AtEqual j) i e h = absurd e
position_index a false Nowhere i e h = absurd e
position_index a true (AtSignal j) i e h = absurd e
position_index a true (AtLink j) i e h = absurd e
position_index a true (AtChange d j) i e h = absurd e
position_index a true (ByItself j) i e h = subst (IsIndex a true) e (single a j h)
position_index a true (AtRatio j) i e h = subst (IsIndex a true) e (single a j h.0)
position_index a true (AtLeast d j) i e h = subst (IsIndex a true) e (single a j h.0)
position_index a true (AtEqual j) i e h = subst (IsIndex a true) e (single a j h.0)
position_index a true Nowhere i e h = absurd e

-- ---- which family has one row alone

lone_step : (lone b rest : Bool) → b ≡ false → (if lone then b || rest else rest) ≡ rest
lone_step true false rest e = refl
lone_step false false rest e = refl
lone_step true true rest e = absurd (true≢false e)
lone_step false true rest e = absurd (true≢false e)

lone_here : (lone b rest : Bool) → b ≡ true → rest ≡ false → (if lone then b || rest else rest) ≡ lone
lone_here true true rest e f = refl
lone_here false true rest e f = f
lone_here lone false rest e f = absurd (true≢false (sym e))

not_equal : (g n : ℕ) (b : Bool) → (g == n) ≡ b → g < n → b ≡ false
not_equal g n true e l = let q = eqb-true g n e in absurd (omega arith)
not_equal g n false e l = refl

-- none of the families from n on has a number below n
lone_below : (n : ℕ) (fs : List Family) (g : ℕ) → g < n → lone_among n fs g ≡ false
lone_below n [] g l = refl
lone_below n (f ∷ fs) g l = lone_step f.lone (g == n) (lone_among (n + 1) fs g) (not_equal g n (g == n) refl l) ∙ lone_below (n + 1) fs g (omega arith)

index_step : (a : Street) (n : ℕ) (fs : List Family) (f : Family) (g i : ℕ) (y : Name) (b : Bool) → (g == n) ≡ b → Fits f.lone (rule_of (f.row i)).position i
    → (HasRow a y → IsIndex a (lone_among (n + 1) fs g) i) → HasRow a (if b then f.row i else y) → IsIndex a (if f.lone then b || lone_among (n + 1) fs g else lone_among (n + 1) fs g) i
index_step a n fs f g i y true e p more h =
    let q = eqb-true g n e in
    subst (λ l. IsIndex a l i) (sym (lone_here f.lone true (lone_among (n + 1) fs g) refl (lone_below (n + 1) fs g (omega arith)))) (position_index a f.lone (rule_of (f.row i)).position i p h)
index_step a n fs f g i y false e p more h = subst (λ l. IsIndex a l i) (sym (lone_step f.lone false (lone_among (n + 1) fs g) refl)) (more h)

index_among : (a : Street) (n : ℕ) (fs : List Family) (g i : ℕ) → AllFit fs i → HasRow a (row_among NoRow n fs g i) → IsIndex a (lone_among n fs g) i
index_among a n [] g i e h = absurd h
index_among a n (f ∷ fs) g i e h = index_step a n fs f g i (row_among NoRow (n + 1) fs g i) (g == n) refl e.0 (index_among a (n + 1) fs g i e.1) h

-- the index of a row of the artery
pub row_index : (a : Street) (g i : ℕ) → HasRow a (name_of g i) → IsIndex a (is_lone g) i
row_index a g i h = index_among a 1 families g i (all_fit i) h

pub index_most : (a : Street) (g i : ℕ) → HasRow a (name_of g i) → i ≤ count a
index_most a g i h = (row_index a g i h).most
