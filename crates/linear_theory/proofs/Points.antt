-- What the point of a timing has in each column.
use Rattle.std.proofs.Common.{◌≡◌, ℕ, zero, suc, ◌+◌, ◌-◌, ◌<◌, ◌≤◌, List, ◌∷◌, ◌++◌, length, get_or, refl, sym, ◌∙◌, ap, arith, length-append}
use Rattle.std.proofs.lemmas.List.{length-map, get_or-map, get_or_append_left, get_or-append-add}
use Rattle.rational_theory.specs.Rational.{ℚ, ◌/ℚ◌}
use Rattle.progression.specs.Street.{Street, count}
use Rattle.progression.specs.Speeds.{number}
use Rattle.progression.specs.TimingRecord.{TimingRecord, base}
use Rattle.progression.specs.BaseRecord.{cycle}
use Rattle.progression.specs.Columns.{Column, BandOf, Frequency, WaitOf, RunOf, ShiftOf, numbered, columns, ticks, point}
use Rattle.progression.specs.declared.parts.Dir.TheVariants.{Outbound, Inbound}
use Rattle.linear_theory.specs.Places.{place, width, value_at}
use Rattle.linear_theory.proofs.Places.{IsColumn}

-- some ticks as a fraction of the cycle
abbrev pub share : Street → TimingRecord → ℕ → ℚ
share a t k = number k /ℚ number (cycle a (base t))

-- ---- the list of columns
-- n numbered items are n
pub length-numbered : {X : Type 0} (n i : ℕ) (f : ℕ → X) → length (numbered n i f) ≡ n
length-numbered zero i f = refl
length-numbered (suc n) i f = ap suc (length-numbered n (i + 1) f)

-- the j-th of them, from 0
pub get-numbered : {X : Type 0} (n i j : ℕ) (f : ℕ → X) (d : X) → j < n → get_or (numbered n i f) j d ≡ f (i + j)
get-numbered zero i j f d l = absurd (omega arith)
get-numbered (suc n) i zero f d l = ap f (omega arith)
get-numbered (suc n) i (suc j) f d l = get-numbered n (i + 1) j f d (omega arith) ∙ ap f (omega arith)

-- the k-th item behind n others
pub behind : {X : Type 0} (xs ys : List X) (n k j : ℕ) (d : X) → length xs ≡ n → j ≡ n + k → get_or (xs ++ ys) j d ≡ get_or ys k d
behind xs ys n k j d e f = ap (λ m. get_or (xs ++ ys) m d) (f ∙ ap (λ m. m + k) (sym e)) ∙ get_or-append-add xs ys k d

-- the i-th numbered item, from 1, before others
among : {X : Type 0} (n i : ℕ) (f : ℕ → X) (ys : List X) (d : X) → 1 ≤ i → i ≤ n → get_or (numbered n 1 f ++ ys) (i - 1) d ≡ f i
among n i f ys d h k =
    get_or_append_left (numbered n 1 f) ys d (i - 1) (omega (arith, length-numbered n 1 f)) ∙ get-numbered n 1 (i - 1) f d (omega arith) ∙ ap f (omega arith)

-- behind the first three
front : (x y z : Column) (xs : List Column) (j k : ℕ) (d : Column) → j ≡ 3 + k → get_or (x ∷ y ∷ z ∷ xs) j d ≡ get_or xs k d
front x y z xs j k d e = let f : j ≡ suc (suc (suc k)) = omega arith in ap (λ m. get_or (x ∷ y ∷ z ∷ xs) m d) f

-- each column stands at its place
pub column_there : (n : ℕ) (c d : Column) → IsColumn n c → get_or (columns n) (place n c) d ≡ c
column_there n (BandOf Outbound) d h = refl
column_there n (BandOf Inbound) d h = refl
column_there n Frequency d h = refl
column_there n (WaitOf Outbound i) d h =
    front _ _ _ _ (place n (WaitOf Outbound i)) (i - 1) d (omega arith) ∙ among n i (WaitOf Outbound) _ d h.0 h.1
column_there n (WaitOf Inbound i) d h =
    front _ _ _ _ (place n (WaitOf Inbound i)) (n + (i - 1)) d (omega arith)
    ∙ behind _ _ n (i - 1) _ d (length-numbered n 1 (WaitOf Outbound)) refl
    ∙ among n i (WaitOf Inbound) _ d h.0 h.1
column_there n (RunOf Outbound i) d h =
    front _ _ _ _ (place n (RunOf Outbound i)) (n + (n + (i - 1))) d (omega arith)
    ∙ behind _ _ n (n + (i - 1)) _ d (length-numbered n 1 (WaitOf Outbound)) refl
    ∙ behind _ _ n (i - 1) _ d (length-numbered n 1 (WaitOf Inbound)) refl
    ∙ among (n - 1) i (RunOf Outbound) _ d h.0 (omega arith)
column_there n (RunOf Inbound i) d h =
    front _ _ _ _ (place n (RunOf Inbound i)) (n + (n + (n - 1 + (i - 1)))) d (omega arith)
    ∙ behind _ _ n (n + (n - 1 + (i - 1))) _ d (length-numbered n 1 (WaitOf Outbound)) refl
    ∙ behind _ _ n (n - 1 + (i - 1)) _ d (length-numbered n 1 (WaitOf Inbound)) refl
    ∙ behind _ _ (n - 1) (i - 1) _ d (length-numbered (n - 1) 1 (RunOf Outbound)) refl
    ∙ among (n - 1) i (RunOf Inbound) _ d h.0 (omega arith)
column_there n (ShiftOf i) d h =
    front _ _ _ _ (place n (ShiftOf i)) (n + (n + (n - 1 + (n - 1 + (i - 1))))) d (omega arith)
    ∙ behind _ _ n (n + (n - 1 + (n - 1 + (i - 1)))) _ d (length-numbered n 1 (WaitOf Outbound)) refl
    ∙ behind _ _ n (n - 1 + (n - 1 + (i - 1))) _ d (length-numbered n 1 (WaitOf Inbound)) refl
    ∙ behind _ _ (n - 1) (n - 1 + (i - 1)) _ d (length-numbered (n - 1) 1 (RunOf Outbound)) refl
    ∙ behind _ _ (n - 1) (i - 1) _ d (length-numbered (n - 1) 1 (RunOf Inbound)) refl
    ∙ get-numbered n 1 (i - 1) ShiftOf d (omega arith) ∙ ap ShiftOf (omega arith)

-- there are as many as the width
pub length-columns : (n : ℕ) → 1 ≤ n → length (columns n) ≡ width n
length-columns n h =
    let a = length-numbered n 1 (WaitOf Outbound) in let b = length-numbered n 1 (WaitOf Inbound) in
    let c = length-numbered (n - 1) 1 (RunOf Outbound) in let e = length-numbered (n - 1) 1 (RunOf Inbound) in let f = length-numbered n 1 ShiftOf in
    rw (length-append, length-append, length-append, length-append) (omega arith)

-- each place is below the width
pub place_below : (n : ℕ) (c : Column) → 1 ≤ n → IsColumn n c → place n c < width n
place_below n (BandOf Outbound) l h = omega arith
place_below n (BandOf Inbound) l h = omega arith
place_below n Frequency l h = omega arith
place_below n (WaitOf Outbound i) l h = omega (arith, h.1)
place_below n (WaitOf Inbound i) l h = omega (arith, h.1)
place_below n (RunOf Outbound i) l h = omega (arith, h.1)
place_below n (RunOf Inbound i) l h = omega (arith, h.1)
place_below n (ShiftOf i) l h = omega (arith, h.1)

-- ---- the point
-- in each column it has the column's ticks over the cycle
pub point_at : (a : Street) (t : TimingRecord) (c : Column) → 1 ≤ count a → IsColumn (count a) c → value_at (count a) (point a t) c ≡ share a t (ticks a t c)
point_at a t c l h =
    get_or-map (λ e. share a t (ticks a t e)) (columns (count a)) (place (count a) c) Frequency (number 0) (omega (arith, length-columns (count a) l, place_below (count a) c l h))
    ∙ ap (λ e. share a t (ticks a t e)) (column_there (count a) c Frequency h)

-- it is as long as the width
pub point_width : (a : Street) (t : TimingRecord) → 1 ≤ count a → length (point a t) ≡ width (count a)
point_width a t l = length-map (columns (count a)) (λ c. share a t (ticks a t c)) ∙ length-columns (count a) l
