-- The numbers of a row that is filled entry by entry: an entry's, or 0.
use Rattle.std.proofs.Common.{◌≡◌, ℕ, zero, suc, ◌<◌, ◌≤◌, ◌⊎◌, inl, inr, List, [], ◌∷◌, length, get_or, set, replicate, refl, sym, ◌∙◌, ap, subst, arith}
use Rattle.std.proofs.lemmas.List.{get_or-set_same, get_or-set_other, get_or_past, length-set, length-replicate, get_or_append_left, get_or_push}
use Rattle.std.proofs.lemmas.Bool.{cases_eq}
use Rattle.rational_theory.specs.Rational.{ℚ}
use Rattle.rational_theory.specs.Rows as maths
use Rattle.progression.specs.Street.{Street, count}
use Rattle.progression.specs.Speeds.{number}
use Rattle.linear_theory.specs.Places.{place, width}
use Rattle.linear_theory.specs.Rows.{Cell, Entry, Form, placed, placed_row, places_of, line}
use Rattle.program_builder.specs.Loading.{cells_of}

-- the entries put into a row of n signals
abbrev pub filled : ℕ → List ℚ → List Entry → List ℚ
filled n xs es = placed xs (places_of n es)

abbrev pub AllEntries : (Entry → Type 0) → List Entry → Type 0
AllEntries P [] = Unit {0}
AllEntries P (e ∷ es) = P e × AllEntries P es

low_or_past : (k n : ℕ) → (k < n) ⊎ (n ≤ k)
low_or_past k n = grind arith

-- a number put into a list
put : (P : ℚ → Type 0) (xs : List ℚ) (j : ℕ) (v : ℚ) (k : ℕ) → P v → P (get_or xs k (number 0)) → P (get_or (set xs j v) k (number 0))
put P xs j v k h p = pick (cases_eq k j) (low_or_past k (length xs))
  where
    pick : (k ≡ j) ⊎ (k ≡ j → ⊥) → (k < length xs) ⊎ (length xs ≤ k) → P (get_or (set xs j v) k (number 0))
    pick (inl e) (inl l) = subst (λ m. P (get_or (set xs j v) m (number 0))) (sym e) (subst P (sym (get_or-set_same xs j v (number 0) (subst (λ m. m < length xs) e l))) h)
    pick (inl e) (inr l) =
        let s = length-set xs j v in
        subst P (get_or_past xs k (number 0) l ∙ sym (get_or_past (set xs j v) k (number 0) (omega arith))) p
    pick (inr n) l = subst P (sym (get_or-set_other xs j k v (number 0) n)) p

-- ---- cells put into a list
abbrev pub AllCells : (Cell → Type 0) → List Cell → Type 0
AllCells P [] = Unit {0}
AllCells P (c ∷ cs) = P c × AllCells P cs

pub placed_each : (P : ℚ → Type 0) (xs : List ℚ) (cs : List Cell) (k : ℕ) → P (get_or xs k (number 0)) → AllCells (λ c. P c.1) cs → P (get_or (placed xs cs) k (number 0))
placed_each P xs [] k h p = h
placed_each P xs (c ∷ cs) k h p = placed_each P (set xs c.0 c.1) cs k (put P xs c.0 c.1 k p.0 h) p.1

pub placed_other : (xs : List ℚ) (cs : List Cell) (k : ℕ) → AllCells (λ c. k ≡ c.0 → ⊥) cs → get_or (placed xs cs) k (number 0) ≡ get_or xs k (number 0)
placed_other xs [] k p = refl
placed_other xs (c ∷ cs) k p = placed_other (set xs c.0 c.1) cs k p.1 ∙ get_or-set_other xs c.0 k c.1 (number 0) p.0

-- those of entries
entries_placed : (P : Cell → Type 0) (n : ℕ) (es : List Entry) → AllEntries (λ e. P (place n e.0, e.1)) es → AllCells P (places_of n es)
entries_placed P n [] p = tt
entries_placed P n (e ∷ es) p = (p.0, entries_placed P n es p.1)

filled_each : (P : ℚ → Type 0) (n : ℕ) (xs : List ℚ) (es : List Entry) (k : ℕ) → P (get_or xs k (number 0)) → AllEntries (λ e. P e.1) es → P (get_or (filled n xs es) k (number 0))
filled_each P n xs es k h p = placed_each P xs (places_of n es) k h (entries_placed (λ c. P c.1) n es p)

pub filled_other : (n : ℕ) (xs : List ℚ) (es : List Entry) (k : ℕ) → AllEntries (λ e. k ≡ place n e.0 → ⊥) es → get_or (filled n xs es) k (number 0) ≡ get_or xs k (number 0)
filled_other n xs es k p = placed_other xs (places_of n es) k (entries_placed (λ c. k ≡ c.0 → ⊥) n es p)

length-filled : (n : ℕ) (xs : List ℚ) (es : List Entry) → length (filled n xs es) ≡ length xs
length-filled n xs [] = refl
length-filled n xs (e ∷ es) = length-filled n (set xs (place n e.0) e.1) es ∙ length-set xs (place n e.0) e.1

zeros_at : (n k : ℕ) → get_or (replicate n (number 0)) k (number 0) ≡ number 0
zeros_at zero k = refl
zeros_at (suc n) zero = refl
zeros_at (suc n) (suc k) = zeros_at n k

-- ---- a row of cells
pub row_each : (P : ℚ → Type 0) (w : ℕ) (cs : List Cell) (b : ℚ) (k : ℕ) → P (number 0) → AllCells (λ c. P c.1) cs → P (get_or (placed_row w cs b).coefs k (number 0))
row_each P w cs b k h p = placed_each P (replicate w (number 0)) cs k (subst P (sym (zeros_at w k)) h) p

-- 0 in a column that no cell names
pub row_other : (w : ℕ) (cs : List Cell) (b : ℚ) (k : ℕ) → AllCells (λ c. k ≡ c.0 → ⊥) cs → get_or (placed_row w cs b).coefs k (number 0) ≡ number 0
row_other w cs b k p = placed_other (replicate w (number 0)) cs k p ∙ zeros_at w k

-- ---- a line
pub line_width : (a : Street) (f : Form) → length (line a f).coefs ≡ width (count a)
line_width a f = length-filled (count a) (replicate (width (count a)) (number 0)) f.entries ∙ length-replicate (width (count a)) (number 0)

pub line_each : (P : ℚ → Type 0) (a : Street) (f : Form) (k : ℕ) → P (number 0) → AllEntries (λ e. P e.1) f.entries → P (get_or (line a f).coefs k (number 0))
line_each P a f k h p = filled_each P (count a) (replicate (width (count a)) (number 0)) f.entries k (subst P (sym (zeros_at (width (count a)) k)) h) p

-- 0 in a column that no entry names
pub line_other : (a : Street) (f : Form) (k : ℕ) → AllEntries (λ e. k ≡ place (count a) e.0 → ⊥) f.entries → get_or (line a f).coefs k (number 0) ≡ number 0
line_other a f k p = filled_other (count a) (replicate (width (count a)) (number 0)) f.entries k p ∙ zeros_at (width (count a)) k

-- the number of an entry, where no later one has its column
pub line_first : (a : Street) (e : Entry) (es : List Entry) (b : ℚ) → place (count a) e.0 < width (count a) → AllEntries (λ g. place (count a) e.0 ≡ place (count a) g.0 → ⊥) es
    → get_or (line a (record { entries = e ∷ es; bound = b })).coefs (place (count a) e.0) (number 0) ≡ e.1
line_first a e es b l p =
    let zeros = replicate (width (count a)) (number 0) in
    let w = length-replicate (width (count a)) (number 0) in
    filled_other (count a) (set zeros (place (count a) e.0) e.1) es (place (count a) e.0) p ∙ get_or-set_same zeros (place (count a) e.0) e.1 (number 0) (omega arith)

-- ---- the cells of a row, the bound last
pub cells_width : (r : maths.Row) → length (cells_of r) ≡ suc (length r.coefs)
cells_width r = grow r.coefs
  where
    grow : (xs : List ℚ) → length (cells_of (record { coefs = xs; bound = r.bound })) ≡ suc (length xs)
    grow [] = refl
    grow (x ∷ xs) = ap suc (grow xs)

pub cells_at : (r : maths.Row) (k : ℕ) → k < length r.coefs → get_or (cells_of r) k (number 0) ≡ get_or r.coefs k (number 0)
cells_at r k h = get_or_append_left r.coefs (r.bound ∷ []) (number 0) k h

pub cells_bound : (r : maths.Row) (k : ℕ) → k ≡ length r.coefs → get_or (cells_of r) k (number 0) ≡ r.bound
cells_bound r k h = get_or_push r.coefs r.bound (number 0) k (sym h)

above_last : (k m n : ℕ) → n ≡ suc m → m ≤ k → (k ≡ m → ⊥) → n ≤ k
above_last k m n e h d = grind arith

-- what is true of 0, of the number there and of the bound is true of each cell
pub each_cell : (P : ℚ → Type 0) (r : maths.Row) (k : ℕ) → P (number 0) → P (get_or r.coefs k (number 0)) → P r.bound → P (get_or (cells_of r) k (number 0))
each_cell P r k z p b = pick (low_or_past k (length r.coefs)) (cases_eq k (length r.coefs))
  where
    pick : (k < length r.coefs) ⊎ (length r.coefs ≤ k) → (k ≡ length r.coefs) ⊎ (k ≡ length r.coefs → ⊥) → P (get_or (cells_of r) k (number 0))
    pick (inl l) e = subst P (sym (cells_at r k l)) p
    pick (inr l) (inl e) = subst P (sym (cells_bound r k e)) b
    pick (inr l) (inr n) = subst P (sym (get_or_past (cells_of r) k (number 0) (let w = cells_width r in above_last k (length r.coefs) (length (cells_of r)) w l n))) z

pub cells_each : (P : ℚ → Type 0) (a : Street) (f : Form) (k : ℕ) → P (number 0) → AllEntries (λ e. P e.1) f.entries → P f.bound → P (get_or (cells_of (line a f)) k (number 0))
cells_each P a f k z p b = each_cell P (line a f) k z (line_each P a f k z p) b
