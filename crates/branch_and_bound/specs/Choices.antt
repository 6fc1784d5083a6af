-- How many choices of block sums and shift ranks a box has: for each link a number of its span, and for each signal a rank of its own.
use Rattle.std.specs.Prelude.{ℕ, ℤ, pos, negsuc, ◌+◌, ◌-◌, ◌*◌, ◌≤◌, ◌+ℤ◌, ◌-ℤ◌, ◌≤ℤ◌, List, [], ◌∷◌, length}
use Rattle.linear_theory.specs.Boxes.{Span, Ranks, Area, loop_span}

-- a number below 0 counts as 0
abbrev pub natural : ℤ → ℕ
natural (pos n) = n
natural (negsuc n) = 0

-- how many numbers a span has, and none where it is empty
abbrev pub numbers_count : Span → ℕ
numbers_count s = natural (s.most -ℤ s.least +ℤ pos 1)

-- how many ranks there are from the least to the most, which is no less in any box
abbrev pub ranks_count : Ranks → ℕ
ranks_count r = r.most - r.least + 1

-- the product of the sizes of all items
abbrev pub product : {X : Type 0} → (X → ℕ) → List X → ℕ
product size [] = 1
product size (x ∷ xs) = size x * product size xs

abbrev pub choices : Area → ℕ
choices box = product numbers_count box.loops * product ranks_count box.turns

-- each span of block sums has a number
abbrev pub HasNumbers : Area → Type 0
HasNumbers box = (i : ℕ) → 1 ≤ i → i ≤ length box.loops → (loop_span box i).least ≤ℤ (loop_span box i).most
