-- Where the rows stand in which the halves enter the basis, and their cells: 1 at the link's own half, and 0 at all others.
use Rattle.std.proofs.Common.{◌≡◌, ◌↔◌, ℕ, suc, Bool, true, List, [], length, get_or, set, replicate, ◌+◌, ◌-◌, ◌*◌, ◌<◌, ◌≤◌, sym, ◌∙◌, ap, arith}
use Rattle.std.specs.Bool.{Decides}
use Rattle.std.proofs.lemmas.List.{length-set, length-replicate, get_or-set_same}
use Rattle.rational_theory.specs.Rational.{ℚ}
use Rattle.progression.specs.Street.{Street, count, HasLink}
use Rattle.progression.specs.Speeds.{number}
use Rattle.progression.specs.Columns.{WaitOf}
use Rattle.progression.specs.declared.parts.Dir.{Dir}
use Rattle.progression.specs.declared.parts.Dir.TheVariants.{Outbound, Inbound}
use Rattle.linear_theory.specs.Blocks.{green_part}
use Rattle.linear_theory.specs.Boxes.{Area}
use Rattle.linear_theory.specs.Places.{place}
use Rattle.named_row.specs.declared.names.RowId.{RowId}
use Rattle.simplex_theory.specs.Tableau.{line}
use Rattle.fraction_tableau.specs.NamedTableaus.{name_in}
use Rattle.program_builder.specs.BoxRows.{names_through}
use Rattle.program_builder.specs.Loading.{cells_of}
use Rattle.program_builder.proofs.FirstRows.{HasUpTo, up_to_from, below_all, stands_behind, length-indices_to, at-indices_to}
use Rattle.program_builder.proofs.LineCells.{row_each, row_other, cells_at, each_cell}
use Rattle.program_builder.proofs.LoadedTables.{line-loaded}
use Rattle.link_theory.specs.declared.ends.LinkEnd.TheVariants.{Here}
use Rattle.link_theory.specs.LinkColumns.{link_width, half_place}
use Rattle.link_theory.specs.LinkRows.{link_line, far_form}
use Rattle.link_theory.specs.LinkNames.{FarRow, last_link_family}
use Rattle.link_space.proofs.LinkRowTests.{link_row_decided}
use Rattle.multi_band.specs.LinkTables.{is_link_there, names_of_links, link_row_for, link_table, link_loaded}
use Rattle.multi_band.specs.LinkOpening.{far_family, half_pivot}
use Rattle.multi_band.specs.laws.LinkTables.{link_row_width}

-- ---- places
-- an index of a link is between 1 and the number of links
pub link_to : (a : Street) (i : ℕ) (b : Bool) → Decides b (HasLink a i) → (b ≡ true) ↔ ((1 ≤ i) × (i ≤ count a - 1))
link_to a i b d = (λ e. let h = d.0 e in (h.0, let l = h.1 in omega arith), λ h. d.1 (h.0, let l = h.0 in let m = h.1 in omega arith))

module _ (a : Street) where
  pub far_rows : (d : Dir) → HasUpTo (is_link_there a) (far_family d) (count a - 1)
  far_rows Outbound = up_to_from (is_link_there a) 24 (count a - 1) (λ i. link_to a i _ (link_row_decided a (FarRow Outbound Here i)))
  far_rows Inbound = up_to_from (is_link_there a) 28 (count a - 1) (λ i. link_to a i _ (link_row_decided a (FarRow Inbound Here i)))

  -- the row of link i, and that it is within
  abbrev StandsFar : ℕ → ℕ → Type 0
  StandsFar f i =
      (length (names_through (is_link_there a) (suc (count a)) f) + (i - 1) < length (names_of_links a))
      × (name_in (names_of_links a) (length (names_through (is_link_there a) (suc (count a)) f) + (i - 1)) ≡ record { family = suc f; index = i })

  stands_far : (f i : ℕ) → HasUpTo (is_link_there a) (suc f) (count a - 1) → suc f ≤ last_link_family → HasLink a i → StandsFar f i
  unfolding names_of_links
  stands_far f i u m h =
      let l = h.0 in
      let k = h.1 in
      let e = below_all (is_link_there a) (suc f) (count a - 1) (count a) u (omega arith) in
      let w = length-indices_to (suc f) (count a - 1) in
      let s = stands_behind (is_link_there a) (suc (count a)) f last_link_family (i - 1) m (rw e (omega arith)) in
      (s.0, s.1 ∙ ap (λ xs. name_in xs (i - 1)) e ∙ at-indices_to (suc f) (count a - 1) (i - 1) (omega arith) ∙ ap (λ j. record { family = suc f; index = j }) (omega arith))

  far_stands : (d : Dir) (i : ℕ) → HasLink a i
      → ((half_pivot a d i).row < length (names_of_links a)) × (name_in (names_of_links a) (half_pivot a d i).row ≡ record { family = far_family d; index = i })
  far_stands Outbound i h = stands_far 23 i (far_rows Outbound) (omega arith) h
  far_stands Inbound i h = stands_far 27 i (far_rows Inbound) (omega arith) h

  pub far_within : (d : Dir) (i : ℕ) → HasLink a i → (half_pivot a d i).row < length (names_of_links a)
  far_within d i h = (far_stands d i h).0

  pub far_named : (d : Dir) (i : ℕ) → HasLink a i → name_in (names_of_links a) (half_pivot a d i).row ≡ record { family = far_family d; index = i }
  far_named d i h = (far_stands d i h).1

  -- rows of the two directions are apart
  pub directions_apart : (i j : ℕ) → HasLink a i → HasLink a j → (half_pivot a Outbound i).row ≡ (half_pivot a Inbound j).row → ⊥
  directions_apart i j h k e =
      let f : 24 ≡ 28 = ap (λ (r : RowId). r.family) (sym (far_named Outbound i h) ∙ ap (name_in (names_of_links a)) e ∙ far_named Inbound j k) in
      absurd (omega (arith, f))
  -- ---- how many rows there are from a family on

-- ---- columns
pub half_low : (a : Street) (d : Dir) (i : ℕ) → HasLink a i → 5 * count a < half_place (count a) d i
half_low a Outbound i h = let l = h.0 in omega arith
half_low a Inbound i h = let l = h.0 in let m = h.1 in omega arith

pub half_high : (a : Street) (d : Dir) (i : ℕ) → HasLink a i → half_place (count a) d i < link_width (count a)
half_high a Outbound i h = let l = h.0 in let m = h.1 in omega arith
half_high a Inbound i h = let l = h.0 in let m = h.1 in omega arith

wait_high : (a : Street) (d : Dir) (i : ℕ) → HasLink a i → place (count a) (WaitOf d i) ≤ 5 * count a
wait_high a Outbound i h = let l = h.1 in omega arith
wait_high a Inbound i h = let l = h.1 in omega arith

-- ---- cells
abbrev pub far_cells : Street → Dir → ℕ → List ℚ
far_cells a d i = cells_of (link_line a (far_form a d Here i))

module _ (a : Street) (d : Dir) (i : ℕ) (h : HasLink a i) where
  far_width : length (link_line a (far_form a d Here i)).coefs ≡ link_width (count a)
  far_width = link_row_width a (record { loops = []; turns = [] }) (FarRow d Here i) (let l = h.0 in let m = h.1 in omega arith)

  -- 1 at the link's own half
  pub far_at : get_or (link_line a (far_form a d Here i)).coefs (half_place (count a) d i) (number 0) ≡ number 1
  far_at =
      let k = half_high a d i h in
      let zeros = replicate (link_width (count a)) (number 0) in
      let r = length-replicate (link_width (count a)) (number 0) in
      let s = length-set zeros (place (count a) (WaitOf d i)) (number 1) in
      get_or-set_same (set zeros (place (count a) (WaitOf d i)) (number 1)) (half_place (count a) d i) (number 1) (number 0) (omega arith)

  pub far_own : get_or (far_cells a d i) (half_place (count a) d i) (number 0) ≡ number 1
  far_own = let w = far_width in let k = half_high a d i h in cells_at (link_line a (far_form a d Here i)) (half_place (count a) d i) (omega arith) ∙ far_at

  -- 0 at every other
  pub far_other : (k : ℕ) → 5 * count a < k → k < link_width (count a) → (k ≡ half_place (count a) d i → ⊥) → get_or (far_cells a d i) k (number 0) ≡ number 0
  far_other k l m n =
      let w = far_width in
      let u = wait_high a d i h in
      cells_at (link_line a (far_form a d Here i)) k (omega arith)
      ∙ row_other (link_width (count a)) (far_form a d Here i).cells (green_part a d i) k ((λ e. absurd (omega arith)), (n, tt))

  -- what is true of 0, of 1 and of the green is true of each cell
  pub far_each : (P : ℚ → Type 0) → P (number 0) → P (number 1) → P (green_part a d i) → (k : ℕ) → P (get_or (far_cells a d i) k (number 0))
  far_each P z o g k = each_cell P (link_line a (far_form a d Here i)) k z (row_each P (link_width (count a)) (far_form a d Here i).cells (green_part a d i) k z (o, (o, tt))) g

-- it is the loaded tableau's line at the pivot's row
pub far_line : (a : Street) (box : Area) (d : Dir) (i : ℕ) → HasLink a i → line (link_loaded a box) (half_pivot a d i).row ≡ far_cells a d i
far_line a box Outbound i h =
    line-loaded (link_table a) box (half_pivot a Outbound i).row (far_within a Outbound i h) ∙ ap (λ r. cells_of (link_row_for a box r)) (far_named a Outbound i h)
far_line a box Inbound i h =
    line-loaded (link_table a) box (half_pivot a Inbound i).row (far_within a Inbound i h) ∙ ap (λ r. cells_of (link_row_for a box r)) (far_named a Inbound i h)
