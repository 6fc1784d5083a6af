-- Which shapes are seen through the field of a drawing: the members of lists that are made piece by piece.
use Rattle.std.proofs.Common.{◌≡◌, ℕ, zero, suc, ◌+◌, ◌-◌, ◌<◌, ◌≤◌, ◌==◌, if◌then◌else◌, Bool, true, false, true≢false, IsTrue, ℤ, refl, List, []}
use Rattle.std.proofs.Common.{◌∷◌, ◌++◌, map, flat_map, sym, ap, subst, ◌∙◌, arith, inl, inr}
use Rattle.std.specs.Prelude.{◌⊎◌, Contains, slice_index_or}
use Rattle.std.specs.List.{range_with_len}
use Rattle.std.proofs.lemmas.Bool.{cases_lt}
use Rattle.std.proofs.lemmas.Bool.Decides.{eqb_tells}
use Rattle.std.proofs.lemmas.List.Elements.{Contains-append_left, Contains-append_right, Contains-append_cases}
use Rattle.progression.specs.Street.{Street, count, left_against, HasSignal, HasLink}
use Rattle.progression.specs.TimingRecord.{TimingRecord, base}
use Rattle.progression.specs.declared.parts.Dir.{Dir}
use Rattle.progression.specs.declared.parts.Dir.TheVariants.{Outbound, Inbound}
use Rattle.diagram_draw.specs.declared.shape.Shape.{Shape}
use Rattle.diagram_draw.specs.declared.shape.Shape.TheVariants as shape
use Rattle.diagram_draw.specs.declared.shape.Side.{Side}
use Rattle.diagram_draw.specs.declared.frame.Frame.{Frame}
use Rattle.diagram_draw.specs.declared.bars.BarPart.{BarPart}
use Rattle.diagram_draw.specs.declared.bands.BandPart.{BandPart}
use Rattle.diagram_draw.specs.declared.bands.Edge.{Edge}
use Rattle.diagram_draw.specs.declared.bands.Edge.TheVariants.{Leaving, Entering}
use Rattle.timing_words.specs.Ways.{has_band}
use Rattle.diagram_draw.specs.Bands.{band_paint, line_paint, is_narrow, is_chosen, piece, chosen_piece, band_in_cycle, band_part, edge_pieces, pieces, link_pieces, all_pieces}
use Rattle.diagram_draw.specs.Bars.{block, blocks, bar_in_cycle, window_part, common_part, turn_part, ground, windows, common_reds, turn_reds, bar, signal_bars, all_bars}
use Rattle.diagram_draw.specs.Members.{IsBlock, IsRed, IsDrawnPart, IsPiece, IsFieldShape, Piece, Ground, Window, Red, is_red}
use Rattle.diagram_draw.specs.Pages.{field_shapes}
use Rattle.diagram_draw.specs.Laws.{FieldIsExact, RedsAreReds}

-- ---- lists
module _ {A : Type 0} where
  none : (y : A) → Contains [] y → ⊥
  none y h = let l = h.1 in absurd (omega (arith, l))

  first_at : (x y : A) (k : ℕ) → k < 1 → slice_index_or (x ∷ []) k y ≡ y → y ≡ x
  first_at x y zero l e = sym e
  first_at x y (suc k) l e = absurd (omega (arith, l))

  is_first : (x y : A) → Contains (x ∷ []) y → y ≡ x
  is_first x y h = first_at x y h.0 h.1 h.2

  the_first : (x y : A) → y ≡ x → Contains (x ∷ []) y
  the_first x y e = (0, omega arith, sym e)

  -- in a list with one more in front
  in_cons : (x : A) (xs : List A) (y : A) → Contains (x ∷ xs) y → (y ≡ x) ⊎ Contains xs y
  in_cons x xs y h = elim (Contains-append_cases (x ∷ []) xs y h) [
    | inl p ↦ inl (is_first x y p)
    | inr p ↦ inr p
  ]

  cons_in : (x : A) (xs : List A) (y : A) → (y ≡ x) ⊎ Contains xs y → Contains (x ∷ xs) y
  cons_in x xs y (inl e) = Contains-append_left (x ∷ []) xs y (the_first x y e)
  cons_in x xs y (inr h) = Contains-append_right (x ∷ []) xs y h

  in_both : (xs ys : List A) (y : A) → Contains xs y ⊎ Contains ys y → Contains (xs ++ ys) y
  in_both xs ys y (inl h) = Contains-append_left xs ys y h
  in_both xs ys y (inr h) = Contains-append_right xs ys y h

  -- a piece of each number of a range
  in_pieces : (g : ℕ → List A) (a n : ℕ) (y : A) → Contains (flat_map g (range_with_len a n)) y → (k : ℕ) × ((a ≤ k) × (k < a + n)) × Contains (g k) y
  in_pieces g a zero y h = absurd (none y h)
  in_pieces g a (suc n) y h = elim (Contains-append_cases (g a) (flat_map g (range_with_len (a + 1) n)) y h) [
    | inl p ↦ (a, (omega arith, omega arith), p)
    | inr p ↦ (let q = in_pieces g (a + 1) n y p in let l = q.1.0 in let m = q.1.1 in (q.0, (omega (arith, l), omega (arith, m)), q.2))
  ]

  pieces_in : (g : ℕ → List A) (a n k : ℕ) (y : A) → a ≤ k → k < a + n → Contains (g k) y → Contains (flat_map g (range_with_len a n)) y
  pieces_in g a zero k y l m h = absurd (omega (arith, l, m))
  pieces_in g a (suc n) k y l m h = elim (cases_lt a k) [
    | inl p ↦ Contains-append_right (g a) (flat_map g (range_with_len (a + 1) n)) y (pieces_in g (a + 1) n k y (omega (arith, p)) (omega (arith, m)) h)
    | inr p ↦ (let e : k ≡ a = omega (arith, l, p) in
        Contains-append_left (g a) (flat_map g (range_with_len (a + 1) n)) y (subst (λ j. Contains (g j) y) e h))
  ]

  -- an element of each
  in_each : (g : ℕ → A) (a n : ℕ) (y : A) → Contains (map g (range_with_len a n)) y → (k : ℕ) × ((a ≤ k) × (k < a + n)) × (y ≡ g k)
  in_each g a zero y h = absurd (none y h)
  in_each g a (suc n) y h = elim (in_cons (g a) (map g (range_with_len (a + 1) n)) y h) [
    | inl p ↦ (a, (omega arith, omega arith), p)
    | inr p ↦ (let q = in_each g (a + 1) n y p in let l = q.1.0 in let m = q.1.1 in (q.0, (omega (arith, l), omega (arith, m)), q.2))
  ]

  each_in : (g : ℕ → A) (a n k : ℕ) (y : A) → a ≤ k → k < a + n → y ≡ g k → Contains (map g (range_with_len a n)) y
  each_in g a zero k y l m h = absurd (omega (arith, l, m))
  each_in g a (suc n) k y l m h = elim (cases_lt a k) [
    | inl p ↦ cons_in (g a) (map g (range_with_len (a + 1) n)) y (inr (each_in g (a + 1) n k y (omega (arith, p)) (omega (arith, m)) h))
    | inr p ↦ (let e : k ≡ a = omega (arith, l, p) in cons_in (g a) (map g (range_with_len (a + 1) n)) y (inl (h ∙ ap g e)))
  ]

  -- of a list that is empty at 0
  in_some : (n : ℕ) (xs : List A) (y : A) → Contains (if n == 0 then [] else xs) y → (1 ≤ n) × Contains xs y
  in_some n xs y h = elim (eqb_tells n 0) [
    | inl p ↦ absurd (none y (subst (λ b. Contains (if b then [] else xs) y) p.0 h))
    | inr p ↦ (let some = p.1 in omega (arith, some), subst (λ b. Contains (if b then [] else xs) y) p.0 h)
  ]

  some_in : (n : ℕ) (xs : List A) (y : A) → 1 ≤ n → Contains xs y → Contains (if n == 0 then [] else xs) y
  some_in n xs y l h = elim (eqb_tells n 0) [
    | inl p ↦ (let none = p.1 in absurd (omega (arith, l, none)))
    | inr p ↦ subst (λ b. Contains (if b then [] else xs) y) (sym p.0) h
  ]

  -- of a list that is empty unless this is so
  in_if : (b : Bool) (xs : List A) (y : A) → Contains (if b then xs else []) y → IsTrue b × Contains xs y
  in_if true xs y h = (refl, h)
  in_if false xs y h = absurd (none y h)

  if_in : (b : Bool) (xs : List A) (y : A) → IsTrue b → Contains xs y → Contains (if b then xs else []) y
  if_in true xs y e h = h
  if_in false xs y e h = absurd (true≢false (sym e))

-- ---- blocks and pieces
module _ (f : Frame) (part : BarPart) (s : Shape) where
  in_blocks : Contains (blocks f part) s → IsBlock f part s
  in_blocks h =
      let q = in_each (λ m. block f (bar_in_cycle f part m)) 0 (f.cycles + 1) s h in
      let l = q.1.1 in
      record { cycle = q.0; shown = omega (arith, l); is = q.2 }

  blocks_in : IsBlock f part s → Contains (blocks f part) s
  blocks_in h =
      let l = h.shown in
      each_in (λ m. block f (bar_in_cycle f part m)) 0 (f.cycles + 1) h.cycle s (omega arith) (omega (arith, l)) h.is

module _ (f : Frame) (a : Street) (t : TimingRecord) (s : Shape) where
  in_edge : (d : Dir) (e : Edge) (l : ℕ) → Contains (edge_pieces f a t d e l) s → (part : BandPart) × IsDrawnPart f a t d l part × (s ≡ piece f part)
  in_edge d e l h =
      let q = in_pieces (λ m. chosen_piece f e (band_in_cycle f (band_part f a t d e l) m)) 0 (f.cycles + 1) s h in
      let m = q.1.1 in
      let part = band_in_cycle f (band_part f a t d e l) q.0 in
      let here = in_if (is_chosen f e part) (piece f part ∷ []) s q.2 in
      (part, record { edge = e; cycle = q.0; shown = omega (arith, m); is = refl; chosen = here.0 }, is_first (piece f part) s here.1)

  edge_in : (d : Dir) (l : ℕ) (part : BandPart) (e : Edge) (m : ℕ) → m < f.cycles + 1 → part ≡ band_in_cycle f (band_part f a t d e l) m → IsTrue (is_chosen f e part) → s ≡ piece f part
      → Contains (edge_pieces f a t d e l) s
  edge_in d l part e m lt is chosen q =
      pieces_in (λ m. chosen_piece f e (band_in_cycle f (band_part f a t d e l) m)) 0 (f.cycles + 1) m s (omega arith) (omega (arith, lt))
      (if_in (is_chosen f e (band_in_cycle f (band_part f a t d e l) m)) (piece f (band_in_cycle f (band_part f a t d e l) m) ∷ []) s
      (subst (λ (p : BandPart). IsTrue (is_chosen f e p)) is chosen)
      (the_first (piece f (band_in_cycle f (band_part f a t d e l) m)) s (q ∙ ap (piece f) is)))

  one_edge : (d : Dir) (l : ℕ) (part : BandPart) (e : Edge) (m : ℕ) → m < f.cycles + 1 → part ≡ band_in_cycle f (band_part f a t d e l) m → IsTrue (is_chosen f e part) → s ≡ piece f part
      → Contains (edge_pieces f a t d Leaving l ++ edge_pieces f a t d Entering l) s
  one_edge d l part Leaving m lt is chosen q = Contains-append_left (edge_pieces f a t d Leaving l) (edge_pieces f a t d Entering l) s (edge_in d l part Leaving m lt is chosen q)
  one_edge d l part Entering m lt is chosen q = Contains-append_right (edge_pieces f a t d Leaving l) (edge_pieces f a t d Entering l) s (edge_in d l part Entering m lt is chosen q)

  in_link : (d : Dir) (l : ℕ) → Contains (pieces f a t d l) s → IsPiece f a t d l s
  in_link d l h =
      let both = in_if (has_band a t d) (edge_pieces f a t d Leaving l ++ edge_pieces f a t d Entering l) s h in
      let found : (part : BandPart) × IsDrawnPart f a t d l part × (s ≡ piece f part)
      = elim (Contains-append_cases (edge_pieces f a t d Leaving l) (edge_pieces f a t d Entering l) s both.1) [
        | inl p ↦ in_edge d Leaving l p
        | inr p ↦ in_edge d Entering l p
      ] in
      record { there = both.0; part = found.0; drawn = found.1; is = found.2 }

  link_in : (d : Dir) (l : ℕ) → IsPiece f a t d l s → Contains (pieces f a t d l) s
  link_in d l h =
      if_in (has_band a t d) (edge_pieces f a t d Leaving l ++ edge_pieces f a t d Entering l) s h.there
      (one_edge d l h.part h.drawn.edge h.drawn.cycle h.drawn.shown h.drawn.is h.drawn.chosen h.is)

  -- ---- from the list to what it shows
  in_bar : (d : Dir) (i : ℕ) → HasSignal a i → Contains (bar f a t d i) s → IsFieldShape f a t s
  in_bar d i here h = elim (in_cons (ground f a d i) (windows f a t d i ++ (common_reds f a (base t) d i ++ turn_reds f a (base t) d i)) s h) [
    | inl p ↦ Ground d i here p
    | inr p ↦ elim (Contains-append_cases (windows f a t d i) (common_reds f a (base t) d i ++ turn_reds f a (base t) d i) s p) [
      | inl q ↦ (let there = in_if (has_band a t d) (blocks f (window_part f a t d i)) s q in
          Window d i here (there.0, in_blocks f (window_part f a t d i) s there.1))
      | inr q ↦ elim (Contains-append_cases (common_reds f a (base t) d i) (turn_reds f a (base t) d i) s q) [
        | inl r ↦ Red d i here (inl (in_blocks f (common_part f a (base t) d i) s r))
        | inr r ↦ (let some = in_some (left_against a d i) (blocks f (turn_part f a (base t) d i)) s r in
            Red d i here (inr (some.0, in_blocks f (turn_part f a (base t) d i) s some.1)))
      ]
    ]
  ]

  in_bars : Contains (all_bars f a t) s → IsFieldShape f a t s
  in_bars h =
      let q = in_pieces (signal_bars f a t) 1 (count a) s h in
      let some = q.1.0 in
      let last = q.1.1 in
      let here : HasSignal a q.0 = (some, omega (arith, last)) in
      elim (Contains-append_cases (bar f a t Outbound q.0) (bar f a t Inbound q.0) s q.2) [
        | inl p ↦ in_bar Outbound q.0 here p
        | inr p ↦ in_bar Inbound q.0 here p
      ]

  in_links : Contains (all_pieces f a t) s → IsFieldShape f a t s
  in_links h =
      let q = in_pieces (link_pieces f a t) 1 (count a - 1) s h in
      let some = q.1.0 in
      let last = q.1.1 in
      let there : HasLink a q.0 = (some, omega (arith, some, last)) in
      elim (Contains-append_cases (pieces f a t Outbound q.0) (pieces f a t Inbound q.0) s q.2) [
        | inl p ↦ Piece Outbound q.0 there (in_link Outbound q.0 p)
        | inr p ↦ Piece Inbound q.0 there (in_link Inbound q.0 p)
      ]

  -- ---- and back
  red_in : (d : Dir) (i : ℕ) → IsRed f a (base t) d i s → Contains (common_reds f a (base t) d i ++ turn_reds f a (base t) d i) s
  red_in d i (inl h) =
      Contains-append_left (common_reds f a (base t) d i) (turn_reds f a (base t) d i) s
      (blocks_in f (common_part f a (base t) d i) s h)
  red_in d i (inr h) =
      Contains-append_right (common_reds f a (base t) d i) (turn_reds f a (base t) d i) s
      (some_in (left_against a d i) _ s h.0
      (blocks_in f (turn_part f a (base t) d i) s h.1))

  signal_in : (d : Dir) (i : ℕ) → Contains (bar f a t d i) s → Contains (signal_bars f a t i) s
  signal_in Outbound i h = Contains-append_left (bar f a t Outbound i) (bar f a t Inbound i) s h
  signal_in Inbound i h = Contains-append_right (bar f a t Outbound i) (bar f a t Inbound i) s h

  bar_in : (d : Dir) (i : ℕ) → HasSignal a i → Contains (bar f a t d i) s → Contains (all_bars f a t) s
  bar_in d i here h = let last = here.1 in pieces_in (signal_bars f a t) 1 (count a) i s here.0 (omega (arith, last)) (signal_in d i h)

  piece_in : (d : Dir) (l : ℕ) → IsPiece f a t d l s → Contains (link_pieces f a t l) s
  piece_in Outbound l h = Contains-append_left (pieces f a t Outbound l) (pieces f a t Inbound l) s (link_in Outbound l h)
  piece_in Inbound l h = Contains-append_right (pieces f a t Outbound l) (pieces f a t Inbound l) s (link_in Inbound l h)

  shape_in : IsFieldShape f a t s → Contains (all_pieces f a t) s ⊎ Contains (all_bars f a t) s
  shape_in (Piece d l there h) =
      let some = there.0 in
      let last = there.1 in
      inl (pieces_in (link_pieces f a t) 1 (count a - 1) l s some (omega (arith, some, last)) (piece_in d l h))
  shape_in (Ground d i here h) = inr (bar_in d i here (cons_in (ground f a d i) (windows f a t d i ++ (common_reds f a (base t) d i ++ turn_reds f a (base t) d i)) s (inl h)))
  shape_in (Window d i here h) =
      inr (bar_in d i here (cons_in (ground f a d i) (windows f a t d i ++ (common_reds f a (base t) d i ++ turn_reds f a (base t) d i)) s
      (inr (Contains-append_left (windows f a t d i) (common_reds f a (base t) d i ++ turn_reds f a (base t) d i) s
      (if_in (has_band a t d) (blocks f (window_part f a t d i)) s h.0 (blocks_in f (window_part f a t d i) s h.1))))))
  shape_in (Red d i here h) =
      inr (bar_in d i here (cons_in (ground f a d i) (windows f a t d i ++ (common_reds f a (base t) d i ++ turn_reds f a (base t) d i)) s
      (inr (Contains-append_right (windows f a t d i) (common_reds f a (base t) d i ++ turn_reds f a (base t) d i) s (red_in d i h)))))

  field_one : Contains (field_shapes f a t) s → IsFieldShape f a t s
  unfolding field_shapes
  field_one h = elim (Contains-append_cases (all_pieces f a t) (all_bars f a t) s h) [
    | inl p ↦ in_links p
    | inr p ↦ in_bars p
  ]

  one_field : IsFieldShape f a t s → Contains (field_shapes f a t) s
  unfolding field_shapes
  one_field h = in_both (all_pieces f a t) (all_bars f a t) s (shape_in h)

pub field_is_exact : FieldIsExact
field_is_exact f a t title s = (field_one f a t s, one_field f a t s)

-- ---- reds
not_both : (s : Shape) → is_red s ≡ false → is_red s ≡ true → ⊥
not_both s e h = let f : true ≡ false = sym h ∙ e in cc

-- no piece is painted as one
plain_red : (b : Bool) (d : Dir) (x y z w : ℤ) (from to : Side) → is_red (if b then shape.Line (line_paint d) x y z w else shape.Slant (band_paint d) from to) ≡ false
plain_red true Outbound x y z w from to = refl
plain_red true Inbound x y z w from to = refl
plain_red false Outbound x y z w from to = refl
plain_red false Inbound x y z w from to = refl

piece_not_red : (f : Frame) (part : BandPart) → is_red (piece f part) ≡ false
piece_not_red f part = plain_red (is_narrow f part.band) part.dir _ _ _ _ _ _

the_red : (f : Frame) (a : Street) (t : TimingRecord) (s : Shape) → IsFieldShape f a t s → is_red s ≡ true → (d : Dir) × (i : ℕ) × HasSignal a i × IsRed f a (base t) d i s
the_red f a t s (Piece d l there h) r = absurd (not_both s (ap is_red h.is ∙ piece_not_red f h.part) r)
the_red f a t s (Ground d i here h) r = absurd (not_both s (ap is_red h) r)
the_red f a t s (Window Outbound i here h) r = absurd (not_both s (ap is_red h.1.is) r)
the_red f a t s (Window Inbound i here h) r = absurd (not_both s (ap is_red h.1.is) r)
the_red f a t s (Red d i here h) r = (d, i, here, h)

pub reds_are_reds : RedsAreReds
reds_are_reds f a t title s h r = the_red f a t s (field_one f a t s h) r
