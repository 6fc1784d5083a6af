-- The leaf of a line's end, and the start leaf, are leaves that a link certificate keeps: their rows have names and ascend, and are few.
use Rattle.std.proofs.Common.{arith, ◌≡◌, ℕ, zero, suc, ◌+◌, ◌-◌, ◌≤◌, ◌⊎◌, inl, inr, Bool, true, false, true≢false, Option, None, Some, List, []}
use Rattle.std.proofs.Common.{◌∷◌, ◌++◌, length, map, All, refl, sym, ◌∙◌, ap, subst, length-append, if◌then◌else◌}
use Rattle.std.proofs.lemmas.Bool.{eqb-true}
use Rattle.std.proofs.lemmas.List.Elements.{All-nil, All-cons}
use Rattle.std.specs.Prelude.{◌==◌, ◌||◌}
use Rattle.std.specs.Ordering.{eq_by_cmp}
use Rattle.rational_theory.specs.Rational.{ℚ}
use Rattle.rational_theory.specs.Compare.{cmp_ℚ}
use Rattle.progression.specs.Street.{Street, count, HasLink}
use Rattle.progression.specs.Speeds.{number}
use Rattle.progression.specs.declared.parts.Dir.{Dir}
use Rattle.progression.specs.declared.parts.Dir.TheVariants.{Outbound, Inbound}
use Rattle.artery_model.specs.Valid.{IsValid}
use Rattle.linear_theory.specs.Names.{FamilyOf, Family, families, last_family, row_among, name_of}
use Rattle.linear_theory.proofs.Families.{lone_among, is_lone, IsIndex, row_index}
use Rattle.named_row.specs.declared.names.RowId.{RowId}
use Rattle.named_row.specs.declared.leaves.Leaf.{Leaf}
use Rattle.named_row.specs.declared.leaves.Weight.{Weight}
use Rattle.certificate_model.specs.Families.{IsNamedIn, is_after}
use Rattle.certificate_model.specs.Warrants.{Ascend, IsNodeIn, LeafOf}
use Rattle.link_theory.specs.LinkNames.{LinkName, OfLines, link_families, link_name_of, HasLinkRow}
use Rattle.link_theory.specs.LinkTrees.{AreLinkWeights}
use Rattle.link_theory.proofs.LinkFamilies.{link_family_least, link_family_most, link_index_most}
use Rattle.link_space.specs.LinkWeights.{link_name_at, link_named}
use Rattle.link_proof.specs.LinkFamilies.{links}
use Rattle.branch_and_bound.specs.Lines.{BoxLine}
use Rattle.box_search.specs.Ends.{end_leaf}
use Rattle.box_search.specs.Runs.{IsEndLeaf}
use Rattle.box_search.proofs.KeptLeaves.{below_test, program_kept}
use Rattle.multi_band.specs.LinkProgram.{link_program}
use Rattle.multi_band.specs.LinkRelaxed.{IsLinkStartLeaf}
use Rattle.multi_band.specs.LinkStarts.{far_weights, twice_ratio, inbound_weights, link_start_leaf}
use Rattle.multi_band.specs.laws.LinkTables.{links_there, links_ascend}
use Rattle.multi_band.proofs.LinkTables.{links_most}
use Rattle.multi_band.proofs.LinkStarts.{start_links_there}

-- ---- names
-- no family past the last of an artery has one row alone
other_number : (g n : ℕ) (b : Bool) → (g == n) ≡ b → n + 1 ≤ g → b ≡ false
other_number g n true e l = let q = eqb-true g n e in absurd (omega arith)
other_number g n false e l = refl

lone_skipped : (lone b rest : Bool) → b ≡ false → (if lone then b || rest else rest) ≡ rest
lone_skipped true false rest e = refl
lone_skipped false false rest e = refl
lone_skipped true true rest e = absurd (true≢false e)
lone_skipped false true rest e = absurd (true≢false e)

lone_past : (n : ℕ) (fs : List Family) (g : ℕ) → n + length fs ≤ g → lone_among n fs g ≡ false
lone_past n [] g l = refl
lone_past n (f ∷ fs) g l = lone_skipped f.lone (g == n) (lone_among (n + 1) fs g) (other_number g n (g == n) refl (omega arith)) ∙ lone_past (n + 1) fs g (omega arith)

module _ (a : Street) (other : LinkName) (g i : ℕ) where
  -- one of the families of links, with the index of a link
  abbrev OfALink : Type 0
  OfALink = (last_family + 1 ≤ g) × (1 ≤ i)

  abbrev AreOfLinks : List (FamilyOf LinkName) → Type 0
  AreOfLinks [] = Unit {0}
  AreOfLinks (f ∷ fs) = (HasLinkRow a (f.row i) → 1 ≤ i) × AreOfLinks fs

  this_or_more : (n : ℕ) (x y : LinkName) (b : Bool) → (g == n) ≡ b → last_family + 1 ≤ n → (HasLinkRow a x → 1 ≤ i) → (HasLinkRow a y → OfALink ⊎ HasLinkRow a other)
      → HasLinkRow a (if b then x else y) → OfALink ⊎ HasLinkRow a other
  this_or_more n x y true e l this more h = let q = eqb-true g n e in inl (omega arith, this h)
  this_or_more n x y false e l this more h = more h

  of_link : (n : ℕ) (fs : List (FamilyOf LinkName)) → last_family + 1 ≤ n → AreOfLinks fs → HasLinkRow a (row_among other n fs g i) → OfALink ⊎ HasLinkRow a other
  of_link n [] l b h = inr h
  of_link n (f ∷ fs) l b h = this_or_more n (f.row i) (row_among other (n + 1) fs g i) (g == n) refl l b.0 (of_link (n + 1) fs (omega arith) b.1) h

link_first : (a : Street) (i : ℕ) → HasLink a i → 1 ≤ i
link_first a i h = h.0

link_index : (a : Street) (g i : ℕ) → HasLinkRow a (link_name_of g i) → IsIndex a (is_lone g) i
link_index a g i h =
    let b = link_first a i in
    let most = link_index_most a g i h in
    elim (of_link a (OfLines (name_of g i)) g i (last_family + 1) link_families (omega arith) (b, (b, (b, (b, (b, (b, (b, (b, (λ r. b r.0, tt))))))))) h) [
      | inl w ↦ subst (λ l. IsIndex a l i) (sym (lone_past 1 families g (let k = w.0 in omega arith))) (record { none = λ e. absurd (true≢false (sym e)); some = λ e. w.1; most = most })
      | inr k ↦ row_index a g i k.1
    ]

-- a row of links has a name
links_named : (a : Street) (r : RowId) → HasLinkRow a (link_name_at r) → IsNamedIn links r
unfolding links
links_named a r h =
    let x = link_index a r.family r.index h in
    record { first = link_family_least a r.family r.index h; last = link_family_most a r.family r.index h; lone = x.none; indexed = x.some }

weights_named : (a : Street) (ws : List Weight) → AreLinkWeights a (map link_named ws) → All (λ w. IsNamedIn links w.row) ws
weights_named a [] h = All-nil (λ (w : Weight). IsNamedIn links w.row)
weights_named a (w ∷ ws) h = All-cons (λ (v : Weight). IsNamedIn links v.row) w ws (links_named a w.row h.0) (weights_named a ws h.2)

-- ---- the start leaf
count_fars : (d : Dir) (by : ℚ) (i k : ℕ) → length (far_weights d by i k) ≡ k
count_fars d by i zero = refl
count_fars d by i (suc k) = ap suc (count_fars d by (i + 1) k)

-- the rows that keep links within the greens
abbrev out_row : ℕ → RowId
out_row i = record { family = 24; index = i }

abbrev in_row : ℕ → RowId
in_row i = record { family = 28; index = i }

out_next : (i : ℕ) → is_after (Some (out_row i)) (out_row (i + 1)) ≡ true
out_next i = below_test (out_row i) (out_row (i + 1)) (inr (refl, omega arith))

in_next : (i : ℕ) → is_after (Some (in_row i)) (in_row (i + 1)) ≡ true
in_next i = below_test (in_row i) (in_row (i + 1)) (inr (refl, omega arith))

out_in : (i j : ℕ) → is_after (Some (out_row i)) (in_row j) ≡ true
out_in i j = below_test (out_row i) (in_row j) (inl (omega arith))

inbound_ascends : (by : ℚ) (i k : ℕ) (last : Option RowId) → is_after last (in_row i) ≡ true → Ascend last (far_weights Inbound by i k)
inbound_ascends by i zero last e = tt
inbound_ascends by i (suc k) last e = (e, inbound_ascends by (i + 1) k (Some (in_row i)) (in_next i))

outbound_ascends : (by : ℚ) (i k : ℕ) (last : Option RowId) (ws : List Weight) → is_after last (out_row i) ≡ true → Ascend last ws
    → ((j : ℕ) → Ascend (Some (out_row j)) ws) → Ascend last (far_weights Outbound by i k ++ ws)
outbound_ascends by i zero last ws e now behind = now
outbound_ascends by i (suc k) last ws e now behind = (e, outbound_ascends by (i + 1) k (Some (out_row i)) ws (out_next i) (behind i) behind)

module _ (a : Street) (v : IsValid a) where
  -- the leaf of a line's end
  end_kept : (line : BoxLine) → IsNodeIn links (LeafOf (end_leaf (link_program a) line))
  end_kept line =
      let most = links_most a (let n = v.many in omega arith) in
      program_kept links (link_program a) line (omega arith) (links_ascend a) (λ k l. links_named a _ (links_there a k l))

  inbound_kept : (length (inbound_weights a) ≤ count a) × ((last : Option RowId) → ((i : ℕ) → is_after last (in_row i) ≡ true) → Ascend last (inbound_weights a))
  inbound_kept = pick (eq_by_cmp cmp_ℚ a.head.ratio (number 0))
    where
      pick : (b : Bool) → (length (if b then [] else far_weights Inbound (twice_ratio a) 1 (count a - 1)) ≤ count a)
          × ((last : Option RowId) → ((i : ℕ) → is_after last (in_row i) ≡ true) → Ascend last (if b then [] else far_weights Inbound (twice_ratio a) 1 (count a - 1)))
      pick true = (omega arith, λ last e. tt)
      pick false = (let k = count_fars Inbound (twice_ratio a) 1 (count a - 1) in omega arith, λ last e. inbound_ascends (twice_ratio a) 1 (count a - 1) last (e 1))

  start_kept : IsNodeIn links (LeafOf (link_start_leaf a))
  start_kept =
      let n = v.many in
      let out = far_weights Outbound (number 2) 1 (count a - 1) in
      let k = count_fars Outbound (number 2) 1 (count a - 1) in
      let i = inbound_kept.0 in
      let e = length-append out (inbound_weights a) in (
        omega arith,
        outbound_ascends (number 2) 1 (count a - 1) None (inbound_weights a) refl (inbound_kept.1 None (λ j. refl)) (λ j. inbound_kept.1 (Some (out_row j)) (out_in j)),
        weights_named a (link_start_leaf a) (start_links_there a v),
      )

  pub link_leaf_kept : (line : BoxLine) (leaf : Leaf) → IsEndLeaf (link_program a) line leaf → IsNodeIn links (LeafOf leaf.multipliers.items)
  link_leaf_kept line leaf e = subst (λ us. IsNodeIn links (LeafOf us)) (sym e) (end_kept line)

  pub link_start_kept : (leaf : Leaf) → IsLinkStartLeaf a leaf → IsNodeIn links (LeafOf leaf.multipliers.items)
  link_start_kept leaf e = subst (λ us. IsNodeIn links (LeafOf us)) (sym e) start_kept
