-- The rows of links have a family's number, from 1 to the last, and an index that is never above the number of signals.
use Rattle.std.proofs.Common.{◌≡◌, ℕ, ◌+◌, ◌<◌, ◌≤◌, ◌⊎◌, inl, inr, List, [], ◌∷◌, length, Bool, true, false, refl, arith, if◌then◌else◌}
use Rattle.std.proofs.lemmas.Bool.{eqb-true}
use Rattle.std.specs.Prelude.{◌==◌}
use Rattle.progression.specs.Street.{Street, count, HasLink}
use Rattle.linear_theory.specs.Names.{FamilyOf, last_family, row_among, name_of}
use Rattle.linear_theory.proofs.Families.{family_least, family_most, index_most}
use Rattle.link_theory.specs.LinkNames.{LinkName, OfLines, link_families, last_link_family, link_name_of, HasLinkRow}

-- ---- among families that are numbered from n on, or elsewhere
record IsAmong (n m g : ℕ) : Type 0 where
  least : n ≤ g
  below : g < m

module _ (a : Street) (other : LinkName) (g i : ℕ) where
  first_or_later : (n m : ℕ) (x y : LinkName) (b : Bool) → (g == n) ≡ b → n < m → (HasLinkRow a y → IsAmong (n + 1) m g ⊎ HasLinkRow a other)
      → HasLinkRow a (if b then x else y) → IsAmong n m g ⊎ HasLinkRow a other
  first_or_later n m x y true e l more h = let q = eqb-true g n e in inl (record { least = omega arith; below = omega arith })
  first_or_later n m x y false e l more h = elim (more h) [
    | inl w ↦ let p = w.least in inl (record { least = omega arith; below = w.below })
    | inr k ↦ inr k
  ]

  among : (n m : ℕ) (fs : List (FamilyOf LinkName)) → m ≡ n + length fs → HasLinkRow a (row_among other n fs g i) → IsAmong n m g ⊎ HasLinkRow a other
  among n m [] e h = inr h
  among n m (f ∷ fs) e h = first_or_later n m (f.row i) (row_among other (n + 1) fs g i) (g == n) refl (omega (arith, e)) (among (n + 1) m fs (omega (arith, e))) h

  -- an index of one of the families
  abbrev AreBounded : List (FamilyOf LinkName) → Type 0
  AreBounded [] = Unit {0}
  AreBounded (f ∷ fs) = (HasLinkRow a (f.row i) → i ≤ count a) × AreBounded fs

  this_or_later : (x y : LinkName) (b : Bool) → (HasLinkRow a x → i ≤ count a) → (HasLinkRow a y → (i ≤ count a) ⊎ HasLinkRow a other)
      → HasLinkRow a (if b then x else y) → (i ≤ count a) ⊎ HasLinkRow a other
  this_or_later x y true this more h = inl (this h)
  this_or_later x y false this more h = more h

  index_among : (n : ℕ) (fs : List (FamilyOf LinkName)) → AreBounded fs → HasLinkRow a (row_among other n fs g i) → (i ≤ count a) ⊎ HasLinkRow a other
  index_among n [] b h = inr h
  index_among n (f ∷ fs) b h = this_or_later (f.row i) (row_among other (n + 1) fs g i) (g == n) b.0 (index_among (n + 1) fs b.1) h

-- ---- all families
link_below : (a : Street) (i : ℕ) → HasLink a i → i ≤ count a
link_below a i h = let l = h.1 in omega arith

module _ (a : Street) (g i : ℕ) (h : HasLinkRow a (link_name_of g i)) where
  pub link_family_least : 1 ≤ g
  link_family_least = elim (among a (OfLines (name_of g i)) g i (last_family + 1) (last_link_family + 1) link_families refl h) [
    | inl w ↦ let l = w.least in omega arith
    | inr k ↦ family_least a g i k.1
  ]

  pub link_family_most : g ≤ last_link_family
  link_family_most = elim (among a (OfLines (name_of g i)) g i (last_family + 1) (last_link_family + 1) link_families refl h) [
    | inl w ↦ let l = w.below in omega arith
    | inr k ↦ let l = family_most a g i k.1 in omega arith
  ]

  pub link_index_most : i ≤ count a
  link_index_most = let b = link_below a i in
      elim (index_among a (OfLines (name_of g i)) g i (last_family + 1) link_families (b, (b, (b, (b, (b, (b, (b, (b, (λ r. b r.0, tt))))))))) h) [
        | inl l ↦ l
        | inr k ↦ index_most a g i k.1
      ]
