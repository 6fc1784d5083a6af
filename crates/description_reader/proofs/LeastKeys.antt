-- The first unknown key of a table whose keys ascend is the least.
use Rattle.std.proofs.Common.{◌≡◌, ◌⊎◌, inl, inr, ℕ, List, ◌∷◌, map, Bool, true, false, ◌&&◌, None, Some, Ordering, Less, Equal, Greater, nat_cmp, is_eq, refl, sym, ap, ◌∙◌}
use Rattle.std.proofs.lemmas.Bool.{and_parts, false≢true}
use Rattle.std.proofs.lemmas.Cmp.{nat_list_cmp_total, tied_itself}
use Rattle.std.proofs.lemmas.Map.Text.{is_eq-slice_cmp}
use Rattle.std.proofs.lemmas.Option.{none-some, same_Some}
use Rattle.std.proofs.lemmas.Slice.Eq.{bytes_eq-Decides}
use Rattle.std.specs.Prelude.{is_some}
use Rattle.std.specs.Ordering.{is_le, match_ordering}
use Rattle.std.specs.Cmp.Lexicographic.{slice_cmp}
use Rattle.toml.specs.Data.{Data, Members, member, no_members, table, get_member, is_before, is_sorted, members_are_sorted}
use Rattle.toml.proofs.Blanks.{below_from}
use Rattle.artery_model.specs.Faults.{Fault, first_fault, unless}
use Rattle.artery_model.specs.declared.kind.Kind.TheVariants.{UnknownKey}
use Rattle.description_reader.specs.Values.{has, keys_of_members}
use Rattle.description_reader.specs.Places.{key_place}
use Rattle.description_reader.specs.Keys.{is_known, printed, unknown_fault}
use Rattle.description_reader.specs.LeastKey.{IsLeastUnknown, IsOfLeast, KeysAreJudged}
use Rattle.description_reader.specs.declared.place.TableFacts.{TableFacts}
use Rattle.description_reader.specs.declared.place.Section.{Section}

-- keys that the order doesn't tell apart are the same
tied : (x y : List ℕ) → slice_cmp nat_cmp x y ≡ Equal → x ≡ y
tied x y e = (bytes_eq-Decides x y).0 (sym (is_eq-slice_cmp x y) ∙ ap is_eq e)

-- a key of a table is its first, or one of the others
by_order : (o : Ordering) (key l : List ℕ) (d : Data) (ms : Members) → slice_cmp nat_cmp key l ≡ o
    → is_some (match_ordering o (get_member key ms) (Some d) (get_member key ms)) ≡ true → (key ≡ l) ⊎ (has (table ms) key ≡ true)
by_order Less key l d ms e h = inr h
by_order Equal key l d ms e h = inl (tied key l e)
by_order Greater key l d ms e h = inr h

first_or_later : (key l : List ℕ) (d : Data) (ms : Members) → has (table (member l d ms)) key ≡ true → (key ≡ l) ⊎ (has (table ms) key ≡ true)
first_or_later key l d ms h = by_order (slice_cmp nat_cmp key l) key l d ms refl h

has_first : (l : List ℕ) (d : Data) (ms : Members) → has (table (member l d ms)) l ≡ true
has_first l d ms = rw (tied_itself nat_list_cmp_total l) refl

later_at : (o : Ordering) (key : List ℕ) (d : Data) (ms : Members) → has (table ms) key ≡ true → is_some (match_ordering o (get_member key ms) (Some d) (get_member key ms)) ≡ true
later_at Less key d ms h = h
later_at Equal key d ms h = refl
later_at Greater key d ms h = h

has_later : (key l : List ℕ) (d : Data) (ms : Members) → has (table ms) key ≡ true → has (table (member l d ms)) key ≡ true
has_later key l d ms h = later_at (slice_cmp nat_cmp key l) key d ms h

-- what comes before the first key of a table comes before each
above_by : (k l key : List ℕ) (ms : Members) → slice_cmp nat_cmp k l ≡ Less → (has (table ms) key ≡ true → slice_cmp nat_cmp l key ≡ Less)
    → (key ≡ l) ⊎ (has (table ms) key ≡ true) → slice_cmp nat_cmp k key ≡ Less
above_by k l key ms first rest (inl e) = rw e first
above_by k l key ms first rest (inr h) = nat_list_cmp_total.trans k l key first (rest h)

above : (ms : Members) (k key : List ℕ) → is_before k ms ≡ true → members_are_sorted ms ≡ true → has (table ms) key ≡ true → slice_cmp nat_cmp k key ≡ Less
above no_members k key before sorted h = absurd (false≢true h)
above (member l d ms) k key before sorted h =
    let (front, more) = and_parts (is_before l ms && is_sorted d) (members_are_sorted ms) sorted in
    let (next, here) = and_parts (is_before l ms) (is_sorted d) front in
    above_by k l key ms (below_from k l before) (above ms l key next more) (first_or_later key l d ms h)

module _ (facts : TableFacts) (section : Section) where
  -- ---- no fault
  known_by : (l key : List ℕ) (ms : Members) → is_known facts section l ≡ true → (has (table ms) key ≡ true → is_known facts section key ≡ true)
      → (key ≡ l) ⊎ (has (table ms) key ≡ true) → is_known facts section key ≡ true
  known_by l key ms known rest (inl e) = rw e known
  known_by l key ms known rest (inr h) = rest h

  abbrev AllKnown : Members → Type 0
  AllKnown ms = first_fault (map (unknown_fault facts section) (keys_of_members ms)) ≡ None → (key : List ℕ) → has (table ms) key ≡ true → is_known facts section key ≡ true

  known_from : (known : Bool) (l : List ℕ) (d : Data) (ms : Members) → is_known facts section l ≡ known → AllKnown ms
      → first_fault (unless known UnknownKey (key_place section (printed l)) ∷ map (unknown_fault facts section) (keys_of_members ms)) ≡ None
      → (key : List ℕ) → has (table (member l d ms)) key ≡ true → is_known facts section key ≡ true
  known_from true l d ms k rest e key h = known_by l key ms k (rest e key) (first_or_later key l d ms h)
  known_from false l d ms k rest e key h = absurd (none-some _ (sym e))

  all_known : (ms : Members) → AllKnown ms
  all_known no_members e key h = absurd (false≢true h)
  all_known (member l d ms) e key h = known_from (is_known facts section l) l d ms refl (all_known ms) e key h

  -- ---- a fault
  least_by : (l key : List ℕ) (ms : Members) → is_before l ms ≡ true → members_are_sorted ms ≡ true → (key ≡ l) ⊎ (has (table ms) key ≡ true) → is_le (slice_cmp nat_cmp l key) ≡ true
  least_by l key ms before sorted (inl e) = rw (e, tied_itself nat_list_cmp_total l) refl
  least_by l key ms before sorted (inr h) = rw (above ms l key before sorted h) refl

  passed_by : (l key other : List ℕ) (ms : Members) → is_known facts section l ≡ true → IsLeastUnknown facts section (table ms) key → is_known facts section other ≡ false
      → (other ≡ l) ⊎ (has (table ms) other ≡ true) → is_le (slice_cmp nat_cmp key other) ≡ true
  passed_by l key other ms known r unknown (inl e) = absurd (false≢true (sym unknown ∙ ap (is_known facts section) e ∙ known))
  passed_by l key other ms known r unknown (inr h) = r.least other h unknown

  abbrev NamesLeast : Members → Fault → Type 0
  NamesLeast ms f = first_fault (map (unknown_fault facts section) (keys_of_members ms)) ≡ Some f → IsOfLeast facts section (table ms) f

  least_from : (known : Bool) (l : List ℕ) (d : Data) (ms : Members) (f : Fault) → is_known facts section l ≡ known → is_before l ms ≡ true → members_are_sorted ms ≡ true
      → NamesLeast ms f
      → first_fault (unless known UnknownKey (key_place section (printed l)) ∷ map (unknown_fault facts section) (keys_of_members ms)) ≡ Some f
      → IsOfLeast facts section (table (member l d ms)) f
  least_from true l d ms f k before sorted rest e =
      let r = rest e in (
        r.0,
        record {
          stands = has_later r.0 l d ms r.1.stands;
          unknown = r.1.unknown;
          least = λ other h unknown. passed_by l r.0 other ms k r.1 unknown (first_or_later other l d ms h);
        },
        r.2,
      )
  least_from false l d ms f k before sorted rest e = (
    l,
    record {
      stands = has_first l d ms;
      unknown = k;
      least = λ other h unknown. least_by l other ms before sorted (first_or_later other l d ms h);
    },
    sym (same_Some _ _ e),
  )

  least_of : (ms : Members) (f : Fault) → members_are_sorted ms ≡ true → NamesLeast ms f
  least_of no_members f sorted e = absurd (none-some f e)
  least_of (member l d ms) f sorted e =
      let (front, more) = and_parts (is_before l ms && is_sorted d) (members_are_sorted ms) sorted in
      let (next, here) = and_parts (is_before l ms) (is_sorted d) front in
      least_from (is_known facts section l) l d ms f refl next more (least_of ms f more) e

pub keys_are_judged : KeysAreJudged
keys_are_judged = record { known = all_known; least = least_of }
