-- The artery that the values of a canonical description make is the one that it was made of.
use Rattle.std.proofs.Common.{◌≡◌, ℕ, ◌+◌, ◌-◌, ◌==◌, ◌||◌, not, ◌<◌, ◌≤◌, List, [], ◌∷◌, length, map, Bool, true, false, Option, None, Some}
use Rattle.std.proofs.Common.{option_map, nat_le, nat_lt, refl, sym, ◌∙◌, ap, ap₂, arith}
use Rattle.std.specs.Prelude.{unwrap_or, if◌then◌else◌}
use Rattle.std.specs.List.{All}
use Rattle.std.proofs.lemmas.Bool.Decides.{nat_tests}
use Rattle.std.proofs.lemmas.List.Elements.{All-head, All-tail}
use Rattle.toml.specs.Data.{Data, string, boolean, array, no_items, table}
use Rattle.std.proofs.lemmas.Bool.{true≢false}
use Rattle.progression.specs.Street.{Street}
use Rattle.progression.specs.declared.parts.Head.{Head}
use Rattle.progression.specs.declared.parts.Signal.{Signal}
use Rattle.progression.specs.declared.parts.Link.{Link}
use Rattle.progression.specs.declared.parts.Pair.{Pair}
use Rattle.progression.specs.declared.parts.Units.{Units}
use Rattle.progression.specs.declared.parts.Units.TheVariants.{Metric, English}
use Rattle.artery_model.specs.Bounds.{first_version, second_version, most_share, least_share, least_parts, most_parts, least_distance, most_distance}
use Rattle.artery_model.specs.Bounds.{least_speed, most_speed, least_cycle, most_cycle, least_change, most_change, least_ratio, most_ratio}
use Rattle.artery_model.specs.Faults.{Fault, first_fault, each_numbered}
use Rattle.rational_theory.specs.Rational.{ℚ, whole}
use Rattle.rational_theory.proofs.Compare.{le_true}
use Rattle.rational_theory.proofs.Order.{≤ℚ_antisymm}
use Rattle.artery_model.specs.Limits.{within, in_range, signal_ranges, link_ranges}
use Rattle.description_reader.specs.Canonical.{quantity_data, pair_data, units_text, head_members, signal_data, link_data, canonical, HasFour}
use Rattle.description_reader.specs.Quantity.{integer_in, number_in}
use Rattle.description_reader.specs.Values.{items_in, text_in, flag_in}
use Rattle.description_reader.specs.Streets.{u32_or_zero, pair_of, units_of, head_in, signal_in, link_in, street_in}
use Rattle.description_reader.proofs.Views.{list_of_items}
use Rattle.description_reader.proofs.CanonicalTests.{none_of, both_of}
use Rattle.description_reader.proofs.CanonicalValues.{number_back, pair_back, u32_back, patterns_back}
use Rattle.description_reader.proofs.CanonicalLimits.{IsChangeWithin, HeadFits, SignalFits, signal_fits, LinkFits, link_fits, StreetFits}
use Rattle.description_reader.proofs.CanonicalKeys.{of_second, head_keys, link_keys}
use Rattle.artery_model.proofs.Validity.{each_none}

-- ---- sizes
le_of : (n m : ℕ) → nat_le n m ≡ true → n ≤ m
le_of n m e = grind (arith, nat_tests)

at_most : (low most n : ℕ) → in_range low most n ≡ true → n ≤ most
at_most low most n e = le_of n most (both_of _ _ e).1

in_range_fits : (low most n : ℕ) → most ≤ most_distance → in_range low most n ≡ true → n < 4294967296
in_range_fits low most n h e = omega (arith, at_most low most n e)

below_fits : (limit n : ℕ) → limit ≤ most_distance → nat_lt n limit ≡ true → n < 4294967296
below_fits limit n h e = grind (arith, nat_tests)

-- ---- the artery
units_back : (u : Units) → units_of (units_text u) ≡ u
units_back Metric = refl
units_back English = refl

name_back : (name : Option (List ℕ)) → option_map text_in (option_map string name) ≡ name
name_back None = refl
name_back (Some name) = refl

-- a least band from 0 to 0 is 0
no_share : (q : ℚ) → within (whole least_share) (whole least_share) q ≡ true → q ≡ whole least_share
no_share q e =
    let p = both_of _ _ e in
    ≤ℚ_antisymm q (whole least_share) (le_true q (whole least_share) (sym p.1)) (le_true (whole least_share) q (sym (both_of _ _ p.0).1))

share_back : (second : Bool) (q : ℚ) → within (whole least_share) (whole (if second then most_share else least_share)) q ≡ true
    → number_in (unwrap_or (of_second second (quantity_data q)) (array no_items)) ≡ q
share_back true q e = number_back (whole least_share) (whole most_share) q e
share_back false q e = sym (no_share q e)

flag_back : (second equal : Bool) → (not equal || second) ≡ true → flag_in (unwrap_or (of_second second (boolean equal)) (array no_items)) ≡ equal
flag_back true equal e = refl
flag_back false false e = refl
flag_back false true e = absurd (true≢false (sym e))

pub head_back : (h : Head) → HeadFits h → head_in h.version (table (head_members h)) ≡ h
head_back h fits =
    let keys = head_keys h in
    let name = ap (option_map text_in) keys.name ∙ name_back h.name in
    let units = ap (λ o. units_of (text_in (unwrap_or o (array no_items)))) keys.units ∙ units_back h.units in
    let parts = ap (λ o. u32_or_zero (integer_in (unwrap_or o (array no_items)))) keys.parts ∙ u32_back h.parts (in_range_fits least_parts most_parts h.parts (omega arith) fits.parts) in
    let cycle = ap (λ o. pair_of (items_in (unwrap_or o (array no_items)))) keys.cycle ∙ pair_back least_cycle most_cycle h.cycle fits.cycle in
    let ratio = ap (λ o. number_in (unwrap_or o (array no_items))) keys.ratio ∙ number_back (whole least_ratio) (whole most_ratio) h.ratio fits.ratio in
    let second = h.version == second_version in
    let share = λ (o : Option Data). number_in (unwrap_or o (array no_items)) in
    let least_out = ap share keys.least_out ∙ share_back second h.least_out fits.least_out in
    let least_in = ap share keys.least_in ∙ share_back second h.least_in fits.least_in in
    let equal = ap (λ o. flag_in (unwrap_or o (array no_items))) keys.equal ∙ flag_back second h.equal fits.equal in
    λ k. record {
      name = name k;
      units = units k;
      version = h.version;
      parts = parts k;
      cycle = cycle k;
      ratio = ratio k;
      least_out = least_out k;
      least_in = least_in k;
      equal = equal k;
    }

-- ---- a signal
signal_back : (parts : ℕ) (s : Signal) → parts ≤ most_parts → HasFour s → SignalFits parts s → signal_in (signal_data s) ≡ s
signal_back parts s most four fits =
    let red = u32_back s.red (in_range_fits 1 (parts - 1) s.red (omega arith) fits.red) in
    let left_out = u32_back s.left_out (below_fits parts s.left_out (omega arith) fits.left_out) in
    let left_in = u32_back s.left_in (below_fits parts s.left_in (omega arith) fits.left_in) in
    let clear_out = u32_back s.clear_out (below_fits parts s.clear_out (omega arith) fits.clear_out) in
    let clear_in = u32_back s.clear_in (below_fits parts s.clear_in (omega arith) fits.clear_in) in
    let patterns = patterns_back s.patterns four in
    λ k. record { name = s.name; red = red k; left_out = left_out k; left_in = left_in k; patterns = patterns k; clear_out = clear_out k; clear_in = clear_in k }

-- ---- a link
change_back : (is_last : Bool) (o : Option Pair) → IsChangeWithin is_last o → option_map (λ v. pair_of (items_in v)) (option_map pair_data o) ≡ o
change_back is_last None h = refl
change_back is_last (Some p) h = ap Some (pair_back least_change most_change p h.1)

link_back : (is_last : Bool) (l : Link) → LinkFits is_last l → link_in (link_data l) ≡ l
link_back is_last l fits =
    let keys = link_keys l in
    let number = λ (o : Option Data). u32_or_zero (integer_in (unwrap_or o (array no_items))) in
    let limits = λ (o : Option Data). pair_of (items_in (unwrap_or o (array no_items))) in
    let change = λ (o : Option Data). option_map (λ v. pair_of (items_in v)) o in
    let distance_out = ap number keys.distance_out ∙ u32_back l.distance_out (in_range_fits least_distance most_distance l.distance_out (omega arith) fits.distance_out) in
    let distance_in = ap number keys.distance_in ∙ u32_back l.distance_in (in_range_fits least_distance most_distance l.distance_in (omega arith) fits.distance_in) in
    let speed_out = ap limits keys.speed_out ∙ pair_back least_speed most_speed l.speed_out fits.speed_out in
    let speed_in = ap limits keys.speed_in ∙ pair_back least_speed most_speed l.speed_in fits.speed_in in
    let change_out = ap change keys.change_out ∙ change_back is_last l.change_out fits.change_out in
    let change_in = ap change keys.change_in ∙ change_back is_last l.change_in fits.change_in in
    λ k. record { distance_out = distance_out k; distance_in = distance_in k; speed_out = speed_out k; speed_in = speed_in k; change_out = change_out k; change_in = change_in k }

-- ---- the whole
each_back : {X : Type 0} (P : X → Type 0) (old : ℕ → X → Option Fault) (f : X → Data) (g : Data → X) → ((i : ℕ) (x : X) → P x → old i x ≡ None → g (f x) ≡ x)
    → (i : ℕ) (xs : List X) → All P xs → first_fault (each_numbered old i xs) ≡ None → map g (map f xs) ≡ xs
each_back P old f g step i [] all e = refl
each_back P old f g step i (x ∷ xs) all e =
    let tests = each_none (old i x ∷ each_numbered old (i + 1) xs) e in
    ap₂ (λ y ys. y ∷ ys) (step i x (All-head P x xs all) tests.0) (each_back P old f g step (i + 1) xs (All-tail P x xs all) (none_of (each_numbered old (i + 1) xs) tests.1))

pub street_back : (a : Street) → All HasFour a.signals → StreetFits a → street_in (table (canonical a)) ≡ a
street_back a four fits =
    let most : a.head.parts ≤ most_parts = at_most least_parts most_parts a.head.parts fits.head.parts in
    let version = u32_back a.head.version (in_range_fits first_version second_version a.head.version (omega arith) fits.version) in
    let head = ap (λ v. head_in v (table (head_members a.head))) version ∙ head_back a.head fits.head in
    let signals = ap (map signal_in) (list_of_items (map signal_data a.signals))
    ∙ each_back HasFour (signal_ranges a.head.parts) signal_data signal_in (λ i s h e. signal_back a.head.parts s most h (signal_fits a.head.parts i s e)) 1 a.signals four fits.signals in
    let n = length a.links in
    let links = ap (map link_in) (list_of_items (map link_data a.links))
    ∙ each_back (λ l. Unit {0}) (link_ranges n) link_data link_in (λ i l h e. link_back (i == n) l (link_fits n i l e)) 1 a.links (λ k l h. tt) fits.links in
    λ k. record { head = head k; signals = signals k; links = links k }
