-- The values of a canonical description of an artery without a fault have no fault.
use Rattle.std.proofs.Common.{◌≡◌, ℕ, ◌-◌, ◌==◌, pos, ℤ, List, [], ◌∷◌, length, map, Bool, true, false, not, Option, None, Some, option_map, nat_le}
use Rattle.std.proofs.Common.{nat_lt, refl, sym, ◌∙◌, ap, int_eq, unsigned_abs, eq-eqb, arith}
use Rattle.std.specs.Prelude.{codes, unwrap_or, if◌then◌else◌}
use Rattle.rational_theory.specs.Rational.{ℚ, whole}
use Rattle.std.specs.List.{All}
use Rattle.std.proofs.lemmas.Bool.Decides.{nat_tests, Decides-int_eq}
use Rattle.std.proofs.lemmas.Bool.{le-leb}
use Rattle.std.proofs.lemmas.List.{length-map}
use Rattle.toml.specs.Data.{get, string, boolean, array, table, no_items, Members}
use Rattle.progression.specs.Street.{Street}
use Rattle.progression.specs.declared.parts.Head.{Head}
use Rattle.progression.specs.declared.parts.Signal.{Signal}
use Rattle.progression.specs.declared.parts.Link.{Link}
use Rattle.progression.specs.declared.parts.Pair.{Pair}
use Rattle.progression.specs.declared.parts.Units.{Units}
use Rattle.progression.specs.declared.parts.Units.TheVariants.{Metric, English}
use Rattle.artery_model.specs.Bounds.{first_version, second_version, least_signals, most_signals, most_first_signals, least_share, most_share}
use Rattle.artery_model.specs.Bounds.{least_parts, most_parts, least_distance, most_distance, least_speed, most_speed, least_cycle, most_cycle}
use Rattle.artery_model.specs.Bounds.{least_change, most_change, least_ratio, most_ratio}
use Rattle.artery_model.specs.Faults.{first_fault, each_numbered}
use Rattle.artery_model.specs.Limits.{within, in_range, is_name_if_there, signal_ranges, link_ranges, artery_fault}
use Rattle.description_reader.specs.Canonical.{number_data, quantity_data, pair_data, units_text, head_members_in, head_members, signal_members}
use Rattle.description_reader.specs.Canonical.{signal_data, link_members, link_data, canonical, HasFour}
use Rattle.description_reader.specs.Checks.{meets}
use Rattle.description_reader.specs.Judgement.{key_fault, in_table, stage_tests, facts_of, value_tests}
use Rattle.description_reader.specs.Keys.{unknown_key}
use Rattle.description_reader.specs.KeyTable.{key, alone, items, tables, two_quantities, key_when, keys_of}
use Rattle.description_reader.specs.Quantity.{integer_in}
use Rattle.description_reader.specs.Values.{items_in}
use Rattle.toml.specs.View.{items_of}
use Rattle.description_reader.specs.Streets.{street_in, description_fault}
use Rattle.description_reader.specs.declared.place.Section.TheVariants.{Root, Artery, Signal as SignalTable, Link as LinkTable}
use Rattle.description_reader.specs.declared.demand.Demand.TheVariants.{Anything, Table, Length, Boolean, Quantity, Text, Units as UnitsWord, Name, Between, BelowParts, Within}
use Rattle.description_reader.specs.declared.key_table.When.{When}
use Rattle.description_reader.specs.declared.key_table.When.TheVariants.{First, Second}
use Rattle.description_reader.specs.declared.judge.Form.TheVariants.{Description}
use Rattle.description_reader.specs.declared.key_table.Presence.TheVariants.{Needed, Optional, NotLast}
use Rattle.description_reader.specs.declared.judge.Stage.{Stage}
use Rattle.description_reader.specs.declared.judge.Stage.TheVariants.{Keys, Needed as NeededKeys, Types, Numbers, Ranges}
use Rattle.description_reader.specs.declared.place.TableFacts.{TableFacts}
use Rattle.description_reader.proofs.Views.{list_of_items}
use Rattle.description_reader.proofs.CanonicalTests.{none_of, both_of, each_made, Passes, key_passes, key_passes_in, passes_when, table_passes}
use Rattle.description_reader.proofs.CanonicalLimits.{IsChangeWithin, HeadFits, SignalFits, signal_fits, LinkFits, link_fits, StreetFits, street_fits}
use Rattle.description_reader.proofs.CanonicalValues.{below_meets, number_passes, flag_passes, text_passes, quantity_passes, pair_passes, patterns_pass, tables_pass, absent_passes}
use Rattle.description_reader.proofs.CanonicalKeys.{of_second, head_keys, link_keys}
use Rattle.description_reader.proofs.CanonicalStreet.{street_back}

abbrev known : Bool → ℕ → ℕ → TableFacts
known second links parts = record { links = links; parts = pos parts; second = second; timed_out = false; timed_in = false }

-- ---- a signal
red_meets : (parts n : ℕ) → in_range 1 (parts - 1) n ≡ true → meets (pos parts) (BelowParts (pos 1)) (number_data n) ≡ true
red_meets parts n e = below_meets 1 parts n (both_of _ _ e).0 (grind (arith, nat_tests, both_of (nat_le 1 n) (nat_le n (parts - 1)) e))

turn_meets : (parts n : ℕ) → nat_lt n parts ≡ true → meets (pos parts) (BelowParts (pos 0)) (number_data n) ≡ true
turn_meets parts n e = below_meets 0 parts n (le-leb 0 n (omega arith)) e

signal_known : (facts : TableFacts) (i : ℕ) (s : Signal) → unknown_key facts (SignalTable i) (signal_data s) ≡ None
unfolding keys_of
signal_known facts i s = refl

signal_keys_pass : (second : Bool) (links parts i : ℕ) (s : Signal) → HasFour s → SignalFits parts s → (stage : Stage)
    → first_fault (map (key_fault stage (known second links parts) (SignalTable i) (signal_data s)) (keys_of (SignalTable i))) ≡ None
unfolding keys_of
signal_keys_pass second links parts i s four fits stage =
    let facts = known second links parts in
    let d = signal_data s in
    let turn = λ (name : List ℕ) (n : ℕ) (is : get name d ≡ Some (number_data n)) (e : nat_lt n parts ≡ true).
    key_passes stage facts (SignalTable i) d _ _ (number_passes (pos parts) name Optional (BelowParts (pos 0)) n (turn_meets parts n e)) is in
    none_of (map (key_fault stage facts (SignalTable i) d) (keys_of (SignalTable i))) (
      key_passes stage facts (SignalTable i) d _ _ (text_passes (pos parts) (codes "name") Needed Name s.name fits.name) refl,
      (
        key_passes stage facts (SignalTable i) d _ _ (number_passes (pos parts) (codes "red") Needed (BelowParts (pos 1)) s.red (red_meets parts s.red fits.red)) refl,
        (
          turn (codes "left_out") s.left_out refl fits.left_out,
          (
            turn (codes "left_in") s.left_in refl fits.left_in,
            (
              key_passes stage facts (SignalTable i) d _ _ (patterns_pass (pos parts) (codes "patterns") Optional s.patterns four) refl,
              (
                turn (codes "clear_out") s.clear_out refl fits.clear_out,
                (
                  turn (codes "clear_in") s.clear_in refl fits.clear_in,
                  tt,
                ),
              ),
            ),
          ),
        ),
      ),
    )

signal_passes : (stage : Stage) (second : Bool) (links parts i : ℕ) (s : Signal) → HasFour s → SignalFits parts s → in_table stage (known second links parts) (SignalTable i) (signal_data s) ≡ None
signal_passes stage second links parts i s four fits =
    table_passes (known second links parts) (SignalTable i) (signal_members s) (signal_known (known second links parts) i s) (signal_keys_pass second links parts i s four fits) stage

-- ---- a link
known_with : (facts : TableFacts) (i : ℕ) (out back : Option Pair) (l : Link) → IsChangeWithin (i == facts.links) out → IsChangeWithin (i == facts.links) back
    → unknown_key facts (LinkTable i) (link_data (record l { change_out = out; change_in = back })) ≡ None
unfolding keys_of
known_with facts i None None l h k = refl
known_with facts i None (Some p) l h k = rw k.0
known_with facts i (Some p) None l h k = rw h.0
known_with facts i (Some p) (Some q) l h k = rw h.0

change_passes : (parts : ℤ) (name : List ℕ) (is_last : Bool) (o : Option Pair) → IsChangeWithin is_last o
    → Passes parts (key name NotLast two_quantities (items (Within least_change most_change))) (option_map pair_data o)
change_passes parts name is_last None h = absent_passes parts name NotLast two_quantities (items (Within least_change most_change)) tt
change_passes parts name is_last (Some p) h = pair_passes parts name NotLast least_change most_change p h.1

link_keys_pass : (facts : TableFacts) (links i : ℕ) (l : Link) → LinkFits (i == links) l → (stage : Stage)
    → first_fault (map (key_fault stage facts (LinkTable i) (link_data l)) (keys_of (LinkTable i))) ≡ None
unfolding keys_of
link_keys_pass facts links i l fits stage =
    let parts = facts.parts in
    let keys = link_keys l in
    let d = link_data l in
    let distance = λ (name : List ℕ) (n : ℕ) (is : get name d ≡ Some (number_data n)) (e : in_range least_distance most_distance n ≡ true).
    key_passes stage facts (LinkTable i) d _ _ (number_passes parts name Needed (Between (pos least_distance) (pos most_distance)) n e) is in
    none_of (map (key_fault stage facts (LinkTable i) d) (keys_of (LinkTable i))) (
      distance (codes "distance_out") l.distance_out keys.distance_out fits.distance_out,
      (
        distance (codes "distance_in") l.distance_in keys.distance_in fits.distance_in,
        (
          key_passes stage facts (LinkTable i) d _ _ (pair_passes parts (codes "speed_out") Needed least_speed most_speed l.speed_out fits.speed_out) keys.speed_out,
          (
            key_passes stage facts (LinkTable i) d _ _ (pair_passes parts (codes "speed_in") Needed least_speed most_speed l.speed_in fits.speed_in) keys.speed_in,
            (
              key_passes stage facts (LinkTable i) d _ _ (change_passes parts (codes "change_out") (i == links) l.change_out fits.change_out) keys.change_out,
              (
                key_passes stage facts (LinkTable i) d _ _ (change_passes parts (codes "change_in") (i == links) l.change_in fits.change_in) keys.change_in,
                tt,
              ),
            ),
          ),
        ),
      ),
    )

link_passes : (stage : Stage) (second : Bool) (links parts i : ℕ) (l : Link) → LinkFits (i == links) l → in_table stage (known second links parts) (LinkTable i) (link_data l) ≡ None
link_passes stage second links parts i l fits =
    let facts = known second links parts in
    table_passes facts (LinkTable i) (link_members l) (known_with facts i l.change_out l.change_in l fits.change_out fits.change_in) (link_keys_pass facts links i l fits) stage

-- ---- the artery
known_with_name : (second : Bool) (facts : TableFacts) (name : Option (List ℕ)) (h : Head)
    → unknown_key (record facts { second = second }) Artery (table (head_members_in second (record h { name = name }))) ≡ None
unfolding keys_of
known_with_name false facts None h = refl
known_with_name false facts (Some name) h = refl
known_with_name true facts None h = refl
known_with_name true facts (Some name) h = refl

name_passes : (parts : ℤ) (name : Option (List ℕ)) → is_name_if_there name ≡ true → Passes parts (key (codes "name") Optional (alone Text) (alone Name)) (option_map string name)
name_passes parts None e = absent_passes parts (codes "name") Optional (alone Text) (alone Name) tt
name_passes parts (Some name) e = text_passes parts (codes "name") Optional Name name e

units_meet : (parts : ℤ) (u : Units) → meets parts UnitsWord (string (units_text u)) ≡ true
units_meet parts Metric = refl
units_meet parts English = refl

-- the keys of least bands and equal bands, which are absent where a description isn't of the second version
share_passes : (second : Bool) (parts : ℤ) (name : List ℕ) (q : ℚ) → within (whole least_share) (whole (if second then most_share else least_share)) q ≡ true
    → Passes parts (key_when Second name Optional (alone Quantity) (alone (Within least_share most_share))) (of_second second (quantity_data q))
share_passes false parts name q e = passes_when parts Second name Optional _ _ _ (absent_passes parts name Optional (alone Quantity) (alone (Within least_share most_share)) tt)
share_passes true parts name q e = passes_when parts Second name Optional _ _ _ (quantity_passes parts name Optional least_share most_share q e)

equal_passes : (second : Bool) (parts : ℤ) (name : List ℕ) (b : Bool)
    → Passes parts (key_when Second name Optional (alone Boolean) (alone Anything)) (of_second second (boolean b))
equal_passes false parts name b = passes_when parts Second name Optional _ _ _ (absent_passes parts name Optional (alone Boolean) (alone Anything) tt)
equal_passes true parts name b = passes_when parts Second name Optional _ _ _ (flag_passes parts name Optional b)

head_keys_pass : (facts : TableFacts) (h : Head) → HeadFits h → (stage : Stage)
    → first_fault (map (key_fault stage facts Artery (table (head_members h))) (keys_of Artery)) ≡ None
unfolding keys_of
head_keys_pass facts h fits stage =
    let parts = facts.parts in
    let second = h.version == second_version in
    let keys = head_keys h in
    let d = table (head_members h) in
    none_of (map (key_fault stage facts Artery d) (keys_of Artery)) (
      key_passes stage facts Artery d _ _ (name_passes parts h.name fits.name) keys.name,
      (
        key_passes stage facts Artery d _ _ (text_passes parts (codes "units") Needed UnitsWord (units_text h.units) (units_meet parts h.units)) keys.units,
        (
          key_passes stage facts Artery d _ _ (number_passes parts (codes "parts") Needed (Between (pos least_parts) (pos most_parts)) h.parts fits.parts) keys.parts,
          (
            key_passes stage facts Artery d _ _ (pair_passes parts (codes "cycle") Needed least_cycle most_cycle h.cycle fits.cycle) keys.cycle,
            (
              key_passes stage facts Artery d _ _ (quantity_passes parts (codes "ratio") Needed least_ratio most_ratio h.ratio fits.ratio) keys.ratio,
              (
                key_passes stage facts Artery d _ _ (share_passes second parts (codes "least_out") h.least_out fits.least_out) keys.least_out,
                (
                  key_passes stage facts Artery d _ _ (share_passes second parts (codes "least_in") h.least_in fits.least_in) keys.least_in,
                  (
                    key_passes stage facts Artery d _ _ (equal_passes second parts (codes "equal") h.equal) keys.equal,
                    tt,
                  ),
                ),
              ),
            ),
          ),
        ),
      ),
    )

head_passes : (stage : Stage) (links parts : ℕ) (h : Head) → HeadFits h → in_table stage (known (h.version == second_version) links parts) Artery (table (head_members h)) ≡ None
head_passes stage links parts h fits =
    let second = h.version == second_version in
    let facts = known second links parts in
    table_passes facts Artery (head_members h) (known_with_name second facts h.name h) (head_keys_pass facts h fits) stage

-- ---- the root
root_known : (second : Bool) (facts : TableFacts) (a : Street) → unknown_key (record facts { second = second }) Root (table (canonical a)) ≡ None
unfolding keys_of
root_known false facts a = refl
root_known true facts a = refl

table_stands : (parts : ℤ) (name : List ℕ) (ms : Members) → Passes parts (key name Needed (alone Table) (alone Anything)) (Some (table ms))
table_stands parts name ms = record {
  stands = refl;
  types = record { value = refl; items = refl };
  numbers = record { value = refl; items = refl };
  ranges = record { value = refl; items = refl };
}

-- how many signals there may be in a version
count_in : (second wanted : Bool) (n : ℕ) → in_range least_signals (if second then most_signals else most_first_signals) n ≡ true → second ≡ wanted
    → in_range least_signals (if wanted then most_signals else most_first_signals) n ≡ true
count_in second wanted n e is = ap (λ b. in_range least_signals (if b then most_signals else most_first_signals) n) (sym is) ∙ e

not_true : (b : Bool) → not b ≡ true → b ≡ false
not_true false e = refl
not_true true e = sym e

root_keys_pass : (links parts : ℕ) (a : Street) → StreetFits a → (stage : Stage)
    → first_fault (map (key_fault stage (known (a.head.version == second_version) links parts) Root (table (canonical a))) (keys_of Root)) ≡ None
unfolding keys_of
root_keys_pass links parts a fits stage =
    let d = table (canonical a) in
    let second = a.head.version == second_version in
    let facts = known second links parts in
    let few = λ (wanted : Bool) (is : second ≡ wanted).
    let most = if wanted then most_signals else most_first_signals in
    ap (λ ds. in_range least_signals most (length ds)) (list_of_items (map signal_data a.signals))
    ∙ ap (in_range least_signals most) (length-map a.signals signal_data) ∙ count_in second wanted (length a.signals) fits.count is in
    let signals = λ (most : ℕ) (w : When) (e : in_range least_signals most (length (items_in (array (items_of (map signal_data a.signals))))) ≡ true).
    passes_when (pos parts) w (codes "signal") Needed tables (alone (Length least_signals most)) _
    (tables_pass (pos parts) (codes "signal") Needed signal_data (Length least_signals most) a.signals (λ s. refl) e) in
    none_of (map (key_fault stage facts Root d) (keys_of Root)) (
      key_passes stage facts Root d _ _ (number_passes (pos parts) (codes "version") Optional (Between (pos first_version) (pos second_version)) a.head.version fits.version) refl,
      (
        key_passes stage facts Root d _ _ (table_stands (pos parts) (codes "artery") (head_members a.head)) refl,
        (
          key_passes_in stage facts Root d _ _ (λ e. signals most_first_signals First (few false (not_true second e))) refl,
          (
            key_passes_in stage facts Root d _ _ (λ e. signals most_signals Second (few true e)) refl,
            (
              key_passes stage facts Root d _ _ (tables_pass (pos parts) (codes "link") Needed link_data Anything a.links (λ l. refl) refl) refl,
              tt,
            ),
          ),
        ),
      ),
    )

-- ---- the whole
-- the two tests of equal numbers say the same
same_test : (a b : Bool) → (a ≡ true → b ≡ true) → (b ≡ true → a ≡ true) → a ≡ b
same_test true true f g = refl
same_test true false f g = sym (f refl)
same_test false true f g = g refl
same_test false false f g = refl

same_of : (n m : ℕ) → (n == m) ≡ true → n ≡ m
same_of n m e = grind (arith, nat_tests)

is_number : (v w : ℕ) → int_eq (pos v) (pos w) ≡ (v == w)
is_number v w =
    let decides = Decides-int_eq (pos v) (pos w) in
    same_test (int_eq (pos v) (pos w)) (v == w) (λ e. eq-eqb v w (ap unsigned_abs (decides.0 e))) (λ e. decides.1 (ap pos (same_of v w e)))

facts_known : (a : Street) → facts_of (table (canonical a)) ≡ known (a.head.version == second_version) (length a.links) a.head.parts
facts_known a =
    let links = ap length (list_of_items (map link_data a.links)) ∙ length-map a.links link_data in
    let parts = ap (λ o. integer_in (unwrap_or o (array no_items))) (head_keys a.head).parts in
    let second = is_number a.head.version second_version in
    λ k. record { links = links k; parts = parts k; second = second k; timed_out = false; timed_in = false }

stage_passes : (stage : Stage) (a : Street) → All HasFour a.signals → StreetFits a → first_fault (stage_tests Description stage (facts_of (table (canonical a))) (table (canonical a))) ≡ None
stage_passes stage a four fits =
    let n = length a.links in
    let parts = a.head.parts in
    let second = a.head.version == second_version in
    let facts = known second n parts in
    let root = table_passes facts Root (canonical a) (root_known second facts a) (root_keys_pass n parts a fits) stage in
    let signals = ap (λ ds. first_fault (each_numbered (λ i. in_table stage facts (SignalTable i)) 1 ds)) (list_of_items (map signal_data a.signals))
    ∙ each_made HasFour (signal_ranges parts) (λ i. in_table stage facts (SignalTable i)) signal_data (λ i s h e. signal_passes stage second n parts i s h (signal_fits parts i s e))
    1 a.signals four fits.signals in
    let links = ap (λ ds. first_fault (each_numbered (λ i. in_table stage facts (LinkTable i)) 1 ds)) (list_of_items (map link_data a.links))
    ∙ each_made (λ l. Unit {0}) (link_ranges n) (λ i. in_table stage facts (LinkTable i)) link_data (λ i l h e. link_passes stage second n parts i l (link_fits n i l e))
    1 a.links (λ k l h. tt) fits.links in
    ap (λ f. first_fault (stage_tests Description stage f (table (canonical a)))) (facts_known a)
    ∙ none_of (stage_tests Description stage facts (table (canonical a))) (root, (head_passes stage n parts a.head fits.head, (signals, (links, tt))))

pub canonical_passes : (a : Street) → artery_fault a ≡ None → All HasFour a.signals → description_fault (table (canonical a)) ≡ None
canonical_passes a e four =
    let fits = street_fits a e in
    let passes = λ (stage : Stage). stage_passes stage a four fits in
    let values = none_of (value_tests Description (table (canonical a))) (passes Keys, (passes NeededKeys, (passes Types, (passes Numbers, (passes Ranges, tt))))) in
    none_of (first_fault (value_tests Description (table (canonical a))) ∷ artery_fault (street_in (table (canonical a))) ∷ []) (values, (ap artery_fault (street_back a four fits) ∙ e, tt))
