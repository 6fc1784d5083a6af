-- The made artery passes every test.
use Rattle.std.proofs.Common.{◌≡◌, ℕ, ◌+◌, ◌-◌, ◌*◌, ◌≤◌, List, length, None, Some, true, refl, sym, ◌∙◌, ap, subst, eq-eqb, arith}
use Rattle.std.specs.Fmt.{digits, decimal}
use Rattle.std.specs.Prelude.{codes, ◌++◌}
use Rattle.std.specs.List.{range_with_len, list_all}
use Rattle.std.proofs.lemmas.List.FromFn.{length-map-range_with_len}
use Rattle.std.proofs.lemmas.Option.{none-some}
use Rattle.rational_theory.specs.Rational.{whole}
use Rattle.rational_theory.specs.Compare.{cmp_ℚ}
use Rattle.progression.specs.Street.{Street, count}
use Rattle.progression.specs.declared.parts.Head.{Head}
use Rattle.progression.specs.declared.parts.Signal.{Signal}
use Rattle.progression.specs.declared.parts.Link.{Link}
use Rattle.artery_model.specs.Faults.{first_fault, artery_place, Names, fault_of}
use Rattle.artery_model.specs.Limits.{is_name, in_range, head_ranges, signal_ranges, link_ranges, has_pattern, has_green, in_order, link_limits, range_tests, rule_tests, artery_fault}
use Rattle.artery_model.specs.declared.kind.Flaw.{Flaw}
use Rattle.artery_model.specs.declared.kind.Refusal.{Refusal}
use Rattle.artery_model.specs.declared.kind.Flaw.TheVariants.{Refused}
use Rattle.workload_maker.specs.Made.{made_head, red_drawn, left_drawn, distance_drawn, made_signal, made_link, made_street}
use Rattle.workload_maker.proofs.Passing.{passes, then, is_below, is_in_range, each_of, each_passes}
use Rattle.workload_maker.proofs.Names.{names_differ}

-- the head's numbers lie within their limits
head_in_range : first_fault (head_ranges made_head) ≡ None
unfolding whole cmp_ℚ
head_in_range = refl

-- the limits of its cycle don't cross
cycle_in_order : in_order made_head.cycle (artery_place (codes "cycle")) ≡ None
unfolding whole cmp_ℚ
cycle_in_order = refl

-- the names of the signals up to 16 are short and plain
names_fit : list_all (λ i. is_name (codes "S" ++ decimal i)) (range_with_len 0 17) ≡ true
unfolding digits
names_fit = refl

-- the name of one signal
name_fits : (i : ℕ) → i ≤ 16 → is_name (codes "S" ++ decimal i) ≡ true
name_fits i le = each_of (λ i. is_name (codes "S" ++ decimal i)) 0 17 i names_fit (omega arith) (omega arith)

-- a signal's red and left turns lie within their limits
signal_in_range : (seed i : ℕ) → i ≤ 16 → signal_ranges 100 i (made_signal seed i) ≡ None
signal_in_range seed i le =
    then _ _ (passes _ _ _ (name_fits i le))
    (then _ _ (passes _ _ _ (is_in_range 1 99 (red_drawn seed (3 * i - 2)) (omega arith) (omega arith)))
    (then _ _ (passes _ _ _ (is_below (left_drawn seed (3 * i - 1)) 100 (omega arith)))
    (then _ _ (passes _ _ _ (is_below (left_drawn seed (3 * i)) 100 (omega arith)))
    refl)))

-- a red of at most 50 parts and a left turn of at most 10 leave some green
signal_has_green : (seed i : ℕ) → has_green 100 i (made_signal seed i) ≡ None
signal_has_green seed i =
    then _ _ (passes _ _ _ (is_below (red_drawn seed (3 * i - 2) + left_drawn seed (3 * i - 1)) 100 (omega arith)))
    (then _ _ (passes _ _ _ (is_below (red_drawn seed (3 * i - 2) + left_drawn seed (3 * i)) 100 (omega arith)))
    refl)

-- a link's length and speeds lie within their limits
link_in_range : (seed n m i : ℕ) → link_ranges m i (made_link seed n i) ≡ None
unfolding whole cmp_ℚ
link_in_range seed n m i =
    let fits : in_range 1 30000 (distance_drawn seed (3 * n + i)) ≡ true = is_in_range 1 30000 (distance_drawn seed (3 * n + i)) (omega arith) (omega arith) in
    then _ _ (passes _ _ _ fits) (then _ _ (passes _ _ _ fits) refl)

-- the limits of its speeds don't cross
link_in_order : (seed n i : ℕ) → link_limits i (made_link seed n i) ≡ None
unfolding whole cmp_ℚ
link_in_order seed n i = refl

-- there are n signals
signals_counted : (n seed : ℕ) → count (made_street n seed) ≡ n
signals_counted n seed = length-map-range_with_len (made_signal seed) 1 n

-- there is one link fewer
links_counted : (n seed : ℕ) → length (made_street n seed).links ≡ n - 1
links_counted n seed = length-map-range_with_len (made_link seed n) 1 (n - 1)

-- no value lies outside its limits
ranges_pass : (n seed : ℕ) → 2 ≤ n → n ≤ 16 → first_fault (range_tests (made_street n seed)) ≡ None
ranges_pass n seed few many =
    let signals = signals_counted n seed in
    let links = length (made_street n seed).links in
    then _ _ (passes _ _ _ (is_in_range 2 16 (count (made_street n seed)) (omega arith) (omega arith)))
    (then _ _ head_in_range
    (then _ _ (each_passes (signal_ranges 100) (made_signal seed) 16 (λ i le. signal_in_range seed i le) 1 n (omega arith))
    (then _ _ (each_passes (link_ranges links) (made_link seed n) 15 (λ i le. link_in_range seed n links i) 1 (n - 1) (omega arith))
    refl)))

-- no rule between values is broken
rules_pass : (n seed : ℕ) → 2 ≤ n → n ≤ 16 → first_fault (rule_tests (made_street n seed)) ≡ None
rules_pass n seed few many =
    let one_fewer : length (made_street n seed).links + 1 ≡ count (made_street n seed) = omega (arith, signals_counted n seed, links_counted n seed) in
    then _ _ (passes _ _ _ (eq-eqb _ _ one_fewer))
    (then _ _ (names_differ n seed many)
    (then _ _ (each_passes has_pattern (made_signal seed) 16 (λ i le. refl) 1 n (omega arith))
    (then _ _ (each_passes (has_green 100) (made_signal seed) 16 (λ i le. signal_has_green seed i) 1 n (omega arith))
    (then _ _ cycle_in_order
    (then _ _ (each_passes link_limits (made_link seed n) 15 (λ i le. link_in_order seed n i) 1 (n - 1) (omega arith))
    refl)))))

-- every test passes
made_passes : (n seed : ℕ) → 2 ≤ n → n ≤ 16 → artery_fault (made_street n seed) ≡ None
made_passes n seed few many = then _ _ (ranges_pass n seed few many) (then _ _ (rules_pass n seed few many) refl)

-- what passes every test isn't refused
pub never_refused : (n seed : ℕ) (head : Head) (signals : List Signal) (links : List Link) (flaw : Flaw) (r : Refusal) → 2 ≤ n → n ≤ 16
    → head ≡ made_head → signals ≡ (made_street n seed).signals → links ≡ (made_street n seed).links
    → flaw ≡ Refused r → Names flaw (artery_fault (record { head = head; signals = signals; links = links })) → ⊥
never_refused n seed head signals links flaw r few many of_head of_signals of_links refused named =
    let given : Street = record { head = head; signals = signals; links = links } in
    let same : given ≡ made_street n seed = rw (of_head, of_signals, of_links) refl in
    let fault : artery_fault given ≡ Some (fault_of r) = subst (λ f. Names f (artery_fault given)) refused named in
    none-some (fault_of r) (sym (made_passes n seed few many) ∙ sym (ap artery_fault same) ∙ fault)
