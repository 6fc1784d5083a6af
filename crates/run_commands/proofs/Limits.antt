-- The settings of each request are in their limits.
use Rattle.std.proofs.Common.{◌≡◌, ℕ, ◌-◌, ◌^◌, ◌<◌, ◌≤◌, Bool, true, false, List, [], ◌∷◌, Option, Some, None, codes, refl, subst, length, take, drop, nat_le, ◌&&◌, arith}
use Rattle.std.specs.Prelude.{option_map, option_and_then, IfSome, if◌then◌else◌}
use Rattle.std.specs.Str.{bytes_eq}
use Rattle.std.proofs.lemmas.Bool.{leb-true}
use Rattle.std.proofs.lemmas.List.{length-take-le}
use Rattle.std.proofs.lemmas.List.Elements.{All-nil}
use Rattle.work_meter.specs.Work.{IsBelow}
use Rattle.artery_model.specs.Limits.{is_name}
use Rattle.description_reader.specs.References.{reference_named}
use Rattle.description_reader.specs.declared.measure.Reference as moment
use Rattle.run_inputs.specs.Cycles.{cycle_of, seconds_of, spells, are_spelled, Spell}
use Rattle.run_inputs.specs.Numbers.{number_within, signals_of, seed_of, limit_of}
use Rattle.run_inputs.proofs.Spelled.{in_limits}
use Rattle.run_inputs.proofs.Cycling.{cycles_spelled}
use Rattle.run_commands.specs.declared.settings.Setting.{Setting}
use Rattle.run_commands.specs.declared.settings.Setting.TheVariants.{Signals, Seed, Limit, Work, Cycles, WholeCycles, Title, Reference, Word}
use Rattle.run_commands.specs.declared.table.Usage.{Usage}
use Rattle.run_commands.specs.declared.table.TheConstants.{USAGES}
use Rattle.run_commands.specs.Settings.{Settings, unsaid, InLimits}
use Rattle.run_commands.specs.Table.{row, readers}
use Rattle.run_commands.specs.Words.{named, said, may_be_left_out, takes_all, all_left, none_left, all_said, Request, request, with_output, asked_with, request_of}
use Rattle.run_commands.specs.Requested.{IsFit}

limit_low : (all : Bool) (number : Option ℕ) → ((n : ℕ) → number ≡ Some n → 1 ≤ n) → (limit : Option ℕ)
    → (if all then Some None else option_map Some number) ≡ Some limit → IsBelow 0 limit
limit_low true number h limit e = let same : None ≡ limit = cc in subst (λ o. IsBelow 0 o) same tt
limit_low false None h limit e = absurd cc
limit_low false (Some n) h limit e =
    let same : Some n ≡ limit = cc in
    let some : 0 < n = let l = h n refl in omega arith in
    subst (λ o. IsBelow 0 o) same some

some_limit : (w : List ℕ) (limit : Option ℕ) → limit_of w ≡ Some limit → IsBelow 0 limit
some_limit w limit e = limit_low (bytes_eq w (codes "all")) (number_within 1 (2 ^ 64 - 1) w) (λ n f. (in_limits 1 (2 ^ 64 - 1) w n f).0) limit e

-- ---- one word
with_limit : (o : Option (Option ℕ)) (s : Settings) → ((l : Option ℕ) → o ≡ Some l → IsBelow 0 l) → InLimits s
    → IfSome (option_map (λ (n : Option ℕ). record s { limit = n }) o) InLimits
with_limit None s h k = tt
with_limit (Some l) s h k = record { limit = h l refl; least = k.least; most = k.most; cycles = k.cycles; whole_cycles = k.whole_cycles; title = k.title }

with_signals : (o : Option ℕ) (s : Settings) → ((n : ℕ) → o ≡ Some n → (2 ≤ n) × (n ≤ 16)) → InLimits s
    → IfSome (option_map (λ (n : ℕ). record s { signals = n }) o) InLimits
with_signals None s h k = tt
with_signals (Some n) s h k = let l = h n refl in record { limit = k.limit; least = l.0; most = l.1; cycles = k.cycles; whole_cycles = k.whole_cycles; title = k.title }

with_seed : (o : Option ℕ) (s : Settings) → InLimits s → IfSome (option_map (λ (n : ℕ). record s { seed = n }) o) InLimits
with_seed None s k = tt
with_seed (Some n) s k = record { limit = k.limit; least = k.least; most = k.most; cycles = k.cycles; whole_cycles = k.whole_cycles; title = k.title }

with_title : (w : List ℕ) (s : Settings) (fit : Bool) → is_name w ≡ fit → InLimits s → IfSome (if fit then Some (record s { title = Some w }) else None) InLimits
with_title w s true e k = record { limit = k.limit; least = k.least; most = k.most; cycles = k.cycles; whole_cycles = k.whole_cycles; title = e }
with_title w s false e k = tt

with_reference : (o : Option moment.Reference) (s : Settings) → InLimits s → IfSome (option_map (λ (r : moment.Reference). record s { reference = r }) o) InLimits
with_reference None s k = tt
with_reference (Some r) s k = record { limit = k.limit; least = k.least; most = k.most; cycles = k.cycles; whole_cycles = k.whole_cycles; title = k.title }

with_about : (o : Option Usage) (s : Settings) → InLimits s → IfSome (option_map (λ (u : Usage). record s { about = Some u }) o) InLimits
with_about None s k = tt
with_about (Some u) s k = record { limit = k.limit; least = k.least; most = k.most; cycles = k.cycles; whole_cycles = k.whole_cycles; title = k.title }

said_limits : (k : Setting) (w : List ℕ) (s : Settings) → InLimits s → IfSome (said k w s) InLimits
said_limits Signals w s h = with_signals (signals_of w) s (in_limits 2 16 w) h
said_limits Seed w s h = with_seed (seed_of w) s h
said_limits Limit w s h = with_limit (limit_of w) s (some_limit w) h
said_limits Work w s h = with_limit (limit_of w) s (some_limit w) h
said_limits Cycles w s h = tt
said_limits WholeCycles w s h = tt
said_limits Word w s h = with_about (named USAGES w) s h
said_limits Title w s h = with_title w s (is_name w) refl h
said_limits Reference w s h = with_reference (reference_named w) s h

-- ---- all words
if_limits : (b : Bool) (s : Settings) → InLimits s → IfSome (if b then Some s else None) InLimits
if_limits true s h = h
if_limits false s h = tt

-- what holds of what an option has and of what follows from it
after : {A B : Type 0} (p : A → Type 0) (q : B → Type 0) (o : Option A) (f : A → Option B) → IfSome o p → ((a : A) → p a → IfSome (f a) q) → IfSome (option_and_then f o) q
after p q None f h k = tt
after p q (Some a) f h k = k a h

mapped : {A B : Type 0} (p : A → Type 0) (q : B → Type 0) (o : Option A) (f : A → B) → IfSome o p → ((a : A) → p a → q (f a)) → IfSome (option_map f o) q
mapped p q None f h k = tt
mapped p q (Some a) f h k = k a h

either : (b : Bool) (x y : Option Settings) → IfSome x InLimits → IfSome y InLimits → IfSome (if b then x else y) InLimits
either true x y h k = h
either false x y h k = k

cycles_limits : (ws : List (List ℕ)) (s : Settings) (fit : Bool) → (fit ≡ true → Spell cycle_of ws) → InLimits s
    → IfSome (if fit then Some (record s { cycles = ws }) else None) InLimits
cycles_limits ws s true h k = record { limit = k.limit; least = k.least; most = k.most; cycles = h refl; whole_cycles = k.whole_cycles; title = k.title }
cycles_limits ws s false h k = tt

seconds_limits : (ws : List (List ℕ)) (s : Settings) (fit : Bool) → (fit ≡ true → Spell seconds_of ws) → InLimits s
    → IfSome (if fit then Some (record s { whole_cycles = ws }) else None) InLimits
seconds_limits ws s true h k = record { limit = k.limit; least = k.least; most = k.most; cycles = k.cycles; whole_cycles = h refl; title = k.title }
seconds_limits ws s false h k = tt

left_limits : (k : Setting) (ws : List (List ℕ)) (s : Settings) → InLimits s → IfSome (all_left k ws s) InLimits
left_limits Cycles ws s h = cycles_limits ws s (are_spelled cycle_of ws) (cycles_spelled cycle_of ws) h
left_limits WholeCycles ws s h = seconds_limits ws s (are_spelled seconds_of ws) (cycles_spelled seconds_of ws) h
left_limits k ws s h = tt

all_limits : (ks : List Setting) (ws : List (List ℕ)) (s : Settings) → InLimits s → IfSome (all_said ks ws s) InLimits
all_limits [] [] s h = h
all_limits [] (w ∷ ws) s h = tt
all_limits (k ∷ ks) (w ∷ ws) s h =
    either (takes_all k) (all_left k (w ∷ ws) s) (option_and_then (all_said ks ws) (said k w s))
    (left_limits k (w ∷ ws) s h)
    (after InLimits InLimits (said k w s) (all_said ks ws) (said_limits k w s h) (all_limits ks ws))
all_limits (k ∷ ks) [] s h = if_limits (may_be_left_out k && none_left ks) s h

unsaid_limits : InLimits unsaid
unsaid_limits = record {
  limit = omega arith;
  least = omega arith;
  most = omega arith;
  cycles = All-nil (λ word. spells cycle_of word ≡ true);
  whole_cycles = All-nil
      (λ word. spells seconds_of word ≡ true);
  title = tt;
}

said_limits_of : (u : Usage) (ws : List (List ℕ)) → IfSome (all_said (row u).settings ws unsaid) InLimits
said_limits_of u ws = all_limits (row u).settings ws unsaid unsaid_limits

-- ---- a request
output_fits : (u : Usage) (reads : List (List ℕ)) (puts : Bool) (ws : List (List ℕ)) → length reads ≡ length (readers u) → IfSome (with_output u reads puts ws) IsFit
output_fits u reads false ws e =
    mapped InLimits IsFit (all_said (row u).settings ws unsaid) (request u reads None) (said_limits_of u ws) (λ s h. record { names = e; limits = h })
output_fits u reads true [] e = tt
output_fits u reads true (w ∷ ws) e =
    mapped InLimits IsFit (all_said (row u).settings ws unsaid) (request u reads (Some w)) (said_limits_of u ws) (λ s h. record { names = e; limits = h })

chosen : (b : Bool) (o : Option Request) → (b ≡ true → IfSome o IsFit) → IfSome (if b then o else None) IsFit
chosen true o h = h refl
chosen false o h = tt

any : (o : Option Usage) → IfSome o (λ u. Unit {0})
any None = tt
any (Some u) = tt

as_many : (u : Usage) (ws : List (List ℕ)) → nat_le (length (readers u)) (length ws) ≡ true → length (take (length (readers u)) ws) ≡ length (readers u)
as_many u ws e = length-take-le (length (readers u)) ws (leb-true _ _ e)

asked_fits : (ws : List (List ℕ)) (u : Usage) → IfSome (asked_with ws u) IsFit
asked_fits ws u =
    chosen (nat_le (length (readers u)) (length ws)) (with_output u (take (length (readers u)) ws) (row u).puts (drop (length (readers u)) ws))
    (λ e. output_fits u (take (length (readers u)) ws) (row u).puts (drop (length (readers u)) ws) (as_many u ws e))

pub request_fits : (words : List (List ℕ)) → IfSome (request_of words) IsFit
request_fits [] = tt
request_fits (w ∷ ws) = after (λ u. Unit {0}) IsFit (named USAGES w) (asked_with ws) (any (named USAGES w)) (λ u h. asked_fits ws u)
