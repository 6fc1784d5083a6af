-- What holds of a request that words ask for.
use Rattle.std.proofs.Common.{◌≡◌, ℕ, List, [], ◌∷◌, Bool, true, false, Option, Some, None, length, take, drop, nat_le, refl, sym, ap, subst}
use Rattle.std.specs.Prelude.{option_map, option_and_then, if◌then◌else◌}
use Rattle.run_commands.specs.Settings.{Settings, unsaid}
use Rattle.run_commands.specs.Table.{row, readers}
use Rattle.run_commands.specs.Words.{named, all_said, Request, request, with_output, asked_with, request_of}
use Rattle.run_commands.specs.declared.table.Usage.{Usage}
use Rattle.run_commands.specs.declared.table.TheConstants.{USAGES}

-- it is of this command, and names a file to be put only where that one puts any
pub record IsAskedOf (u : Usage) (r : Request) : Type 0 where
  pub usage_is : r.usage ≡ u
  pub output_is : (if (row u).puts then r.output else None) ≡ r.output

module _ (u : Usage) (reads : List (List ℕ)) where
  with_settings : (output : Option (List ℕ)) (n : Option Settings) (r : Request) → option_map (request u reads output) n ≡ Some r → (r.usage ≡ u) × (r.output ≡ output)
  with_settings output None r e = absurd cc
  with_settings output (Some n) r e = let is : request u reads output n ≡ r = cc in (sym (ap (λ (q : Request). q.usage) is), sym (ap (λ (q : Request). q.output) is))

  output_asked : (puts : Bool) (ws : List (List ℕ)) (r : Request) → with_output u reads puts ws ≡ Some r → (r.usage ≡ u) × ((if puts then r.output else None) ≡ r.output)
  output_asked false ws r e = let h = with_settings None (all_said (row u).settings ws unsaid) r e in (h.0, sym h.1)
  output_asked true [] r e = absurd cc
  output_asked true (w ∷ ws) r e = let h = with_settings (Some w) (all_said (row u).settings ws unsaid) r e in (h.0, refl)

chosen : (b : Bool) (o : Option Request) (r : Request) → (if b then o else None) ≡ Some r → o ≡ Some r
chosen true o r e = e
chosen false o r e = absurd cc

asked_of : (ws : List (List ℕ)) (u : Usage) (r : Request) → asked_with ws u ≡ Some r → IsAskedOf u r
asked_of ws u r e =
    let first = take (length (readers u)) ws in
    let rest = drop (length (readers u)) ws in
    let h = output_asked u first (row u).puts rest r (chosen (nat_le (length (readers u)) (length ws)) (with_output u first (row u).puts rest) r e) in
    record { usage_is = h.0; output_is = h.1 }

-- the command of the first word
pub record IsAskedBy (w : List ℕ) (r : Request) : Type 0 where
  pub usage : Usage
  pub named_is : named USAGES w ≡ Some usage
  pub asked : IsAskedOf usage r

by_usage : (w : List ℕ) (ws : List (List ℕ)) (o : Option Usage) (r : Request) → named USAGES w ≡ o → option_and_then (asked_with ws) o ≡ Some r → IsAskedBy w r
by_usage w ws None r n e = absurd cc
by_usage w ws (Some u) r n e = record { usage = u; named_is = n; asked = asked_of ws u r e }

pub asked_by : (w : List ℕ) (ws : List (List ℕ)) (r : Request) → request_of (w ∷ ws) ≡ Some r → IsAskedBy w r
asked_by w ws r e = by_usage w ws (named USAGES w) r refl e

-- what words ask for names a file to be put only where its command puts any
abbrev pub PutsAsAsked : Option Request → Type 0
PutsAsAsked None = Unit {0}
PutsAsAsked (Some r) = (if (row r.usage).puts then r.output else None) ≡ r.output

puts_so : (w : List ℕ) (ws : List (List ℕ)) (o : Option Request) → request_of (w ∷ ws) ≡ o → PutsAsAsked o
puts_so w ws None e = tt
puts_so w ws (Some r) e =
    let h = (asked_by w ws r e).asked in
    subst (λ (u : Usage). (if (row u).puts then r.output else None) ≡ r.output) (sym h.usage_is) h.output_is

pub words_put : (words : List (List ℕ)) → PutsAsAsked (request_of words)
words_put [] = tt
words_put (w ∷ ws) = puts_so w ws (request_of (w ∷ ws)) refl
