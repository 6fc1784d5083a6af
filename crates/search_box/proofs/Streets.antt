-- What the type of an artery keeps is what the linear model asks of a street.
use Rattle.std.proofs.Common.{ℕ, pos, ◌-◌, ◌<◌, ◌≤◌, arith}
use Rattle.std.proofs.lemmas.Int.{ints}
use Rattle.rational_theory.specs.Rational.{ℚ, whole, ◌<ℚ◌}
use Rattle.progression.specs.Street.{Street, HasSignal, HasLink, signal_of, link_of, red_parts, speed, no_signal, no_link}
use Rattle.progression.specs.Speeds.{number}
use Rattle.progression.specs.declared.parts.Dir.{Dir}
use Rattle.progression.specs.declared.parts.Dir.TheVariants.{Outbound, Inbound}
use Rattle.artery_model.specs.Valid.{IsValid, IsSignal, IsLink, IsSpeeds, IsQuantity}
use Rattle.linear_theory.specs.Counts.{IsStreet}

-- a quantity of at least 1 is above 0
above : {high : ℕ} (q : ℚ) → IsQuantity (pos 1) (pos high) q → number 0 <ℚ q
unfolding whole
above q h = let k = h.least in let p = q.positive in record { cross = omega (arith, ints, k, p) }

module _ (a : Street) (v : IsValid a) where
  signal_valid : (i : ℕ) → HasSignal a i → IsSignal a.head.parts (signal_of a i)
  signal_valid i h = let l = h.0 in let m = h.1 in v.each_signal (i - 1) no_signal (omega arith)

  link_valid : (i : ℕ) → HasLink a i → IsLink (link_of a i)
  link_valid i h = let l = h.0 in let m = h.1 in let n = v.one_fewer in v.each_link (i - 1) no_link (omega arith)

  some_red : (d : Dir) (i : ℕ) → HasSignal a i → 1 ≤ red_parts a d i
  some_red Outbound i h = let s = (signal_valid i h).red in omega arith
  some_red Inbound i h = let s = (signal_valid i h).red in omega arith

  some_green : (d : Dir) (i : ℕ) → HasSignal a i → red_parts a d i < a.head.parts
  some_green Outbound i h = (signal_valid i h).green_out
  some_green Inbound i h = (signal_valid i h).green_in

  speeds : (d : Dir) (i : ℕ) → HasLink a i → IsSpeeds (speed a d i)
  speeds Outbound i h = (link_valid i h).speed_out
  speeds Inbound i h = (link_valid i h).speed_in

  pub street_of : IsStreet a
  street_of = record {
    signals = let n = v.few in omega arith;
    red = some_red;
    green = some_green;
    cycle_least = above a.head.cycle.least v.cycle.least;
    cycle_most = above a.head.cycle.most v.cycle.most;
    speed_least = λ d i h. above (speed a d i).least (speeds d i h).least;
    speed_most = λ d i h. above (speed a d i).most (speeds d i h).most;
  }
