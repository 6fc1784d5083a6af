use Rattle.std.proofs.Common.{refl, inr, arith}
use Rattle.whole_offsets.proofs.Runs.{least_kept}
use Rattle.whole_offsets.proofs.lines.no_band.Goals as goal

pub returns : goal.returns
returns c = let l = c.in_ok-runs.ensures.long in let few = c.known_valid.ensures.few in record {
  long = omega (arith, l, few);
  kept = least_kept c.args.artery.now c.args.base.now c.args.dir c.in_ok-runs.runs.items c.requires.runs c.in_ok-runs.ensures;
  first_below = c.requires.some;
  band_below = c.requires.some;
  line = inr (record { none = c.requires.none; nothing = refl }, refl);
}
