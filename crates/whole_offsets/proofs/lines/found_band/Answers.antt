use Rattle.std.proofs.Common.{refl, inl, arith}
use Rattle.whole_offsets.proofs.Runs.{takes}
use Rattle.whole_offsets.proofs.lines.found_band.Goals as goal

pub returns : goal.returns
returns c =
    let a = c.args.artery.now in let t = c.args.base.now in let d = c.args.dir in let free = c.args.free.now in let runs = c.in_ok-runs.runs.items in
    let l = c.in_ok-runs.ensures.long in let few = c.known_valid.ensures.few in record {
      long = omega (arith, l, few);
      kept = λ out back e. c.requires.free.speeds out back (takes a t d runs free c.in_ok-runs.ensures out back e);
      first_below = c.requires.first;
      band_below = c.requires.band;
      line = inl (record { green = λ out back e. c.requires.free.runs out back (takes a t d runs free c.in_ok-runs.ensures out back e); widest = c.requires.free.widest }, refl);
    }
