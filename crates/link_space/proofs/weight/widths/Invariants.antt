use Rattle.std.proofs.Common.{◌≡◌, ◌*◌, ◌≤◌, ◌^◌, take}
use Rattle.std.specs.List.{sum}
use Rattle.link_space.proofs.weight.widths.Given as goal

-- the sum of the halves so far, each of them small
abbrev pub invariant-loop-half : goal.invariant-loop-half
invariant-loop-half l = record {
  sum : l.total ≡ sum (take l.half-index l.halves);
  small : l.total ≤ l.half-index * 2 ^ 80;
}
