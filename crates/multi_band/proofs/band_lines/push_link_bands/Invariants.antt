use Rattle.std.proofs.Common.{◌≡◌, ◌-◌, ◌++◌, flat_map}
use Rattle.std.specs.List.{range_with_len}
use Rattle.multi_band.specs.LinkReport.{both_band_lines}
use Rattle.multi_band.proofs.band_lines.push_link_bands.Given as goal

abbrev pub invariant-loop-link : goal.invariant-loop-link
invariant-loop-link l = l.out.items ≡ l.fn.out.items ++ flat_map (both_band_lines l.artery l.timing) (range_with_len 1 (l.link - 1))
