use Rattle.std.proofs.Common.{◌≡◌, ◌++◌, ◌-◌, ◌≤◌}
use Rattle.std.specs.List.{flat_map, range_with_len}
use Rattle.street_words.specs.Streets.{link_line}
use Rattle.street_words.proofs.street.push_links.Given as goal

abbrev pub invariant-loop-link : goal.invariant-loop-link
invariant-loop-link l = (1 ≤ l.link) × (l.out.items ≡ l.fn.out.items ++ flat_map (link_line l.artery) (range_with_len 1 (l.link - 1)))
