-- The same link timing on a finer grid, and the law that it is good there exactly where it is good here.
use Rattle.std.specs.Prelude.{ℕ, ◌*◌, ◌≤◌, map, pos, ◌*ℤ◌, ◌↔◌}
use Rattle.progression.specs.Street.{Street}
use Rattle.artery_model.specs.Valid.{IsValid}
use Rattle.time_space.specs.Finer.{finer_base}
use Rattle.link_theory.specs.LinkRecord.{LinkRecord, link_base, link_banded}
use Rattle.link_theory.specs.GoodLinks.{GoodLinks}

-- on a grid that is m times as fine
abbrev pub finer_links : ℕ → LinkRecord → LinkRecord
finer_links m t =
    link_banded (t.first_out *ℤ pos m) (map (λ n. n * m) t.half_out) (t.first_in *ℤ pos m) (map (λ n. n * m) t.half_in) (finer_base m (link_base t))

-- so a test at whole ticks tests every moment
abbrev pub FinerLinkGrids : Type 0
FinerLinkGrids = (a : Street) (t : LinkRecord) (m : ℕ) → IsValid a → 2 ≤ t.unit → 1 ≤ m → GoodLinks a t ↔ GoodLinks a (finer_links m t)
