-- A link timing on a finer grid is good exactly where it is good here.
use Rattle.std.proofs.Common.{◌≡◌, ℕ, ◌+◌, ◌-◌, ◌*◌, ◌<◌, ◌≤◌, length, map, List, arith, ap, sym, ◌∙◌}
use Rattle.std.specs.Prelude.{ℤ, pos, ◌*ℤ◌, ◌-ℤ◌, ◌↔◌}
use Rattle.std.proofs.lemmas.List.{length-map}
use Rattle.progression.specs.Street.{Street, count, red_parts}
use Rattle.progression.specs.BaseRecord.{BaseRecord, cycle}
use Rattle.progression.specs.Green.{BandIsGreen, red_start, red_ticks}
use Rattle.progression.specs.Lines.{line_at}
use Rattle.progression.specs.Good.{IsBase, RatioHolds}
use Rattle.progression.specs.declared.parts.Dir.{Dir}
use Rattle.progression.specs.declared.parts.Dir.TheVariants.{Outbound, Inbound}
use Rattle.artery_model.specs.Valid.{IsValid}
use Rattle.time_space.specs.Finer.{finer_base}
use Rattle.time_space.proofs.Scale.{finer_grids, minus_scale}
use Rattle.time_space.proofs.Multiples.{ratio_finer}
use Rattle.time_space.proofs.FinerGrids.{get_or-scale, cycle_finer, red_start_finer, red_ticks_finer, crossing_finer, mul-le, below, red_bounds, base_both}
use Rattle.link_theory.specs.LinkRecord.{LinkRecord, link_base, lines, half}
use Rattle.link_theory.specs.GoodLinks.{GoodLinks, IsGreenAround}
use Rattle.link_space.specs.FinerLinks.{finer_links, FinerLinkGrids}

module _ (a : Street) (t : LinkRecord) (m : ℕ) where
  half_finer : (d : Dir) (i : ℕ) → half (finer_links m t) d i ≡ half t d i * m
  half_finer Outbound i = get_or-scale t.half_out (i - 1) m
  half_finer Inbound i = get_or-scale t.half_in (i - 1) m

  line_finer : (d : Dir) (i : ℕ) → line_at a (lines (finer_links m t)) d i ≡ line_at a (lines t) d i *ℤ pos m
  line_finer Outbound i = crossing_finer a (link_base t) m Outbound t.first_out (i - 1)
  line_finer Inbound i = crossing_finer a (link_base t) m Inbound t.first_in (count a - i)

  -- where a band about a line begins
  edge_finer : (d : Dir) (i k : ℕ) → line_at a (lines (finer_links m t)) d i -ℤ pos (k * m) ≡ (line_at a (lines t) d i -ℤ pos k) *ℤ pos m
  edge_finer d i k = rw (line_finer d i) (minus_scale (line_at a (lines t) d i) (pos k) m)

  width_finer : (k : ℕ) → 2 * (k * m) ≡ 2 * k * m
  width_finer k = omega arith

  abbrev finer_there : BaseRecord
  finer_there = finer_base m (link_base t)

  -- the numbers of a band, m times as large
  around_at_finer : (P : ℕ → ℤ → ℕ → ℤ → ℕ → Type 0) (d : Dir) (i k : ℕ)
      → P (cycle a (link_base t) * m) (red_start a (link_base t) d i *ℤ pos m) (red_ticks a (link_base t) d i * m) ((line_at a (lines t) d i -ℤ pos k) *ℤ pos m) (2 * k * m)
      → P (cycle a finer_there) (red_start a finer_there d i) (red_ticks a finer_there d i) (line_at a (lines (finer_links m t)) d i -ℤ pos (k * m)) (2 * (k * m))
  around_at_finer P d i k p =
      rw (cycle_finer a (link_base t) m, red_start_finer a (link_base t) m d i, red_ticks_finer a (link_base t) m d i, edge_finer d i k, width_finer k) p

  around_from_finer : (P : ℕ → ℤ → ℕ → ℤ → ℕ → Type 0) (d : Dir) (i k : ℕ)
      → P (cycle a finer_there) (red_start a finer_there d i) (red_ticks a finer_there d i) (line_at a (lines (finer_links m t)) d i -ℤ pos (k * m)) (2 * (k * m))
      → P (cycle a (link_base t) * m) (red_start a (link_base t) d i *ℤ pos m) (red_ticks a (link_base t) d i * m) ((line_at a (lines t) d i -ℤ pos k) *ℤ pos m) (2 * k * m)
  around_from_finer P d i k p =
      rw (cycle_finer a (link_base t) m, red_start_finer a (link_base t) m d i, red_ticks_finer a (link_base t) m d i, edge_finer d i k, width_finer k) at p

module _ (a : Street) (t : LinkRecord) (m : ℕ) (h : IsValid a) (u : 2 ≤ t.unit) (q : 1 ≤ m) where
  around_both : (d : Dir) (i k : ℕ) → i - 1 < count a → IsGreenAround a t d i k ↔ IsGreenAround a (finer_links m t) d i (k * m)
  around_both d i k l =
      let b = link_base t in
      let r = red_bounds a h d i l in
      let some : 1 * 2 ≤ red_parts a d i * t.unit = mul-le r.0 u in
      let less : red_parts a d i * t.unit < a.head.parts * t.unit = below r.1 (omega arith) in
      let law = finer_grids (cycle a b) (red_ticks a b d i) (2 * k) m (red_start a b d i) (line_at a (lines t) d i -ℤ pos k) (omega arith) less q in (
        (λ g. around_at_finer a t m (λ c r s x b. BandIsGreen c r s x b) d i k (law.0 g)),
        (λ g. law.1 (around_from_finer a t m (λ c r s x b. BandIsGreen c r s x b) d i k g)),
      )

  -- with the half of a link
  green_finer : (d : Dir) (i link : ℕ) → i - 1 < count a → IsGreenAround a t d i (half t d link) → IsGreenAround a (finer_links m t) d i (half (finer_links m t) d link)
  green_finer d i link l g = rw (half_finer a t m d link) ((around_both d i (half t d link) l).0 g)

  green_coarser : (d : Dir) (i link : ℕ) → i - 1 < count a → IsGreenAround a (finer_links m t) d i (half (finer_links m t) d link) → IsGreenAround a t d i (half t d link)
  green_coarser d i link l g = (around_both d i (half t d link) l).1 (rw (half_finer a t m d link) at g)

  ratio_both : (i : ℕ) → RatioHolds a.head.ratio (half t Outbound i) (half t Inbound i) ↔ RatioHolds a.head.ratio (half (finer_links m t) Outbound i) (half (finer_links m t) Inbound i)
  ratio_both i = rw (half_finer a t m Outbound i, half_finer a t m Inbound i) (ratio_finer a.head.ratio (half t Outbound i) (half t Inbound i) m q)

  base_there : IsBase a (link_base t) ↔ IsBase a (link_base (finer_links m t))
  base_there = base_both a (link_base t) m h u q

  -- as many halves
  as_many : (d : List ℕ) → length (map (λ n. n * m) d) ≡ length d
  as_many d = length-map d (λ n. n * m)

  finer_good : GoodLinks a t → GoodLinks a (finer_links m t)
  finer_good g =
      let base = base_there.0 g.base in record {
        formed = record { base = base.formed; half_out = ap (λ n. n + 1) (as_many t.half_out) ∙ g.formed.half_out; half_in = ap (λ n. n + 1) (as_many t.half_in) ∙ g.formed.half_in };
        base = base;
        ratio = λ i l. (ratio_both i).0 (g.ratio i l);
        here = λ d i l. green_finer d i i (omega arith) (g.here d i l);
        there = λ d i l. green_finer d (i + 1) i (omega arith) (g.there d i l);
      }

  coarser_good : GoodLinks a (finer_links m t) → GoodLinks a t
  coarser_good g =
      let base = base_there.1 g.base in record {
        formed = record { base = base.formed; half_out = ap (λ n. n + 1) (sym (as_many t.half_out)) ∙ g.formed.half_out; half_in = ap (λ n. n + 1) (sym (as_many t.half_in)) ∙ g.formed.half_in };
        base = base;
        ratio = λ i l. (ratio_both i).1 (g.ratio i l);
        here = λ d i l. green_coarser d i i (omega arith) (g.here d i l);
        there = λ d i l. green_coarser d (i + 1) i (omega arith) (g.there d i l);
      }

pub finer_link_grids : FinerLinkGrids
finer_link_grids a t m h u q = (finer_good a t m h u q, coarser_good a t m h u q)
