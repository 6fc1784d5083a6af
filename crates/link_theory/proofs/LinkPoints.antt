-- What the point of a link timing has in each column.
use Rattle.std.proofs.Common.{◌≡◌, ℕ, ◌+◌, ◌-◌, ◌≤◌, length, get_or, map, refl, ◌∙◌, arith, length-append}
use Rattle.std.proofs.lemmas.List.{length-map, get_or-map, get_or_append_left}
use Rattle.progression.specs.Street.{Street, count, HasLink}
use Rattle.progression.specs.Speeds.{number}
use Rattle.progression.specs.Columns.{Column, ticks, point}
use Rattle.progression.specs.declared.parts.Dir.{Dir}
use Rattle.progression.specs.declared.parts.Dir.TheVariants.{Outbound, Inbound}
use Rattle.linear_theory.specs.Places.{place, width}
use Rattle.linear_theory.proofs.Places.{IsColumn}
use Rattle.linear_theory.proofs.Points.{behind, share, point_at, point_width, place_below}
use Rattle.link_theory.specs.LinkRecord.{LinkRecord, IsLinkRecord, lines, half}
use Rattle.link_theory.specs.LinkColumns.{link_width, half_place, link_point}

module _ (a : Street) (t : LinkRecord) (p : IsLinkRecord t) (s : length t.patterns ≡ count a) (two : 2 ≤ count a) where
  -- there is a half for each link
  pub halves_out : length t.half_out ≡ count a - 1
  halves_out = let n = p.half_out in omega arith

  pub halves_in : length t.half_in ≡ count a - 1
  halves_in = let n = p.half_in in omega arith

  lines_width : length (point a (lines t)) ≡ width (count a)
  lines_width = point_width a (lines t) (omega arith)

  out_width : length (map (share a (lines t)) t.half_out) ≡ count a - 1
  out_width = length-map t.half_out (share a (lines t)) ∙ halves_out

  in_width : length (map (share a (lines t)) t.half_in) ≡ count a - 1
  in_width = length-map t.half_in (share a (lines t)) ∙ halves_in

  -- it is as long as the width
  pub link_point_width : length (link_point a t) ≡ link_width (count a)
  link_point_width =
      let l = lines_width in let o = out_width in let i = in_width in
      rw (length-append, length-append) (omega arith)

  -- a column of the lines
  pub line_column_at : (c : Column) → IsColumn (count a) c → get_or (link_point a t) (place (count a) c) (number 0) ≡ share a (lines t) (ticks a (lines t) c)
  line_column_at c h =
      get_or_append_left (point a (lines t)) _ (number 0) (place (count a) c) (omega (arith, lines_width, place_below (count a) c (omega arith) h))
      ∙ point_at a (lines t) c (omega arith) h

  -- a half
  pub half_at : (d : Dir) (i : ℕ) → HasLink a i → get_or (link_point a t) (half_place (count a) d i) (number 0) ≡ share a (lines t) (half t d i)
  half_at Outbound i h =
      let l = h.0 in let m = h.1 in
      behind (point a (lines t)) _ (width (count a)) (i - 1) (half_place (count a) Outbound i) (number 0) lines_width (omega arith)
      ∙ get_or_append_left (map (share a (lines t)) t.half_out) _ (number 0) (i - 1) (omega (arith, out_width))
      ∙ get_or-map (share a (lines t)) t.half_out (i - 1) 0 (number 0) (omega (arith, halves_out))
  half_at Inbound i h =
      let l = h.0 in let m = h.1 in
      behind (point a (lines t)) _ (width (count a)) (count a - 1 + (i - 1)) (half_place (count a) Inbound i) (number 0) lines_width (omega arith)
      ∙ behind (map (share a (lines t)) t.half_out) _ (count a - 1) (i - 1) (count a - 1 + (i - 1)) (number 0) out_width refl
      ∙ get_or-map (share a (lines t)) t.half_in (i - 1) 0 (number 0) (omega (arith, halves_in))
