-- What `narrow` and `widen` find of an artery, what they write, and what they put.
use Rattle.std.specs.Prelude.{◌≡◌, ℕ, ◌-◌, List, [], ◌++◌, codes, if◌then◌else◌}
use Rattle.std.specs.List.{flat_map, range_with_len}
use Rattle.std.specs.Fmt.{decimal}
use Rattle.progression.specs.Street.{Street, count}
use Rattle.progression.specs.declared.parts.Dir.{Dir}
use Rattle.progression.specs.declared.parts.Dir.TheVariants.{Outbound, Inbound}
use Rattle.artery_model.specs.Valid.{IsValid}
use Rattle.speed_steps.specs.Moved.{street_moved, stays, limits_changed}
use Rattle.speed_steps.specs.declared.way.Way.{Way}
use Rattle.speed_steps.specs.declared.way.Way.TheVariants.{Inwards, Outwards}
use Rattle.description_reader.specs.Printed.{IsCanonicalText}
use Rattle.diagram_print.specs.Measures.{dir_name}
use Rattle.run_inputs.specs.declared.cause.Cause.{Cause}
use Rattle.run_inputs.specs.declared.cause.Cause.TheVariants as cause

-- ---- the lines
abbrev pub moved_word : Way → List ℕ
moved_word Inwards = codes "narrowed "
moved_word Outwards = codes "widened "

-- of a direction of which no limit can be moved
abbrev pub stays_line : Way → Street → Dir → ℕ → List ℕ
stays_line way a d i = if stays way a d i then codes "link " ++ (decimal i ++ (codes " " ++ (dir_name d ++ codes " stays\n"))) else []

abbrev pub link_lines : Way → Street → ℕ → List ℕ
link_lines way a i = stays_line way a Outbound i ++ stays_line way a Inbound i

abbrev pub stays_lines : Way → Street → List ℕ
stays_lines way a = flat_map (link_lines way a) (range_with_len 1 (count a - 1))

-- how many limits are others, and which directions stay
abbrev pub moved_lines : Way → Street → List ℕ
moved_lines way a = (moved_word way ++ (decimal (limits_changed way a) ++ codes "\n")) ++ stays_lines way a

-- ---- the answer
-- the canonical description of the street with its limits moved; the street is valid, so that the laws of `speed_steps` are about it
pub record IsMove (way : Way) (a : Street) (c : Cause) (lines text : List ℕ) : Type 0 where
  pub valid : IsValid a
  pub cause_is : c ≡ cause.Done
  pub lines_are : lines ≡ moved_lines way a
  pub text_is : IsCanonicalText (street_moved way a) text
