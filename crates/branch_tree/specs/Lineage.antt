-- Along a line of splits every box is a box of the artery.
use Rattle.progression.specs.Street.{Street}
use Rattle.branch_and_bound.specs.Lines.{BoxLine}
use Rattle.branch_and_bound.specs.Lineages.{Ending}
use Rattle.branch_tree.specs.ArteryProgram.{program_of}
use Rattle.box_search.specs.Ends.{ending_of}

abbrev pub line_ending : Street → BoxLine → Ending
line_ending a line = ending_of (program_of a) line
