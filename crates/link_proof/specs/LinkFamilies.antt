-- The families of rows that a link certificate names: those of an artery, by their numbers, and then those of links.
use Rattle.std.specs.Prelude.{◌++◌}
use Rattle.linear_theory.specs.Names.{families}
use Rattle.link_theory.specs.LinkNames.{link_families}
use Rattle.certificate_model.specs.Families.{Table, names_of}

unfoldable pub links : Table
links = names_of families ++ names_of link_families
