-- What a node of an ordinary certificate keeps.
use Rattle.certificate_model.specs.Families.{ordinary}
use Rattle.certificate_model.specs.Warrants.{Node, IsNodeIn}

abbrev pub IsNode : Node → Type 0
IsNode n = IsNodeIn ordinary n
