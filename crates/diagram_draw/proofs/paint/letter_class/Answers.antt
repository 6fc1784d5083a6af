use Rattle.std.proofs.Common.{sym, ap}
use Rattle.diagram_draw.specs.Shapes.{letter_class}
use Rattle.diagram_draw.proofs.paint.letter_class.Goals as goal

pub returns-in-Title : goal.returns-in-Title
returns-in-Title c = sym (ap letter_class c.in-Title.is)

pub returns-in-Facts : goal.returns-in-Facts
returns-in-Facts c = sym (ap letter_class c.in-Facts.is)

pub returns-in-Head : goal.returns-in-Head
returns-in-Head c = sym (ap letter_class c.in-Head.is)

pub returns-in-HeadEnd : goal.returns-in-HeadEnd
returns-in-HeadEnd c = sym (ap letter_class c.in-HeadEnd.is)

pub returns-in-HeadMiddle : goal.returns-in-HeadMiddle
returns-in-HeadMiddle c = sym (ap letter_class c.in-HeadMiddle.is)

pub returns-in-Name : goal.returns-in-Name
returns-in-Name c = sym (ap letter_class c.in-Name.is)

pub returns-in-Number : goal.returns-in-Number
returns-in-Number c = sym (ap letter_class c.in-Number.is)

pub returns-in-Axis : goal.returns-in-Axis
returns-in-Axis c = sym (ap letter_class c.in-Axis.is)

pub returns-in-Key : goal.returns-in-Key
returns-in-Key c = sym (ap letter_class c.in-Key.is)

pub returns-in-Note : goal.returns-in-Note
returns-in-Note c = sym (ap letter_class c.in-Note.is)

pub returns-in-Subtitle : goal.returns-in-Subtitle
returns-in-Subtitle c = sym (ap letter_class c.in-Subtitle.is)

pub returns-in-Mark : goal.returns-in-Mark
returns-in-Mark c = sym (ap letter_class c.in-Mark.is)
