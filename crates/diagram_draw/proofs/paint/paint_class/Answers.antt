use Rattle.std.proofs.Common.{sym, ap}
use Rattle.diagram_draw.specs.Shapes.{paint_class}
use Rattle.diagram_draw.proofs.paint.paint_class.Goals as goal

pub returns-in-Paper : goal.returns-in-Paper
returns-in-Paper c = sym (ap paint_class c.in-Paper.is)

pub returns-in-Plot : goal.returns-in-Plot
returns-in-Plot c = sym (ap paint_class c.in-Plot.is)

pub returns-in-Second : goal.returns-in-Second
returns-in-Second c = sym (ap paint_class c.in-Second.is)

pub returns-in-CycleEdge : goal.returns-in-CycleEdge
returns-in-CycleEdge c = sym (ap paint_class c.in-CycleEdge.is)

pub returns-in-Level : goal.returns-in-Level
returns-in-Level c = sym (ap paint_class c.in-Level.is)

pub returns-in-OutBand : goal.returns-in-OutBand
returns-in-OutBand c = sym (ap paint_class c.in-OutBand.is)

pub returns-in-InBand : goal.returns-in-InBand
returns-in-InBand c = sym (ap paint_class c.in-InBand.is)

pub returns-in-OutLine : goal.returns-in-OutLine
returns-in-OutLine c = sym (ap paint_class c.in-OutLine.is)

pub returns-in-InLine : goal.returns-in-InLine
returns-in-InLine c = sym (ap paint_class c.in-InLine.is)

pub returns-in-Ground : goal.returns-in-Ground
returns-in-Ground c = sym (ap paint_class c.in-Ground.is)

pub returns-in-CommonRed : goal.returns-in-CommonRed
returns-in-CommonRed c = sym (ap paint_class c.in-CommonRed.is)

pub returns-in-TurnRed : goal.returns-in-TurnRed
returns-in-TurnRed c = sym (ap paint_class c.in-TurnRed.is)

pub returns-in-OutWindow : goal.returns-in-OutWindow
returns-in-OutWindow c = sym (ap paint_class c.in-OutWindow.is)

pub returns-in-InWindow : goal.returns-in-InWindow
returns-in-InWindow c = sym (ap paint_class c.in-InWindow.is)

pub returns-in-Step : goal.returns-in-Step
returns-in-Step c = sym (ap paint_class c.in-Step.is)
