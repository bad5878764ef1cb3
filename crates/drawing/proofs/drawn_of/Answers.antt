-- `drawing::drawn_of` meets its contract: the doubles of the figures, or zeros.
-- Assumes nothing.
use Rattle.drawing.proofs.FigureLaws.{drawn_idle, drawn_carries}
use Rattle.drawing.proofs.drawn_of.Goals as goal

pub returns-in-Idle : goal.returns-in-Idle
returns-in-Idle c = drawn_idle _ _ _ _ c.figures_of.ensures c.in-Idle.is

pub returns-in-Carries : goal.returns-in-Carries
returns-in-Carries c = drawn_carries _ _ _ _ c.figures_of.ensures _ _ c.in-Carries.is
