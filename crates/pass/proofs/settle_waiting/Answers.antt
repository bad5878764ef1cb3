-- `pass::settle_waiting` meets its contract: what waits is taken in and the waiting entry cleared; where the count is over 2^64 - 1 or does
-- not fit a lane, nothing is changed.
-- Assumes nothing.
use Rattle.std.proofs.Common.{sym, ◌∙◌}
use Rattle.pass.proofs.PlaceLaws.{settled_over, settled_stop, settled_go}
use Rattle.pass.proofs.settle_waiting.Goals as goal
use Rattle.pass.proofs.settle_waiting.Goals.{then-over-via-then-over, then-over-via-else-over+then-take_in}

pub returns-then-over : goal.returns-then-over
returns-then-over c =
    elim c.then-over.branch [
      | then-over-via-then-over w ↦
          rw w.work-is (settled_over _ _ _ _ _ _ _ _ _ c.requires.3 (sym w.if-over.true ∙ c.over.ensures))
      | then-over-via-else-over+then-take_in w ↦
          rw w.work-is (settled_stop _ _ _ _ _ _ _ _ _ _ c.requires.3 (sym w.if-over.false ∙ c.over.ensures)
          (rw w.if-take_in.true at w.take_in.ensures))
    ]

pub returns : goal.returns
returns c =
    settled_go _ _ _ _ _ _ _ _ _ _ c.requires.3 (sym c.if-over.false ∙ c.over.ensures)
    (rw c.if-take_in.false at c.take_in.ensures)
