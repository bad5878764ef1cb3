-- `stale::gather_next` meets its contract: the window is that of before, or is gathered.
-- Assumes nothing.
use Rattle.std.proofs.Common.{ap, arith}
use Rattle.stale.proofs.WindowSteps.{next_same, next_stop, next_other}
use Rattle.stale.proofs.gather_next.Goals as goal
use Rattle.stale.proofs.gather_next.Goals.{else-v-last-via-else-v-last, else-v-last-via-then-v-last+else-gather_window}

pub returns-then-gather_window : goal.returns-then-gather_window
returns-then-gather_window c =
    next_stop _ _ _ _ _ _ _ _ _ _ _ _ (ap (λ d. d.sender) c.kept_contact-v.ensures) _ _ (omega arith)
    c.gather_window.ensures c.if-gather_window.true

pub returns : goal.returns
returns c =
    elim c.else-v-last.branch [
      | else-v-last-via-else-v-last w ↦
          rw w.work-is (next_same _ _ _ _ _ _ _ _ _ _ _ _ (ap (λ d. d.sender) c.kept_contact-v.ensures) (omega arith))
      | else-v-last-via-then-v-last+else-gather_window w ↦
          rw w.work-is (next_other _ _ _ _ _ _ _ _ _ _ _ _ (ap (λ d. d.sender) c.kept_contact-v.ensures) _ _ (omega arith)
          w.gather_window.ensures w.if-gather_window.false)
    ]
