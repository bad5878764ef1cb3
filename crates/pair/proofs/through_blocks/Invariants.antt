-- `pair::through_blocks` meets its contract. The loop's invariant: the stations below low are stored. The measure is the number
-- of stations left, which falls since no block is empty.
-- Assumes nothing.
use Prim.Native.Nat.{◌-◌}
use Rattle.plan.specs.Setting.{terms_of}
use Rattle.pair.proofs.BlockLaws.{Blocks}
use Rattle.pair.proofs.through_blocks.Given as goal

abbrev pub invariant-loop-low : goal.invariant-loop-low
invariant-loop-low l =
    Blocks l.question.plan.now l.question.setting.stations l.question.setting.slots (terms_of l.question.setting) l.depth l.most l.question.source l.question.destination l.until l.initial.through l.initial.work l.low l.through l.work l.slot

abbrev pub decreases-loop-low : goal.decreases-loop-low
decreases-loop-low l = l.question.setting.stations - l.low
