-- `reach_lasting::unmark` meets its contract. The loop's invariant: taking the marks of the records from k on away gives what taking away all
-- gives.
-- Assumes nothing.
use native.Mathlib.Omega.{arith}
use Rattle.reach_lasting.proofs.MarkLaws.{unmarking_none, unmarking_more, unmarking_all}
use Rattle.reach_lasting.proofs.unmark.Goals as goal

pub loop-k-init : goal.loop-k-init
loop-k-init c = unmarking_none _ _ _ _ _

pub unmark_record-requires : goal.unmark_record-requires
unmark_record-requires c =
    (omega (arith, c.loop-k.invariant.same), c.requires.1, c.requires.2 _ c.loop-k.invariant.from c.loop-k-test.true)

pub loop-k-preserved : goal.loop-k-preserved
loop-k-preserved c =
    unmarking_more _ _ _ _ _ _ _ _ c.loop-k-test.true c.unmark_record.ensures c.loop-k.invariant

pub returns : goal.returns
returns c = unmarking_all _ _ _ _ _ _ _ (omega arith) c.loop-k.invariant
