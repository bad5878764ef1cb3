-- `pass::combine_rows` meets its contract.
-- Assumes nothing.
use Rattle.pass.proofs.RowLaws.{combining_more, combining_all}
use Rattle.pass.proofs.combine_rows.Goals as goal

pub loop-j-preserved : goal.loop-j-preserved
loop-j-preserved g c =
    λ h says. rw (says _ _ _ c.f.ensures) (combining_more h _ _ _ _ _ _ c.loop-j-test.true (c.loop-j.invariant h says))

pub returns : goal.returns
returns g c = λ h says. combining_all h _ _ _ _ _ _ c.loop-j-test.false (c.loop-j.invariant h says)
