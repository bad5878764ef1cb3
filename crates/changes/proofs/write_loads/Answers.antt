-- `changes::write_loads` meets its contract. The loop's invariant: the entries before v are loads, the others untouched.
-- Assumes nothing.
use native.Mathlib.Omega.{arith}
use Rattle.changes.specs.Changes.{with_loads}
use Rattle.changes.proofs.WritingLaws.{writing_none, writing_all}
use Rattle.changes.proofs.ChangeLaws.{load_fits, load_more}
use Rattle.changes.proofs.write_loads.Goals as goal

pub loop-v-init : goal.loop-v-init
loop-v-init c = writing_none _ _ _

pub overflow_cast-changes : goal.overflow_cast-changes
overflow_cast-changes c = load_fits _ (c.requires.small _ (omega arith))

pub loop-v-preserved : goal.loop-v-preserved
loop-v-preserved c = load_more _ _ _ _ _ (omega arith) c.requires _ c.loop-v.invariant

pub shape_of-changes : goal.shape_of-changes
shape_of-changes c = c.loop-v.invariant.same_length

pub returns : goal.returns
unfolding with_loads
returns c = writing_all _ _ _ _ _ (omega arith) c.loop-v.invariant
