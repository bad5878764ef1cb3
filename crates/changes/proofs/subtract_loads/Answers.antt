-- `changes::subtract_loads` meets its contract. The loop's invariant: the entries before v are differences, the others untouched.
-- Assumes nothing.
use Prim.Native.Nat.{◌<◌}
use native.Mathlib.Omega.{arith}
use Rattle.changes.specs.Changes.{with_differences}
use Rattle.changes.proofs.WritingLaws.{writing_none, writing_all}
use Rattle.changes.proofs.ChangeLaws.{load_fits, loads_fit, load_is, entry_is, difference_more}
use Rattle.changes.proofs.subtract_loads.Goals as goal

pub loop-v-init : goal.loop-v-init
loop-v-init c = writing_none _ _ _

pub overflow_cast-changes : goal.overflow_cast-changes
overflow_cast-changes c = load_fits _ (c.requires.writable.small _ (omega arith))

pub overflow_sub-changes : goal.overflow_sub-changes
overflow_sub-changes c =
    let pre = c.requires in
    let inside : c.loop-v.v < c.args.n = omega arith in
    let load = load_is _ _ _ _ _ inside pre.writable in
    let entry = entry_is _ _ _ _ _ inside pre _ c.loop-v.invariant in
    search (loads_fit, load, entry)

pub loop-v-preserved : goal.loop-v-preserved
loop-v-preserved c =
    difference_more _ _ _ _ _ (omega arith) c.requires _ c.loop-v.invariant

pub shape_of-changes : goal.shape_of-changes
shape_of-changes c = c.loop-v.invariant.same_length

pub returns : goal.returns
unfolding with_differences
returns c = writing_all _ _ _ _ _ (omega arith) c.loop-v.invariant
