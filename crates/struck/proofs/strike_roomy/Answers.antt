-- `struck::strike_roomy` meets its contract. The loop's invariant: the sources before the one worked on are done in both plans (Pairing), and
-- what is known of the next ones in each holds (Knows).
-- Assumes nothing.
use mathlib.Core.Path.{◌∙◌}
use native.Mathlib.Omega.{arith}
use Rattle.forward.proofs.WidthLaws.{knows_none, knows_next, knows_later}
use Rattle.struck.proofs.ParkLaws.{pairing_room, pairing_cleared, pairing_none, pairing_refill, pairing_kept, pairing_ready}
use Rattle.struck.proofs.ParkLaws.{pairing_over, pairing_small, pairing_more, pairing_all, pairing_before}
use Rattle.struck.proofs.strike_roomy.Goals as goal

pub fill_part-requires : goal.fill_part-requires
fill_part-requires c = pairing_room _ 0 _ _ _ _ _ _ _ c.requires

pub loop-source-init : goal.loop-source-init
loop-source-init c = (
  pairing_none _ _ _ _ _ _ _ _ _ c.requires _ c.fill_part.ensures,
  rw c.no_splits-whole.ensures (knows_none _ _ _ _ _ _ (omega arith)),
  rw c.no_splits-lacking.ensures (knows_none _ _ _ _ _ _ (omega arith)),
)

pub refilled-whole-requires : goal.refilled-whole-requires
refilled-whole-requires c =
    let pre = pairing_cleared _ 0 _ _ _ _ _ _ _ c.requires _ c.fill_part.ensures in
    pairing_refill _ _ _ _ _ _ _ _ _ pre _ _ _ c.loop-source.invariant.0 _ c.loop-source-test.true _ c.loop-source.invariant.1

pub refilled-lacking-requires : goal.refilled-lacking-requires
refilled-lacking-requires c =
    let pre = pairing_cleared _ 0 _ _ _ _ _ _ _ c.requires _ c.fill_part.ensures in
    let whole = c.refilled-whole.ensures in
    let mid = pairing_kept _ _ _ _ _ _ _ _ _ pre _ _ _ c.loop-source.invariant.0 _ whole.beyond whole.same_length in
    pairing_refill _ _ _ _ _ _ _ _ _ pre _ _ _ mid _ c.loop-source-test.true _ c.loop-source.invariant.2

pub strike_both-used-requires : goal.strike_both-used-requires
strike_both-used-requires c =
    let pre = pairing_cleared _ 0 _ _ _ _ _ _ _ c.requires _ c.fill_part.ensures in
    let whole = c.refilled-whole.ensures in
    let mid = pairing_kept _ _ _ _ _ _ _ _ _ pre _ _ _ c.loop-source.invariant.0 _ whole.beyond whole.same_length in
    let lacking = c.refilled-lacking.ensures in
    let now = pairing_kept _ _ _ _ _ _ _ _ _ pre _ _ _ mid _ lacking.beyond lacking.same_length in (
      pairing_ready _ _ _ _ _ _ _ _ _ pre _ _ _ now c.loop-source-test.true,
      record {
        with_record = rw c.next_split.ensures (knows_next _ _ _ _ _ _ _ whole.knows whole.some);
        without_record = rw c.next_split-in-loop-source.ensures (knows_next _ _ _ _ _ _ _ lacking.knows lacking.some);
      },
    )

pub shape_of-work-in_err-pairs : goal.shape_of-work-in_err-pairs
shape_of-work-in_err-pairs c =
    c.strike_both-used.auto.work ∙ c.refilled-lacking.auto.work ∙ c.refilled-whole.auto.work ∙ c.loop-source.invariant.0.same_length ∙ c.fill_part.auto.table

pub returns-in_err-pairs : goal.returns-in_err-pairs
returns-in_err-pairs c =
    let pre = pairing_cleared _ 0 _ _ _ _ _ _ _ c.requires _ c.fill_part.ensures in
    let whole = c.refilled-whole.ensures in
    let mid = pairing_kept _ _ _ _ _ _ _ _ _ pre _ _ _ c.loop-source.invariant.0 _ whole.beyond whole.same_length in
    let lacking = c.refilled-lacking.ensures in
    let now = pairing_kept _ _ _ _ _ _ _ _ _ pre _ _ _ mid _ lacking.beyond lacking.same_length in
    rw c.from_residual.ensures
    (pairing_before _ _ _ _ _ _ _ _ _ c.requires _ _ _ c.fill_part.ensures
    (pairing_over _ _ _ _ _ _ _ _ _ pre _ _ _ now c.loop-source-test.true _ (rw c.in_err-pairs.was at c.strike_both-used.ensures)))

pub later_splits-whole-requires : goal.later_splits-whole-requires
later_splits-whole-requires c = c.refilled-whole.ensures.some

pub later_splits-lacking-requires : goal.later_splits-lacking-requires
later_splits-lacking-requires c = c.refilled-lacking.ensures.some

pub overflow_add-pairs : goal.overflow_add-pairs
overflow_add-pairs c =
    let pre = pairing_cleared _ 0 _ _ _ _ _ _ _ c.requires _ c.fill_part.ensures in
    let whole = c.refilled-whole.ensures in
    let mid = pairing_kept _ _ _ _ _ _ _ _ _ pre _ _ _ c.loop-source.invariant.0 _ whole.beyond whole.same_length in
    let lacking = c.refilled-lacking.ensures in
    let now = pairing_kept _ _ _ _ _ _ _ _ _ pre _ _ _ mid _ lacking.beyond lacking.same_length in
    omega (arith, pairing_small _ _ _ _ _ _ _ _ _ pre _ _ _ now c.loop-source-test.true _ _ (rw c.in_ok-pairs.was at c.strike_both-used.ensures))

pub loop-source-preserved : goal.loop-source-preserved
loop-source-preserved c =
    let pre = pairing_cleared _ 0 _ _ _ _ _ _ _ c.requires _ c.fill_part.ensures in
    let whole = c.refilled-whole.ensures in
    let mid = pairing_kept _ _ _ _ _ _ _ _ _ pre _ _ _ c.loop-source.invariant.0 _ whole.beyond whole.same_length in
    let lacking = c.refilled-lacking.ensures in
    let now = pairing_kept _ _ _ _ _ _ _ _ _ pre _ _ _ mid _ lacking.beyond lacking.same_length in (
      pairing_more _ _ _ _ _ _ _ _ _ pre _ _ _ now c.loop-source-test.true _ _ (rw c.in_ok-pairs.was at c.strike_both-used.ensures),
      rw c.later_splits-whole.ensures (knows_later _ _ _ _ _ _ _ whole.knows whole.some),
      rw c.later_splits-lacking.ensures (knows_later _ _ _ _ _ _ _ lacking.knows lacking.some),
    )

pub shape_of-work : goal.shape_of-work
shape_of-work c =
    c.loop-source.invariant.0.same_length ∙ c.fill_part.auto.table

pub returns : goal.returns
returns c =
    let pre = pairing_cleared _ 0 _ _ _ _ _ _ _ c.requires _ c.fill_part.ensures in
    pairing_before _ _ _ _ _ _ _ _ _ c.requires _ _ _ c.fill_part.ensures
    (pairing_all _ _ _ _ _ _ _ _ _ pre _ _ _ c.loop-source.invariant.0 (omega arith))
