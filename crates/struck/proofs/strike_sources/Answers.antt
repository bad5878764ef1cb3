-- `struck::strike_sources` meets its contract. The loop's invariant: the sources before the one worked on are done (Striking), and what is
-- known of the next ones without the record holds (Knows).
-- Assumes nothing.
use mathlib.Core.Path.{◌∙◌}
use native.Mathlib.Omega.{arith}
use Rattle.forward.proofs.WidthLaws.{knows_none, knows_next, knows_later}
use Rattle.struck.proofs.StrikeLaws.{striking_room, striking_cleared, striking_none, striking_refill, striking_kept}
use Rattle.struck.proofs.StrikeLaws.{striking_ready, striking_over, striking_small, striking_more, striking_all, struck_cleared}
use Rattle.struck.proofs.strike_sources.Goals as goal

pub fill_part-requires : goal.fill_part-requires
fill_part-requires c = striking_room _ 0 _ _ _ _ _ _ _ c.requires

pub loop-source-init : goal.loop-source-init
loop-source-init c =
    (striking_none _ _ _ _ _ _ _ _ _ c.requires _ c.fill_part.ensures, rw c.no_splits-splits.ensures (knows_none _ _ _ _ _ _ (omega arith)))

pub refilled-splits-requires : goal.refilled-splits-requires
refilled-splits-requires c =
    let pre = striking_cleared _ 0 _ _ _ _ _ _ _ c.requires _ c.fill_part.ensures in
    striking_refill _ _ _ _ _ _ _ _ _ pre _ _ _ c.loop-source.invariant.0 c.loop-source-test.true _ c.loop-source.invariant.1

pub strike_source-requires : goal.strike_source-requires
strike_source-requires c =
    let pre = striking_cleared _ 0 _ _ _ _ _ _ _ c.requires _ c.fill_part.ensures in
    let knows = c.refilled-splits.ensures in
    let now = striking_kept _ _ _ _ _ _ _ _ _ pre _ _ _ c.loop-source.invariant.0 _ knows.beyond knows.same_length in (
      striking_ready _ _ _ _ _ _ _ _ _ pre _ _ _ now c.loop-source-test.true,
      rw c.next_split-width.ensures (knows_next _ _ _ _ _ _ _ knows.knows knows.some),
    )

pub shape_of-work-in_err-pairs : goal.shape_of-work-in_err-pairs
shape_of-work-in_err-pairs c =
    c.strike_source.auto.work ∙ c.refilled-splits.auto.work ∙ c.loop-source.invariant.0.summing.kept.same_length ∙ c.fill_part.auto.table

pub returns-in_err-pairs : goal.returns-in_err-pairs
returns-in_err-pairs c =
    let pre = striking_cleared _ 0 _ _ _ _ _ _ _ c.requires _ c.fill_part.ensures in
    let knows = c.refilled-splits.ensures in
    let now = striking_kept _ _ _ _ _ _ _ _ _ pre _ _ _ c.loop-source.invariant.0 _ knows.beyond knows.same_length in
    rw c.from_residual.ensures
    (struck_cleared _ _ _ _ _ _ _ _ _ c.requires _ _ _ c.fill_part.ensures
    (striking_over _ _ _ _ _ _ _ _ _ pre _ _ _ now c.loop-source-test.true _ c.in_err-pairs.ensures))

pub later_splits-splits-requires : goal.later_splits-splits-requires
later_splits-splits-requires c = c.refilled-splits.ensures.some

pub overflow_add-pairs : goal.overflow_add-pairs
overflow_add-pairs c =
    let pre = striking_cleared _ 0 _ _ _ _ _ _ _ c.requires _ c.fill_part.ensures in
    let knows = c.refilled-splits.ensures in
    let now = striking_kept _ _ _ _ _ _ _ _ _ pre _ _ _ c.loop-source.invariant.0 _ knows.beyond knows.same_length in
    omega (arith, striking_small _ _ _ _ _ _ _ _ _ pre _ _ _ now c.loop-source-test.true _ _ c.in_ok-pairs.ensures)

pub loop-source-preserved : goal.loop-source-preserved
loop-source-preserved c =
    let pre = striking_cleared _ 0 _ _ _ _ _ _ _ c.requires _ c.fill_part.ensures in
    let knows = c.refilled-splits.ensures in
    let now = striking_kept _ _ _ _ _ _ _ _ _ pre _ _ _ c.loop-source.invariant.0 _ knows.beyond knows.same_length in (
      striking_more _ _ _ _ _ _ _ _ _ pre _ _ _ now c.loop-source-test.true _ _ c.in_ok-pairs.ensures,
      rw c.later_splits-splits.ensures (knows_later _ _ _ _ _ _ _ knows.knows knows.some),
    )

pub shape_of-work : goal.shape_of-work
shape_of-work c =
    c.loop-source.invariant.0.summing.kept.same_length ∙ c.fill_part.auto.table

pub returns : goal.returns
returns c =
    let pre = striking_cleared _ 0 _ _ _ _ _ _ _ c.requires _ c.fill_part.ensures in
    struck_cleared _ _ _ _ _ _ _ _ _ c.requires _ _ _ c.fill_part.ensures
    (striking_all _ _ _ _ _ _ _ _ _ pre _ _ _ c.loop-source.invariant.0 (omega arith))
