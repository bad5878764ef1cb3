-- `tallies::tally_sources` meets its contract. The loop's invariant: the sources below the one worked on are done (Summing), and what is
-- known of the next ones holds (Knows).
-- Assumes nothing.
use mathlib.Core.Path.{◌∙◌}
use native.Mathlib.Omega.{arith}
use Rattle.forward.proofs.WidthLaws.{knows_none, knows_next, knows_later}
use Rattle.tallies.proofs.SourceLaws.{summing_none, summing_ready, summing_kept}
use Rattle.tallies.proofs.SourceLaws.{summing_over, summing_more, summing_all, all_room, all_cleared, tallied_cleared}
use Rattle.tallies.proofs.SourceLaws.{source_whole, done_whole, source_refill}
use Rattle.tallies.proofs.tally_sources.Goals as goal

pub fill_part-requires : goal.fill_part-requires
fill_part-requires c = all_room _ _ _ _ _ _ _ _ _ c.requires

pub loop-source-init : goal.loop-source-init
loop-source-init c = (
  summing_none _ _ _ _ _ _ _ _ _ c.requires _ c.fill_part.ensures,
  rw c.no_splits-splits.ensures (knows_none _ _ _ _ _ _ (omega arith)),
)

pub refilled-splits-requires : goal.refilled-splits-requires
refilled-splits-requires c =
    let pre = all_cleared _ _ _ _ _ _ _ _ _ c.requires _ c.fill_part.ensures in
    let ready = summing_ready _ _ _ _ _ _ _ _ _ pre _ _ c.loop-source.invariant.0 c.loop-source-test.true in
    source_refill _ _ _ _ _ _ _ _ _ (source_whole _ _ _ _ _ _ _ _ _ ready) _ _ c.loop-source-test.true c.requires.asked.sources
    c.loop-source.invariant.1

pub tally_source-requires : goal.tally_source-requires
tally_source-requires c =
    let pre = all_cleared _ _ _ _ _ _ _ _ _ c.requires _ c.fill_part.ensures in
    let knows = c.refilled-splits.ensures in
    let now = summing_kept _ _ _ _ _ _ _ _ _ c.loop-source.invariant.0 _ knows.beyond knows.same_length in (
      source_whole _ _ _ _ _ _ _ _ _ (summing_ready _ _ _ _ _ _ _ _ _ pre _ _ now c.loop-source-test.true),
      rw c.next_split-width.ensures (knows_next _ _ _ _ _ _ _ knows.knows knows.some),
    )

pub shape_of-work-then-tally_source : goal.shape_of-work-then-tally_source
shape_of-work-then-tally_source c =
    c.tally_source.auto.work ∙ c.refilled-splits.auto.work ∙ c.loop-source.invariant.0.kept.same_length ∙ c.fill_part.auto.table

pub returns-then-tally_source : goal.returns-then-tally_source
returns-then-tally_source c =
    let pre = all_cleared _ _ _ _ _ _ _ _ _ c.requires _ c.fill_part.ensures in
    let knows = c.refilled-splits.ensures in
    let now = summing_kept _ _ _ _ _ _ _ _ _ c.loop-source.invariant.0 _ knows.beyond knows.same_length in
    tallied_cleared _ _ _ _ _ _ _ _ _ c.requires _ _ _ c.fill_part.ensures
    (summing_over _ _ _ _ _ _ _ _ _ pre _ _ now c.loop-source-test.true _
    (done_whole _ _ _ _ _ _ _ _ _ (rw c.if-tally_source.true at c.tally_source.ensures)))

pub later_splits-splits-requires : goal.later_splits-splits-requires
later_splits-splits-requires c = c.refilled-splits.ensures.some

pub loop-source-preserved : goal.loop-source-preserved
loop-source-preserved c =
    let pre = all_cleared _ _ _ _ _ _ _ _ _ c.requires _ c.fill_part.ensures in
    let knows = c.refilled-splits.ensures in
    let now = summing_kept _ _ _ _ _ _ _ _ _ c.loop-source.invariant.0 _ knows.beyond knows.same_length in (
      summing_more _ _ _ _ _ _ _ _ _ pre _ _ now c.loop-source-test.true _
          (done_whole _ _ _ _ _ _ _ _ _ (rw c.if-tally_source.false at c.tally_source.ensures)),
      rw c.later_splits-splits.ensures (knows_later _ _ _ _ _ _ _ knows.knows knows.some),
    )

pub shape_of-work : goal.shape_of-work
shape_of-work c =
    c.loop-source.invariant.0.kept.same_length ∙ c.fill_part.auto.table

pub returns : goal.returns
returns c =
    let pre = all_cleared _ _ _ _ _ _ _ _ _ c.requires _ c.fill_part.ensures in
    tallied_cleared _ _ _ _ _ _ _ _ _ c.requires _ _ _ c.fill_part.ensures
    (summing_all _ _ _ _ _ _ _ _ _ pre _ _ c.loop-source.invariant.0 (omega arith))
