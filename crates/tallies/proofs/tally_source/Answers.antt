-- `tallies::tally_source` meets its contract. The loop's invariant: the stations below low are done (Blocking), cause 9 does not hold where it is
-- said to be known, and the split is one that can be had. The measure is the number of stations left, the splits, and the pass without rows.
-- Assumes nothing.
use mathlib.Core.Path.{◌∙◌}
use native.Mathlib.Omega.{arith}
use Rattle.tallies.proofs.BlockLaws.{blocking_none, blocking_ready, blocking_over, blocking_more, blocking_known, blocking_again}
use Rattle.tallies.proofs.BlockLaws.{blocking_all, some_stations, known_few}
use Rattle.tallies.proofs.LaneLaws.{fewer_passes, narrower_split}
use Rattle.tallies.proofs.tally_source.Goals as goal

pub first_split-split-requires : goal.first_split-split-requires
first_split-split-requires c = (c.requires.0.units.most, c.requires.1.few)

pub loop-low-init : goal.loop-low-init
loop-low-init c =
    (c.first_split-split.ensures, known_few _ _ _ _ _ _ c.requires.1, blocking_none _ _ _ _ _ _ _ _ _ c.requires.0)

pub next_entries-entries-requires : goal.next_entries-entries-requires
next_entries-entries-requires c = (c.loop-low.invariant.0, omega (arith, c.requires.0.room.stations))

pub columns_of-requires : goal.columns_of-requires
columns_of-requires c =
    (c.loop-low.invariant.0, omega (arith, c.next_entries-entries.ensures.small, c.requires.0.room.stations))

pub tally_block-requires : goal.tally_block-requires
tally_block-requires c = (
  blocking_ready _ _ _ _ _ _ _ _ _ c.requires.0 _ _ c.loop-low.invariant.2 _ _ _ _ c.loop-low.invariant.0 c.next_entries-entries.ensures
      (rw c.columns_of.ensures at c.min-stations.ensures) c.loop-low-test.true,
  c.loop-low.invariant.1,
)

pub loop-low-smaller-in-Ok : goal.loop-low-smaller-in-Ok
loop-low-smaller-in-Ok c =
    fewer_passes _ _ _ _ _ (some_stations _ _ _ _ _ _ _ _ _ c.requires.0 _ _ c.loop-low.invariant.2 _ _ _ _ c.loop-low.invariant.0 c.next_entries-entries.ensures
    (rw c.columns_of.ensures at c.min-stations.ensures) c.loop-low-test.true) (omega (arith, c.min-stations.ensures))

pub loop-low-preserved-in-Ok : goal.loop-low-preserved-in-Ok
loop-low-preserved-in-Ok c =
    let done = c.in-Ok.ensures in (
      c.loop-low.invariant.0,
      λ is. blocking_known _ _ _ _ _ _ _ _ _ c.requires.0 _ _ c.loop-low.invariant.2 _ _ _ _ c.loop-low.invariant.0 c.next_entries-entries.ensures
          (rw c.columns_of.ensures at c.min-stations.ensures) c.loop-low-test.true _ done,
      blocking_more _ _ _ _ _ _ _ _ _ c.requires.0 _ _ c.loop-low.invariant.2 _ _ _ _ c.loop-low.invariant.0 c.next_entries-entries.ensures
          (rw c.columns_of.ensures at c.min-stations.ensures) c.loop-low-test.true _ done,
    )

pub shape_of-work-in-Err-TooMany : goal.shape_of-work-in-Err-TooMany
shape_of-work-in-Err-TooMany c =
    c.tally_block.auto.work ∙ c.loop-low.invariant.2.kept.same_length

pub returns-in-Err-TooMany : goal.returns-in-Err-TooMany
returns-in-Err-TooMany c =
    blocking_over _ _ _ _ _ _ _ _ _ c.requires.0 _ _ c.loop-low.invariant.2 _ _ _ _ c.loop-low.invariant.0 c.next_entries-entries.ensures
    (rw c.columns_of.ensures at c.min-stations.ensures) c.loop-low-test.true _
    (rw c.in-Err-TooMany.field-0-is at c.in-Err-TooMany.ensures)

pub overflow_sub-split : goal.overflow_sub-split
overflow_sub-split c =
    let (some, again) = blocking_again _ _ _ _ _ _ _ _ _ c.requires.0 _ _ c.loop-low.invariant.2 _ _ _ _ c.loop-low.invariant.0 c.next_entries-entries.ensures
    (rw c.columns_of.ensures at c.min-stations.ensures) c.loop-low-test.true _
    (rw c.in-Err-TooWide.field-0-is at c.in-Err-TooWide.ensures) in
    omega arith

pub loop-low-smaller : goal.loop-low-smaller
loop-low-smaller c =
    let (some, again) = blocking_again _ _ _ _ _ _ _ _ _ c.requires.0 _ _ c.loop-low.invariant.2 _ _ _ _ c.loop-low.invariant.0 c.next_entries-entries.ensures
    (rw c.columns_of.ensures at c.min-stations.ensures) c.loop-low-test.true _
    (rw c.in-Err-TooWide.field-0-is at c.in-Err-TooWide.ensures) in
    narrower_split c.loop-low.known _ _ _ some

pub loop-low-preserved : goal.loop-low-preserved
loop-low-preserved c =
    let (some, again) = blocking_again _ _ _ _ _ _ _ _ _ c.requires.0 _ _ c.loop-low.invariant.2 _ _ _ _ c.loop-low.invariant.0 c.next_entries-entries.ensures
    (rw c.columns_of.ensures at c.min-stations.ensures) c.loop-low-test.true _
    (rw c.in-Err-TooWide.field-0-is at c.in-Err-TooWide.ensures) in
    (let few = c.loop-low.invariant.0 in omega arith, c.loop-low.invariant.1, again)

pub shape_of-work : goal.shape_of-work
shape_of-work c = c.loop-low.invariant.2.kept.same_length

pub returns : goal.returns
returns c = blocking_all _ _ _ _ _ _ _ _ _ c.requires.0 _ _ c.loop-low.invariant.2 (omega arith)
