-- `reach_lasting::settle_record` meets its contract: a hearer that is not marked is taken in, and marked.
-- Assumes nothing.
use native.Mathlib.Omega.{arith}
use Rattle.reach_lasting.proofs.OnceLaws.{hearer_place, hearer_within, record_taken, record_marked}
use Rattle.reach_lasting.proofs.settle_record.Goals as goal

pub overflow_mul-mark : goal.overflow_mul-mark
overflow_mul-mark c =
    let spot = hearer_place _ _ _ _ c.contact_at-c.ensures _ _ _ c.requires.2 c.requires.1 c.requires.0.counts in
    omega (arith, c.well_formed.1.1.1.0.0)

pub offset_bounds-counts-mark : goal.offset_bounds-counts-mark
offset_bounds-counts-mark c =
    let spot = hearer_place _ _ _ _ c.contact_at-c.ensures _ _ _ c.requires.2 c.requires.1 c.requires.0.counts in
    omega (arith, c.well_formed.1.1.1.0.1)

pub bounds-counts-mark : goal.bounds-counts-mark
bounds-counts-mark c =
    omega (arith, hearer_place _ _ _ _ c.contact_at-c.ensures _ _ _ c.requires.2 c.requires.1 c.requires.0.counts)

pub overflow_add-mark : goal.overflow_add-mark
overflow_add-mark c =
    let spot = hearer_place _ _ _ _ c.contact_at-c.ensures _ _ _ c.requires.2 c.requires.1 c.requires.0.counts in
    omega (arith, c.well_formed.1.1.1.0.0)

pub settle_one-requires : goal.settle_one-requires
settle_one-requires c =
    hearer_within _ _ _ _ c.contact_at-c.ensures _ _ _ _ c.requires.2 c.requires.1 c.requires.0

pub offset_bounds-counts-mark-then-count-lt2 : goal.offset_bounds-counts-mark-then-count-lt2
offset_bounds-counts-mark-then-count-lt2 c =
    let spot = hearer_place _ _ _ _ c.contact_at-c.ensures _ _ _ c.requires.2 c.requires.1 c.requires.0.counts in
    omega (arith, c.well_formed.1.1.1.0.1)

pub bounds-counts-mark-then-count-lt2 : goal.bounds-counts-mark-then-count-lt2
bounds-counts-mark-then-count-lt2 c =
    omega (arith, hearer_place _ _ _ _ c.contact_at-c.ensures _ _ _ c.requires.2 c.requires.1 c.requires.0.counts)

pub returns-then-count-lt2 : goal.returns-then-count-lt2
returns-then-count-lt2 c =
    record_taken _ _ _ _ c.contact_at-c.ensures _ _ _ c.if-count-lt2.true c.settle_one.ensures

pub returns-else-count-lt2 : goal.returns-else-count-lt2
returns-else-count-lt2 c = record_marked _ _ _ _ c.contact_at-c.ensures _ _ c.if-count-lt2.false
