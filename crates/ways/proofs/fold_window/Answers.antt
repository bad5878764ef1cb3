-- `ways::fold_window` meets its contract: the sender's entry of the start and those of the window are lowered by the hearer's.
-- Assumes nothing.
use native.Mathlib.Omega.{arith}
use Rattle.ways.proofs.WindowLaws.{read_window, window_by}
use Rattle.ways.proofs.fold_window.Goals as goal

pub overflow_mul-row : goal.overflow_mul-row
overflow_mul-row c =
    let read = read_window _ _ _ _ _ c.requires c.contact_at-c.ensures in
    omega (arith, read.sender_row, c.well_formed.0.0)

pub overflow_mul-from : goal.overflow_mul-from
overflow_mul-from c =
    let read = read_window _ _ _ _ _ c.requires c.contact_at-c.ensures in
    omega (arith, read.hearer_row, c.well_formed.0.0)

pub overflow_add-from : goal.overflow_add-from
overflow_add-from c =
    let read = read_window _ _ _ _ _ c.requires c.contact_at-c.ensures in
    omega (arith, read.hearer_row, read.column, c.well_formed.0.0)

pub lower-requires : goal.lower-requires
lower-requires c =
    let read = read_window _ _ _ _ _ c.requires c.contact_at-c.ensures in
    (omega (arith, read.sender_row, read.column), omega (arith, read.hearer_row, read.column))

pub overflow_sub-c : goal.overflow_sub-c
overflow_sub-c c =
    let read = read_window _ _ _ _ _ c.requires c.contact_at-c.ensures in
    omega (arith, read.from_one)

pub overflow_add-low : goal.overflow_add-low
overflow_add-low c =
    let read = read_window _ _ _ _ _ c.requires c.contact_at-c.ensures in
    omega (arith, read.column, read.few, c.saturating_sub-low.ensures)

pub overflow_add-end : goal.overflow_add-end
overflow_add-end c =
    let read = read_window _ _ _ _ _ c.requires c.contact_at-c.ensures in
    omega (arith, read.column, read.few, c.saturating_sub-end.ensures)

pub overflow_add-row : goal.overflow_add-row
overflow_add-row c =
    let read = read_window _ _ _ _ _ c.requires c.contact_at-c.ensures in
    omega (arith, read.sender_row, read.from_one, read.column, c.saturating_sub-low.ensures, c.well_formed.0.0)

pub lower_run-requires : goal.lower_run-requires
lower_run-requires c =
    let read = read_window _ _ _ _ _ c.requires c.contact_at-c.ensures in
    let same = c.lower.auto.work in (
      omega (arith, read.sender_row, read.from_one, read.column, c.saturating_sub-low.ensures, c.saturating_sub-end.ensures, c.saturating_sub.ensures),
      omega (arith, read.hearer_row, read.column),
    )

pub returns : goal.returns
returns c =
    let read = read_window _ _ _ _ _ c.requires c.contact_at-c.ensures in
    window_by _ _ _ _ _ _ _ _ _ _ _
    c.contact_at-c.ensures
    c.lower.ensures
    (omega (arith, read.from_one, c.saturating_sub-low.ensures))
    (omega (arith, c.saturating_sub-end.ensures))
    c.saturating_sub.ensures
    c.lower_run.ensures
