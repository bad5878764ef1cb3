-- `rows::row` meets its contract: the number decides between the empty part and the station's entries, which lie within
-- the table.
-- Assumes nothing.
use Prim.Native.Nat.{◌+◌, ◌*◌}
use native.Mathlib.Omega.{arith}
use mathlib.Core.Path.{sym, ap, ◌∙◌}
use lib.ListN.{take, drop}
use Rattle.rows.proofs.RowLaws.{row_refused, row_part, row_within, row_end, between, placed}
use Rattle.rows.proofs.row.Goals as goal

pub returns-then-row_number-ne0 : goal.returns-then-row_number-ne0
returns-then-row_number-ne0 c =
    let given = c.row_number.ensures in
    let taken = c.if-row_number-ne0.true in
    record { entries = sym (row_refused _ _ _ _ (omega arith)); place = λ none. absurd (omega arith) }

pub overflow_add-start : goal.overflow_add-start
overflow_add-start c = let w = row_within _ _ _ _ (sym c.row_number.ensures ∙ c.if-row_number-ne0.false) in omega (arith, w.1)

pub overflow_mul-start : goal.overflow_mul-start
overflow_mul-start c =
    let w = row_within _ _ _ _ (sym c.row_number.ensures ∙ c.if-row_number-ne0.false) in
    omega (arith, row_end _ _ _ _ w.0 w.2, c.well_formed.0.0)

pub overflow_add-end : goal.overflow_add-end
overflow_add-end c = let w = row_within _ _ _ _ (sym c.row_number.ensures ∙ c.if-row_number-ne0.false) in omega (arith, w.1)

pub overflow_add-end-2 : goal.overflow_add-end-2
overflow_add-end-2 c =
    let w = row_within _ _ _ _ (sym c.row_number.ensures ∙ c.if-row_number-ne0.false) in
    omega (arith, row_end _ _ _ _ w.0 w.2, c.well_formed.0.0)

pub returns : goal.returns
returns c =
    let width = c.args.t + 1 in
    let start = c.args.station * width in
    record {
      entries = sym (row_part _ _ _ _ (sym c.row_number.ensures ∙ c.if-row_number-ne0.false) ∙
          ap (λ k. take k (drop start c.args.table.now)) (between start width));
      place = λ none. placed _ _ _;
    }

pub offset_bounds-table-start : goal.offset_bounds-table-start
offset_bounds-table-start c =
    let w = row_within _ _ _ _ (sym c.row_number.ensures ∙ c.if-row_number-ne0.false) in
    record { fits = omega (arith, row_end _ _ _ _ w.0 w.2, c.well_formed.0.1) }

pub slice_bounds-result-end-2 : goal.slice_bounds-result-end-2
slice_bounds-result-end-2 c =
    let w = row_within _ _ _ _ (sym c.row_number.ensures ∙ c.if-row_number-ne0.false) in
    omega (arith, row_end _ _ _ _ w.0 w.2)
