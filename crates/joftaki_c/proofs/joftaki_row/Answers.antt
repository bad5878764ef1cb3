-- `joftaki_c::joftaki_row` meets its contract: row's number fits 32 bits, and an accepted row lies within the table.
-- Assumes nothing.
use native.Mathlib.Omega.{arith}
use mathlib.Core.Path.{sym, ◌∙◌}
use Rattle.rows.proofs.RowLaws.{row_within, row_end}
use Rattle.joftaki_c.proofs.CodeLaws.{row_small}
use Rattle.joftaki_c.proofs.RowLaws.{row_given_refused, row_given_accepted}
use Rattle.joftaki_c.proofs.joftaki_row.Goals as goal

pub overflow_cast-result : goal.overflow_cast-result
overflow_cast-result c = omega (arith, row_small _ _ _ _ _ c.row_number-number.ensures)

pub returns-then-number-ne0 : goal.returns-then-number-ne0
returns-then-number-ne0 c = row_given_refused _ _ _ _ _ _ c.row.ensures.entries c.row_number-number.ensures c.if-number-ne0.true

pub overflow_add-offset : goal.overflow_add-offset
overflow_add-offset c = let w = row_within _ _ _ _ (sym c.row_number-number.ensures ∙ c.if-number-ne0.false) in omega (arith, w.1)

pub overflow_mul-offset : goal.overflow_mul-offset
overflow_mul-offset c =
    let w = row_within _ _ _ _ (sym c.row_number-number.ensures ∙ c.if-number-ne0.false) in
    omega (arith, row_end _ _ _ _ w.0 w.2, c.well_formed.0.0)

pub returns : goal.returns
returns c = row_given_accepted _ _ _ _ _ _ c.row.ensures.entries c.row_number-number.ensures c.if-number-ne0.false
