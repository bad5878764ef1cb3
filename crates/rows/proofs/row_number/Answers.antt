-- `rows::row_number` meets its contract: the tests on the way decide the first cause.
-- Assumes nothing.
use Rattle.plan.proofs.LimitLaws.{limited_places}
use native.Mathlib.Omega.{arith}
use mathlib.Core.Path.{sym}
use Rattle.std.proofs.lemmas.Bool.Decides.{nat_tests}
use Rattle.temporal.specs.Cause.{outside}
use Rattle.rows.proofs.RowLaws.{row_outside, row_station, row_short, row_accepted}
use Rattle.rows.proofs.row_number.Goals as goal

pub returns-then-n-eq0 : goal.returns-then-n-eq0
unfolding outside
returns-then-n-eq0 c = sym (row_outside _ _ _ _ (grind (arith, nat_tests, c.then-n-eq0.either)))

pub returns-then-n-station : goal.returns-then-n-station
returns-then-n-station c = sym (row_station _ _ _ _ (omega arith) (omega arith) (omega arith) (omega arith) (omega arith))

pub overflow_mul-n : goal.overflow_mul-n
overflow_mul-n c = omega (arith, limited_places c.args.n c.args.t (omega arith) (omega arith))

pub returns-then-table-n : goal.returns-then-table-n
returns-then-table-n c =
    sym (row_short _ _ _ _ (omega arith) (omega arith) (omega arith) (omega arith) (omega arith) (omega arith))

pub returns : goal.returns
returns c =
    sym (row_accepted _ _ _ _ (omega arith) (omega arith) (omega arith) (omega arith) (omega arith) (omega arith))
