-- `plan::check` meets its contract: the tests on the way decide the causes 1 and 2, then each record its own.
-- Assumes nothing.
use native.Mathlib.Omega.{arith}
use mathlib.Core.Path.{sym, ◌∙◌}
use Rattle.temporal.specs.Bytes.{records}
use Rattle.plan.proofs.Answers.{refused-decides, accepted-passes, err_is}
use Rattle.walks.proofs.CheckLaws.{plan_no_station, plan_many_stations, plan_no_slot, plan_many_slots, plan_part_record, plan_many_records, plan_records, records_end}
use Rattle.plan.proofs.check.Goals as goal
use Rattle.plan.proofs.check.Goals.{then-n-eq0-via-then-n-eq0, then-n-eq0-via-else-n-eq0+then-n-gt-MOST_STATIONS, then-n-eq0-via-else-n-eq0+else-n-gt-MOST_STATIONS+then-t-eq0, then-n-eq0-via-else-n-eq0+else-n-gt-MOST_STATIONS+else-t-eq0+then-t-gt-MOST_SLOTS, then-plan-ne0-via-then-plan-ne0, then-plan-ne0-via-else-plan-ne0+then-plan-gt-MOST_RECORDS}

pub returns-then-n-eq0 : goal.returns-then-n-eq0
returns-then-n-eq0 c =
    elim c.then-n-eq0.branch [
      | then-n-eq0-via-then-n-eq0 w ↦ sym (plan_no_station _ _ _ (omega arith))
      | then-n-eq0-via-else-n-eq0+then-n-gt-MOST_STATIONS w ↦ sym (plan_many_stations _ _ _ (omega arith))
      | then-n-eq0-via-else-n-eq0+else-n-gt-MOST_STATIONS+then-t-eq0 w ↦ sym (plan_no_slot _ _ _ (omega arith) (omega arith) (omega arith))
      | then-n-eq0-via-else-n-eq0+else-n-gt-MOST_STATIONS+else-t-eq0+then-t-gt-MOST_SLOTS w ↦ sym (plan_many_slots _ _ _ (omega arith) (omega arith) (omega arith))
    ]

pub returns-then-plan-ne0 : goal.returns-then-plan-ne0
returns-then-plan-ne0 c =
    elim c.then-plan-ne0.branch [
      | then-plan-ne0-via-then-plan-ne0 w ↦
          sym (plan_part_record _ _ _ (omega arith) (omega arith) (omega arith) (omega arith) (omega arith))
      | then-plan-ne0-via-else-plan-ne0+then-plan-gt-MOST_RECORDS w ↦
          sym (plan_many_records _ _ _ (omega arith) (omega arith) (omega arith) (omega arith) (omega arith) (omega arith))
    ]

pub loop-i-init : goal.loop-i-init
unfolding records
loop-i-init c =
    record {
      whole = omega arith;
      count = omega arith;
      rest = plan_records _ _ _ (omega arith) (omega arith) (omega arith) (omega arith) (omega arith) (omega arith);
    }

pub returns-in_err-check_record : goal.returns-in_err-check_record
returns-in_err-check_record c =
    let inv = c.loop-i.invariant in
    rw (err_is _ _ c.from_residual.ensures.1)
    (refused-decides _ _ _ _ (omega arith) inv.rest _ c.check_record.ensures _ c.in_err-check_record.was)

pub loop-i-preserved : goal.loop-i-preserved
loop-i-preserved c =
    let inv = c.loop-i.invariant in
    record {
      whole = inv.whole;
      count = inv.count;
      rest = accepted-passes _ _ _ _ (omega arith) inv.rest _ c.check_record.ensures c.in_ok-check_record.was;
    }

pub returns : goal.returns
returns c = let inv = c.loop-i.invariant in sym (inv.rest ∙ records_end _ _ _ _ (omega arith))
