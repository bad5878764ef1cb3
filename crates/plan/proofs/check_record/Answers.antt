-- `plan::check_record` meets its contract: at each return the tests on the way decide the record's first cause.
-- Assumes nothing.
use native.Mathlib.Omega.{arith}
use mathlib.Core.Path.{sym, ◌∙◌}
use borrow.Author.Tests.{eq-eqb}
use Rattle.std.proofs.lemmas.Bool.{true≢false}
use Rattle.walks.proofs.CheckLaws.{record_slot_zero, record_slot_high, record_ends_same, record_sender_high, record_hearer_high, record_first, record_above, record_not_above}
use Rattle.plan.proofs.check_record.Goals as goal
use Rattle.plan.proofs.check_record.Goals.{
  then-c-eq0-via-then-c-eq0,
  then-c-eq0-via-else-c-eq0+then-t-c,
  then-c-via-then-c,
  then-c-via-else-c+then-n-c,
  then-c-via-else-c+else-n-c+then-n-c-2,
  then-i-eq0,
  else-i-eq0,
}

pub returns-then-c-eq0 : goal.returns-then-c-eq0
returns-then-c-eq0 c =
    let at = c.contact_at-c.ensures in
    elim c.then-c-eq0.branch [
      | then-c-eq0-via-then-c-eq0 w ↦ sym (record_slot_zero _ _ _ _ _ at (omega arith))
      | then-c-eq0-via-else-c-eq0+then-t-c w ↦ sym (record_slot_high _ _ _ _ _ at (omega arith))
    ]

pub returns-then-c : goal.returns-then-c
returns-then-c c =
    let at = c.contact_at-c.ensures in
    elim c.then-c.branch [
      | then-c-via-then-c w ↦ sym (record_ends_same _ _ _ _ _ at (omega arith) (omega arith) (omega arith))
      | then-c-via-else-c+then-n-c w ↦ sym (record_sender_high _ _ _ _ _ at (omega arith) (omega arith) (omega arith) (omega arith))
      | then-c-via-else-c+else-n-c+then-n-c-2 w ↦
          sym (record_hearer_high _ _ _ _ _ at (omega arith) (omega arith) (omega arith) (omega arith) (omega arith))
    ]

pub returns-then-is_above : goal.returns-then-is_above
returns-then-is_above c =
    let at = c.contact_at-c.ensures in
    elim c.if-i-eq0.branch [
      | then-i-eq0 w ↦ sym (record_first _ _ _ _ _ at (omega arith) (omega arith) (omega arith) (omega arith) (omega arith) (omega arith))
      | else-i-eq0 w ↦
          sym
          (record_above _ _ _ _ _ at (omega arith) (omega arith) (omega arith) (omega arith) (omega arith) _ w.contact_at.ensures
          (sym w.is_above.ensures ∙ sym w.value-is ∙ c.if-is_above.true))
    ]

pub returns-else-is_above : goal.returns-else-is_above
returns-else-is_above c =
    let at = c.contact_at-c.ensures in
    elim c.if-i-eq0.branch [
      | then-i-eq0 w ↦ absurd (true≢false (sym (eq-eqb _ _ w.if-i-eq0.true) ∙ sym w.value-is ∙ c.if-is_above.false))
      | else-i-eq0 w ↦
          sym
          (record_not_above _ _ _ _ _ at (omega arith) (omega arith) (omega arith) (omega arith) (omega arith) _ w.contact_at.ensures (omega arith)
          (sym w.is_above.ensures ∙ sym w.value-is ∙ c.if-is_above.false))
    ]
