-- `reach_lasting::fill_lasting` meets its contract. The loop's invariant: the tables are in the state of the pass before slot u is done
-- with, the records below j folded in, those from i on not settled. The measure is the number of records and slots left.
-- Assumes nothing.
use native.Mathlib.Omega.{arith}
use mathlib.Core.Path.{refl, sym, ◌∙◌}
use Rattle.walks.proofs.Accepted.{accepted}
use Rattle.reach_lasting.proofs.TurnLaws.{running_begin, running_foldable, running_fold, running_endable, running_settle, running_record, running_few, running_end}
use Rattle.reach_lasting.proofs.fill_lasting.Goals as goal

pub overflow_add-width : goal.overflow_add-width
overflow_add-width c = omega (arith, (accepted _ _ _ c.requires.0.accepted).slots)

pub overflow_add-end : goal.overflow_add-end
overflow_add-end c = omega (arith, c.min-wait.ensures, (accepted _ _ _ c.requires.0.accepted).slots)

pub begin-requires : goal.begin-requires
begin-requires c =
    (c.requires.0.fits, c.requires.0.source, omega arith)

pub loop-u-init : goal.loop-u-init
loop-u-init c =
    running_begin _ _ _ _ _ _ _ _ _ _ c.requires.0 c.requires.1 refl c.min-wait.ensures refl c.begin.ensures

pub fold_record-requires : goal.fold_record-requires
fold_record-requires c =
    running_foldable _ _ _ _ _ _ _ _ _ _ _ _ _ c.loop-u.invariant c.loop-u-test.true
    (sym c.in_slot.ensures ∙ c.if-in_slot.true)

pub overflow_add-j : goal.overflow_add-j
overflow_add-j c =
    omega (arith, running_few _ _ _ _ _ _ _ _ _ _ _ _ _ c.loop-u.invariant)

pub loop-u-smaller-then-in_slot : goal.loop-u-smaller-then-in_slot
loop-u-smaller-then-in_slot c =
    omega (
      arith,
      c.loop-u-test.true,
      running_record _ _ _ _ _ _ _ _ _ _ _ _ _ c.loop-u.invariant c.loop-u-test.true
          (sym c.in_slot.ensures ∙ c.if-in_slot.true),
    )

pub loop-u-preserved-then-in_slot : goal.loop-u-preserved-then-in_slot
loop-u-preserved-then-in_slot c =
    running_fold _ _ _ _ _ _ _ _ _ _ _ _ _ c.loop-u.invariant c.loop-u-test.true _
    (sym c.in_slot.ensures ∙ c.if-in_slot.true) c.fold_record.ensures

pub end_slot-i-requires : goal.end_slot-i-requires
end_slot-i-requires c =
    running_endable _ _ _ _ _ _ _ _ _ _ _ _ _ c.loop-u.invariant c.loop-u-test.true

pub overflow_add-u : goal.overflow_add-u
overflow_add-u c =
    omega (arith, running_few _ _ _ _ _ _ _ _ _ _ _ _ _ c.loop-u.invariant)

pub loop-u-smaller : goal.loop-u-smaller
loop-u-smaller c =
    omega (arith, c.loop-u-test.true)

pub loop-u-preserved : goal.loop-u-preserved
loop-u-preserved c =
    running_settle _ _ _ _ _ _ _ _ _ _ _ _ _ c.loop-u.invariant c.loop-u-test.true _ _
    (sym c.in_slot.ensures ∙ c.if-in_slot.false) c.end_slot-i.ensures

pub returns : goal.returns
returns c =
    running_end _ _ _ _ _ _ _ _ _ _ _ _ _ _ (omega (arith, c.loop-u-test.false)) c.requires.0 c.begin.ensures c.loop-u.invariant
