-- `band::take` meets its contract: a refusal of the plan is passed on, the length decides 8, the search 15 or 16, and else every entry is
-- written.
-- Assumes nothing.
use native.Mathlib.Omega.{arith}
use mathlib.Core.Path.{sym, ◌∙◌, ap}
use Rattle.plan.specs.Fault.{check_number}
use Rattle.band.proofs.TakingLaws.{taken_plan, taken_short, taken_lent, taken_refused, taken_free}
use Rattle.band.proofs.take.Goals as goal

pub returns : goal.returns
returns c =
    taken_plan _ _ _ _ _ _ _ c.check.ensures c.in-Err.is

pub returns-then-table-lt-BAND_SLOTS : goal.returns-then-table-lt-BAND_SLOTS
returns-then-table-lt-BAND_SLOTS c = taken_short _ _ _ _ _ (sym c.check.ensures ∙ ap check_number c.in_default.is) (omega arith)

pub refused_somewhere-requires : goal.refused_somewhere-requires
refused_somewhere-requires c = taken_lent _ _ _ _ (sym c.check.ensures ∙ ap check_number c.in_default.is) (omega arith)

pub returns-then-refused_somewhere : goal.returns-then-refused_somewhere
returns-then-refused_somewhere c =
    taken_refused _ _ _ _ _ (sym c.check.ensures ∙ ap check_number c.in_default.is) (omega arith) _
    c.refused_somewhere.ensures c.if-refused_somewhere.true c.refusal.result c.refusal.ensures

pub change_all-requires : goal.change_all-requires
change_all-requires c = (
  taken_lent _ _ _ _ (sym c.check.ensures ∙ ap check_number c.in_default.is) (omega arith),
  sym c.refused_somewhere.ensures ∙ c.if-refused_somewhere.false,
)

pub returns-in_default : goal.returns-in_default
returns-in_default c =
    taken_free _ _ _ _ _ (sym c.check.ensures ∙ ap check_number c.in_default.is) (omega arith) _
    c.refused_somewhere.ensures c.if-refused_somewhere.false _ c.change_all.ensures
