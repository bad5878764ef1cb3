-- `report::report` meets its contract: 2, then 1, and else the plan's own answer.
-- Assumes nothing.
use native.Mathlib.Omega.{arith}
use mathlib.Core.Path.{sym, ap₂, ◌∙◌}
use Rattle.report.specs.Sizes.{over_limits}
use Rattle.report.proofs.ReportLaws.{refusal_room, report_text, printed_input, lent_input, wrong_length_law, wrong_limits, limit_stations}
use borrow.Author.Rules.{rules}
use Rattle.report.proofs.report.Goals as goal

pub put_refusal-requires : goal.put_refusal-requires
put_refusal-requires c = refusal_room 2 _ (search rules)

pub returns-then-wrong_input : goal.returns-then-wrong_input
returns-then-wrong_input c =
    let e = wrong_length_law _ (sym c.wrong_input.ensures ∙ c.if-wrong_input.true) in
    report_text _ _ _ _ _ _ _ _ c.put_refusal.ensures (printed_input _ _ 1 e) (lent_input _ _ 1 e _)

pub put_refusal-requires-then-over_limits : goal.put_refusal-requires-then-over_limits
put_refusal-requires-then-over_limits c = refusal_room 1 _ (search rules)

pub returns-then-over_limits : goal.returns-then-over_limits
returns-then-over_limits c =
    let top = c.top_of-top.ensures in
    let slots = c.slots_of-t.ensures in
    let over = sym c.over_limits.ensures ∙ c.if-over_limits.true in
    let e =
    wrong_limits _ (sym c.wrong_input.ensures ∙ c.if-wrong_input.false)
    (ap₂ over_limits (sym top) (sym slots) ∙ over) in
    report_text _ _ _ _ _ _ _ _ c.put_refusal-then-over_limits.ensures (printed_input _ _ 0 e) (lent_input _ _ 0 e _)

pub overflow_add-top : goal.overflow_add-top
overflow_add-top c =
    omega (arith, limit_stations _ _ (sym c.over_limits.ensures ∙ c.if-over_limits.false))

pub report_within-requires : goal.report_within-requires
report_within-requires c =
    record {
      right_input = sym c.wrong_input.ensures ∙ c.if-wrong_input.false;
      stations = c.top_of-top.ensures;
      slots = c.slots_of-t.ensures;
      limits = sym c.over_limits.ensures ∙ c.if-over_limits.false;
      out_size = search rules;
      pairs_size = search rules;
      loads_size = search rules;
      work_size_law = search rules;
    }
