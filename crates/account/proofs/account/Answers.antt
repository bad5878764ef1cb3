-- `account::account` meets its contract: 2, then 1, and else the answer for an input within the limits.
-- Assumes nothing.
use native.Mathlib.Omega.{arith}
use mathlib.Core.Path.{sym, ap₂, ◌∙◌}
use Rattle.report.specs.Sizes.{over_limits}
use Rattle.report.proofs.ReportLaws.{refusal_room, wrong_length_law, wrong_limits, limit_stations}
use Rattle.account.proofs.AccountedLaws.{account_text_law, account_walks, account_input}
use borrow.Author.Rules.{rules}
use Rattle.account.proofs.account.Goals as goal

pub put_refusal-requires : goal.put_refusal-requires
put_refusal-requires c = refusal_room 2 _ (search rules)

pub returns-then-wrong_input : goal.returns-then-wrong_input
returns-then-wrong_input c =
    let e = wrong_length_law _ (sym c.wrong_input.ensures ∙ c.if-wrong_input.true) in
    account_text_law _ _ _ _ _ _ _ _ c.put_refusal.ensures (account_input _ _ _ _ 1 e)

pub put_refusal-requires-then-over_limits : goal.put_refusal-requires-then-over_limits
put_refusal-requires-then-over_limits c = refusal_room 1 _ (search rules)

pub returns-then-over_limits : goal.returns-then-over_limits
returns-then-over_limits c =
    let over = sym c.over_limits.ensures ∙ c.if-over_limits.true in
    let whole = sym c.wrong_input.ensures ∙ c.if-wrong_input.false in
    account_text_law _ _ _ _ _ _ _ _ c.put_refusal-then-over_limits.ensures
    (account_input _ _ _ _ 0
    (wrong_limits _ whole (ap₂ over_limits (sym c.top_of-top.ensures) (sym c.slots_of-t.ensures) ∙ over)))

pub overflow_add-top : goal.overflow_add-top
overflow_add-top c =
    omega (arith, limit_stations _ _ (sym c.over_limits.ensures ∙ c.if-over_limits.false))

pub returns : goal.returns
returns c =
    account_walks _ _ _ _ _ _ _ _ c.min-k.ensures c.account_within.ensures
