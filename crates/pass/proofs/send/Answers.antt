-- `pass::send` meets its contract: with the row, without it, or not at all.
-- Assumes nothing.
use Rattle.std.proofs.Common.{sym, arith}
use Rattle.pass.proofs.PlaceLaws.{sent_row, sent_pruned, sent_skipped, sent_none}
use Rattle.pass.proofs.send.Goals as goal

pub returns-then-h-work : goal.returns-then-h-work
returns-then-h-work c = sent_row _ _ _ _ _ _ _ _ _ _ c.row_at.ensures c.row_at-from.ensures (omega arith) (omega arith) c.absorb.ensures

pub returns-else-not-known : goal.returns-else-not-known
returns-else-not-known c = sym (sent_skipped _ _ _ _ _ _ _ (omega arith) (omega arith) c.if-not-known.false)

pub returns-then-not-known : goal.returns-then-not-known
returns-then-not-known c = sent_pruned _ _ _ _ _ _ _ _ (omega arith) (omega arith) c.if-not-known.true c.merge.ensures

pub returns-else-h-lt65535 : goal.returns-else-h-lt65535
returns-else-h-lt65535 c = sym (sent_none _ _ _ _ _ _ _ (omega arith))
