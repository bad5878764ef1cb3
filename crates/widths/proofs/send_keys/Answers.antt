-- `widths::send_keys` meets its contract.
-- Assumes nothing.
use Rattle.std.proofs.Common.{rules}
use Rattle.widths.specs.Key.{sent_key}
use Rattle.widths.proofs.send_keys.Goals as goal

pub returns : goal.returns
unfolding sent_key
returns c = c.combine_rows.ensures sent_key (λ a b r e. search rules)
