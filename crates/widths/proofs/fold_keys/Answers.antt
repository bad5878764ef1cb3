-- `widths::fold_keys` meets its contract: a row sent from the record's sender to its hearer.
-- Assumes nothing.
use Rattle.widths.proofs.CodeLaws.{folded_keys_by}
use Rattle.widths.proofs.fold_keys.Goals as goal

pub returns : goal.returns
returns c = folded_keys_by _ _ _ _ _ _ _ c.kept_contact-c.ensures c.send_keys.ensures
