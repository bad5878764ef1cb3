-- `forward::refilled` meets its contract: what is known of some stays, else the pass without rows is asked.
-- Assumes nothing.
use Rattle.forward.proofs.WidthLaws.{refill_asked, refill_more}
use Rattle.forward.proofs.refilled.Goals as goal

pub sources_at_once-left-requires : goal.sources_at_once-left-requires
sources_at_once-left-requires c = refill_asked _ _ _ _ _ _ _ _ _ c.requires

pub returns : goal.returns
returns c =
    refill_more _ _ _ _ _ _ _ _ _ c.requires _ c.sources_at_once-left.ensures _ _ c.widths-word.ensures
