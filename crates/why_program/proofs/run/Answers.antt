-- `why_program::run` is safe and ends: the text lies within the output buffer.
-- Assumes nothing.
use Rattle.std.proofs.Common.{sym}
use lib.Seq.{length-take-le}
use Rattle.why_program.proofs.run.Goals as goal

pub slice_bounds-out-end : goal.slice_bounds-out-end
slice_bounds-out-end g c = c.requires.within _ _ _ _ _ _ c.text_of-size.ensures

pub slice_bounds-write_text-end-2 : goal.slice_bounds-write_text-end-2
slice_bounds-write_text-end-2 g c = sym (length-take-le _ _ (c.requires.within _ _ _ _ _ _ c.text_of-size.ensures))
