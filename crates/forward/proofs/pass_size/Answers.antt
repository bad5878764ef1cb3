-- `forward::pass_size` meets its contract.
-- Assumes nothing.
use native.Mathlib.Omega.{arith}
use Rattle.forward.proofs.SizeLaws.{kept_number, kept_size_is, window_number, window_size_is}
use Rattle.forward.proofs.pass_size.Goals as goal

pub kept_size-requires : goal.kept_size-requires
kept_size-requires c = kept_number _ _ _ _ _ _ _ c.requires.0 (omega arith) c.requires.1.1 c.min.ensures

pub returns-then-t-h : goal.returns-then-t-h
returns-then-t-h c = kept_size_is _ _ _ _ _ _ _ _ (omega arith) c.min.ensures c.kept_size.ensures

pub window_size-requires : goal.window_size-requires
window_size-requires c = (c.requires.1.0, window_number _ _ _ _ _ _ (omega arith) c.requires.1.1)

pub returns-else-t-h : goal.returns-else-t-h
returns-else-t-h c = window_size_is _ _ _ _ _ _ _ (omega arith) c.window_size.ensures
