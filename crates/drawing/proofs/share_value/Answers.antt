-- `drawing::share_value` meets its contract: a number below 2^53 is a double, and dividing it by 2^32 rounds nothing.
-- Assumes nothing.
use Rattle.std.proofs.Common.{◌^◌, arith, le→leb}
use lib.Ieee.{in_float, of_bits}
use Rattle.drawing.proofs.DoubleLaws.{share_double}
use Rattle.drawing.proofs.share_value.Goals as goal

pub int_to_float-result : goal.int_to_float-result
unfolding in_float
int_to_float-result c = le→leb c.args.x (2 ^ 53) (omega arith)

pub returns : goal.returns
unfolding of_bits
returns c = share_double _ c.requires
