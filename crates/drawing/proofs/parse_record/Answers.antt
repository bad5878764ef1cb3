-- `drawing::parse_record` meets its contract: 18 bytes are the record of what is read in them. Bits from the infinity's on are of no
-- share; a double keeps those below.
-- Assumes nothing.
use Rattle.std.proofs.Common.{ap, arith}
use lib.Ieee.{binary64, of_bits}
use Rattle.drawing.specs.Reading.{ParsedAs}
use Rattle.drawing.proofs.DoubleLaws.{number_pattern}
use Rattle.drawing.proofs.ReadLaws.{foreign_low, foreign_high, parsed_record}
use Rattle.drawing.proofs.parse_record.Goals as goal
use Rattle.drawing.proofs.parse_record.Goals.{then-low-ge-INFINITY-via-then-low-ge-INFINITY, then-low-ge-INFINITY-via-else-low-ge-INFINITY+then-high-ge-INFINITY}

pub float_from_bits-result : goal.float_from_bits-result
float_from_bits-result c = number_pattern _ (omega arith)

pub float_from_bits-result-2 : goal.float_from_bits-result-2
float_from_bits-result-2 c = number_pattern _ (omega arith)

pub returns-then-low-ge-INFINITY : goal.returns-then-low-ge-INFINITY
unfolding ParsedAs
returns-then-low-ge-INFINITY c =
    let is_low = c.read_double-low.ensures in
    let is_high = c.read_double-high.ensures in
    elim c.then-low-ge-INFINITY.branch [
      | then-low-ge-INFINITY-via-then-low-ge-INFINITY w ↦
          foreign_low c.args.bytes.now (λ i. omega (arith, c.type_inv.bytes i)) (omega arith) (omega arith)
      | then-low-ge-INFINITY-via-else-low-ge-INFINITY+then-high-ge-INFINITY w ↦
          foreign_high c.args.bytes.now (λ i. omega (arith, c.type_inv.bytes i)) (omega arith) (omega arith)
    ]

pub returns : goal.returns
returns c =
    parsed_record c.args.bytes.now (λ i. omega (arith, c.type_inv.bytes i))
    (omega arith) _ (omega arith) (ap (of_bits binary64) c.read_double-low.ensures) (ap (of_bits binary64) c.read_double-high.ensures) (omega arith) (omega arith)
