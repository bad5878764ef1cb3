-- `text::put_decimal` meets its contract. The measure is the number: its tenth and its last digit are less.
-- Assumes nothing.
use Rattle.text.proofs.+put_decimal.Given as goal

abbrev pub decreases-put_decimal : goal.decreases-put_decimal
decreases-put_decimal l = l.x
