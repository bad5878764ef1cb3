-- `ways::advance` meets its contract. The measure is the leg number.
-- Assumes nothing.
use Rattle.ways.proofs.+advance.Given as goal

abbrev pub decreases-advance : goal.decreases-advance
decreases-advance l = l.leg
