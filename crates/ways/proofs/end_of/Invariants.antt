-- `ways::end_of` meets its contract. The loop's invariant: the first i entries lead to x.
-- Assumes nothing.
use Rattle.ways.specs.Found.{terms_in}
use Rattle.ways.proofs.CodeLaws.{Walking}
use Rattle.ways.proofs.end_of.Given as goal

abbrev pub invariant-loop-i : goal.invariant-loop-i
invariant-loop-i l = Walking l.plan (terms_in l.q) l.way l.initial.x l.k l.i-index l.x
