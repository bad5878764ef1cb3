-- `pass::empty_parts` meets its contract. The loop's invariant: emptying the parts from the i-th on gives what emptying all gives.
-- Assumes nothing.
use Rattle.pass.proofs.PlaceLaws.{Emptying}
use Rattle.pass.proofs.empty_parts.Given as goal

abbrev pub invariant-loop-i : goal.invariant-loop-i
invariant-loop-i l = Emptying l.n l.size l.k l.initial.work l.i l.work
