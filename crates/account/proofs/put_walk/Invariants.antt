-- `account::put_walk` meets its contract. The loop's invariant: the legs from k on are left.
-- Assumes nothing.
use Rattle.text.specs.Pieces.{pieces}
use Rattle.text.proofs.GoingLaws.{Going}
use Rattle.account.specs.Work.{leg_at}
use Rattle.account.proofs.put_walk.Given as goal

abbrev pub invariant-loop-k : goal.invariant-loop-k
invariant-loop-k l =
    Going l.initial.end (pieces (leg_at l.layered l.n l.hops l.way) 0 l.hops) l.initial.out l.end (pieces (leg_at l.layered l.n l.hops l.way) l.k l.hops) l.out
