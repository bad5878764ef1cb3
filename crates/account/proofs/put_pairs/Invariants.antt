-- `account::put_pairs` meets its contract. The loop's invariant: the texts of the pairs from source s on are left.
-- Assumes nothing.
use Rattle.text.specs.Pieces.{pieces}
use Rattle.text.proofs.GoingLaws.{Going}
use Rattle.account.specs.Work.{source_text}
use Rattle.account.proofs.SourceLaws.{Lengths}
use Rattle.account.proofs.put_pairs.Given as goal

abbrev pub invariant-loop-s : goal.invariant-loop-s
invariant-loop-s l =
    Going l.at (pieces (source_text l.input l.n l.t l.g l.v l.k) 0 l.n) l.initial.out l.end (pieces (source_text l.input l.n l.t l.g l.v l.k) l.s l.n) l.out ×
    Lengths l.initial.through l.initial.way l.initial.work l.through l.way l.work
