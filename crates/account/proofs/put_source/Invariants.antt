-- `account::put_source` meets its contract. The loop's invariant: the texts of the pairs from destination z on are left.
-- Assumes nothing.
use Rattle.text.specs.Pieces.{pieces}
use Rattle.text.proofs.GoingLaws.{Going}
use Rattle.account.specs.Work.{between_text, source_text}
use Rattle.account.proofs.SourceLaws.{Lengths}
use Rattle.account.proofs.put_source.Given as goal

abbrev pub invariant-loop-z : goal.invariant-loop-z
invariant-loop-z l =
    Going l.at (source_text l.input l.n l.t l.g l.v l.k l.s) l.initial.out l.end (pieces (between_text l.input l.n l.t l.g l.v l.k l.s) l.z l.n) l.out ×
    Lengths l.initial.through l.initial.way l.initial.work l.through l.way l.work
