-- `account::put_walks` meets its contract. The loop's invariant: the lines of the walks from i on are left, and the way buffer begins with
-- the walk before.
-- Assumes nothing.
use mathlib.Core.List.{[]}
use lib.ListN.{get_or}
use Rattle.text.specs.Pieces.{pieces}
use Rattle.text.proofs.GoingLaws.{Going}
use Rattle.ways.specs.Found.{list_in}
use Rattle.account.specs.Account.{walk_line}
use Rattle.account.specs.Work.{lowered_at, walk_lines}
use Rattle.account.proofs.ListedLaws.{Listed}
use Rattle.account.proofs.put_walks.Given as goal

abbrev pub invariant-loop-i : goal.invariant-loop-i
invariant-loop-i l =
    Going l.at (walk_lines l.layered l.n (list_in l.layered l.q) l.most) l.initial.out l.end
    (pieces (λ k. walk_line (lowered_at l.layered l.n) (get_or (list_in l.layered l.q) k [])) l.i l.most) l.out ×
    Listed l.layered l.q l.i l.initial.way l.way
