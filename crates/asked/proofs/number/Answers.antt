-- `asked::number` meets its contract. The loop's invariant: what is read from here on is what the word says.
-- Assumes nothing.
use native.Mathlib.Omega.{arith}
use borrow.Author.Rules.{rules}
use Rattle.std.proofs.lemmas.Bool.Decides.{nat_tests}
use Rattle.asked.proofs.NumberLaws.{number_empty, number_start, number_low, number_high, number_more, number_end}
use Rattle.asked.proofs.number.Goals as goal
use Rattle.asked.proofs.number.Goals.{then-c-lt48-via-then-c-lt48, then-c-lt48-via-else-c-lt48+then-c-gt57}

pub returns-then-is_empty : goal.returns-then-is_empty
returns-then-is_empty c = number_empty _ (grind (arith, nat_tests))

pub loop-c-init : goal.loop-c-init
loop-c-init c = (search rules, number_start _ (grind (arith, nat_tests)))

pub returns-then-c-lt48 : goal.returns-then-c-lt48
returns-then-c-lt48 c =
    let l = c.loop-c in
    elim c.then-c-lt48.branch [
      | then-c-lt48-via-then-c-lt48 w ↦ number_low _ _ l.c-index (omega arith) l.invariant.1 (omega arith)
      | then-c-lt48-via-else-c-lt48+then-c-gt57 w ↦ number_high _ _ l.c-index (omega arith) l.invariant.1 (omega arith)
    ]

pub loop-c-preserved : goal.loop-c-preserved
loop-c-preserved c = (
  omega arith,
  number_more _ _ _ (omega arith) c.loop-c.invariant.1 _ (omega arith) (omega arith)
      (omega arith),
)

pub returns : goal.returns
returns c = let l = c.loop-c in number_end _ _ l.c-index (omega arith) l.invariant.0 l.invariant.1
