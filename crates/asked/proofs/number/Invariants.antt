-- `asked::number` meets its contract. The loop's invariant: what is read from here on is what the word says. Assumes nothing.
use Prim.Native.Nat.{◌≤◌}
use mathlib.Core.Path.{◌≡◌}
use lib.ListN.{drop}
use Rattle.asked.specs.Asked.{largest, number_of}
use Rattle.asked.proofs.NumberLaws.{word_on}
use Rattle.asked.proofs.number.Given as goal

abbrev pub invariant-loop-c : goal.invariant-loop-c
invariant-loop-c l = (l.x ≤ largest) × (word_on l.x (drop l.c-index l.word) ≡ number_of l.word)
