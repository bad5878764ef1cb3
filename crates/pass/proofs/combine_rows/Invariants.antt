-- `pass::combine_rows` meets its contract. The loop's invariant: writing the entries from j on gives what writing all gives.
-- Assumes nothing.
use Rattle.std.proofs.Common.{ℕ}
use Rattle.pass.specs.Row.{Computes}
use Rattle.pass.proofs.RowLaws.{Combining}
use Rattle.pass.proofs.combine_rows.Given as goal

abbrev pub invariant-loop-j : goal.invariant-loop-j
invariant-loop-j g l = (h : ℕ → ℕ → ℕ) → Computes (goal.F-post g l.f) h → Combining h l.to l.from l.size l.initial.work l.j l.work
