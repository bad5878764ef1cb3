-- The part of the caller's table that row gives: what it holds, and where it stands. Definitions only.
-- Assumes nothing.
use Rattle.std.specs.Prelude.{ℕ, ◌+◌, ◌*◌, ◌≡◌, List}
use Rattle.std.specs.Borrow.{Bor}
use Rattle.temporal.specs.Outcome.{row_number, row}

-- where a place of a table of 64-bit entries stands in memory: in the table's block, 8 bytes an entry behind its beginning
abbrev pub place_in : Bor (List ℕ) → ℕ → ℕ × ℕ
place_in table i = (table.ref_ptr.0, table.ref_ptr.1 + i * 8)

-- Document 01's "the part of their own table": the entries are row's, and an accepted row stands at place v (T + 1) of the
-- caller's table. A refused row is the empty part, wherever it stands.
pub record RowPart (n t v : ℕ) (table part : Bor (List ℕ)) : Type 0 where
  pub entries : part.now ≡ row n t v table.now
  pub place : row_number n t v table.now ≡ 0 → part.ref_ptr ≡ place_in table (v * (t + 1))
