-- What the work of first way and next way asks, once 1 to 5, 12, 14 and 6 to 8 are excluded, and what it leaves. Definitions only.
-- Assumes nothing.
use Rattle.std.specs.Prelude.{ℕ, ◌≤◌, ◌≡◌, List, length, drop}
use Rattle.temporal.specs.Plan.{Allowed}
use Rattle.temporal.specs.Outcome.{work_size}
use Rattle.temporal.specs.Cursor.{Reply, Operation, Moved, index_in, move}
use Rattle.temporal.specs.FirstNext.{Question, list_of, overflow, WayOutcome}
use Rattle.temporal.specs.Trace.{Asked}

-- an accepted plan, two different stations of it, allowed terms, and buffers that are long enough
pub record WayReady (q : Question) (way work : List ℕ) : Type 0 where
  pub asked : Asked q
  pub units : Allowed q.terms
  pub room : q.slots ≤ length way
  pub area : work_size q.stations q.slots ≤ length work

-- the cursor's move at a call that 1 to 5, 12, 14 and 6 to 8 do not refuse
abbrev pub moved : Operation → Question → List ℕ → Moved
moved o q way = move o (overflow q) (list_of q) (index_in (list_of q) way) way

-- The answer and the way buffer are the cursor's move; past the operation's part of it the work area is as it was.
pub record Worked (o : Operation) (q : Question) (way work : List ℕ) (r : Reply) (wayAfter work_after : List ℕ) : Type 0 where
  pub reply : r ≡ (moved o q way).reply
  pub buffer : wayAfter ≡ (moved o q way).buffer
  pub beyond : drop (work_size q.stations q.slots) work_after ≡ drop (work_size q.stations q.slots) work
  pub same : length work_after ≡ length work

-- the answer with both buffers at exit
abbrev pub way_outcome : Reply → List ℕ → List ℕ → WayOutcome
way_outcome r way work = record { reply = r; way = way; work = work }
